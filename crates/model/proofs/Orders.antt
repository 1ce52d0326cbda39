-- Two lists that hold no origin twice: the order of places is the theory's order of names.
use Prim.Native.Nat.{ℕ, zero, suc, ◌<◌}
use native.Mathlib.Nat.{le_of_suc-le-suc, not-suc-le-zero}
use mathlib.Core.Path.{◌≡◌, refl, sym, ap, ap₂, ◌∙◌, subst}
use mathlib.Core.Bool.{Bool, true, false, ◌&&◌, ◌||◌, true≢false}
use mathlib.Core.List.{List, [], ◌∷◌}
use lib.Dec.{ltb, leb-zero, leb-suc-zero, leb-suc-suc}
use lib.ListN.{length, get_or, get_or-map}
use Rattle.list.specs.Places.{Place}
use Rattle.jupiter.specs.Name.{Name, same, holds}
use Rattle.jupiter.specs.Origins.{Once}
use Rattle.jupiter.specs.Orders.{before}
use Rattle.jupiter.specs.Orders as theory
use Rattle.jupiter.proofs.Replay.{same_refl}
use Rattle.jupiter.proofs.Names.{apart}
use Rattle.model.specs.Edits.{name_of}
use Rattle.model.specs.Order.{no_place, SameStep, SameOrder}
use Rattle.model.proofs.Places.{names_of, names_length, no_name, held}

none_behind : (s t u : Bool) → s || t ≡ false → (u && t ≡ false) × (t ≡ false)
none_behind true t u h = absurd (true≢false h)
none_behind false t true h = (h, h)
none_behind false t false h = (refl, h)

-- nothing stands before a name that is not on the list
before_absent : (a b : Name) (ns : List Name) → holds ns b ≡ false → before a b ns ≡ false
unfolding before holds
before_absent a b [] h = refl
before_absent a b (x ∷ ns) h =
    let n = none_behind (same b x) (holds ns b) (same a x) h in
    ap₂ ◌||◌ n.0 (before_absent a b ns n.1)

-- the names at places i and j stand in the order of i and j
before_at : (ns : List Name) (i j : ℕ) → Once ns → i < length ns → j < length ns → before (get_or ns i no_name) (get_or ns j no_name) ns ≡ ltb i j
unfolding before
before_at [] i j u hi hj = absurd (not-suc-le-zero hi)
before_at (x ∷ ns) zero zero u hi hj =
    ap₂ (λ s t. (same x x && s) || t) u.0 (before_absent x x ns u.0) ∙ ap (λ s. (s && false) || false) (same_refl x) ∙ sym (leb-suc-zero 0)
before_at (x ∷ ns) zero (suc j) u hi hj =
    ap₂ (λ s t. (s && t) || before x (get_or ns j no_name) ns) (same_refl x) (held ns j (le_of_suc-le-suc hj)) ∙ sym (leb-suc-suc 0 j ∙ leb-zero j)
before_at (x ∷ ns) (suc i) zero u hi hj =
    let a = get_or ns i no_name in
    ap₂ (λ s t. (s && holds ns x) || t) (apart ns a x (held ns i (le_of_suc-le-suc hi)) u.0) (before_absent a x ns u.0) ∙ sym (leb-suc-zero (suc i))
before_at (x ∷ ns) (suc i) (suc j) u hi hj =
    let a = get_or ns i no_name in
    ap (λ s. (s && holds ns (get_or ns j no_name)) || before a (get_or ns j no_name) ns) (apart ns a x (held ns i (le_of_suc-le-suc hi)) u.0)
    ∙ before_at ns i j u.1 (le_of_suc-le-suc hi) (le_of_suc-le-suc hj) ∙ sym (leb-suc-suc (suc i) j)

module _ (xs ys : List Place) where
  -- the name that both lists have there
  same_name : (i k : ℕ) → SameStep xs ys i k → get_or (names_of xs) i no_name ≡ get_or (names_of ys) k no_name
  same_name i k s = get_or-map (λ p. name_of p.origin) xs i no_place ∙ ap name_of s.origin ∙ sym (get_or-map (λ p. name_of p.origin) ys k no_place)

  pub places_order : Once (names_of xs) → Once (names_of ys) → theory.SameOrder (names_of xs) (names_of ys) → SameOrder xs ys
  places_order ux uy same_order i j k m s t =
      let a = get_or (names_of xs) i no_name in
      let b = get_or (names_of xs) j no_name in
      let i_on : i < length (names_of xs) = subst (λ n. i < n) (sym (names_length xs)) s.here in
      let j_on : j < length (names_of xs) = subst (λ n. j < n) (sym (names_length xs)) t.here in
      let k_on : k < length (names_of ys) = subst (λ n. k < n) (sym (names_length ys)) s.there in
      let m_on : m < length (names_of ys) = subst (λ n. m < n) (sym (names_length ys)) t.there in
      sym (before_at (names_of xs) i j ux i_on j_on)
      ∙ same_order a b (held (names_of xs) i i_on) (held (names_of xs) j j_on) (ap (holds (names_of ys)) (same_name i k s) ∙ held (names_of ys) k k_on)
      (ap (holds (names_of ys)) (same_name j m t) ∙ held (names_of ys) m m_on)
      ∙ ap₂ (λ a b. before a b (names_of ys)) (same_name i k s) (same_name j m t) ∙ before_at (names_of ys) k m uy k_on m_on

-- Names, and what an end shows that applies edits in its own order.
use Prim.Native.Nat.{ℕ, zero, suc, ◌<◌}
use native.Mathlib.Omega.{arith}
use mathlib.Core.Path.{◌≡◌, refl, sym, ap, ◌∙◌, subst}
use mathlib.Core.Logic.{◌⊎◌, inl, inr}
use mathlib.Core.Bool.{Bool, true, false, true≢false, ◌&&◌, ◌||◌}
use mathlib.Core.List.{List, [], ◌∷◌, ◌++◌, append_assoc, append-nil}
use lib.Dec.{eqb, ltb}
use lib.ListN.{length, get_or}
use native.Mathlib.Nat.{le_of_suc-le-suc, not-suc-le-zero}
use Rattle.jupiter.specs.Point.{blank}
use Rattle.jupiter.proofs.Lists as L
use Rattle.jupiter.specs.Algebra.{Algebra}
use Rattle.jupiter.specs.Made.{Name, Made, same, holds, names}
use Rattle.jupiter.specs.Form.{form, in_order, replay}
pub use Rattle.jupiter.proofs.Grid.{is_false}
use Rattle.jupiter.proofs.Grid.{eqb_eq, eqb_same, ltb_true, ltb_false, ltb_lt, below_suc}

pub or_false : (b : Bool) → b || false ≡ b
or_false true = refl
or_false false = refl

pub or_true : (b : Bool) → b || true ≡ true
or_true true = refl
or_true false = refl

pub or_assoc : (a b c : Bool) → (a || b) || c ≡ a || (b || c)
or_assoc true b c = refl
or_assoc false b c = refl

pub and_left : (a b : Bool) → a && b ≡ true → a ≡ true
and_left true b e = refl
and_left false b e = absurd (true≢false (sym e))

pub and_right : (a b : Bool) → a && b ≡ true → b ≡ true
and_right true b e = e
and_right false b e = absurd (true≢false (sym e))

pub same_refl : (x : Name) → same x x ≡ true
same_refl x = rw (eqb_same x.line, eqb_same x.number) refl

pub same_eq : (x y : Name) → same x y ≡ true → x ≡ y
same_eq x y e =
    let a = eqb_eq x.line y.line (and_left (eqb x.line y.line) (eqb x.number y.number) e) in
    let b = eqb_eq x.number y.number (and_right (eqb x.line y.line) (eqb x.number y.number) e) in
    λ i. record { line = a i; number = b i }

pub same_differ : (x y : Name) → (x ≡ y → ⊥) → same x y ≡ false
same_differ x y h = is_false (same x y) (λ e. h (same_eq x y e))

pub same_sym : (x y : Name) → same x y ≡ false → same y x ≡ false
same_sym x y e = same_differ y x (λ q. true≢false (sym (same_refl x) ∙ ap (same x) (sym q) ∙ e))

pub holds_both : (xs ys : List Name) (x : Name) → holds (xs ++ ys) x ≡ holds xs x || holds ys x
unfolding holds
holds_both [] ys x = refl
holds_both (y ∷ xs) ys x = ap (λ b. same x y || b) (holds_both xs ys x) ∙ sym (or_assoc (same x y) (holds xs x) (holds ys x))

module _ {𝓐 : Algebra} where
  names_append : (es fs : List (Made 𝓐)) → names (es ++ fs) ≡ names es ++ names fs
  names_append [] fs = refl
  names_append (e ∷ es) fs = ap {B = List Name} (λ r. e.name ∷ r) (names_append es fs)

  pub holds_append : (es fs : List (Made 𝓐)) (x : Name) → holds (names (es ++ fs)) x ≡ holds (names es) x || holds (names fs) x
  holds_append es fs x = ap (λ r. holds r x) (names_append es fs) ∙ holds_both (names es) (names fs) x

  pub holds_snoc : (es : List (Made 𝓐)) (e : Made 𝓐) (x : Name) → holds (names (es ++ (e ∷ []))) x ≡ holds (names es) x || same x e.name
  unfolding holds
  holds_snoc es e x = holds_append es (e ∷ []) x ∙ ap (λ b. holds (names es) x || b) (or_false (same x e.name))

  -- what was held stays held
  pub holds_more : (es : List (Made 𝓐)) (e : Made 𝓐) (x : Name) → holds (names es) x ≡ true → holds (names (es ++ (e ∷ []))) x ≡ true
  holds_more es e x h = holds_snoc es e x ∙ ap (λ b. b || same x e.name) h

  pub holds_last : (es : List (Made 𝓐)) (e : Made 𝓐) → holds (names (es ++ (e ∷ []))) e.name ≡ true
  holds_last es e = holds_snoc es e e.name ∙ ap (λ b. holds (names es) e.name || b) (same_refl e.name) ∙ or_true (holds (names es) e.name)

  -- a held name was held before, or is the last one's
  pub holds_split : (es : List (Made 𝓐)) (e : Made 𝓐) (x : Name) → holds (names (es ++ (e ∷ []))) x ≡ true → (holds (names es) x ≡ true) ⊎ (x ≡ e.name)
  holds_split es e x h = go (holds (names es) x) refl
    where
      go : (b : Bool) → holds (names es) x ≡ b → (holds (names es) x ≡ true) ⊎ (x ≡ e.name)
      go true q = inl q
      go false q = inr (same_eq x e.name (ap (λ b. b || same x e.name) (sym q) ∙ sym (holds_snoc es e x) ∙ h))

  -- an element of a list is held
  pub holds_in : (xs : List (Made 𝓐)) (i : ℕ) → i < length xs → holds (names xs) (get_or xs i blank).name ≡ true
  unfolding holds
  holds_in [] i h = absurd (not-suc-le-zero h)
  holds_in (x ∷ xs) zero h = ap (λ b. b || holds (names xs) x.name) (same_refl x.name)
  holds_in (x ∷ xs) (suc i) h =
      ap (λ b. same (get_or xs i blank).name x.name || b) (holds_in xs i (le_of_suc-le-suc h)) ∙ or_true (same (get_or xs i blank).name x.name)

  -- all of a list, in its own order
  pub in_itself : (xs : List (Made 𝓐)) → in_order xs xs ≡ xs
  unfolding in_order
  in_itself xs = L.select_all (λ e. holds (names xs) e.name) blank xs (L.all_from (λ e. holds (names xs) e.name ≡ true) blank xs (holds_in xs))

  -- Of edits with names of their own, those below t are held; with number t, those below t + 1.
  pub held_next : (f : ℕ → Made 𝓐) (n : ℕ) → ((j k : ℕ) → j < n → k < n → same (f j).name (f k).name ≡ true → j ≡ k) → (done : List (Made 𝓐)) (t : ℕ) → t < n
      → ((j : ℕ) → j < n → holds (names done) (f j).name ≡ ltb j t) → (j : ℕ) → j < n → holds (names (done ++ (f t ∷ []))) (f j).name ≡ ltb j (suc t)
  held_next f n inj done t tn held j h = go (ltb j (suc t)) refl
    where
      here : (j < t) ⊎ (j ≡ t) → holds (names (done ++ (f t ∷ []))) (f j).name ≡ true
      here (inl lt) = holds_more done (f t) (f j).name (held j h ∙ ltb_true j _ lt)
      here (inr e) = subst (λ k. holds (names (done ++ (f t ∷ []))) (f k).name ≡ true) (sym e) (holds_last done (f t))

      go : (b : Bool) → ltb j (suc t) ≡ b → holds (names (done ++ (f t ∷ []))) (f j).name ≡ ltb j (suc t)
      go true e = here (below_suc j t (ltb_lt j _ e)) ∙ sym e
      go false e =
          let k : ¬ (j < suc t) = λ lt. true≢false (sym (ltb_true j _ lt) ∙ e) in
          holds_snoc done (f t) (f j).name ∙ ap (λ b. b || same (f j).name (f t).name) (held j h ∙ ltb_false j t (omega arith))
          ∙ is_false _ (λ q. let r : j ≡ t = inj j t h tn q in absurd (omega arith)) ∙ sym e

  -- an edit that is not in the set is not in its ordered list
  pub in_order_insert : (xs : List (Made 𝓐)) (x : Made 𝓐) (ys done : List (Made 𝓐)) → holds (names done) x.name ≡ false
      → in_order (xs ++ x ∷ ys) done ≡ in_order (xs ++ ys) done
  unfolding in_order
  in_order_insert xs x ys done e = Rattle.jupiter.proofs.Lists.select_out (λ y. holds (names done) y.name) x xs x ys e

  pub replay_insert : (xs : List (Made 𝓐)) (x : Made 𝓐) (ys done es : List (Made 𝓐)) (d : 𝓐.Doc) → holds (names (done ++ es)) x.name ≡ false
      → replay (xs ++ x ∷ ys) done es d ≡ replay (xs ++ ys) done es d
  unfolding replay
  replay_insert xs x ys done [] d h = refl
  replay_insert xs x ys done (e ∷ es) d h =
      let before : holds (names done) x.name ≡ false = is_false _ (λ t. true≢false (sym (holds_append done (e ∷ es) x.name ∙ ap (λ b. b || holds (names (e ∷ es)) x.name) t) ∙ h)) in
      let more : holds (names ((done ++ (e ∷ [])) ++ es)) x.name ≡ false = ap (λ r. holds (names r) x.name) (append_assoc done (e ∷ []) es) ∙ h in
      ap (λ C. replay (xs ++ x ∷ ys) (done ++ (e ∷ [])) es (𝓐.apply (form e C) d)) (in_order_insert xs x ys done before)
      ∙ replay_insert xs x ys (done ++ (e ∷ [])) es (𝓐.apply (form e (in_order (xs ++ ys) done)) d) more

  pub replay_snoc : (w done es : List (Made 𝓐)) (e : Made 𝓐) (d : 𝓐.Doc)
      → replay w done (es ++ (e ∷ [])) d ≡ 𝓐.apply (form e (in_order w (done ++ es))) (replay w done es d)
  unfolding replay
  replay_snoc w done [] e d = ap (λ r. 𝓐.apply (form e (in_order w r)) d) (sym (append-nil done))
  replay_snoc w done (x ∷ es) e d =
      replay_snoc w (done ++ (x ∷ [])) es e (𝓐.apply (form x (in_order w done)) d)
      ∙ ap (λ r. 𝓐.apply (form e (in_order w r)) (replay w (done ++ (x ∷ [])) es (𝓐.apply (form x (in_order w done)) d))) (append_assoc done (x ∷ []) es)

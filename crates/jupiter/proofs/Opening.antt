-- A line's opening list stays what it was: behind it stand the first edits that the server took, and its client has applied them first.
use Prim.Native.Nat.{ℕ, ◌≤◌}
use native.Mathlib.Omega.{arith}
use mathlib.Core.Path.{◌≡◌, refl, sym, ap, ◌∙◌, subst}
use mathlib.Core.Bool.{Bool, true, false, cond}
use mathlib.Core.List.{List, [], ◌∷◌, ◌++◌, append_assoc, append-nil}
use lib.Dec.{eqb}
use lib.ListN.{length, take, drop, take-append-drop}
use lib.Seq.{take-append-le, take-length}
use Rattle.jupiter.specs.Algebra.{Algebra}
use Rattle.jupiter.specs.Made.{Made, holds, names, is_by}
use Rattle.jupiter.specs.Form.{form, grown, list_at, in_order, replay}
use Rattle.jupiter.specs.Point.{blank}
use Rattle.jupiter.specs.History.{at, History, order, made_by, missing, new_edit, after_edit, serves, after_up, applies, after_down}
use Rattle.jupiter.specs.Ends.{Ends}
use Rattle.jupiter.proofs.Lists as L
use Rattle.jupiter.proofs.Grid.{eqb_eq}
use Rattle.jupiter.proofs.Closure.{Within, within_append}
use Rattle.jupiter.proofs.World.{others_served, Inv}
use Rattle.jupiter.proofs.Step.{Later, same_set}
use Rattle.jupiter.proofs.Join.{order_is}
use Rattle.jupiter.proofs.Start.{whole}

module _ {𝓐 : Algebra} where
  -- ---- what is taken and applied goes to the end
  pub record Longer (h h' : History 𝓐) : Type 0 where
    pub served : (n : ℕ) → n ≤ length h.served → take n h'.served ≡ take n h.served
    pub applied : (l n : ℕ) → n ≤ length (h.applied l) → take n (h'.applied l) ≡ take n (h.applied l)

  pub longer_refl : (h : History 𝓐) → Longer h h
  longer_refl h = record { served = λ n le. refl; applied = λ l n le. refl }

  -- client l has applied one edit more
  one_more : (l : ℕ) (e : Made 𝓐) (f : ℕ → List (Made 𝓐)) (k n : ℕ) → n ≤ length (f k) → take n (at l (f l ++ (e ∷ [])) f k) ≡ take n (f k)
  one_more l e f k n le = go (eqb l k) refl
    where
      go : (b : Bool) → eqb l k ≡ b → take n (cond b (f l ++ (e ∷ [])) (f k)) ≡ take n (f k)
      go true q = ap (λ j. take n (f j ++ (e ∷ []))) (eqb_eq l k q) ∙ take-append-le n (f k) (e ∷ []) le
      go false q = refl

  pub longer_edit : (l : ℕ) (e : 𝓐.Edit) (h : History 𝓐) → Longer h (after_edit l e h)
  unfolding after_edit
  longer_edit l e h = record { served = λ n le. refl; applied = one_more l (new_edit h l e) h.applied }

  pub longer_up : (l : ℕ) (h : History 𝓐) → Longer h (after_up l h)
  unfolding serves
  longer_up l h = go (h.untaken l)
    where
      go : (us : List (Made 𝓐)) → Longer h (serves l us h)
      go [] = longer_refl h
      go (e ∷ us) = record { served = λ n le. take-append-le n h.served (e ∷ []) le; applied = λ k n le. refl }

  pub longer_down : (l : ℕ) (h : History 𝓐) → Longer h (after_down l h)
  unfolding applies
  longer_down l h = go (missing h l)
    where
      go : (es : List (Made 𝓐)) → Longer h (applies l es h)
      go [] = longer_refl h
      go (e ∷ es) = record { served = λ n le. refl; applied = one_more l e h.applied }

  -- ---- what an end shows
  pub replay_append : (w done xs ys : List (Made 𝓐)) (d : 𝓐.Doc) → replay w done (xs ++ ys) d ≡ replay w (done ++ xs) ys (replay w done xs d)
  unfolding replay
  replay_append w done [] ys d = ap (λ r. replay w r ys d) (sym (append-nil done))
  replay_append w done (x ∷ xs) ys d =
      let d' : 𝓐.Doc = 𝓐.apply (form x (in_order w done)) d in
      replay_append w (done ++ (x ∷ [])) xs ys d' ∙ ap (λ r. replay w r ys (replay w (done ++ (x ∷ [])) xs d')) (append_assoc done (x ∷ []) xs)

  -- as long as a set has its order, so have the edits in it
  replay_same : (w w' S : List (Made 𝓐)) → in_order w' S ≡ in_order w S → (done es : List (Made 𝓐)) (d : 𝓐.Doc) → Within (names (done ++ es)) S → replay w' done es d ≡ replay w done es d
  unfolding replay
  replay_same w w' S e done [] d le = refl
  replay_same w w' S e done (x ∷ es) d le =
      ap (λ C. replay w' (done ++ (x ∷ [])) es (𝓐.apply (form x C) d)) (same_set w w' done S (λ n t. le n (within_append done (x ∷ es) n t)) e)
      ∙ replay_same w w' S e (done ++ (x ∷ [])) es (𝓐.apply (form x (in_order w done)) d) (λ n t. le n (subst (λ r. holds (names r) n ≡ true) (append_assoc done (x ∷ []) es) t))

  within_take : (n : ℕ) (xs : List (Made 𝓐)) → Within (names (take n xs)) xs
  within_take n xs x t = subst (λ r. holds (names r) x ≡ true) (take-append-drop n xs) (within_append (take n xs) (drop n xs) x t)

module _ {𝓐 : Algebra} (d : 𝓐.Doc) where
  -- of a line whose client has applied `applied`, in the order w: the first n of them are the server's, and with them the client showed the
  -- server's list
  pub record Opening (w served applied : List (Made 𝓐)) (n : ℕ) : Type 0 where
    pub behind : take n applied ≡ take n served
    pub list : replay w [] (take n applied) d ≡ list_at d (take n served)

  pub opening_first : Opening [] [] [] 0
  unfolding replay list_at grown
  opening_first = record { behind = refl; list = refl }

  pub opening_join : (E : Ends 𝓐) (h : History 𝓐) → Inv d E h → (l : ℕ) → made_by h l ≡ 0 → Opening (order h l) h.served h.served (length h.served)
  opening_join E h inv l none_made =
      record {
        behind = refl;
        list = ap (λ r. replay (order h l) [] r d) (take-length h.served) ∙ ap (λ w. replay w [] h.served d) (order_is d E h inv l none_made)
            ∙ inv.server_shown ∙ inv.doc_is ∙ ap (list_at d) (sym (take-length h.served));
      }

  module _ (start : ℕ → ℕ) (E : Ends 𝓐) (h : History 𝓐) (inv : Inv d (whole start E) h) (l : ℕ) (was : Opening (order h l) h.served (h.applied l) (start l)) where
    applied_room : start l ≤ length (h.applied l)
    applied_room = omega (arith, (inv.lines l).line.applied_count)

    served_room : start l ≤ length h.served
    served_room =
        let most = (inv.lines l).line.c_taken in
        let same = ap length (others_served l h.served (h.untaken l) (inv.lines l).untaken_own) in
        omega (arith, L.select_reject_length (is_by l) blank h.served)

    pub opening_later : (E' : Ends 𝓐) (h' : History 𝓐) → Later (whole start E) h E' h' → Longer h h' → Opening (order h' l) h'.served (h'.applied l) (start l)
    opening_later E' h' later longer =
        let a = longer.applied l (start l) applied_room in
        let b = longer.served (start l) served_room in
        record {
          behind = a ∙ was.behind ∙ sym b;
          list = ap (λ r. replay (order h' l) [] r d) a
              ∙ replay_same (order h l) (order h' l) (h.applied l) (later.set_same l) [] (take (start l) (h.applied l)) d (within_take (start l) (h.applied l))
              ∙ was.list ∙ ap (list_at d) (sym b);
        }

    -- the client shows it with every edit since then
    pub since : (doc : 𝓐.Doc) → replay (order h l) [] (h.applied l) d ≡ doc
        → doc ≡ replay (order h l) (take (start l) h.served) (drop (start l) (h.applied l)) (list_at d (take (start l) h.served))
    since doc shown =
        let w = order h l in
        let n = start l in
        sym shown ∙ ap (λ r. replay w [] r d) (sym (take-append-drop n (h.applied l))) ∙ replay_append w [] (take n (h.applied l)) (drop n (h.applied l)) d
        ∙ ap (replay w (take n (h.applied l)) (drop n (h.applied l))) was.list
        ∙ ap (λ r. replay w r (drop n (h.applied l)) (list_at d (take n h.served))) was.behind

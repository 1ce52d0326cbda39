-- The form of an edit: what the definition gives where the last edit outside its context is known.
use Prim.Native.Nat.{ℕ, zero, suc}
use native.Mathlib.Omega.{arith}
use mathlib.Core.Path.{◌≡◌, refl, ap, ◌∙◌}
use mathlib.Core.Bool.{true, false}
use mathlib.Core.List.{List, [], ◌∷◌, ◌++◌, append_assoc}
use lib.Dec.{T}
use lib.ListN.{length, length-append}
use Rattle.jupiter.specs.Algebra.{Algebra, Laws}
use Rattle.jupiter.specs.Made.{Name, Made, holds}
use Rattle.jupiter.specs.Form.{Last, all_inside, outside, further, last_outside, form_by, form_in, form, grown, list_at}
use Rattle.jupiter.proofs.Lists.{All}

module _ {𝓐 : Algebra} where
  -- the edit is in the context
  abbrev pub Inside : List Name → Made 𝓐 → Type 0
  Inside context x = holds context x.name ≡ true

  pub last_none : (context : List Name) (C : List (Made 𝓐)) → All (Inside context) C → last_outside context C ≡ all_inside
  unfolding last_outside further
  last_none context [] h = refl
  last_none context (x ∷ xs) h = ap (further context x xs) (last_none context xs h.1) ∙ here
    where
      here : further context x xs all_inside ≡ all_inside
      here = rw h.0 refl

  pub last_one : (context : List Name) (before : List (Made 𝓐)) (z : Made 𝓐) (after : List (Made 𝓐)) → holds context z.name ≡ false
      → All (Inside context) after → last_outside context (before ++ z ∷ after) ≡ outside before z after
  unfolding last_outside further
  last_one context [] z after e h = ap (further context z after) (last_none context after h) ∙ rw e refl
  last_one context (x ∷ xs) z after e h = ap (further context x (xs ++ z ∷ after)) (last_one context xs z after e h)

  -- all of the set is in the context: the edit as made
  pub form_made : (e : Made 𝓐) (C : List (Made 𝓐)) → All (Inside e.context) C → form e C ≡ e.edit
  unfolding form form_in form_by
  form_made e [] h = refl
  form_made e (x ∷ xs) h = ap (form_by (λ e' C'. form_in (length xs) e' C') e) (last_none e.context (x ∷ xs) h)

  -- z is outside and all behind it inside: one transformation
  pub form_last : (e : Made 𝓐) (before : List (Made 𝓐)) (z : Made 𝓐) (after : List (Made 𝓐)) → holds e.context z.name ≡ false
      → All (Inside e.context) after
      → form e (before ++ z ∷ after) ≡ 𝓐.transform (form e (before ++ after)) (form z (before ++ after))
  unfolding form form_in form_by
  form_last e before z after o h =
      let n : length (before ++ z ∷ after) ≡ suc (length (before ++ after)) =
      length-append before (z ∷ after) ∙ omega (arith, length-append before after) in
      ap (λ k. form_in k e (before ++ z ∷ after)) n ∙ ap (form_by (λ e' C'. form_in (length (before ++ after)) e' C') e) (last_one e.context before z after o h)

  -- an edit keeps its name in all its forms
  form_in_by : Laws 𝓐 → (x : Name) (n : ℕ) (e : Made 𝓐) (C : List (Made 𝓐)) → T (𝓐.by x e.edit) → T (𝓐.by x (form_in n e C))
  unfolding form_in form_by
  form_in_by laws x zero e C h = h
  form_in_by laws x (suc n) e C h = go (last_outside e.context C) (λ C'. form_in_by laws x n e C' h)
    where
      go : (last : Last 𝓐) → ((C' : List (Made 𝓐)) → T (𝓐.by x (form_in n e C'))) → T (𝓐.by x (form_by (λ e' C'. form_in n e' C') e last))
      go all_inside ih = h
      go (outside before z after) ih = laws.keeps_name x _ _ (ih (before ++ after))

  pub form_by_lem : Laws 𝓐 → (x : Name) (e : Made 𝓐) (C : List (Made 𝓐)) → T (𝓐.by x e.edit) → T (𝓐.by x (form e C))
  unfolding form
  form_by_lem laws x e C h = form_in_by laws x (length C) e C h

  -- ---- the list at a set

  grown_snoc : (before es : List (Made 𝓐)) (e : Made 𝓐) (d : 𝓐.Doc) → grown before (es ++ (e ∷ [])) d ≡ 𝓐.apply (form e (before ++ es)) (grown before es d)
  unfolding grown
  grown_snoc before [] e d = rw (mathlib.Core.List.append-nil before) refl
  grown_snoc before (x ∷ es) e d =
      grown_snoc (before ++ (x ∷ [])) es e (𝓐.apply (form x before) d) ∙ rw (append_assoc before (x ∷ []) es) refl

  pub list_at_snoc : (d : 𝓐.Doc) (C : List (Made 𝓐)) (e : Made 𝓐) → list_at d (C ++ (e ∷ [])) ≡ 𝓐.apply (form e C) (list_at d C)
  unfolding list_at
  list_at_snoc d C e = grown_snoc [] C e d

-- The form of an edit at a set of applied edits (01: "What an edit becomes"). No buffer is mentioned.
-- A set is the list of its edits in one order: the server's, and behind it the edits that the server has not taken, in order of making.
use Rattle.std.specs.Prelude.{ℕ, zero, suc, not, cond, List, [], ◌∷◌, ◌++◌, length}
use Rattle.jupiter.specs.Algebra.{Algebra}
use Rattle.jupiter.specs.Made.{Name, Made, holds, select, names}

-- The last edit of a list outside a context, between what stands before it and what stands after it.
pub data Last (𝓐 : Algebra) : Type 0 where
  all_inside : Last 𝓐
  outside : List (Made 𝓐) → Made 𝓐 → List (Made 𝓐) → Last 𝓐

module _ {𝓐 : Algebra} where
  -- one edit more in front of the list
  unfoldable pub further : List Name → Made 𝓐 → List (Made 𝓐) → Last 𝓐 → Last 𝓐
  further context x xs (outside before z after) = outside (x ∷ before) z after
  further context x xs all_inside = cond (holds context x.name) all_inside (outside [] x xs)

  unfoldable pub last_outside : List Name → List (Made 𝓐) → Last 𝓐
  last_outside context [] = all_inside
  last_outside context (x ∷ xs) = further context x xs (last_outside context xs)

  -- All inside the context: the edit as made. Else its form without z, transformed against z's form without z.
  unfoldable pub form_by : (Made 𝓐 → List (Made 𝓐) → 𝓐.Edit) → Made 𝓐 → Last 𝓐 → 𝓐.Edit
  form_by smaller e all_inside = e.edit
  form_by smaller e (outside before z after) = 𝓐.transform (smaller e (before ++ after)) (smaller z (before ++ after))

  -- The set gets smaller by one at each step, so its length bounds the steps.
  unfoldable pub form_in : ℕ → Made 𝓐 → List (Made 𝓐) → 𝓐.Edit
  form_in zero e C = e.edit
  form_in (suc n) e C = form_by (λ e' C'. form_in n e' C') e (last_outside e.context C)

  unfoldable pub form : Made 𝓐 → List (Made 𝓐) → 𝓐.Edit
  form e C = form_in (length C) e C

  -- The list at a set: each of its edits, in the set's order, applied in its form at those before it.
  unfoldable pub grown : List (Made 𝓐) → List (Made 𝓐) → 𝓐.Doc → 𝓐.Doc
  grown before [] d = d
  grown before (e ∷ es) d = grown (before ++ (e ∷ [])) es (𝓐.apply (form e before) d)

  unfoldable pub list_at : 𝓐.Doc → List (Made 𝓐) → 𝓐.Doc
  list_at initial C = grown [] C initial

  -- what has been applied, put in the order of `order`
  unfoldable pub in_order : List (Made 𝓐) → List (Made 𝓐) → List (Made 𝓐)
  in_order order done = select (λ e. holds (names done) e.name) order

  -- what has been applied, less some edits
  unfoldable pub without : List (Made 𝓐) → List (Made 𝓐) → List (Made 𝓐)
  without done less = select (λ e. not (holds (names less) e.name)) done

  -- An end that has applied `done` and shows d applies es one after the other: each in its form at what the end has applied so far.
  unfoldable pub replay : List (Made 𝓐) → List (Made 𝓐) → List (Made 𝓐) → 𝓐.Doc → 𝓐.Doc
  replay order done [] d = d
  replay order done (e ∷ es) d = replay order (done ++ (e ∷ [])) es (𝓐.apply (form e (in_order order done)) d)

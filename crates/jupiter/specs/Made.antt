-- Edits as they were made (01: "What an edit becomes").
use Rattle.std.specs.Prelude.{ℕ, Bool, cond, List, [], ◌∷◌, map, eqb}
use Rattle.jupiter.specs.Algebra.{Algebra}
pub use Rattle.jupiter.specs.Name.{Name}
unfoldable pub use Rattle.jupiter.specs.Name.{same, holds}

-- The edit as its client made it, with its context: the names of the edits that the client had applied, in its order of applying.
pub record Made (𝓐 : Algebra) : Type 0 where
  pub name : Name
  pub edit : 𝓐.Edit
  pub context : List Name

-- the elements that pass a test, and those that do not, in their order
unfoldable pub select : {A : Type 0} → (A → Bool) → List A → List A
select p [] = []
select p (x ∷ xs) = cond (p x) (x ∷ select p xs) (select p xs)

unfoldable pub reject : {A : Type 0} → (A → Bool) → List A → List A
reject p [] = []
reject p (x ∷ xs) = cond (p x) (reject p xs) (x ∷ reject p xs)

module _ {𝓐 : Algebra} where
  abbrev pub names : List (Made 𝓐) → List Name
  names es = map (λ e. e.name) es

  abbrev pub is_by : ℕ → Made 𝓐 → Bool
  is_by l e = eqb l e.name.line

  -- of a list of edits, those of line l, and those of all other lines
  abbrev pub mine : ℕ → List (Made 𝓐) → List (Made 𝓐)
  mine l es = select (is_by l) es

  abbrev pub others : ℕ → List (Made 𝓐) → List (Made 𝓐)
  others l es = reject (is_by l) es

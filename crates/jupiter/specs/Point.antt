-- The sets that one line knows: a grid (the picture is in docs/THEORY.md).
use Rattle.std.specs.Prelude.{ℕ, zero, suc, Bool, true, false, List, [], ◌∷◌, get_or}
use Rattle.jupiter.specs.Algebra.{Algebra}
use Rattle.jupiter.specs.Made.{Made, is_by, mine, others}
use Rattle.jupiter.specs.Form.{form}

module _ {A : Type 0} where
  -- x goes in while its kind is not used up: i of the one kind, j of the other
  unfoldable pub enter : A → Bool → ℕ → ℕ → (ℕ → ℕ → List A) → List A
  enter x true zero j tail = tail zero j
  enter x true (suc i) j tail = x ∷ tail i j
  enter x false i zero tail = tail i zero
  enter x false i (suc j) tail = x ∷ tail i j

  -- the first i that pass a test and the first j that do not, in the order of the list
  unfoldable pub firsts : (A → Bool) → List A → ℕ → ℕ → List A
  firsts p [] i j = []
  firsts p (x ∷ xs) i j = enter x (p x) i j (λ i' j'. firsts p xs i' j')

module _ {𝓐 : Algebra} where
  -- The set of line l's first i edits and the first j of all other lines, in the order w. Every set that an end of line l has applied is
  -- such a point (i, j).
  abbrev pub point : ℕ → List (Made 𝓐) → ℕ → ℕ → List (Made 𝓐)
  point l w i j = firsts (is_by l) w i j

  -- what stands past a list's end
  abbrev pub blank : Made 𝓐
  blank = record { name = record { line = 0; number = 0 }; edit = 𝓐.nothing; context = [] }

  -- edit number i + 1 of line l, and the (j + 1)-th of all other lines in the server's order
  abbrev pub own : ℕ → List (Made 𝓐) → ℕ → Made 𝓐
  own l w i = get_or (mine l w) i blank

  abbrev pub oth : ℕ → List (Made 𝓐) → ℕ → Made 𝓐
  oth l w j = get_or (others l w) j blank

  -- their forms at the point (i, j)
  abbrev pub own_form : ℕ → List (Made 𝓐) → ℕ → ℕ → 𝓐.Edit
  own_form l w i j = form (own l w i) (point l w i j)

  abbrev pub oth_form : ℕ → List (Made 𝓐) → ℕ → ℕ → 𝓐.Edit
  oth_form l w i j = form (oth l w j) (point l w i j)

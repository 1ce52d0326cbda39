-- What the protocol needs of edits. It is stated for any edits, so that the theory depends on no way of writing them down.
use Rattle.std.specs.Prelude.{ℕ, ◌+◌, ◌≤◌, ◌≡◌, ◌≢◌, Bool, T}
use Rattle.jupiter.specs.Name.{Name}

pub record Algebra : Type 1 where
  pub Edit : Type 0
  -- what an end shows: its list of items
  pub Doc : Type 0
  -- the edit that changes nothing; it also stands for an entry past a list's end
  pub nothing : Edit
  -- 01: the first edit carried past the second
  pub transform : Edit → Edit → Edit
  pub apply : Edit → Doc → Doc
  -- its position is one of the list's
  pub fits : Edit → Doc → Bool
  -- the edit may bear the name: an insert has the rank of the name's line, and makes a place with the name as its origin
  pub by : Name → Edit → Bool
  pub size : Doc → ℕ
  -- 1 for an insert, else 0
  pub grows : Edit → ℕ

-- The laws. `square` is the only one that convergence rests on: two edits that fit one list, of two lines, give one list in both
-- orders (TP1 in the literature).
pub record Laws (𝓐 : Algebra) : Type 0 where
  pub square : (x y : Name) (a b : 𝓐.Edit) (d : 𝓐.Doc) → x.line ≢ y.line → T (𝓐.by x a) → T (𝓐.by y b) → T (𝓐.fits a d) → T (𝓐.fits b d)
      → 𝓐.apply (𝓐.transform b a) (𝓐.apply a d) ≡ 𝓐.apply (𝓐.transform a b) (𝓐.apply b d)
  -- the other edit, transformed, fits the list after the first
  pub square_fits : (x y : Name) (a b : 𝓐.Edit) (d : 𝓐.Doc) → x.line ≢ y.line → T (𝓐.by x a) → T (𝓐.by y b) → T (𝓐.fits a d) → T (𝓐.fits b d)
      → T (𝓐.fits (𝓐.transform a b) (𝓐.apply b d))
  -- an edit keeps its name
  pub keeps_name : (x : Name) (a b : 𝓐.Edit) → T (𝓐.by x a) → T (𝓐.by x (𝓐.transform a b))
  -- an insert stays an insert, and nothing else becomes one
  pub keeps_growth : (a b : 𝓐.Edit) → 𝓐.grows (𝓐.transform a b) ≡ 𝓐.grows a
  pub size_apply : (e : 𝓐.Edit) (d : 𝓐.Doc) → 𝓐.size (𝓐.apply e d) ≤ 𝓐.size d + 𝓐.grows e

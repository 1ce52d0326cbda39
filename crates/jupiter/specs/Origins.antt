-- Where the items of a list come from. Each item has an origin: the name of the edit that put it there, or, on the opening list, line 0 and its
-- place. Beside `Laws`, this is what is asked of edits so that origins can be spoken of.
use Rattle.std.specs.Prelude.{ℕ, ◌≤◌, ◌≡◌, ◌≢◌, true, false, cond, List, [], ◌∷◌, ◌++◌, T, length}
use Rattle.jupiter.specs.Name.{Name, same, holds}
use Rattle.jupiter.specs.Algebra.{Algebra}
use Rattle.jupiter.specs.Run.{Call, State, initial, run}
use Rattle.jupiter.specs.Claims.{Who, doc_of}

-- no name stands twice
abbrev pub Once : List Name → Type 0
Once [] = Unit {0}
Once (x ∷ xs) = (holds xs x ≡ false) × Once xs

-- ys is xs with x put in at one place
pub record OneMore {A : Type 0} (x : A) (xs ys : List A) : Type 0 where
  pub front : List A
  pub back : List A
  pub less : xs ≡ front ++ back
  pub more : ys ≡ front ++ x ∷ back

-- What an edit does to the origins on a list: it puts its own name there, or takes a name off, or does neither.
pub data Effect : Type 0 where
  puts : Effect
  cuts : Name → Effect
  leaves : Effect

-- an edit named x turns xs into ys
abbrev pub Turns : Name → Effect → List Name → List Name → Type 0
Turns x puts xs ys = OneMore x xs ys
Turns x (cuts y) xs ys = OneMore y ys xs
Turns x leaves xs ys = ys ≡ xs

-- what remains of the first effect after the second: of two that take off the same name, the later one does nothing
unfoldable pub remains : Effect → Effect → Effect
remains puts q = puts
remains leaves q = leaves
remains (cuts x) puts = cuts x
remains (cuts x) leaves = cuts x
remains (cuts x) (cuts y) = cond (same x y) leaves (cuts x)

-- 1 for an insert, else 0
unfoldable pub added : Effect → ℕ
added puts = 1
added (cuts x) = 0
added leaves = 0

pub record Origins (𝓐 : Algebra) : Type 0 where
  -- the origins on a list, in its order
  pub origins : 𝓐.Doc → List Name
  -- what the edit does to those of a list that it fits; which name a delete takes off depends on the list
  pub effect : 𝓐.Edit → 𝓐.Doc → Effect
  pub turns : (x : Name) (e : 𝓐.Edit) (d : 𝓐.Doc) → T (𝓐.by x e) → T (𝓐.fits e d) → Turns x (effect e d) (origins d) (origins (𝓐.apply e d))
  -- transformed, an edit does what it did before, or nothing, where the other has done it
  pub transforms : (x y : Name) (a b : 𝓐.Edit) (d : 𝓐.Doc) → x.line ≢ y.line → T (𝓐.by x a) → T (𝓐.by y b) → T (𝓐.fits a d) → T (𝓐.fits b d)
      → Once (origins d) → effect (𝓐.transform a b) (𝓐.apply b d) ≡ remains (effect a d) (effect b d)
  -- a client's line is 1 or more, 0 is the opening list's
  pub from_one : (x : Name) (e : 𝓐.Edit) → T (𝓐.by x e) → 1 ≤ x.line
  pub size_is : (d : 𝓐.Doc) → 𝓐.size d ≡ length (origins d)
  pub grows_is : (e : 𝓐.Edit) (d : 𝓐.Doc) → 𝓐.grows e ≡ added (effect e d)

module _ {𝓐 : Algebra} (𝓞 : Origins 𝓐) where
  -- a list to open with: its origins are of line 0, and none stands twice
  pub record Opening (d : 𝓐.Doc) : Type 0 where
    pub zeros : (x : Name) → holds (𝓞.origins d) x ≡ true → x.line ≡ 0
    pub once : Once (𝓞.origins d)

  -- the origins on the list that an end shows
  abbrev pub shown : Who → State 𝓐 → List Name
  shown x s = 𝓞.origins (doc_of x s)

-- The theorem, for every algebra of edits that has the laws: no list that is ever shown has an origin twice.
abbrev pub NoneTwice : (𝓐 : Algebra) → Origins 𝓐 → Type 0
NoneTwice 𝓐 𝓞 = (d : 𝓐.Doc) → Opening 𝓞 d → (cs : List (Call 𝓐)) (x : Who) → Once (shown 𝓞 x (run (initial d) cs))

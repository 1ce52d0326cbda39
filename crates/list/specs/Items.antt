-- A list in the first places of an array, and the array after an edit of the list.
use Rattle.std.specs.Prelude.{ℕ, ◌-◌, ◌≤◌, ◌≡◌, Bool, true, ◌&&◌, List, [], ◌∷◌, ◌++◌, eqb, length, take, drop, replicate}
use Rattle.limits.specs.Limits.{max_items, max_initial}
use Rattle.ot.specs.Edit.{Edit, Nothing, Delete, Insert, applied, fits, size_after}

-- how many items a list can have
abbrev pub capacity : ℕ
capacity = max_items

-- an array of n places that holds the list l: the unused places hold z
abbrev pub padded : {A : Type 0} → A → ℕ → List A → List A
padded z n l = l ++ replicate (n - length l) z

-- a list of items in the array of an end
abbrev pub stored : List ℕ → List ℕ
stored l = padded 0 capacity l

-- a longer initial list is cut, so that any list has an answer
abbrev pub initial_items : List ℕ → List ℕ
initial_items l = stored (take max_initial l)

unfoldable pub all_zero : List ℕ → Bool
all_zero [] = true
all_zero (x ∷ l) = eqb x 0 && all_zero l

-- the places behind the list after an edit: an insert takes the first of them, a delete puts one more in front of them, which is 0
unfoldable pub behind : Edit → List ℕ → List ℕ
behind Nothing t = t
behind (Delete p) t = 0 ∷ t
behind (Insert p x r) t = drop 1 t

-- the array a, whose first n places hold a list, after an edit of that list
abbrev pub edited : Edit → ℕ → List ℕ → List ℕ
edited e n a = applied e (take n a) ++ behind e (drop n a)

-- what applying an edit to a list of n items in m places asks: the edit fits, and the places are enough before and after
pub record Room (e : Edit) (n m : ℕ) : Type 0 where
  pub fitting : fits e n ≡ true
  pub before : n ≤ m
  pub after : size_after e n ≤ m

-- what it gives: the array, and the list's new length
pub record Edited (e : Edit) (n : ℕ) (a b : List ℕ) (size : ℕ) : Type 0 where
  pub items : b ≡ edited e n a
  pub length : size ≡ size_after e n

-- An array whose unused places are 0 stays one. proofs/Array.antt proves it.
abbrev pub StaysPadded : Type 0
StaysPadded = (m : ℕ) (e : Edit) (l : List ℕ) → Room e (length l) m → edited e (length l) (padded 0 m l) ≡ padded 0 m (applied e l)

-- The order of origins on the lists that are shown.
use Rattle.std.specs.Prelude.{◌≡◌, Bool, true, false, ◌&&◌, ◌||◌, List, [], ◌∷◌}
use Rattle.jupiter.specs.Name.{Name, same, holds}
use Rattle.jupiter.specs.Algebra.{Algebra}
use Rattle.jupiter.specs.Run.{Call, initial, run}
use Rattle.jupiter.specs.Claims.{Who}
use Rattle.jupiter.specs.Origins.{Origins, Opening, shown}

-- a stands somewhere before b
unfoldable pub before : Name → Name → List Name → Bool
before a b [] = false
before a b (x ∷ xs) = (same a x && holds xs b) || before a b xs

-- two names that stand on both lists stand in the same order on both
abbrev pub SameOrder : List Name → List Name → Type 0
SameOrder xs ys = (a b : Name) → holds xs a ≡ true → holds xs b ≡ true → holds ys a ≡ true → holds ys b ≡ true → before a b xs ≡ before a b ys

-- The theorem, for every algebra of edits that has the laws: two origins never change places. On any two lists that are shown, at any ends and any
-- two moments of one run, those that stand on both stand in the same order.
abbrev pub OneOrder : (𝓐 : Algebra) → Origins 𝓐 → Type 0
OneOrder 𝓐 𝓞 =
    (d : 𝓐.Doc) → Opening 𝓞 d → (cs cs' : List (Call 𝓐)) (x y : Who)
    → SameOrder (shown 𝓞 x (run (initial d) cs)) (shown 𝓞 y (run (run (initial d) cs) cs'))

-- The ranks that opening gives to lines 1 to n: the smaller one stays in a tie.
use Rattle.std.specs.Prelude.{ℕ, zero, suc, ◌-◌, Bool, true, false, ◌&&◌, ◌||◌, not, List, [], ◌∷◌, eqb, length, get_or}
use Rattle.model.specs.Questions.{between}

-- line l's rank, of lines 1 to n
abbrev pub rank_of : List ℕ → ℕ → ℕ
rank_of ranks l = get_or ranks (l - 1) 0

-- r is one of them
unfoldable pub among : List ℕ → ℕ → Bool
among [] r = false
among (k ∷ ks) r = eqb r k || among ks r

-- each is 1 to n, and no two are alike
unfoldable pub each_once : ℕ → List ℕ → Bool
each_once n [] = true
each_once n (r ∷ rs) = between 1 n r && not (among rs r) && each_once n rs

-- exactly n of them
unfoldable pub ranking : ℕ → List ℕ → Bool
ranking n ranks = eqb (length ranks) n && each_once n ranks

-- k numbers from l on
abbrev pub count_from : ℕ → ℕ → List ℕ
count_from l zero = []
count_from l (suc k) = l ∷ count_from (suc l) k

-- line numbers as ranks
abbrev pub line_ranks : ℕ → List ℕ
line_ranks n = count_from 1 n

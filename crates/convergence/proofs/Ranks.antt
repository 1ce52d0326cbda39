-- Ranks that an opening lets through are 1 to n, so they are bytes.
use Prim.Native.Nat.{ℕ, ◌≤◌}
use native.Mathlib.Omega.{arith}
use mathlib.Core.Path.{◌≡◌, refl, sym, ◌∙◌}
use mathlib.Core.Bool.{true, not}
use mathlib.Core.List.{List, [], ◌∷◌}
use lib.Dec.{eqb, ltb}
use lib.ListN.{length}
use borrow.Author.Tests.{lt-ltb}
use Rattle.model.specs.Limits.{max_lines}
use Rattle.model.specs.Questions.{between}
use Rattle.model.specs.Ranks.{among, each_once, ranking}
use Rattle.model.specs.Server.{open_server_questions}
use Rattle.model.specs.Sheet.{Sheet}
use Rattle.model.specs.Run.{are_bytes}
use Rattle.model.specs.Claim.{Converges}
use Rattle.model.proofs.Tests.{both, and_left, and_right, three, between_true, yes_all}
use Rattle.convergence.specs.Built.{RanksAreBytes}

each_bytes : (n : ℕ) (ranks : List ℕ) → n ≤ max_lines → each_once n ranks ≡ true → are_bytes ranks ≡ true
unfolding each_once are_bytes
each_bytes n [] few e = refl
each_bytes n (r ∷ rs) few e =
    let t = three (between 1 n r) (not (among rs r)) (each_once n rs) e in
    both (ltb r 256) (are_bytes rs) (lt-ltb r 256 (omega (arith, between_true 1 n r t.0))) (each_bytes n rs few t.2)

ranking_bytes : (n : ℕ) (ranks : List ℕ) → n ≤ max_lines → ranking n ranks ≡ true → are_bytes ranks ≡ true
unfolding ranking
ranking_bytes n ranks few e = each_bytes n ranks few (and_right (eqb (length ranks) n) (each_once n ranks) e)

pub ranks_bytes : (S : Sheet) → Converges S → RanksAreBytes S
ranks_bytes S c n ranks items o =
    let y = yes_all (open_server_questions n ranks items) (omega arith) (sym (c.opens_server n ranks items o.numbers) ∙ o.server) in
    ranking_bytes n ranks (between_true 1 max_lines n (and_left (between 1 max_lines n) _ y.0)).1 y.1.0

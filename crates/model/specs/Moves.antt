-- How an edit moves as it is transformed past pending ones (02: N1).
use Rattle.std.specs.Prelude.{ℕ, suc, ◌+◌, ◌≡◌, Bool, true, false, List, [], ◌∷◌}
use Rattle.ot.specs.declared.Move.{Move}
use Rattle.ot.specs.declared.Move.TheVariants.{Still, Down, Up, Gone}
use Rattle.ot.specs.Form.{how}
use Rattle.ot.specs.Edit.{Edit, form_of, transformed}
use Rattle.model.specs.Cross.{past}
use Rattle.model.specs.Line.{position_at}

-- its move past each of them
unfoldable pub moves : Edit → List Edit → List Move
moves e [] = []
moves e (p ∷ ps) = how (form_of e) (form_of p) ∷ moves (transformed e p) ps

unfoldable pub ups : List Move → ℕ
ups [] = 0
ups (Up ∷ ms) = suc (ups ms)
ups (Still ∷ ms) = ups ms
ups (Down ∷ ms) = ups ms
ups (Gone ∷ ms) = ups ms

unfoldable pub downs : List Move → ℕ
downs [] = 0
downs (Down ∷ ms) = suc (downs ms)
downs (Still ∷ ms) = downs ms
downs (Up ∷ ms) = downs ms
downs (Gone ∷ ms) = downs ms

unfoldable pub is_gone : List Move → Bool
is_gone [] = false
is_gone (Gone ∷ ms) = true
is_gone (Still ∷ ms) = is_gone ms
is_gone (Down ∷ ms) = is_gone ms
is_gone (Up ∷ ms) = is_gone ms

-- Unless the edit is gone, the position applied is the one that arrived with its moves added up; one that is gone has no position.
pub record Moves : Type 0 where
  pub add_up : (e : Edit) (ps : List Edit) → is_gone (moves e ps) ≡ false → position_at e + ups (moves e ps) ≡ position_at (past e ps) + downs (moves e ps)
  pub gone : (e : Edit) (ps : List Edit) → is_gone (moves e ps) ≡ true → position_at (past e ps) ≡ 0

-- `undo::stands` meets its contract.
use Prim.Native.Nat.{ℕ, ◌+◌}
use mathlib.Core.Bool.{◌&&◌}
use mathlib.Core.Logic.{◌⊎◌, inl, inr}
use mathlib.Core.Path.{◌≡◌}
use lib.Dec.{leb}
use Rattle.limits.specs.Limits.{max_items}
use Rattle.ot.specs.declared.Form.{Form}
use Rattle.ot.specs.declared.Form.TheVariants as form
use Rattle.ot.specs.Edit.{edit}
use Rattle.ot.specs.Laws.{within}
use Rattle.model.specs.Inverse.{inverse_stands}
use Rattle.client.proofs.undo.stands.Goals as goal

at_position : (f : Form) (p : ℕ) → (f ≡ form.Delete p) ⊎ ((r : ℕ) × (f ≡ form.Insert p r)) → (leb 1 p && leb p (max_items + 1)) ≡ inverse_stands (edit f 0)
unfolding within
at_position f p (inl e) = rw e
at_position f p (inr i) = let e : f ≡ form.Insert p i.0 = i.1 in rw e

pub returns-in-Nothing : goal.returns-in-Nothing
unfolding within
returns-in-Nothing c = simp c.in-Nothing.is

pub returns-in-Delete : goal.returns-in-Delete
returns-in-Delete c = at_position c.args.f c.in-Delete.p c.in-Delete.is

-- The inverse as the code makes it: from the items of the list alone.
use Rattle.std.specs.Prelude.{ℕ, ◌-◌, List, get_or}
use Rattle.ot.specs.declared.Form.{Form}
use Rattle.ot.specs.declared.Form.TheVariants as form
use Rattle.ot.specs.Edit.{Nothing, Delete, Insert}
use Rattle.client.specs.declared.Inverse.{Inverse}
use Rattle.client.specs.View.{inverse_stored}

abbrev pub inverse_made : ℕ → List ℕ → Form → Inverse
inverse_made rank list form.Nothing = inverse_stored Nothing
inverse_made rank list (form.Delete p) = inverse_stored (Insert p (get_or list (p - 1) 0) rank)
inverse_made rank list (form.Insert p r) = inverse_stored (Delete p)

-- `undo::is_sound` meets its contract: the tests are question 2 of the inverse (proofs/Inverses.antt).
use Rattle.client.proofs.Inverses.{inverse_tested}
use Rattle.client.proofs.undo.is_sound.Goals as goal

pub returns : goal.returns
returns c =
    let a = c.args in
    inverse_tested a.b a.rank a.made c.form_at-f.result c.form_at-f.ensures c.stands.result c.is_ranked.result c.is_tidy.result
    c.stands.ensures c.is_ranked.ensures c.is_tidy.ensures

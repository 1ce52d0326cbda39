-- `undo::past` meets its contract: the form moves, and the item stays (proofs/Inverses.antt).
use Rattle.client.proofs.Inverses.{past_low, past_stored}
use Rattle.client.proofs.undo.past.Goals as goal

pub transform-form-requires : goal.transform-form-requires
transform-form-requires c =
    past_low c.args.b c.form_at-own.result c.form_at-own.ensures c.requires.0

pub returns : goal.returns
returns c =
    past_stored c.args.b c.form_at-own.result c.form_at-own.ensures c.requires.1 c.args.f c.transform-form.result c.place_of.result
    c.transform-form.ensures c.place_of.ensures

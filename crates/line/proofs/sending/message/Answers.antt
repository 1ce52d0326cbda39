use native.Mathlib.Omega.{arith}
use mathlib.Core.Path.{refl}
use Rattle.line.proofs.Sends.{message_of_lem}
use Rattle.line.proofs.sending.message.Goals as goal

pub item_in-requires : goal.item_in-requires
item_in-requires c = omega (arith, c.requires.0.0, c.requires.0.1, c.requires.1.few)

pub returns : goal.returns
returns c =
    message_of_lem c.args.line c.args.direction c.args.origin c.args.v c.args.words.now c.args.number _ c.form_in.result c.item_in.result c.of_edit.result
    c.requires.0 refl c.form_in.ensures c.item_in.ensures c.of_edit.ensures

-- The pending edit and the origin beside it are the model's (proofs/Sends.antt).
use Rattle.server.proofs.Sends.{inside, maker_low, message_is}
use Rattle.server.proofs.Server.message_of.Goals as goal

pub bounds-makers-number : goal.bounds-makers-number
bounds-makers-number c =
    let s = c.args.self.now in
    inside s.counts s.words c.args.line c.args.number c.requires c.line_at-v.result c.makers_at-makers.result.now c.line_at-v.ensures c.makers_at-makers.ensures

pub origin_at-origin-requires : goal.origin_at-origin-requires
origin_at-origin-requires c =
    let s = c.args.self.now in
    maker_low s.counts s.words c.args.line c.args.number c.requires c.line_at-v.result c.makers_at-makers.result.now c.line_at-v.ensures c.makers_at-makers.ensures

pub returns : goal.returns
returns c =
    let s = c.args.self.now in
    message_is s.counts s.words c.args.line c.args.number c.requires c.line_at-v.result c.makers_at-makers.result.now c.line_at-v.ensures c.makers_at-makers.ensures
    c.slots_at.result.now c.origin_at-origin.result c.message.result c.slots_at.ensures c.origin_at-origin.ensures c.message.ensures

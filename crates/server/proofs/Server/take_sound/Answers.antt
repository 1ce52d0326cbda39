-- Question 3 said no, or a message was read and is taken (proofs/Takes.antt).
use mathlib.Core.Path.{◌≡◌, sym, ◌∙◌}
use Rattle.std.specs.Prelude.{Some}
use Rattle.wire.specs.Bytes.{parsed}
use Rattle.wire.proofs.Codec.{codec}
use Rattle.server.proofs.Takes.{read_refused, read_taken}
use Rattle.server.proofs.Server.take_sound.Goals as goal
use Rattle.server.proofs.Server.take_sound.Goals.{In-Some}

reads : (c : In-Some) → parsed c.args.bytes.now ≡ Some c.in-Some.m
reads c = sym c.parse.ensures ∙ c.in-Some.is

pub returns-in_default : goal.returns-in_default
returns-in_default c =
    let s = c.args.self.now in
    read_refused s.counts s.words c.requires c.args.bytes.now (sym c.parse.ensures ∙ c.in_default.is)

pub take_message-requires : goal.take_message-requires
take_message-requires c =
    (codec.read_in_range c.args.bytes.now c.in-Some.m (reads (goal.at.take_message-requires c).In-Some), c.requires)

pub returns : goal.returns
returns c = c.take_message.ensures ∙ read_taken c.args.self.now c.args.bytes.now c.in-Some.m (reads (goal.at.returns c).In-Some)

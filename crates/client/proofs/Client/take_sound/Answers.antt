-- `take_sound` meets its contract: question 3 said no, or a message was read and its arrival is taken (proofs/Takes.antt).
use mathlib.Core.Path.{◌≡◌, sym, ◌∙◌, subst}
use Prim.Native.Nat.{◌≤◌}
use Rattle.std.specs.Prelude.{Some}
use Rattle.limits.specs.Limits.{max_items}
use Rattle.ot.specs.Form.{position_of}
use Rattle.wire.specs.Bytes.{parsed}
use Rattle.wire.proofs.Codec.{codec}
use Rattle.line.specs.declared.taking.Arrival.{Arrival}
use Rattle.line.proofs.Decisions.{arrival_position}
use Rattle.client.proofs.Takes.{read_refused, read_taken}
use Rattle.client.proofs.Client.take_sound.Goals as goal
use Rattle.client.proofs.Client.take_sound.Goals.{In-Some}

reads : (c : In-Some) → parsed (c.args.bytes.now) ≡ Some (c.in-Some.m)
reads c = sym c.parse.ensures ∙ c.in-Some.is

pub returns-in_default : goal.returns-in_default
returns-in_default c = read_refused c.args.self.now c.requires (c.args.bytes.now) (sym c.parse.ensures ∙ c.in_default.is)

pub take_arrival-requires : goal.take_arrival-requires
take_arrival-requires c = (
  subst (λ (a : Arrival). position_of a.form ≤ max_items) (sym c.split.ensures)
      (arrival_position (c.in-Some.m) (codec.read_in_range (c.args.bytes.now) (c.in-Some.m) (reads (goal.at.take_arrival-requires c).In-Some))),
  c.requires,
)

pub returns : goal.returns
returns c =
    c.take_arrival.ensures
    ∙ read_taken c.args.self.now c.requires (c.args.bytes.now) (c.in-Some.m) c.split.result (reads (goal.at.returns c).In-Some) c.split.ensures

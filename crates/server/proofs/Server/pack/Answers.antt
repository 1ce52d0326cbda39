-- Question 2 or 4 said no, or the line's pending edits are written with their origins (proofs/Packs.antt).
use Prim.Native.Nat.{◌-◌, ◌<◌}
use mathlib.Core.Path.{ap, ◌∙◌}
use Rattle.std.specs.Prelude.{ℕ, Result}
use Rattle.refusal.specs.declared.Refusal.{Refusal}
use Rattle.refusal.proofs.Some.{passed_on}
use Rattle.limits.specs.Limits.{max_lines}
use Rattle.line.specs.Sending.{answered}
use Rattle.server.proofs.Packs.{pack_refused, place_below, pack_able, pack_done}
use Rattle.server.proofs.Server.pack.Goals as goal
use Rattle.server.proofs.Server.pack.Goals.{In_ok-ask_line}

below : (c : In_ok-ask_line) → c.args.line - 1 < max_lines
below c =
    let s = c.args.self.now in
    let h = c.in_ok-ask_line.ensures.facts in
    place_below s.counts s.words c.args.line h.0 h.1

pub returns-in_err-ask_line : goal.returns-in_err-ask_line
returns-in_err-ask_line c =
    let s = c.args.self.now in
    let r = c.in_err-ask_line.field-0.0 in
    ap (λ (q : Result ℕ Refusal). answered q c.args.out.now) (passed_on c.from_residual.result r c.from_residual.ensures.1)
    ∙ pack_refused s.counts s.words c.args.line c.args.out.now c.args.offset r c.in_err-ask_line.ensures.answer

pub line_at-v-requires : goal.line_at-v-requires
line_at-v-requires c = below (goal.at.line_at-v-requires c).In_ok-ask_line

pub slots_at-slots-requires : goal.slots_at-slots-requires
slots_at-slots-requires c = below (goal.at.slots_at-slots-requires c).In_ok-ask_line

pub makers_at-origins-requires : goal.makers_at-origins-requires
makers_at-origins-requires c = below (goal.at.makers_at-origins-requires c).In_ok-ask_line

pub pack-requires : goal.pack-requires
pack-requires c =
    let s = c.args.self.now in
    let h = c.in_ok-ask_line.ensures.facts in
    pack_able s.counts s.words c.args.line h.0 h.1 c.line_at-v.result c.slots_at-slots.result.now c.makers_at-origins.result.now
    c.line_at-v.ensures c.slots_at-slots.ensures c.makers_at-origins.ensures

pub returns : goal.returns
returns c =
    let s = c.args.self.now in
    let h = c.in_ok-ask_line.ensures.facts in
    pack_done s.counts s.words c.args.line h.0 h.1 c.line_at-v.result c.slots_at-slots.result.now c.makers_at-origins.result.now
    c.line_at-v.ensures c.slots_at-slots.ensures c.makers_at-origins.ensures c.args.out.now c.args.offset c.in_ok-ask_line.ensures.answer c.pack.result
    c.pack.new.out c.pack.ensures

-- `Client::pack` meets its contract: question 2 or 4 said no, or the pending edits are written with their origins (proofs/Packs.antt).
use native.Mathlib.Omega.{arith}
use mathlib.Core.List.{List, []}
use mathlib.Core.Path.{ap, sym, ◌∙◌, subst}
use Prim.Native.Nat.{ℕ}
use Rattle.model.specs.Packets.{packed}
use Rattle.line.specs.Packet.{Packable, messages}
use Rattle.client.proofs.Packs.{pack_unsound, pack_other, pack_able, pack_done}
use Rattle.client.proofs.Client.pack.Goals as goal

pub returns-in_err-check_sound : goal.returns-in_err-check_sound
returns-in_err-check_sound c =
    pack_unsound c.args.self.now c.args.line c.args.out.now c.args.offset c.in_err-check_sound.field-0.0 c.in_err-check_sound.ensures
    c.from_residual.result c.from_residual.ensures.1

pub returns-then-line-k : goal.returns-then-line-k
returns-then-line-k c =
    pack_other c.args.self.now c.args.line c.args.out.now c.args.offset c.in_ok-check_sound.ensures (λ e. c.if-line-k.true (omega (arith, e)))

pub fill_origins-requires : goal.fill_origins-requires
fill_origins-requires c = omega (arith, c.in_ok-check_sound.ensures.kept.few)

pub pack-requires : goal.pack-requires
pack-requires c =
    subst (λ (l : List ℕ). Packable c.args.self.now.counts.own l c.fill_origins.new.origins) (sym c.slots.ensures)
    (pack_able c.args.self.now c.args.line c.args.out.now c.args.offset c.in_ok-check_sound.ensures (omega (arith, c.if-line-k.false))
    c.fill_origins.new.origins c.fill_origins.ensures (omega (arith, c.fill_origins.auto.origins)))

pub returns : goal.returns
returns c =
    pack_done c.args.self.now c.args.line c.args.out.now c.args.offset c.in_ok-check_sound.ensures (omega (arith, c.if-line-k.false))
    c.fill_origins.new.origins c.fill_origins.ensures c.pack.result c.pack.new.out
    (c.pack.ensures
    ∙ ap (λ (l : List ℕ). packed [] (messages c.args.line 0 c.args.self.now.counts.own l c.fill_origins.new.origins) c.args.offset c.args.out.now) c.slots.ensures)

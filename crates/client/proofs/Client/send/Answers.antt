-- `Client::send` meets its contract: question 2, 4 or 13 said no, or the message is written (proofs/Messages.antt).
use mathlib.Core.List.{List}
use mathlib.Core.Path.{ap, sym, ◌∙◌, subst}
use Prim.Native.Nat.{ℕ}
use Rattle.model.specs.Client.{send_client}
use Rattle.model.specs.Line.{line_message}
use Rattle.line.specs.Line.{line_of, Kept}
use Rattle.line.proofs.Sends.{number_pending}
use Rattle.client.specs.View.{view}
use Rattle.client.proofs.Messages.{unsound_sent, send_other, send_number, sent_edit_lem}
use Rattle.client.proofs.Client.send.Goals as goal

pub returns-in_err-check_sound : goal.returns-in_err-check_sound
returns-in_err-check_sound c =
    unsound_sent c.args.self.now (send_client (view c.args.self.now) c.args.line c.args.number c.args.out.now) c.args.out.now
    c.in_err-check_sound.field-0.0 c.in_err-check_sound.ensures c.from_residual.result c.from_residual.ensures.1

pub returns-then-line-k : goal.returns-then-line-k
returns-then-line-k c = send_other c.args.self.now c.in_ok-check_sound.ensures c.args.line c.args.number c.args.out.now c.if-line-k.true

pub returns-in_err-ask_number : goal.returns-in_err-ask_number
returns-in_err-ask_number c =
    send_number c.args.self.now c.in_ok-check_sound.ensures c.args.line c.args.number c.args.out.now c.if-line-k.false
    c.in_err-ask_number.field-0.0 c.in_err-ask_number.ensures c.from_residual-in_err-ask_number.result c.from_residual-in_err-ask_number.ensures.1

pub message-requires : goal.message-requires
message-requires c =
    let v = c.args.self.now.counts.own in (
      number_pending v c.args.number (sym c.in_ok-ask_number.ensures),
      subst (λ (l : List ℕ). Kept v l) (sym c.slots.ensures) c.in_ok-check_sound.ensures.kept,
    )

pub returns : goal.returns
returns c =
    c.finish.ensures
    ∙ sent_edit_lem c.args.self.now c.in_ok-check_sound.ensures c.args.line c.args.number c.args.out.now c.if-line-k.false c.in_ok-ask_number.ensures
    c.message.result
    (c.message.ensures
    ∙ ap (λ (l : List ℕ). line_message c.args.line 0 (record { line = c.args.line; number = c.args.number }) (line_of c.args.self.now.counts.own l) c.args.number)
    c.slots.ensures)

-- Taking: what the code decides is what the model does, and what it then writes is the struct for what the model makes.
use Prim.Native.Nat.{ℕ, ◌+◌, ◌-◌, ◌≤◌}
use native.Mathlib.Omega.{arith}
use mathlib.Core.Path.{◌≡◌, refl, ap, ◌∙◌, sym, subst}
use mathlib.Core.Bool.{Bool, true, false, not, ◌&&◌, cond, and-true}
use mathlib.Core.List.{List, [], ◌∷◌}
use lib.Dec.{eqb}
use lib.ListN.{length, length-map, length-drop}
use borrow.Author.Tests.{eqb-false}
use Rattle.std.specs.Prelude.{Option, Some, None, Result, Ok, Err, IsErrAnd}
use Rattle.refusal.specs.declared.Refusal.{Refusal}
use Rattle.refusal.specs.Number.{number}
use Rattle.refusal.proofs.Some.{number_some, passed_on}
use Rattle.limits.specs.Limits.{max_items, max_pending}
use Rattle.ot.specs.declared.Form.{Form}
use Rattle.ot.specs.declared.Form.TheVariants as form
use Rattle.ot.specs.Edit.{Edit, edit, item_of, applied, applied_as, transformed}
use Rattle.ot.specs.Laws.{within}
use Rattle.ot.proofs.Laws.{laws}
use Rattle.list.specs.Items.{Room}
use Rattle.list.specs.Places.{applied_by}
use Rattle.list.specs.Seconds.{total_seconds}
use Rattle.wire.specs.declared.Header.{Header}
use Rattle.wire.specs.declared.Message.{Message}
use Rattle.wire.specs.declared.Message.TheVariants as message
use Rattle.wire.specs.Bytes.{parsed}
use Rattle.model.specs.Cross.{priority}
use Rattle.model.specs.Questions.{Question, ask, asks, no_report, Answer, answer}
use Rattle.model.specs.Questions as questions
use Rattle.model.specs.Ranks.{rank_of}
use Rattle.model.specs.Inverse.{inverse_stands}
use Rattle.model.specs.Line as line
use Rattle.model.specs.Client as client
use Rattle.model.proofs.Cross.{priority_transformed}
use Rattle.model.proofs.Inverse.{fits_stands}
use Rattle.pending.specs.Slots.{slots_of, form_at}
use Rattle.line.specs.Line.{counts_of}
use Rattle.line.specs.Keeping.{then_asked}
use Rattle.line.proofs.Parts.{then_none, then_yes, then_no}
use Rattle.line.specs.declared.taking.Arrival.{Arrival}
use Rattle.line.specs.declared.taking.Decision.{Decision}
use Rattle.line.specs.declared.taking.Report.{Report}
use Rattle.line.specs.Taking.{carrying, arrival_of, refusal_of, line_then, edit_then, report_of, report_in, answer_of, done, Later, Decided, Between, accepted}
use Rattle.line.proofs.Asked.{refusal_seen, edit_asked_lem, ack_asked}
use Rattle.line.proofs.Accepting.{accepted_slots}
use Rattle.line.proofs.Decisions.{priority_form, then_edit, refusal_room, later_length}
use Rattle.client.specs.declared.Client.{Client}
use Rattle.client.specs.declared.Inverse.{Inverse}
use Rattle.client.specs.View.{size, slots_in, inverse_stored, inverse_tidy, view, store, Sound, Applied}
use Rattle.client.specs.Answers.{refused_with, guarded, taken}
use Rattle.client.specs.Taking.{down_to, inverse_then, client_then, refusal_at, arrived}
use Rattle.client.proofs.Words.{with_slots}
use Rattle.client.proofs.Answers as ends
use Rattle.client.proofs.Inverses.{past_none, ranks_fit, stands_read}
use Rattle.client.proofs.Sound.{sound_rank, sound_tidy}
use Rattle.client.proofs.Written.{Summed, changed, listed, facts, len_few, summed, kept_long, becomes}

-- what the code finds of the inverse: it is carried past the form that is applied, and its own form is looked at
abbrev pub Past : Client → Decision → Inverse → Type 0
Past c d inverse = (x : ℕ) → inverse ≡ inverse_stored (transformed (view c).inverse (edit d.form x))

abbrev pub Standing : Inverse → Bool → Type 0
Standing inverse b = b ≡ inverse_stands (edit (form_at inverse.place) 0)

flip : (b y : Bool) → not b ≡ y → b ≡ not y
flip true y e = ap not e
flip false y e = ap not e

-- What a decision that refuses nothing leaves known: what the steps that follow ask, and that they do what the model does.
pub record Accepted (c : Client) (a : Arrival) (d : Decision) (later : List ℕ) : Type 0 where
  pub seen : Between c.counts.own a.seen
  pub places : length later ≡ max_pending
  pub room : Room (edit d.form a.item) c.counts.len max_items
  pub summed : Summed c d.form a.item
  pub words : (slots : List ℕ) → slots ≡ accepted c.counts.own a.seen later (slots_in c.words) → length (with_slots c.words slots) ≡ size
  pub done : (len total : ℕ) (inverse : Inverse) (slots after : List ℕ) → slots ≡ accepted c.counts.own a.seen later (slots_in c.words)
      → total ≡ total_seconds (applied (edit d.form a.item) (listed c)) → Past c d inverse → (b : Bool) → Standing inverse b → not b ≡ false
      → Applied d.form a.item a.origin c.counts.len (with_slots c.words slots) after len
      → answer_of (Ok d.report) (changed c d.line len total inverse after) ≡ arrived c a

module _ (c : Client) (s : Sound c) where
  abbrev v : line.Line
  v = (view c).own

  -- ---- the model's answer to a message, by its arrival

  abbrev answered : Arrival → Answer client.Client
  answered a = answer (refusal_at c a) (view c) (client_then c a) (report_of v a)

  takes_ack : (l d seen : ℕ) → client.client_takes_ack (view c) l d seen ≡ answered (arrival_of (message.Ack l d seen))
  unfolding client.client_takes_ack applied_as
  takes_ack l d seen =
      let four : Bool = eqb d 1 && eqb l c.counts.line in
      let a : Arrival = arrival_of (message.Ack l d seen) in
      let asked : ℕ = refusal_of c.counts.own v c.counts.len a in
      let stays : (view c).inverse ≡ inverse_then c a = sym (past_none (view c).inverse) in
      let stands : true ≡ inverse_stands (inverse_then c a) = sym (facts c s).inverse.stands ∙ ap inverse_stands stays in
      let then : Edit → client.Client = λ e. client.with (view c) (view c).items (line.line_acked seen v) e in
      ap (λ (b : Bool). answer (asks (ask 2 b ∷ ask 4 four ∷ line.seen_questions v seen)) (view c) (client.client_acked (view c) seen) no_report) s.model
      ∙ ap (λ (b : Bool). answer (cond b (asks (line.seen_questions v seen)) 4) (view c) (client.client_acked (view c) seen) no_report)
      (sym (and-true (four && true) ∙ and-true four))
      ∙ ap (λ (r : ℕ). answer (cond (down_to c.counts a) r 4) (view c) (client.client_acked (view c) seen) no_report)
      (ack_asked c.counts.own (slots_in c.words) c.counts.len l d seen ∙ sym (then_none asked))
      ∙ (λ i. answer (cond (down_to c.counts a) (then_asked asked (asks (ask 9 (stands i) ∷ []))) 4) (view c) (then (stays i)) no_report)

  takes_edit : (h : Header) (f : Form) (x : ℕ) → client.client_takes_edit (view c) h (edit f x) ≡ answered (carrying h f x)
  unfolding client.client_takes_edit
  takes_edit h f x =
      let then : client.Client = client.client_taken (view c) h.origin h.seen (edit f x) in
      let report : questions.Report = line.line_report v h.seen (edit f x) in
      let made : Bool = line.other c.counts.n c.counts.line h.origin.line in
      let here : Bool → Bool = λ b. eqb h.direction 1 && eqb h.line c.counts.line && b && made in
      let down : ℕ → Bool = λ r. here (priority (line.other c.counts.n r) (edit f x)) in
      let rank : ℕ = rank_of c.counts.ranks c.counts.line in
      let more : List Question = ask 9 (inverse_stands (client.inverse_then (view c) h.seen (edit f x))) ∷ [] in
      let asked : ℕ = asks (line.take_questions v (view c).items h (edit f x) more) in
      ap (λ (b : Bool). answer (asks (ask 2 b ∷ ask 4 (down (client.own_rank (view c))) ∷ line.take_questions v (view c).items h (edit f x) more)) (view c) then report) s.model
      ∙ ap (λ (r : ℕ). answer (cond (down r) asked 4) (view c) then report) (sound_rank c s.yes)
      ∙ ap (λ (b : Bool). answer (cond (here b) asked 4) (view c) then report) (priority_form (line.other c.counts.n rank) f x 0)
      ∙ ap (λ (r : ℕ). answer (cond (down_to c.counts (carrying h f x)) r 4) (view c) then report)
      (edit_asked_lem c.counts.own (slots_in c.words) (view c).items h f x more (facts c s).items
      ∙ ap (λ (n : ℕ). then_asked (refusal_of c.counts.own v n (carrying h f x)) (asks more)) s.listed)

  takes : (m : Message) → client.client_takes (view c) m ≡ answered (arrival_of m)
  takes (message.Insert h p x r) = takes_edit h (form.Insert p r) x
  takes (message.Delete h p) = takes_edit h (form.Delete p) 0
  takes (message.Nothing h) = takes_edit h form.Nothing 0
  takes (message.Ack l d n) = takes_ack l d n

  -- ---- question 4, and the decision

  module _ (a : Arrival) (b : Bool) (eb : b ≡ down_to c.counts a) where
    -- 5 to 9, and the inverse
    abbrev asked : ℕ
    asked = refusal_of c.counts.own v c.counts.len a

    abbrev last : Bool → ℕ
    last b = asks (ask 9 b ∷ [])

    abbrev behind_four : Bool → ℕ
    behind_four y = cond y (then_asked asked (last (inverse_stands (inverse_then c a)))) 4

    by_four : (y : Bool) → b ≡ y → behind_four y ≡ refusal_at c a
    by_four y ey = ap behind_four (sym ey ∙ eb)

    refused_at : (r : ℕ) → (r ≡ 0 → ⊥) → r ≡ refusal_at c a → refused_with r c ≡ arrived c a
    refused_at r n e =
        ends.refused c r (report_of v a) (client_then c a) s.yes n ∙ ap (λ (k : ℕ). guarded c (answer k (view c) (client_then c a) (report_of v a))) e

    pub not_down : b ≡ false → refused_with 4 c ≡ arrived c a
    not_down f = refused_at 4 (eqb-false 4 0 refl) (by_four false f)

    module _ (t : b ≡ true) (later : List ℕ) where
      abbrev Decides : Result Decision Refusal → Type 0
      Decides = λ q. Decided c.counts.own (slots_in c.words) c.counts.len c.counts.own.inserts a q later

      pub refuses : (r : Refusal) → Decides (Err r) → (q : Result Report Refusal) → IsErrAnd q (λ y. y ≡ r) → answer_of q c ≡ arrived c a
      refuses r w q h =
          let n : number r ≡ 0 → ⊥ = number_some r in
          ap (λ (x : Result Report Refusal). answer_of x c) (passed_on q r h)
          ∙ refused_at (number r) n
          (w.refusal ∙ sym (then_no asked (last (inverse_stands (inverse_then c a))) (λ z. n (w.refusal ∙ z))) ∙ by_four true t)

      -- ---- what is written

      module _ (d : Decision) (w : Decides (Ok d)) where
        asked_none : asked ≡ 0
        asked_none = sym w.refusal

        is_done : d ≡ done v c.counts.own.inserts a
        is_done = w.done d refl

        abbrev then : line.Line
        then = line_then v c.counts.own.inserts a

        stay : Later c.counts.own a.seen (slots_in c.words) later then.pending
        stay = w.stay d refl

        seen : Between c.counts.own a.seen
        seen = refusal_seen c.counts.own v c.counts.len a asked_none

        room : Room (edit d.form a.item) c.counts.len max_items
        room =
            subst (λ (x : Decision). Room (edit x.form a.item) c.counts.len max_items) (sym is_done)
            (refusal_room c.counts.own v c.counts.len a asked_none (len_few c s))

        applied_is : edit d.form a.item ≡ edit_then v a
        applied_is = ap (λ (x : Decision). edit x.form a.item) is_done ∙ then_edit v a

        -- ---- the inverse, carried past it: it is stored, and looked at as it is stored

        pub back_ready : (inverse_stands (view c).inverse ≡ true) × (inverse_tidy c.counts.inverse ≡ true)
        back_ready = ((facts c s).inverse.stands, sound_tidy c s.yes)

        module _ (inverse : Inverse) (p : Past c d inverse) where
          back_then : inverse ≡ inverse_stored (inverse_then c a)
          back_then = p a.item ∙ ap (λ (e : Edit). inverse_stored (transformed (view c).inverse e)) applied_is

          back_stands : (b : Bool) → Standing inverse b → b ≡ inverse_stands (inverse_then c a)
          back_stands b eb =
              let i : Edit = (view c).inverse in
              let e : Edit = edit d.form a.item in
              let own : ℕ = client.own_rank (view c) in
              let w : within (max_items + 1 + 1) (transformed i e) ≡ true =
              laws.stays (max_items + 1) (max_items + 1) i e (facts c s).inverse.stands (fits_stands e c.counts.len (len_few c s) room.fitting) in
              eb ∙ ap (λ (q : Inverse). inverse_stands (edit (form_at q.place) 0)) (p a.item)
              ∙ stands_read own (max_items + 1 + 1) (ranks_fit (view c) (facts c s)) (omega arith) (transformed i e) w
              (priority_transformed (eqb own) i e ∙ (facts c s).inverse.rank)
              ∙ ap (λ (x : Edit). inverse_stands (transformed i x)) applied_is

          asked_last : (b : Bool) → Standing inverse b → (y : Bool) → b ≡ y → last y ≡ refusal_at c a
          asked_last b eb y ey =
              ap last (sym ey ∙ back_stands b eb) ∙ sym (then_yes asked (last (inverse_stands (inverse_then c a))) asked_none) ∙ by_four true t

          pub back_gone : (b : Bool) → Standing inverse b → not b ≡ true → refused_with 9 c ≡ arrived c a
          back_gone b eb f = refused_at 9 (eqb-false 9 0 refl) (asked_last b eb false (flip b true f))

        then_few : length then.pending ≤ max_pending
        then_few =
            let same : length then.pending ≡ length (line.unacked v a.seen) =
            sym (length-map then.pending item_of) ∙ ap length stay.items ∙ length-map (line.unacked v a.seen) item_of in
            omega (arith, same, length-drop (a.seen - c.counts.own.acked) v.pending, (facts c s).own.count, (facts c s).own.room)

        module _ (long : length c.words ≡ size) where
          slots_then_lem : (slots : List ℕ) → slots ≡ accepted c.counts.own a.seen later (slots_in c.words) → slots ≡ slots_of then.pending
          slots_then_lem slots es =
              es ∙ accepted_slots c.counts.own a.seen (slots_in c.words) later then.pending s.kept seen stay

          take_done : (len total : ℕ) (inverse : Inverse) (slots after : List ℕ) → slots ≡ accepted c.counts.own a.seen later (slots_in c.words)
              → total ≡ total_seconds (applied (edit d.form a.item) (listed c)) → Past c d inverse → (b : Bool) → Standing inverse b → not b ≡ false
              → Applied d.form a.item a.origin c.counts.len (with_slots c.words slots) after len
              → answer_of (Ok d.report) (changed c d.line len total inverse after) ≡ arrived c a
          take_done len total inverse slots after es et p b eb y w' =
              let own : d.line ≡ counts_of then = ap (λ (x : Decision). x.line) is_done in
              let report : d.report ≡ report_in (report_of v a) = ap (λ (x : Decision). x.report) is_done in
              let written = becomes c s long then then_few slots (slots_then_lem slots es) d.form a.item a.origin room d.line len total inverse after (inverse_then c a) own et (back_then inverse p) w' in
              let end = written ∙ ap (λ (x : Edit). store (client.with (view c) (applied_by a.origin x (view c).items) then (inverse_then c a))) applied_is in
              (λ i. answer_of (Ok (report i)) (end i))
              ∙ ends.done c (refusal_at c a) (report_of v a) (client_then c a) s.yes (sym (asked_last inverse p b eb true (flip b false y)))

          pub accepts : Accepted c a d later
          accepts =
              record {
                seen = seen;
                places = later_length c.counts.own (slots_in c.words) a.seen later then.pending s.kept seen stay;
                room = room;
                summed = summed c s d.form a.item room;
                words = λ slots es. kept_long c s long then then_few slots (slots_then_lem slots es);
                done = take_done;
              }

  -- ---- bytes

  pub read_refused : (bytes : List ℕ) → parsed bytes ≡ None → refused_with 3 c ≡ taken c bytes
  unfolding client.take_client
  read_refused bytes p =
      ends.refused c 3 no_report (view c) s.yes (eqb-false 3 0 refl)
      ∙ ap (λ (b : Bool). guarded c (answer (asks (ask 2 b ∷ ask 3 false ∷ [])) (view c) (view c) no_report)) (sym s.model)
      ∙ ap (λ (r : Option Message). guarded c (client.client_reads (view c) r)) (sym p)

  pub read_taken : (bytes : List ℕ) (m : Message) (a : Arrival) → parsed bytes ≡ Some m → a ≡ arrival_of m → arrived c a ≡ taken c bytes
  unfolding client.take_client
  read_taken bytes m a p ea =
      ap (λ (q : Arrival). guarded c (answered q)) ea ∙ ap (guarded c) (sym (takes m))
      ∙ ap (λ (r : Option Message). guarded c (client.client_reads (view c) r)) (sym p)

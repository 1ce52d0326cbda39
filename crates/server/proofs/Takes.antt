-- What the model answers to a message, by its arrival and the line that it comes on.
use Prim.Native.Nat.{ℕ, ◌+◌, ◌-◌}
use native.Mathlib.Omega.{arith}
use mathlib.Core.Path.{◌≡◌, refl, ap, sym, ◌∙◌, subst}
use mathlib.Core.Bool.{Bool, true, false, ◌&&◌, cond, and-true}
use mathlib.Core.List.{List, [], ◌∷◌}
use lib.Dec.{leb, eqb}
use lib.ListN.{take}
use borrow.Author.Tests.{eqb-false}
use Rattle.std.specs.Prelude.{Option, Some, None, Ok, Err}
use Rattle.refusal.specs.declared.Refusal.{Refusal}
use Rattle.refusal.specs.Number.{number}
use Rattle.refusal.proofs.Some.{number_some}
use Rattle.limits.specs.Limits.{max_inserts}
use Rattle.ot.specs.declared.Form.{Form}
use Rattle.ot.specs.declared.Form.TheVariants as form
use Rattle.ot.specs.Edit.{edit, form_of, item_of, applied_as}
use Rattle.wire.specs.declared.Header.{Header}
use Rattle.wire.specs.declared.Message.{Message}
use Rattle.wire.specs.declared.Message.TheVariants as message
use Rattle.wire.specs.Bytes.{parsed}
use Rattle.model.specs.Cross.{priority, inserts_of}
use Rattle.model.specs.Ranks.{rank_of}
use Rattle.model.specs.Questions.{Question, ask, asks, between, Report, no_report, Answer, answer}
use Rattle.model.specs.Line as line
use Rattle.model.specs.Server as model
use Rattle.line.specs.Keeping.{then_asked}
use Rattle.line.proofs.Parts.{then_none}
use Rattle.line.specs.declared.taking.Arrival.{Arrival}
use Rattle.line.specs.declared.taking.Decision.{Decision}
use Rattle.line.specs.Taking.{carrying, arrival_of, refusal_of, edit_then, report_of, report_in, answer_of}
use Rattle.line.proofs.Asked.{edit_asked_lem, ack_asked}
use Rattle.line.proofs.Decisions.{priority_form, then_item}
use Rattle.server.specs.declared.Counts.{Counts}
use Rattle.server.specs.declared.Server.{Server}
use Rattle.server.specs.View.{slots_at, counts_at, line_at, server_of, view, store, Sound}
use Rattle.server.specs.Answers.{refused_with, guarded, taken, taken_message}
use Rattle.server.specs.Decides.{is_own, up_to, place_of, refusal_at, refused, Decided}
use Rattle.server.specs.Taking.{server_then}
use Rattle.server.proofs.Answers as ends
use Rattle.server.proofs.Facts.{facts, at_view}
use Rattle.server.proofs.Asked.{up_line, own_rank_lem, roomy_model}
use Rattle.server.proofs.Decided.{Accepted, accepts}

-- the last of three tests may be changed where the second says yes
where_so : (a b x y : Bool) → (b ≡ true → x ≡ y) → (a && b && x) ≡ (a && b && y)
where_so true true x y e = e refl
where_so true false x y e = refl
where_so false b x y e = refl

module _ (k : Counts) (words : List ℕ) (h : Sound (server_of k words)) where
  abbrev m : model.Server
  m = view (server_of k words)

  abbrev pub refusal : Arrival → ℕ
  refusal a = refused k words a

  abbrev pub report : Arrival → Report
  report a = report_of (model.line_of (view (server_of k words)) a.line) a

  abbrev answered : Arrival → Answer model.Server
  answered a = answer (refusal a) m (server_then m a) (report a)

  pub line_is : (a : Arrival) → up_to k a ≡ true → model.line_of (view (server_of k words)) a.line ≡ line_at k words (place_of a)
  line_is a u = let l = up_line k a u in at_view k words h (place_of a) (omega arith)

  -- after question 4: what is asked of the line that the message came on
  by_line_lem : (a : Arrival) (asked : line.Line → ℕ) → asked (line_at k words (place_of a)) ≡ refusal_at k words a
      → cond (up_to k a) (asked (model.line_of m a.line)) 4 ≡ refusal a
  by_line_lem a asked same = go (up_to k a) refl
    where
      go : (b : Bool) → up_to k a ≡ b → cond b (asked (model.line_of m a.line)) 4 ≡ cond b (refusal_at k words a) 4
      go true u = ap asked (line_is a u) ∙ same
      go false f = refl

  takes_ack : (l d seen : ℕ) → model.server_takes_ack m l d seen ≡ answered (arrival_of (message.Ack l d seen))
  unfolding model.server_takes_ack view applied_as
  takes_ack l d seen =
      let a : Arrival = arrival_of (message.Ack l d seen) in
      let four : Bool = eqb d 0 && between 1 k.n l in
      let then : model.Server = model.server_acked m l seen in
      let v = counts_at k (l - 1) in
      ap (λ (b : Bool). answer (asks (ask 2 b ∷ ask 4 four ∷ line.seen_questions (model.line_of m l) seen)) m then no_report) h.model
      ∙ ap (λ (b : Bool). answer (cond b (asks (line.seen_questions (model.line_of m l) seen)) 4) m then no_report) (sym (and-true (four && true) ∙ and-true four))
      ∙ ap (λ (r : ℕ). answer r m then no_report)
      (by_line_lem a (λ u. asks (line.seen_questions u seen))
      (ack_asked v (slots_at (l - 1) words) k.len l d seen ∙ sym (then_none (refusal_of v (line_at k words (l - 1)) k.len a))))

  -- questions 5 to 12
  edit_asks : (b : Header) (f : Form) (x : ℕ)
      → asks
      (line.take_questions (line_at k words (b.line - 1)) m.items b (edit f x)
      (ask 10 (leb ((counts_at k (b.line - 1)).inserts + inserts_of (edit f x)) max_inserts) ∷ ask 12 (model.others_roomy (b.line - 1) m.lines) ∷ []))
      ≡ refusal_at k words (carrying b f x)
  unfolding view
  edit_asks b f x =
      let at : ℕ = b.line - 1 in
      let v = counts_at k at in
      let ten : Question = ask 10 (leb (v.inserts + inserts_of (edit f x)) max_inserts) in
      let more : List Question = ten ∷ ask 12 (model.others_roomy at m.lines) ∷ [] in
      edit_asked_lem v (slots_at at words) m.items b f x more (facts k words h).items
      ∙ ap (λ (n : ℕ). then_asked (refusal_of v (line_at k words at) n (carrying b f x)) (asks more)) h.listed
      ∙ ap (λ (t : Bool). then_asked (refusal_of v (line_at k words at) k.len (carrying b f x)) (asks (ten ∷ ask 12 t ∷ []))) (sym (roomy_model k words at k.n))

  -- question 4 of an edit: the rank of a line in use
  asked_own : (b : Header) (f : Form)
      → (eqb b.direction 0 && between 1 k.n b.line && is_own (rank_of (take k.n k.ranks) b.line) f && model.own_origin b)
      ≡ up_to k (carrying b f 0)
  asked_own b f =
      ap (λ (t : Bool). t && model.own_origin b)
      (where_so (eqb b.direction 0) (between 1 k.n b.line) (is_own (rank_of (take k.n k.ranks) b.line) f)
      (is_own (rank_of k.ranks b.line) f) (λ t. ap (λ (r : ℕ). is_own r f) (own_rank_lem k b.line t)))

  takes_edit : (b : Header) (f : Form) (x : ℕ) → model.server_takes_edit m b (edit f x) ≡ answered (carrying b f x)
  unfolding model.server_takes_edit view
  takes_edit b f x =
      let a : Arrival = carrying b f x in
      let then : model.Server = model.server_taken m b.line b.origin b.seen (edit f x) in
      let count : Report = line.line_report (model.line_of m b.line) b.seen (edit f x) in
      let last : line.Line → List Question =
      λ v. ask 10 (leb (v.inserts + inserts_of (edit f x)) max_inserts) ∷ ask 12 (model.others_roomy (b.line - 1) m.lines) ∷ [] in
      let asked : line.Line → ℕ = λ v. asks (line.take_questions v m.items b (edit f x) (last v)) in
      let rank : ℕ = rank_of m.ranks b.line in
      let four : Bool → Bool = λ t. eqb b.direction 0 && between 1 m.n b.line && t && model.own_origin b in
      let own : line.Line = model.line_of m b.line in
      let rest : List Question = ask 4 (four (priority (eqb rank) (edit f x))) ∷ line.take_questions own m.items b (edit f x) (last own) in
      ap (λ (t : Bool). answer (asks (ask 2 t ∷ rest)) m then count) h.model
      ∙ ap (λ (t : Bool). answer (cond (four t) (asked (model.line_of m b.line)) 4) m then count) (priority_form (eqb rank) f x 0)
      ∙ ap (λ (t : Bool). answer (cond t (asked (model.line_of m b.line)) 4) m then count) (asked_own b f)
      ∙ ap (λ (r : ℕ). answer r m then count) (by_line_lem a asked (edit_asks b f x))

  takes : (t : Message) → model.server_takes m t ≡ answered (arrival_of t)
  takes (message.Insert b p x r) = takes_edit b (form.Insert p r) x
  takes (message.Delete b p) = takes_edit b (form.Delete p) 0
  takes (message.Nothing b) = takes_edit b form.Nothing 0
  takes (message.Ack l d n) = takes_ack l d n

  -- ---- a message that was read

  pub is_taken : (t : Message) (a : Arrival) → a ≡ arrival_of t
      → guarded (server_of k words) (answer (refusal a) (view (server_of k words)) (server_then (view (server_of k words)) a) (report a)) ≡ taken_message (server_of k words) t
  is_taken t a e = ap (λ (q : Arrival). guarded (server_of k words) (answered q)) e ∙ ap (guarded (server_of k words)) (sym (takes t))

  -- ---- and was decided

  module _ (t : Message) (a : Arrival) (ea : a ≡ arrival_of t) where
    pub refuses : (r : Refusal) → number r ≡ refused k words a → answer_of (Err r) (server_of k words) ≡ taken_message (server_of k words) t
    refuses r e =
        ends.refused (server_of k words) (number r) (report a) (server_then m a) h.yes (number_some r)
        ∙ ap (λ (q : ℕ). guarded (server_of k words) (answer q m (server_then m a) (report a))) e
        ∙ is_taken t a ea

    module _ (later : List ℕ) (d : Decision) (r : Decided k words a (Ok d) later) where
      done_is : Accepted k words a d later
      done_is = accepts k words a d later r h

      -- an item comes with an insert only
      pub item_right : a.item ≡ item_of (edit d.form a.item)
      item_right =
          let w = line_at k words (place_of a) in
          subst (λ (q : Arrival). q.item ≡ item_of (edit (form_of (edit_then w q)) q.item)) (sym ea) (then_item w t)
          ∙ ap (λ (x : Decision). item_of (edit x.form a.item)) (sym done_is.answer)

      pub taken_done : (new : Server) → new ≡ store (server_then (view (server_of k words)) a)
          → answer_of (Ok d.report) new ≡ taken_message (server_of k words) t
      taken_done new e =
          let count : d.report ≡ report_in (report a) =
          ap (λ (x : Decision). x.report) done_is.answer ∙ ap (λ (u : line.Line). report_in (report_of u a)) (sym (line_is a done_is.up)) in
          (λ j. answer_of (Ok (count j)) (e j))
          ∙ ends.done (server_of k words) (refusal a) (report a) (server_then m a) h.yes (sym r.refusal)
          ∙ is_taken t a ea

  -- ---- bytes

  pub read_refused : (bytes : List ℕ) → parsed bytes ≡ None → refused_with 3 (server_of k words) ≡ taken (server_of k words) bytes
  unfolding model.take_server
  read_refused bytes p =
      ends.refused (server_of k words) 3 no_report m h.yes (eqb-false 3 0 refl)
      ∙ ap (λ (b : Bool). guarded (server_of k words) (answer (asks (ask 2 b ∷ ask 3 false ∷ [])) m m no_report)) (sym h.model)
      ∙ ap (λ (r : Option Message). guarded (server_of k words) (model.server_reads m r)) (sym p)

pub read_taken : (s : Server) (bytes : List ℕ) (t : Message) → parsed bytes ≡ Some t → taken_message s t ≡ taken s bytes
unfolding model.take_server
read_taken s bytes t p = ap (λ (r : Option Message). guarded s (model.server_reads (view s) r)) (sym p)

-- Editing: the code's questions are the model's, and what it makes of a sound client is the struct for what the model makes.
use Prim.Native.Nat.{ℕ, ◌+◌, ◌-◌, ◌≤◌, ◌<◌}
use native.Mathlib.Omega.{arith}
use mathlib.Core.Path.{◌≡◌, refl, ap, ◌∙◌, sym}
use mathlib.Core.Bool.{Bool, true, false, not, ◌&&◌}
use mathlib.Core.List.{List, [], ◌∷◌, ◌++◌}
use lib.Dec.{eqb, leb, ltb}
use lib.ListN.{length, length-append}
use borrow.Author.Tests.{eq-eqb, ne_eqb, eqb-false, ltb-true, leb-true}
use Rattle.std.specs.Prelude.{Result, ⊤, IsErrAnd}
use Rattle.refusal.specs.declared.Refusal.{Refusal}
use Rattle.refusal.specs.Number.{number}
use Rattle.refusal.proofs.Some.{number_some, passed_on}
use Rattle.limits.specs.Limits.{max_inserts, max_edits, max_pending, max_items}
use Rattle.ot.specs.declared.Form.{Form}
use Rattle.ot.specs.Edit.{Edit, Insert, edit, item_of, applied, fits}
use Rattle.list.specs.declared.Origin.{Origin}
use Rattle.list.specs.Items.{Room}
use Rattle.list.specs.Places.{applied_by}
use Rattle.list.specs.Seconds.{total_seconds}
use Rattle.model.specs.Cross.{inserts_of}
use Rattle.model.specs.Questions.{Question, ask, asks, no_report, Answer, answer}
use Rattle.model.specs.Inverse.{inverse_of, is_nothing}
use Rattle.line.specs.Taking.{done_of}
use Rattle.model.specs.Ranks.{rank_of}
use Rattle.model.specs.Line as line
use Rattle.model.specs.Client.{edit_client}
use Rattle.model.specs.Client as client
use Rattle.model.proofs.Tests.{Yes, yes_all}
use Rattle.pending.specs.Slots.{slots_of, form_at}
use Rattle.line.specs.declared.Line.{Line}
use Rattle.line.specs.Line.{Kept}
use Rattle.line.specs.Keeping.{fits_list, with_kept}
use Rattle.line.proofs.Room.{fits_model, fits_room}
use Rattle.client.specs.declared.Client.{Client}
use Rattle.client.specs.declared.Inverse.{Inverse}
use Rattle.client.specs.View.{size, slots_in, inverse_stored, view, sound, Sound, Applied}
use Rattle.client.specs.Undo.{inverse_made}
use Rattle.client.specs.Answers.{refused_with, guarded, edited, inserted, taken_back, edit_asked}
use Rattle.client.proofs.Words.{with_slots}
use Rattle.client.proofs.Answers.{unsound, refused, done}
use Rattle.client.proofs.Inverses.{tidy_item, tidy_none, made_is, fits_form}
use Rattle.client.proofs.Sound.{sound_rank, sound_tidy}
use Rattle.client.proofs.Written.{Summed, changed, listed, listed_is, facts, len_few, summed, kept_long, becomes}

-- ---- at a sound client they are the model's

-- What questions 2 and 9 to 12 leave known of an edit that they let through: what its steps ask, and that they do what the model does.
pub record Allowed (c : Client) (f : Form) (x : ℕ) : Type 0 where
  pub kept : Kept c.counts.own (slots_in c.words)
  pub pending : c.counts.own.made - c.counts.own.acked < max_pending
  pub room : Room (edit f x) c.counts.len max_items
  pub summed : Summed c f x
  pub fitting : fits (edit f 0) (length (listed c)) ≡ true
  pub inserts : c.counts.own.inserts + inserts_of (edit f x) ≤ max_inserts
  pub made : c.counts.own.made < max_edits
  pub words : (slots : List ℕ) → slots ≡ slots_of ((view c).own.pending ++ (edit f x ∷ [])) → length (with_slots c.words slots) ≡ size
  pub done : (own : Line) (i len total rank : ℕ) (inverse : Inverse) (slots after : List ℕ) → slots ≡ slots_of ((view c).own.pending ++ (edit f x ∷ []))
      → i ≡ inserts_of (edit f x) → own ≡ with_kept c.counts.own (c.counts.own.inserts + i) → total ≡ total_seconds (applied (edit f x) (listed c))
      → rank ≡ rank_of c.counts.ranks c.counts.line → inverse ≡ inverse_made rank (listed c) f
      → Applied f x (client.origin_here (view c) (c.counts.own.made + 1)) c.counts.len (with_slots c.words slots) after len
      → record { refusal = 0; end = changed c own len total inverse after; report = no_report } ≡ edited c (edit f x)

module _ (c : Client) (s : Sound c) (f : Form) (x : ℕ) where
  abbrev e : Edit
  e = edit f x

  -- 10 to 12, which the model asks in the same words
  abbrev later : List Question
  later =
      ask 10 (leb (c.counts.own.inserts + inserts_of e) max_inserts)
      ∷ ask 11 (ltb c.counts.own.made max_edits)
      ∷ ask 12 (ltb (c.counts.own.made - c.counts.own.acked) max_pending)
      ∷ []

  abbrev here : Origin
  here = client.origin_here (view c) (c.counts.own.made + 1)

  abbrev nine : Bool
  nine = fits e (length (view c).items) && leb (length (applied_by here e (view c).items)) max_items

  same_questions : asks (client.edit_questions (view c) e) ≡ asks (edit_asked c.counts e)
  same_questions =
      ap (λ (b : Bool). asks (ask 2 b ∷ ask 9 nine ∷ later)) s.model
      ∙ ap (λ (b : Bool). asks (ask 9 b ∷ later))
      (sym (fits_model here e (view c).items (facts c s).items) ∙ ap (fits_list e) s.listed)

  pub edit_refused : (q : Result ⊤ Refusal) (r : Refusal) → IsErrAnd q (λ y. y ≡ r) → number r ≡ asks (edit_asked c.counts e)
      → done_of q c ≡ edited c e
  unfolding edit_client
  edit_refused q r h er =
      ap (λ (x : Result ⊤ Refusal). done_of x c) (passed_on q r h)
      ∙ refused c (number r) no_report (client.edited (view c) e) s.yes (number_some r)
      ∙ ap (λ (k : ℕ). guarded c (answer k (view c) (client.edited (view c) e) no_report)) (er ∙ sym same_questions)

  module _ (z : asks (edit_asked c.counts e) ≡ 0) where
    answered_yes : Yes (edit_asked c.counts e)
    answered_yes =
        yes_all (edit_asked c.counts e) (eqb-false 9 0 refl, (eqb-false 10 0 refl, (eqb-false 11 0 refl, (eqb-false 12 0 refl, tt)))) z

    edit_room : Room e c.counts.len max_items
    edit_room = fits_room e c.counts.len (len_few c s) answered_yes.0

    edit_pending : c.counts.own.made - c.counts.own.acked < max_pending
    edit_pending = ltb-true (c.counts.own.made - c.counts.own.acked) max_pending answered_yes.1.1.1.0

    -- ---- what is written

    abbrev kept : line.Line
    kept = line.line_keeps (c.counts.own.inserts + inserts_of e) e (view c).own

    kept_few : length kept.pending ≤ max_pending
    kept_few = omega (arith, length-append (view c).own.pending (e ∷ []), (facts c s).own.count, edit_pending)

    -- the inverse that the code makes is the model's
    abbrev inverse : Edit
    inverse = inverse_of (client.own_rank (view c)) (view c).items e

    edit_inverse : (rank : ℕ) → rank ≡ rank_of c.counts.ranks c.counts.line → inverse_made rank (listed c) f ≡ inverse_stored inverse
    edit_inverse rank er =
        (λ i. inverse_made ((er ∙ sym (sound_rank c s.yes)) i) (listed_is c s i) f) ∙ made_is (client.own_rank (view c)) (view c).items f x

    edit_done : length c.words ≡ size → (own : Line) (i len total rank : ℕ) (inverse' : Inverse) (slots after : List ℕ) → slots ≡ slots_of kept.pending
        → i ≡ inserts_of e → own ≡ with_kept c.counts.own (c.counts.own.inserts + i) → total ≡ total_seconds (applied e (listed c))
        → rank ≡ rank_of c.counts.ranks c.counts.line → inverse' ≡ inverse_made rank (listed c) f
        → Applied f x here c.counts.len (with_slots c.words slots) after len
        → record { refusal = 0; end = changed c own len total inverse' after; report = no_report } ≡ edited c e
    unfolding edit_client
    edit_done long own i len total rank inverse' slots after es ei eo et er eb a =
        ap (λ (d : Client). record { refusal = 0; end = d; report = no_report })
        (becomes c s long kept kept_few slots es f x here edit_room own len total inverse' after inverse
        (eo ∙ ap (λ (j : ℕ). with_kept c.counts.own (c.counts.own.inserts + j)) ei) et (eb ∙ edit_inverse rank er) a)
        ∙ done c (asks (client.edit_questions (view c) e)) no_report (client.edited (view c) e) s.yes (same_questions ∙ z)

    pub edit_allowed : length c.words ≡ size → Allowed c f x
    edit_allowed long =
        record {
          kept = s.kept;
          pending = edit_pending;
          room = edit_room;
          summed = summed c s f x edit_room;
          fitting = fits_form f 0 x (length (listed c)) ∙ (summed c s f x edit_room).1.0;
          inserts = leb-true (c.counts.own.inserts + inserts_of e) max_inserts answered_yes.1.0;
          made = ltb-true c.counts.own.made max_edits answered_yes.1.1.0;
          words = λ slots es. kept_long c s long kept kept_few slots es;
          done = edit_done long;
        }

-- ---- taking back

module _ (c : Client) (s : Sound c) where
  abbrev back : Edit
  back = (view c).inverse

  abbrev back_answer : Bool → Bool → client.Client → Answer client.Client
  back_answer sound some new = answer (asks (ask 2 sound ∷ ask 17 some ∷ client.make_questions (view c) back)) (view c) new no_report

  -- there is something to take back where the stored place is not 0
  some_back : (b : Bool) → eqb c.counts.inverse.place 0 ≡ b → not b ≡ not (is_nothing back)
  some_back b e = ap not (sym e ∙ tidy_none c.counts.inverse (sound_tidy c s.yes))

  pub back_refused : c.counts.inverse.place ≡ 0 → refused_with 17 c ≡ taken_back c
  unfolding client.take_back_client
  back_refused z =
      refused c 17 no_report (client.edited (view c) back) s.yes (eqb-false 17 0 refl)
      ∙ (λ i. guarded c (back_answer (sym s.model i) (some_back true (eq-eqb c.counts.inverse.place 0 z) i) (client.edited (view c) back)))

  -- its form and its item are the edit that is made
  module _ (f : Form) (ef : f ≡ form_at c.counts.inverse.place) where
    pub back_item : c.counts.inverse.item ≡ item_of (edit f c.counts.inverse.item)
    back_item =
        tidy_item c.counts.inverse (sound_tidy c s.yes) ∙ ap (λ (g : Form). item_of (edit g c.counts.inverse.item)) (sym ef)

    pub back_made : (c.counts.inverse.place ≡ 0 → ⊥) → edited c (edit f c.counts.inverse.item) ≡ taken_back c
    unfolding client.take_back_client edit_client
    back_made z =
        ap (λ (g : Form). edited c (edit g c.counts.inverse.item)) ef
        ∙ (λ i. guarded c (back_answer (client.sound_client (view c)) (some_back false (ne_eqb c.counts.inverse.place 0 z) i) (client.edited (view c) back)))

-- ---- an insert

-- at a sound client the rank in its line's place is the one that the model gives
pub ranked_insert : (c : Client) (p x r : ℕ) → r ≡ rank_of c.counts.ranks c.counts.line → edited c (Insert p x r) ≡ inserted c p x
ranked_insert c p x r er = go (sound c) refl
  where
    go : (b : Bool) → sound c ≡ b → edited c (Insert p x r) ≡ inserted c p x
    go true t = ap (λ (q : ℕ). edited c (Insert p x q)) (er ∙ sym (sound_rank c t))
    go false t = sym (unsound c (edit_client (view c) (Insert p x r)) t) ∙ unsound c (client.insert_client (view c) p x) t

-- The ways in which a call ends: the end is not sound, a question says no, the call is done.
use Prim.Native.Nat.{ℕ, ◌≤◌}
use native.Mathlib.Omega.{arith}
use mathlib.Core.Path.{◌≡◌, refl, ap, ◌∙◌, sym}
use mathlib.Core.Bool.{Bool, true, false, ◌&&◌, and-true, and_assoc}
use mathlib.Core.List.{List, [], ◌∷◌}
use lib.Dec.{leb}
use lib.ListN.{length, take, replicate}
use lib.Seq.{take_all}
use borrow.Author.Tests.{ne_eqb, leb-true}
use Rattle.std.specs.Prelude.{Result, ⊤, IsErrAnd}
use Rattle.refusal.specs.declared.Refusal.{Refusal}
use Rattle.refusal.specs.Number.{number}
use Rattle.refusal.proofs.Some.{passed_on}
use Rattle.limits.specs.Limits.{max_lines, max_items, max_initial}
use Rattle.ot.specs.Edit.{Nothing}
use Rattle.list.specs.Items.{stored, initial_items}
use Rattle.list.specs.Places.{initial_places, items_of, origins_of}
use Rattle.list.specs.Seconds.{total_seconds, running_time}
use Rattle.list.proofs.Places.{initial_length, initial_items_lem}
use Rattle.list.proofs.Seconds.{total_initial}
use Rattle.model.specs.Questions as model
use Rattle.model.specs.Ranks.{ranking}
use Rattle.model.specs.Line.{no_line}
use Rattle.model.specs.Client as client
use Rattle.model.proofs.Tests.{and_right}
use Rattle.ranks.specs.Stored as ranks
use Rattle.pending.specs.Slots.{slots_of}
use Rattle.line.specs.Line.{counts_of}
use Rattle.line.specs.declared.taking.Report.{Report}
use Rattle.line.specs.Taking.{answer_of, done_of}
use Rattle.client.specs.declared.Client.{Client}
use Rattle.client.specs.View.{size, items_in, slots_in, origins_in, inverse_stored, client_of, counts, view, store, sound, SaysUnsound}
use Rattle.client.specs.Answers.{refused_with, given, guarded, opened}
use Rattle.client.proofs.Words.{origins_long, origins_wrote, with_origins, parts_are, list_long, names_long, zero_words, zero_slots, with_places, places_long, places_items, places_slots, places_origins}

module _ (c : Client) where
  pub unsound : (a : model.Answer client.Client) → sound c ≡ false → refused_with 2 c ≡ guarded c a
  unfolding guarded
  unsound a h = rw h

  pub refused : (r : ℕ) (k : model.Report) (new : client.Client) → sound c ≡ true → (r ≡ 0 → ⊥) → refused_with r c ≡ guarded c (model.answer r (view c) new k)
  unfolding guarded model.answer
  refused r k new h n = rw h (simp (ne_eqb r 0 n))

  pub done : (r : ℕ) (k : model.Report) (new : client.Client) → sound c ≡ true → r ≡ 0
      → record { refusal = 0; end = store new; report = k } ≡ guarded c (model.answer r (view c) new k)
  unfolding guarded model.answer
  done r k new h e = rw (h, e)

-- ---- question 2 said no: its refusal is handed on

module _ (c : Client) (a : model.Answer client.Client) (r : Refusal) (u : SaysUnsound c r) where
  said : refused_with (number r) c ≡ guarded c a
  said = ap (λ (x : Refusal). refused_with (number x) c) u.0 ∙ unsound c a u.1

  pub unsound_done : (q : Result ⊤ Refusal) → IsErrAnd q (λ y. y ≡ r) → done_of q c ≡ guarded c a
  unsound_done q e = ap (λ (x : Result ⊤ Refusal). done_of x c) (passed_on q r e) ∙ said

  pub unsound_answer : (q : Result Report Refusal) → IsErrAnd q (λ y. y ≡ r) → answer_of q c ≡ guarded c a
  unsound_answer q e = ap (λ (x : Result Report Refusal). answer_of x c) (passed_on q r e) ∙ said

-- ---- opening

-- an end that is all zeros
pub empty_lem : client_of (record { own = counts_of no_line; len = 0; total = 0; inverse = inverse_stored Nothing; n = 0; line = 0; ranks = replicate max_lines 0 }) (replicate size 0)
    ≡ store client.no_client
unfolding total_seconds
empty_lem = ap (client_of (counts client.no_client)) zero_words

abbrev pub open_tests : ℕ → ℕ → List ℕ → Bool
open_tests n line items = (model.between 1 max_lines n && model.between 1 n line) && leb (length items) max_initial

module _ (e : Client) (ee : e ≡ store client.no_client) where
  pub words_zero : e.words ≡ replicate size 0
  words_zero = ap (λ (d : Client). d.words) ee ∙ sym zero_words

  -- the items are zero too once the origins are written
  pub items_zero : (origins : List ℕ) → length origins ≡ length (origins_in e.words) → items_in (with_origins e.words origins) ≡ replicate max_items 0
  items_zero origins eo =
      let long : length e.words ≡ size = ap length words_zero in
      (origins_wrote e.words long origins (eo ∙ origins_long e.words long)).before 0 max_items (omega arith) ∙ ap items_in words_zero

-- an end with other numbers and other words
abbrev numbered : Client → ℕ → ℕ → ℕ → ℕ → List ℕ → List ℕ → Client
numbered e n line len total ranks words =
    client_of (record { own = e.counts.own; len = len; total = total; inverse = e.counts.inverse; n = n; line = line; ranks = ranks }) words

-- the client that opens
abbrev opening : ℕ → ℕ → List ℕ → List ℕ → client.Client
opening n line rs items = record { n = n; line = line; ranks = rs; items = initial_places items; own = no_line; inverse = Nothing }

module _ (n line : ℕ) (rs items : List ℕ) where
  abbrev asked : Bool → Bool → model.Answer Client
  asked b r =
      given (store client.no_client) (model.answer (model.asks (model.ask 1 b ∷ model.ask 16 r ∷ [])) client.no_client (opening n line rs items) model.no_report)

  every_is : open_tests n line items ≡ model.every (model.between 1 max_lines n ∷ model.between 1 n line ∷ leb (length items) max_initial ∷ [])
  every_is = simp (and_assoc, and-true)

  asked_is : (b r : Bool) → open_tests n line items ≡ b → ranking n rs ≡ r → asked b r ≡ opened n line rs items
  unfolding client.open_client
  asked_is b r eb er = (λ i. asked (sym eb i) (sym er i)) ∙ ap (λ (x : Bool). asked x (ranking n rs)) every_is

  pub open_short : open_tests n line items ≡ true → length items ≤ max_initial
  open_short h =
      leb-true (length items) max_initial (and_right (model.between 1 max_lines n && model.between 1 n line) (leb (length items) max_initial) h)

  -- the end that opens is all zeros
  module _ (e : Client) (ee : e ≡ store client.no_client) where
    -- refused, it stays so
    abbrev none : ℕ → Client → model.Answer Client
    none refusal d = record { refusal = refusal; end = d; report = model.no_report }

    pub open_no : open_tests n line items ≡ false → none 1 e ≡ opened n line rs items
    unfolding model.answer
    open_no h = ap (none 1) ee ∙ asked_is false (ranking n rs) h refl

    -- question 16 as the code found it
    module _ (ranked : Bool) (er : ranked ≡ ranking n rs) (t : open_tests n line items ≡ true) where
      pub open_unranked : ranked ≡ false → none 16 e ≡ opened n line rs items
      unfolding model.answer
      open_unranked f = ap (none 16) ee ∙ asked_is true false t (sym er ∙ f)

      -- the initial list goes into the words, and so do its origins
      pub open_yes : ranked ≡ true → (origins list places : List ℕ) (total : ℕ)
          → origins ≡ stored (origins_of (initial_places items)) → list ≡ initial_items items → places ≡ ranks.stored rs
          → total ≡ total_seconds (take (length items) items)
          → record { refusal = 0; end = numbered e n line (length items) total places (with_places e.words origins list); report = model.no_report }
          ≡ opened n line rs items
      unfolding model.answer
      open_yes h origins list places total eo el ep et =
          let start : client.Client = opening n line rs items in
          let most : length (initial_places items) ≤ max_items = omega (arith, initial_length items, open_short t) in
          let held : list ≡ stored (items_of (initial_places items)) =
          el ∙ ap stored (take_all max_initial items (open_short t) ∙ sym (initial_items_lem items)) in
          let long : length e.words ≡ size = ap length (words_zero e ee) in
          let names_long : length origins ≡ max_items = ap length eo ∙ names_long start most in
          let list_long : length list ≡ max_items = ap length held ∙ list_long start most in
          let written : with_places e.words origins list ≡ (store start).words =
          parts_are (with_places e.words origins list) (places_long e.words long origins list names_long list_long ∙ long)
          (stored (items_of (initial_places items))) (slots_of []) (stored (origins_of (initial_places items)))
          (places_items e.words long origins list names_long list_long ∙ held)
          (places_slots e.words long origins list names_long list_long ∙ ap slots_in (words_zero e ee) ∙ zero_slots)
          (places_origins e.words long origins list names_long list_long ∙ eo) in
          let seconds : total ≡ running_time (initial_places items) =
          et ∙ ap total_seconds (take_all (length items) items (omega arith)) ∙ sym (total_initial items) in
          (λ i. record { refusal = 0; end = numbered (ee i) n line (sym (initial_length items) i) (seconds i) (ep i) (written i); report = model.no_report })
          ∙ asked_is true true t (sym er ∙ h)

-- Opening: questions 1 and 16, and that the server which the code makes of zeros is the one of the definition.
use Prim.Native.Nat.{ℕ, zero, suc, ◌+◌, ◌-◌, ◌≤◌, ◌<◌}
use native.Mathlib.Omega.{arith}
use mathlib.Core.Path.{◌≡◌, refl, ap, sym, ◌∙◌, subst}
use mathlib.Core.Bool.{Bool, true, false, ◌&&◌, cond}
use mathlib.Core.List.{List, [], ◌∷◌}
use lib.Dec.{leb}
use lib.ListN.{length, get_or, take, replicate, length-replicate}
use lib.Seq.{take_all}
use borrow.Author.Tests.{leb-true, eqb-false, ne_eqb}
use borrow.Rule.Slice.PartMut.{put_mid}
use Rattle.std.specs.Prelude.{Ok, Err}
use Rattle.refusal.specs.declared.Refusal.{Refusal}
use Rattle.refusal.specs.Number.{number}
use Rattle.refusal.proofs.Some.{number_some}
use Rattle.limits.specs.Limits.{max_lines, max_items, max_initial, max_pending}
use Rattle.list.specs.declared.Origin.{Origin}
use Rattle.list.specs.Items.{stored, initial_items}
use Rattle.list.specs.Places.{initial_from, initial_places, origins_of}
use Rattle.list.specs.Parts.{part}
use Rattle.list.specs.Seconds.{total_seconds}
use Rattle.list.proofs.Pad.{pad_drop, pad_length}
use Rattle.list.proofs.Parts.{Wrote, wrote_part}
use Rattle.list.proofs.Places.{initial_items_lem, initial_length, origins_length}
use Rattle.model.specs.Questions as questions
use Rattle.model.specs.Questions.{asks, every, between, answer}
use Rattle.line.specs.Taking.{done_of}
use Rattle.model.specs.Ranks.{ranking}
use Rattle.model.specs.Line as line
use Rattle.model.specs.Server as model
use Rattle.model.proofs.Tests.{and_left, and_right}
use Rattle.ranks.specs.Stored as ranks
use Rattle.ranks.proofs.Laws.{stored_length}
use Rattle.pending.specs.Slots as pending
use Rattle.line.specs.declared.Line.{Line}
use Rattle.line.specs.Line.{counts_of}
use Rattle.line.proofs.Stored.{no_words}
use Rattle.server.specs.declared.Counts.{Counts}
use Rattle.server.specs.declared.Server.{Server}
use Rattle.server.specs.View.{size, origins, server_of, store}
use Rattle.server.specs.Answers.{given, opened}
use Rattle.server.specs.Opening.{open_asked, OpenWords}
use Rattle.server.proofs.Loops.{base, makers_base}
use Rattle.server.proofs.Rows.{Row, store_is}

-- ---- zeros

take_zeros : (n m : ℕ) → n ≤ m → take {A = ℕ} n (replicate m 0) ≡ replicate n 0
take_zeros zero m h = refl
take_zeros (suc n) zero h = absurd (omega arith)
take_zeros (suc n) (suc m) h = ap (λ (l : List ℕ). 0 ∷ l) (take_zeros n m (omega arith))

-- a part of words that are zero
pub zeros_part : (a n m : ℕ) (words : List ℕ) → words ≡ replicate m 0 → a + n ≤ m → part a n words ≡ replicate n 0
zeros_part a n m words e h =
    let all : m - 0 ≡ m = omega arith in
    ap (part a n) (e ∙ ap (λ (j : ℕ). replicate j 0) (sym all)) ∙ ap (take n) (pad_drop m 0 [] a (omega arith)) ∙ take_zeros n (m - a) (omega arith)

same_at : {A : Type 0} (n i : ℕ) (z : A) → get_or (replicate n z) i z ≡ z
same_at zero i z = refl
same_at (suc n) zero z = refl
same_at (suc n) (suc i) z = same_at n i z

-- ---- the initial list

module _ (items words : List ℕ) (short : length items ≤ max_initial) (blank : words ≡ replicate size 0) where
  pub words_long : length words ≡ size
  words_long = ap length blank ∙ length-replicate {A = ℕ} size 0

  module _ (x : List ℕ) (ex : x ≡ initial_items items) where
    list : x ≡ stored items
    list = ex ∙ ap stored (take_all max_initial items short)

    abbrev filled : List ℕ
    filled = put_mid 0 max_items words x

    w : Wrote 0 max_items x words filled
    w = wrote_part 0 max_items x words (omega (arith, words_long)) (ap length list ∙ pad_length max_items 0 items (omega arith))

    -- the items were written into the first words
    pub filled_long : length (put_mid 0 max_items words x) ≡ size
    filled_long = w.long ∙ words_long

    behind : (b n : ℕ) → max_items ≤ b → b + n ≤ size → part b n filled ≡ replicate n 0
    behind b n h t = w.behind b n h ∙ zeros_part b n size words blank t

    pub origins_blank : part origins max_items (put_mid 0 max_items words x) ≡ replicate max_items 0
    origins_blank = behind origins max_items (omega arith) (omega arith)

    -- and their origins
    pub open_words : (y : List ℕ) → y ≡ stored (origins_of (initial_places items)) → OpenWords items (put_mid origins max_items (put_mid 0 max_items words x) y)
    open_words y ey =
        let long = ap length ey ∙ pad_length max_items 0 (origins_of (initial_places items))
        (omega (arith, origins_length (initial_places items), initial_length items)) in
        let v = wrote_part origins max_items y filled (omega (arith, filled_long)) long in
        record {
          items = v.before 0 max_items (omega arith) ∙ w.here ∙ list;
          origins = v.here ∙ ey;
          slots = λ i h. v.before (base i) pending.size (omega arith) ∙ behind (base i) pending.size (omega arith) (omega arith);
          makers = λ i h. v.behind (makers_base i) max_pending (omega arith) ∙ behind (makers_base i) max_pending (omega arith) (omega arith);
          long = v.long ∙ filled_long;
        }

-- ---- a server over whose lines nothing has come

abbrev pub fresh : ℕ → List ℕ → ℕ → ℕ → Counts
fresh n ranks len total =
    record { n = n; initial = len; len = len; total = total; ranks = ranks; lines = replicate max_lines (counts_of line.no_line) }

module _ (n : ℕ) (few : n ≤ max_lines) (rs places : List ℕ) (kept : places ≡ ranks.stored rs) (items words : List ℕ) (w : OpenWords items words)
    (total : ℕ) (summed : total ≡ total_seconds items) where
  abbrev new : model.Server
  new =
      record {
        n = n;
        initial = length items;
        ranks = rs;
        items = initial_places items;
        lines = replicate n line.no_line;
        makers = replicate n [];
      }

  abbrev k : Counts
  k = fresh n places (length items) total

  row : (i : ℕ) → i < max_lines → Row k words i line.no_line []
  row i h = record { counts = same_at max_lines i (counts_of line.no_line); slots = w.slots i h ∙ sym no_words; makers = w.makers i h }

  fresh_is : server_of (fresh n places (length items) total) words ≡ store new
  fresh_is =
      store_is new (omega (arith, length-replicate n line.no_line)) (omega (arith, length-replicate {A = List Origin} n [])) k words
      (record { words = w.long; lines = refl; ranks = ap length kept ∙ stored_length rs })
      (record {
        n = refl;
        initial = refl;
        len = sym (initial_length items);
        total = summed ∙ ap total_seconds (sym (initial_items_lem items));
        ranks = kept;
        items = w.items ∙ ap stored (sym (initial_items_lem items));
        origins = w.origins;
        rows = λ i h. subst (λ (v : line.Line). Row k words i v (get_or (replicate n []) i [])) (sym (same_at n i line.no_line))
            (subst (Row k words i line.no_line) (sym (same_at {A = List Origin} n i [])) (row i h));
      })

-- ---- questions 1 and 16

module _ (n : ℕ) (rs : List ℕ) (items : ℕ) where
  abbrev open_test : Bool
  open_test = (leb 1 n && leb n 8) && leb items 128

  -- both said yes
  asked_test : open_asked n rs items ≡ 0 → open_test ≡ true
  asked_test z = go open_test refl z
    where
      go : (b : Bool) → open_test ≡ b → cond {A = ℕ} b (cond (ranking n rs) 0 16) 1 ≡ 0 → open_test ≡ true
      go true e u = e
      go false e u = absurd (eqb-false 1 0 refl u)

  pub asked_short : open_asked n rs items ≡ 0 → items ≤ 128
  asked_short z = leb-true items 128 (and_right (leb 1 n && leb n 8) (leb items 128) (asked_test z))

  asked_few : open_asked n rs items ≡ 0 → n ≤ 8
  asked_few z = leb-true n 8 (and_right (leb 1 n) (leb n 8) (and_left (leb 1 n && leb n 8) (leb items 128) (asked_test z)))

-- ---- the answer

module _ (n : ℕ) (rs items : List ℕ) where
  abbrev q : ℕ
  q = open_asked n rs (length items)

  asked : asks (model.open_server_questions n rs items) ≡ q
  asked = ap (λ (t : Bool). cond {A = ℕ} t (cond (ranking n rs) 0 16) 1) (group (between 1 max_lines n) (leb (length items) max_initial))
    where
      group : (a c : Bool) → every (a ∷ c ∷ []) ≡ (a && c)
      group true true = refl
      group true false = refl
      group false c = refl

  abbrev next : model.Server
  next =
      record {
        n = n;
        initial = length items;
        ranks = rs;
        items = initial_places items;
        lines = replicate n line.no_line;
        makers = replicate n [];
      }

  abbrev opened_by : ℕ → questions.Answer Server
  opened_by r = given (store model.no_server) (answer r model.no_server next questions.no_report)

  pub open_done : (places words : List ℕ) (total : ℕ) (lines : List Line) → 0 ≡ open_asked n rs (length items) → OpenWords items words
      → places ≡ ranks.stored rs → total ≡ total_seconds (take (length items) items) → lines ≡ replicate max_lines (counts_of line.no_line)
      → done_of (Ok tt) (server_of (record { n = n; initial = length items; len = length items; total = total; ranks = places; lines = lines }) words) ≡ opened n rs items
  unfolding model.open_server answer
  open_done places words total lines z w p summed el =
      ap (λ (l : List Line). done_of (Ok tt) (server_of (record { n = n; initial = length items; len = length items; total = total; ranks = places; lines = l }) words)) el
      ∙ ap (λ (s : Server). done_of (Ok tt) s) (fresh_is n (asked_few n rs (length items) (sym z)) rs places p items words w total (summed ∙ ap total_seconds (take_all (length items) items (omega arith))))
      ∙ sym (ap opened_by (asked ∙ sym z))

  -- a refused server is all zeros
  pub open_refused : (s : Server) (r : Refusal) → s ≡ store model.no_server → number r ≡ open_asked n rs (length items) → done_of (Err r) s ≡ opened n rs items
  unfolding model.open_server answer
  open_refused s r es e =
      ap (λ (x : Server). done_of (Err r) x) es ∙ refused_by_lem (number r) (number_some r) ∙ sym (ap opened_by (asked ∙ sym e))
    where
      refused_by_lem : (q₀ : ℕ) → (q₀ ≡ 0 → ⊥) → record { refusal = q₀; end = store model.no_server; report = questions.no_report } ≡ opened_by q₀
      refused_by_lem q₀ h = simp (ne_eqb q₀ 0 h)

-- all zeros
pub empty_is : (words : List ℕ) → words ≡ replicate size 0 → server_of (fresh 0 (replicate max_lines 0) 0 0) words ≡ store model.no_server
unfolding initial_from total_seconds
empty_is words blank =
    fresh_is 0 (omega arith) [] (replicate max_lines 0) refl [] words
    (record {
      items = zeros_part 0 max_items size words blank (omega arith);
      origins = zeros_part origins max_items size words blank (omega arith);
      slots = λ i h. zeros_part (base i) pending.size size words blank (omega arith);
      makers = λ i h. zeros_part (makers_base i) max_pending size words blank (omega arith);
      long = ap length blank ∙ length-replicate {A = ℕ} size 0;
    })
    0 refl

pub no_words_lem : (store model.no_server).words ≡ replicate size 0
no_words_lem = sym (ap (λ (s : Server). s.words) (empty_is (replicate size 0) refl))

pub no_lines_lem : (store model.no_server).counts.lines ≡ replicate max_lines (counts_of line.no_line)
no_lines_lem = sym (ap (λ (s : Server). s.counts.lines) (empty_is (replicate size 0) refl))

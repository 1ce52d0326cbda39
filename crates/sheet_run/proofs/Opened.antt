-- The first line: opening the ends, and the whole output by the place of its end.
use Prim.Native.Nat.{ℕ, zero, suc, ◌+◌, ◌<◌, ◌≤◌}
use mathlib.Core.Path.{◌≡◌, refl, sym, ap, ap₂, ◌∙◌, subst}
use mathlib.Core.Bool.{Bool, true, false, ◌&&◌, cond}
use mathlib.Core.List.{List, [], ◌∷◌, ◌++◌}
use native.Mathlib.Omega.{arith}
use borrow.Author.Tests.{lt-leb, leb-true, leb-false, eq-eqb, ne_eqb, lt-ltb, le-ltb, ltb-true, ltb-false}
use lib.Dec.{leb, ltb, eqb}
use lib.ListN.{length, take, drop}
use lib.Seq.{take_all, length-take-le}
use Rattle.limits.specs.Limits.{max_lines, max_initial}
use Rattle.model.specs.Questions.{between, no_report, answer, Answer}
use Rattle.model.specs.Ranks.{count_from, line_ranks}
use Rattle.model.specs.Server as models
use Rattle.client.specs.declared.Client.{Client}
use Rattle.server.specs.declared.Server.{Server}
use Rattle.server.specs.View.{store}
use Rattle.server.specs.Answers.{given}
use Rattle.server.specs.Answers as servers
use Rattle.std.proofs.Common.{Option}
use Rattle.std.specs.Prelude.{Ok, Err, ⊤}
use Rattle.refusal.specs.declared.Refusal.{Refusal}
use Rattle.refusal.specs.Number.{number}
use Rattle.refusal.proofs.Some.{number_some}
use Rattle.sheet_text.specs.declared.first.First.{First}
use Rattle.sheet_text.specs.Text.{before, lines_of, parts, same}
use Rattle.sheet_text.specs.Opening.{Opening, none, sheet, opening_of, held, cut, max_held, Reads}
use Rattle.sheet_text.proofs.Texts.{lines_first}
use Rattle.sheet_print.specs.Sink.{Sink, puts}
use Rattle.sheet_print.specs.Lines.{replied}
use Rattle.sheet_print.proofs.Sinks.{then}
use Rattle.sheet_ends.specs.Bench.{Bench, SoundBench, open_bench}
use Rattle.sheet_ends.specs.declared.Ends.{Ends}
use Rattle.sheet_ends.specs.Ends.{store_ends, view_ends, opening, Whole}
use Rattle.sheet_ends.specs.Orders.{Done, done_of, opened}
use Rattle.sheet_ends.proofs.Benches as benches
use Rattle.sheet_ends.proofs.Wholes.{store_whole, bench_view}
use Rattle.sheet_ends.proofs.Opened.{opening_all}
use Rattle.sheet_run.specs.Output.{ran, started, printed, long, max_input, output}

and_none : (a : Bool) → (a && false) ≡ false
and_none true = refl
and_none false = refl

-- ---- the ranks that are lent: the first of those of eight lines

count_take : (l k m : ℕ) → k ≤ m → take k (count_from l m) ≡ count_from l k
count_take l zero m h = refl
count_take l (suc k) zero h = absurd (omega arith)
count_take l (suc k) (suc m) h = ap (λ (r : List ℕ). l ∷ r) (count_take (suc l) k m (omega arith))

-- with n past eight, question 1 says no before the ranks are asked
past_eight : (n : ℕ) (ranks items : List ℕ) → max_lines < n → models.open_server n ranks items ≡ record { refusal = 1; end = models.no_server; report = no_report }
unfolding models.open_server answer
past_eight n ranks items h = rw (lt-leb n max_lines h, and_none (leb 1 n))

module _ (n : ℕ) (all : List ℕ) (lent : ℕ) (numbers : all ≡ line_ranks max_lines) (few : n ≤ max_lines → lent ≡ n) where
  lent_is : n ≤ max_lines → take lent all ≡ line_ranks n
  lent_is h = ap₂ (λ (k : ℕ) (l : List ℕ). take k l) (few h) numbers ∙ count_take 1 n max_lines h

  opens_same : (items : List ℕ) → models.open_server n (take lent all) items ≡ models.open_server n (line_ranks n) items
  opens_same items = go (leb n max_lines) refl
    where
      go : (t : Bool) → leb n max_lines ≡ t → models.open_server n (take lent all) items ≡ models.open_server n (line_ranks n) items
      go true e = ap (λ (ranks : List ℕ). models.open_server n ranks items) (lent_is (leb-true n max_lines e))
      go false e =
          let h = leb-false n max_lines e in
          past_eight n (take lent all) items h ∙ sym (past_eight n (line_ranks n) items h)

-- ---- what opening the ends leaves

module _ (n : ℕ) (items all : List ℕ) (lent : ℕ) (numbers : all ≡ line_ranks max_lines) (few : n ≤ max_lines → lent ≡ n)
    (e₀ e : Ends) where
  abbrev of_lines : Answer models.Server
  of_lines = models.open_server n (line_ranks n) items

  same_refusal : (models.open_server n (take lent all) items).refusal ≡ of_lines.refusal
  same_refusal = ap (λ (x : Answer models.Server). x.refusal) (opens_same n all lent numbers few items)

  pub started_off : (r : Refusal) → done_of (Err r) e ≡ opened e₀ n (take lent all) items → (k : ℕ) → k ≡ number r → (ls : List (List ℕ)) (s₀ : Sink) {s₁ : Sink}
      → s₁ ≡ puts (replied k) s₀ → s₁ ≡ puts (started (sheet n items) ls) s₀
  started_off r p k pk ls s₀ q =
      let is : number r ≡ of_lines.refusal = ap (λ (x : Done). x.refusal) p ∙ same_refusal in
      q ∙ ap (λ (k : ℕ). puts (replied k) s₀) (pk ∙ is) ∙ rw (ne_eqb of_lines.refusal 0 (λ z. number_some r (is ∙ z)))

  module _ (x : ⊤) (p : done_of (Ok x) e ≡ opened e₀ n (take lent all) items) where
    z : of_lines.refusal ≡ 0
    z = sym (ap (λ (x : Done). x.refusal) p ∙ same_refusal)

    server_opened : (servers.opened n (take lent all) items).end ≡ store of_lines.end
    server_opened =
        ap (λ (a : Answer models.Server). (given (store models.no_server) a).end) (opens_same n all lent numbers few items) ∙ rw (eq-eqb of_lines.refusal 0 z)

    fine : (1 ≤ n) × (n ≤ max_lines) × (length items ≤ max_initial)
    fine = benches.opened n (line_ranks n) items z

    sound : SoundBench (open_bench n items)
    sound = benches.open_sound n items fine.0 fine.1 fine.2

    clients_opened : cond (eqb (models.open_server n (take lent all) items).refusal 0) (opening n (take lent all) items 1 max_lines) e₀.clients
        ≡ (store_ends (open_bench n items)).clients
    clients_opened =
        ap (λ (t : Bool). cond t (opening n (take lent all) items 1 max_lines) e₀.clients)
        (eq-eqb (models.open_server n (take lent all) items).refusal 0 (same_refusal ∙ z))
        ∙ ap (λ (ranks : List ℕ). opening n ranks items 1 max_lines) (lent_is n all lent numbers few fine.1) ∙ opening_all n items fine.1

    stored : e ≡ store_ends (open_bench n items)
    stored = ap (λ (x : Done). x.ends) p ∙ ap₂ (λ (s : Server) (cs : List Client). record { server = s; clients = cs }) server_opened clients_opened

    pub opened_whole : Whole e
    opened_whole = subst Whole (sym stored) (store_whole (open_bench n items) sound)

    pub started_on : (ls : List (List ℕ)) (s₀ : Sink) {s₁ s₂ : Sink} → s₁ ≡ puts (replied 0) s₀ → s₂ ≡ puts (ran (view_ends e) ls) s₁ → s₂ ≡ puts (started (sheet n items) ls) s₀
    started_on ls s₀ q r =
        then (replied 0) (ran (view_ends e) ls) s₀ q r
        ∙ ap (λ (b : Bench). puts (replied 0 ++ ran b ls) s₀) (ap view_ends stored ∙ bench_view (open_bench n items) sound)
        ∙ rw (eq-eqb of_lines.refusal 0 z)

-- ---- the whole output, by the place of the first line's end

too_many : (n : ℕ) (ranks items : List ℕ) → 128 < length items → (models.open_server n ranks items).refusal ≡ 1
unfolding models.open_server answer
too_many n ranks items h = rw (lt-leb (length items) max_initial h, and_none (between 1 max_lines n))

cut_started : (o : Opening) (ls : List (List ℕ)) → started (cut o) ls ≡ started o ls
cut_started none ls = refl
cut_started (sheet n items) ls = go (leb (length items) max_held) refl
  where
    go : (t : Bool) → leb (length items) max_held ≡ t → started (sheet n (take max_held items)) ls ≡ started (sheet n items) ls
    go true e = ap (λ l. started (sheet n l) ls) (take_all max_held items (leb-true (length items) max_held e))
    go false e =
        let large : max_held < length items = leb-false (length items) max_held e in
        let kept : length (take max_held items) ≡ max_held = length-take-le max_held items (omega arith) in
        rw (too_many n (line_ranks n) items (omega arith), too_many n (line_ranks n) (take max_held items) (omega arith))

take_none : (k : ℕ) → take {A = ℕ} k [] ≡ []
take_none zero = refl
take_none (suc k) = refl

printed_empty : (s : List ℕ) (e : ℕ) → length s ≤ 0 → started (opening_of (take e s)) (lines_of (drop (e + 1) s)) ≡ printed (lines_of s)
unfolding opening_of parts same
printed_empty [] e h = ap (λ l. started (opening_of l) (lines_of (drop (e + 1) []))) (take_none e)
printed_empty (x ∷ s) e h = absurd (omega arith)

module _ (s : List ℕ) (e : ℕ) (p : e ≡ length (before 10 s)) where
  pub printed_is : started (opening_of (take e s)) (lines_of (drop (e + 1) s)) ≡ printed (lines_of s)
  printed_is = go (ltb 0 (length s)) refl
    where
      go : (t : Bool) → ltb 0 (length s) ≡ t → started (opening_of (take e s)) (lines_of (drop (e + 1) s)) ≡ printed (lines_of s)
      go true q = sym (ap printed (lines_first s e (ltb-true 0 (length s) q) p))
      go false q = printed_empty s e (ltb-false 0 (length s) q)

  pub output_is : (f : Option First) → length s ≤ max_input → Reads (opening_of (take e s)) f → started (held f) (lines_of (drop (e + 1) s)) ≡ output s
  unfolding output
  output_is f h r =
      ap (λ o. started o (lines_of (drop (e + 1) s))) r ∙ cut_started (opening_of (take e s)) (lines_of (drop (e + 1) s)) ∙ printed_is
      ∙ rw (le-ltb max_input (length s) h)

pub output_long : (s : List ℕ) → max_input < length s → long ≡ output s
unfolding output
output_long s h = rw (lt-ltb max_input (length s) h)

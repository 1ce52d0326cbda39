-- One line of the run program, on the ends.
use Prim.Native.Nat.{ℕ, ◌≤◌}
use mathlib.Core.Path.{◌≡◌, refl, sym, ap, ◌∙◌, subst}
use mathlib.Core.Bool.{Bool, true, false, ◌&&◌, cond}
use mathlib.Core.List.{List, [], ◌∷◌, ◌++◌}
use native.Mathlib.Omega.{arith}
use lib.ListN.{length, drop}
use lib.Dec.{leb, ltb}
use Rattle.model.proofs.Tests.{between_true}
use Rattle.server.specs.View as server
use Rattle.std.proofs.Common.{Option, Some, None}
use Rattle.std.specs.Prelude.{Result, ⊤}
use Rattle.refusal.specs.declared.Refusal.{Refusal}
use Rattle.refusal.specs.Number.{refused_by}
use Rattle.sheet_text.specs.declared.Order.{Order}
use Rattle.sheet_text.specs.declared.Line.{Line}
use Rattle.sheet_text.specs.Order.{coded, Next}
use Rattle.sheet_text.specs.Text.{before, lines_of, words_of, same}
use Rattle.sheet_text.specs.Command.{Command, Bad, Insert, Delete, Up, Down, Ack, Told, with_one, after_number, verb_of, spoken, command_of, ack_word, told_word, del_word, up_word, down_word, ins_word}
use Rattle.sheet_text.proofs.Texts.{lines_none}
use Rattle.sheet_print.specs.Sink.{Sink, sink, puts}
use Rattle.sheet_print.specs.Decimal.{number_of, too_wide}
use Rattle.sheet_print.specs.Lines.{unknown, replied}
use Rattle.sheet_print.proofs.Sinks.{both, puts_append}
use Rattle.sheet_ends.specs.declared.Ends.{Ends}
use Rattle.sheet_ends.specs.Bench.{Bench, SoundBench, step}
use Rattle.sheet_ends.specs.Ends.{view_ends, store_ends, Whole}
use Rattle.sheet_ends.specs.Orders.{Done, Placed, done_of, ordered}
use Rattle.sheet_ends.proofs.Benches.{step_sound}
use Rattle.sheet_ends.proofs.Wholes.{bench_view, store_whole, lines_few}
use Rattle.sheet_ends.proofs.Steps.{Within, store_step, ordered_is}
use Rattle.sheet_run.specs.Output.{understood, replies, lists, ran}

-- ---- the line of a command that was read is one of 1 to n

module _ (n l : ℕ) (low : 1 ≤ l) (high : l ≤ n) where
  one_within : (w : List ℕ) (k : ℕ) → Within n (with_one l w k)
  one_within w k =
      both (Within n) (ltb k 65536) _ Bad
      (both (Within n) (same w del_word) _ _ (low, high) (both (Within n) (same w up_word) _ _ (low, high) (both (Within n) (same w down_word) _ _ (low, high) tt))) tt

  number_within : (w : List ℕ) (k : ℕ) (ws : List (List ℕ)) → Within n (after_number l w k ws)
  number_within w k [] = one_within w k
  number_within w k (x ∷ []) = both (Within n) (ltb k 65536 && ltb (number_of x) too_wide && same w ins_word) (Insert l k (number_of x)) Bad (low, high) tt
  number_within w k (x ∷ y ∷ ws) = tt

  verb_within : (ws : List (List ℕ)) → Within n (verb_of l ws)
  verb_within [] = tt
  verb_within (w ∷ []) = both (Within n) (same w ack_word) _ _ (low, high) (both (Within n) (same w told_word) _ _ (low, high) tt)
  verb_within (w ∷ k ∷ ws) = number_within w (number_of k) ws

spoken_within : (n : ℕ) (ws : List (List ℕ)) → Within n (spoken n ws)
spoken_within n [] = tt
spoken_within n (w ∷ ws) = go (leb 1 (number_of w) && leb (number_of w) n) refl
  where
    go : (t : Bool) → (leb 1 (number_of w) && leb (number_of w) n) ≡ t → Within n (cond t (verb_of (number_of w) ws) Bad)
    go true e = let b = between_true 1 n (number_of w) e in verb_within n (number_of w) b.0 b.1 ws
    go false e = tt

command_within : (n : ℕ) (line : List ℕ) → Within n (command_of n line)
unfolding command_of
command_within n line = spoken_within n (words_of line)

-- ---- a command by its order, if it has one

heard : (c : Command) (o : Order) → coded c ≡ Some o → understood c ≡ true
unfolding coded understood
heard Bad o p = cc
heard (Insert l q x) o p = refl
heard (Delete l q) o p = refl
heard (Up l k) o p = refl
heard (Down l k) o p = refl
heard (Ack l) o p = refl
heard (Told l) o p = refl

unheard : (c : Command) → coded c ≡ None → c ≡ Bad
unfolding coded
unheard Bad p = refl
unheard (Insert l q x) p = cc
unheard (Delete l q) p = cc
unheard (Up l k) p = cc
unheard (Down l k) p = cc
unheard (Ack l) p = cc
unheard (Told l) p = cc

few_by : (n : ℕ) (a o : Order) → ◌≡◌ {A = Option Order} (Some a) (Some o) → (1 ≤ a.line) × (a.line ≤ n) → (1 ≤ o.line) × (o.line ≤ n)
few_by n a o p h = let q : a ≡ o = cc in rw q at h

line_few : (n : ℕ) (c : Command) (o : Order) → coded c ≡ Some o → Within n c → (1 ≤ o.line) × (o.line ≤ n)
unfolding coded
line_few n Bad o p h = cc
line_few n (Insert l q x) o p h = few_by n _ o p h
line_few n (Delete l q) o p h = few_by n _ o p h
line_few n (Up l k) o p h = few_by n _ o p h
line_few n (Down l k) o p h = few_by n _ o p h
line_few n (Ack l) o p h = few_by n _ o p h
line_few n (Told l) o p h = few_by n _ o p h

-- ---- one line

-- the ends are whole, and what is left to print completes z
pub record Running (input out : List ℕ) (i to : ℕ) (e : Ends) (z : Sink) : Type 0 where
  pub whole : Whole e
  pub rest : puts (ran (view_ends e) (lines_of (drop i input))) (sink out to) ≡ z

module _ (input out : List ℕ) (i to : ℕ) (e : Ends) (z : Sink) (g : Running input out i to e z) where
  abbrev B : Bench
  B = view_ends e

  w : Whole e
  w = g.whole

  module _ (r : Line) (p : Next input i e.server.counts.n r) where
    abbrev said : Command
    said = command_of e.server.counts.n (before 10 (drop i input))

    within : Within e.server.counts.n said
    within = command_within e.server.counts.n (before 10 (drop i input))

    ran_line : ran B (lines_of (drop i input)) ≡ replies said (step B said).refusal ++ ran (step B said).bench (lines_of (drop r.after input))
    unfolding ran server.view
    ran_line = ap (ran B) p.lines

    sound : SoundBench (step B said).bench
    sound = step_sound B w.sound said

    -- what is left to print, once the answer stands there
    stepped : (out' : List ℕ) (to' : ℕ) → sink out' to' ≡ puts (replies said (step B said).refusal) (sink out to)
        → puts (ran (step B said).bench (lines_of (drop r.after input))) (sink out' to') ≡ z
    stepped out' to' q =
        ap (puts (ran (step B said).bench (lines_of (drop r.after input)))) q
        ∙ sym (puts_append (replies said (step B said).refusal) (ran (step B said).bench (lines_of (drop r.after input))) (sink out to))
        ∙ ap (λ (l : List ℕ). puts l (sink out to)) (sym ran_line) ∙ g.rest

    -- an unknown line leaves the ends as they were
    pub running_bad : r.order ≡ None → (out' : List ℕ) (to' : ℕ) → sink out' to' ≡ puts unknown (sink out to) → Running input out' r.after to' e z
    unfolding understood step
    running_bad h out' to' q =
        let b : said ≡ Bad = unheard said (sym p.order ∙ h) in
        record {
          whole = w;
          rest =
              ap (λ (c : Command). puts (ran (step B c).bench (lines_of (drop r.after input))) (sink out' to')) (sym b)
              ∙ stepped out' to' (q ∙ ap (λ (c : Command). puts (replies c (step B c).refusal) (sink out to)) (sym b));
        }

    module _ (o : Order) (po : r.order ≡ Some o) where
      said_so : coded said ≡ Some o
      said_so = sym p.order ∙ po

      pub order_placed : Placed o
      order_placed = let f = line_few e.server.counts.n said o said_so within in let n = lines_few e w in (omega arith, omega arith)

      pub running_turn : (t : Result ⊤ Refusal) (e' : Ends) → done_of t e' ≡ ordered e o
          → (k : ℕ) → k ≡ refused_by t → (out' : List ℕ) (to' : ℕ) → sink out' to' ≡ puts (replied k) (sink out to) → Running input out' r.after to' e' z
      running_turn t e' pd k pk out' to' q =
          let done : done_of t e' ≡ store_step (step B said) = pd ∙ ordered_is e w said o said_so within in
          let ends : e' ≡ store_ends (step B said).bench = ap (λ (x : Done). x.ends) done in
          record {
            whole = subst Whole (sym ends) (store_whole (step B said).bench sound);
            rest =
                ap (λ (b : Bench). puts (ran b (lines_of (drop r.after input))) (sink out' to')) (ap view_ends ends ∙ bench_view (step B said).bench sound)
                ∙ stepped out' to'
                (q ∙ ap (λ (j : ℕ). puts (replied j) (sink out to)) pk
                ∙ ap (λ (u : Bool). puts (cond u (replied (refused_by t)) unknown) (sink out to)) (sym (heard said o said_so))
                ∙ ap (λ (x : Done). puts (replies said x.refusal) (sink out to)) done);
          }

  pub running_end : length input ≤ i → (y : Sink) → y ≡ puts (lists B) (sink out to) → y ≡ z
  unfolding ran
  running_end h y q = q ∙ ap (λ (l : List (List ℕ)). puts (ran B l) (sink out to)) (sym (lines_none input i h)) ∙ g.rest

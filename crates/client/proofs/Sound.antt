-- Question 2: what the code tests is the definition, and what a sound client is.
use Prim.Native.Nat.{ℕ, ◌-◌, ◌≤◌}
use native.Mathlib.Omega.{arith}
use mathlib.Core.Path.{◌≡◌, refl, ap, ◌∙◌, sym}
use mathlib.Core.Bool.{Bool, true, false, ◌&&◌, and-true, and_assoc}
use mathlib.Core.List.{List, [], ◌∷◌}
use lib.Dec.{leb, eqb}
use lib.ListN.{length, take, drop}
use lib.Seq.{length-take-le}
use borrow.Author.Tests.{leb-true, le-leb, eqb-true}
use Rattle.limits.specs.Limits.{max_lines, max_others, max_items}
use Rattle.list.specs.Items.{stored, all_zero}
use Rattle.list.specs.Places.{items_of, origins_of}
use Rattle.list.specs.Seconds.{total_seconds, running_time}
use Rattle.list.proofs.Items.{stored_of}
use Rattle.list.proofs.Places.{places_length, places_items, places_origins, places_numbered}
use Rattle.model.specs.Questions.{every, between}
use Rattle.model.specs.Ranks.{rank_of, ranking}
use Rattle.model.specs.Inverse.{sound_inverse}
use Rattle.model.specs.Line.{line_tests}
use Rattle.model.specs.Client.{own_rank, client_tests, sound_client}
use Rattle.model.proofs.Tests.{never, both, and_left, and_right, between_true, hold, held, bool_ext}
use Rattle.ranks.specs.Stored as ranks
use Rattle.ranks.proofs.Laws.{take_rank, sound_ranking, sound_zero, sound_stored}
use Rattle.pending.specs.Slots.{slots_of}
use Rattle.line.specs.Line.{line_of, Kept}
use Rattle.line.specs.Sound.{tidy, sound_line}
use Rattle.line.proofs.SoundWords.{sound_kept}
use Rattle.client.specs.declared.Counts.{Counts}
use Rattle.client.specs.declared.Client.{Client}
use Rattle.client.specs.View.{size, items_in, slots_in, origins_in, client_of, inverse_stored, inverse_tidy, view, unused_zero, list_right, store, sound_tests, sound, Sound}
use Rattle.client.proofs.Words.{items_long, slots_long, origins_long, parts_are}
use Rattle.client.proofs.Inverses.{tidy_stored}

-- a line of the sheet has the same rank in its places as among the ranks of the sheet
pub own_rank_lem : (c : Client) → between 1 c.counts.n c.counts.line ≡ true → own_rank (view c) ≡ rank_of c.counts.ranks c.counts.line
own_rank_lem c h =
    let b = between_true 1 c.counts.n c.counts.line h in
    take_rank c.counts.n c.counts.ranks c.counts.line b.0 b.1

pub sound_rank : (c : Client) → sound c ≡ true → own_rank (view c) ≡ rank_of c.counts.ranks c.counts.line
unfolding sound sound_client
sound_rank c h = own_rank_lem c (hold (client_tests (view c)) (hold (sound_tests c) h).0).1.0

pub sound_tidy : (c : Client) → sound c ≡ true → inverse_tidy c.counts.inverse ≡ true
unfolding sound
sound_tidy c h = (hold (sound_tests c) h).1.1.1.1.1.0

-- the lengths that the type of a client gives
pub record Sizes (c : Client) : Type 0 where
  pub words : length c.words ≡ size
  pub ranks : length c.counts.ranks ≡ max_lines

module _ (c : Client) (z : Sizes c) where
  abbrev k : Counts
  k = c.counts

  abbrev items : List ℕ
  items = items_in c.words

  abbrev slots : List ℕ
  slots = slots_in c.words

  abbrev origins : List ℕ
  origins = origins_in c.words

  abbrev rank : ℕ
  rank = rank_of k.ranks k.line

  abbrev line_sound : ℕ → Bool
  line_sound r = sound_line k.own.made (eqb r) k.own slots

  abbrev back_sound : ℕ → Bool
  back_sound r = sound_inverse r k.own.made (view c).inverse && inverse_tidy k.inverse

  -- what the code tests: how many lines there are, and behind it the rest
  abbrev rest : List Bool
  rest =
      between 1 k.n k.line
      ∷ leb k.len max_items
      ∷ leb k.own.taken max_others
      ∷ ranks.sound_ranks k.n k.ranks
      ∷ list_right k.len k.total c.words
      ∷ back_sound rank
      ∷ line_sound rank
      ∷ []

  abbrev tests : List Bool
  tests = between 1 max_lines k.n ∷ rest

  -- the first len items and the first len origins are the places
  module _ (few : k.len ≤ max_items) where
    items_taken : length (take k.len items) ≡ k.len
    items_taken = length-take-le k.len items (omega (arith, items_long c.words z.words))

    both_taken : length (take k.len items) ≡ length (take k.len origins)
    both_taken = items_taken ∙ sym (length-take-le k.len origins (omega (arith, origins_long c.words z.words)))

    listed : length (view c).items ≡ k.len
    listed = places_length (take k.len items) (take k.len origins) both_taken ∙ items_taken

    -- the sum over the first len items is the running time
    places_sum : total_seconds (take k.len items) ≡ running_time (view c).items
    places_sum = ap total_seconds (sym (places_items (take k.len items) (take k.len origins) both_taken))

    module _ (zero : unused_zero k.len c.words ≡ true) where
      abbrev behind : List ℕ → Bool
      behind l = all_zero (drop k.len l)

      items_stored : items ≡ stored (items_of (view c).items)
      items_stored =
          stored_of items k.len (items_long c.words z.words) few (and_left (behind items) (behind origins) zero)
          ∙ ap stored (sym (places_items (take k.len items) (take k.len origins) both_taken))

      origins_stored : origins ≡ stored (origins_of (view c).items)
      origins_stored =
          stored_of origins k.len (origins_long c.words z.words) few (and_right (behind items) (behind origins) zero)
          ∙ ap stored (sym (places_origins (take k.len items) (take k.len origins) both_taken))

  -- the list's two tests: the unused places, and the total by its items
  abbrev unused : Bool
  unused = unused_zero k.len c.words

  abbrev totalled : Bool
  totalled = eqb k.total (total_seconds (take k.len items))

  -- the tests of the line, at a rank
  abbrev line_tested : ℕ → List Bool
  line_tested r = line_tests k.own.made (eqb r) (line_of k.own slots)

  abbrev tidied : Bool
  tidied = tidy (k.own.made - k.own.acked) slots

  line_tests_lem : (r : ℕ) → line_sound r ≡ (every (line_tested r) && tidied)
  unfolding sound_line
  line_tests_lem r = refl

  tested_sound : every tests ≡ true → sound c ≡ true
  unfolding sound sound_client
  tested_sound h =
      let t = hold tests h in
      let len : k.len ≤ max_items = leb-true k.len max_items t.1.1.0 in
      let right = t.1.1.1.1.0 in
      let zero : unused ≡ true = and_left unused totalled t.1.1.1.1.1.0 in
      let l : (every (line_tested (own_rank (view c))) && tidied) ≡ true =
      sym (line_tests_lem (own_rank (view c))) ∙ ap line_sound (own_rank_lem c t.1.0) ∙ t.1.1.1.1.1.1.1.0 in
      let i : back_sound (own_rank (view c)) ≡ true = ap back_sound (own_rank_lem c t.1.0) ∙ t.1.1.1.1.1.1.0 in
      let back : Bool = sound_inverse (own_rank (view c)) k.own.made (view c).inverse in
      let m : every (client_tests (view c)) ≡ true =
      held (client_tests (view c)) (
        t.0,
        (
          t.1.0,
          (
            sound_ranking k.n k.ranks right,
            (
              le-leb (length (view c).items) max_items (omega (arith, listed len)),
              (
                places_numbered (take k.len items) (take k.len origins),
                (
                  t.1.1.1.0,
                  (
                    and_left back (inverse_tidy k.inverse) i,
                    hold (line_tested (own_rank (view c))) (and_left (every (line_tested (own_rank (view c)))) tidied l),
                  ),
                ),
              ),
            ),
          ),
        ),
      ) in
      held (sound_tests c) (
        m,
        (
          t.1.1.0,
          (
            sound_zero k.n k.ranks right,
            (
              zero,
              (
                ap (eqb k.total) (sym (places_sum len)) ∙ and_right unused totalled t.1.1.1.1.1.0,
                (and_right back (inverse_tidy k.inverse) i, (and_right (every (line_tested (own_rank (view c)))) tidied l, tt)),
              ),
            ),
          ),
        ),
      )

  sound_ranks_lem : sound c ≡ true → ranks.sound_ranks k.n k.ranks ≡ true
  unfolding sound sound_client ranks.sound_ranks
  sound_ranks_lem h =
      let f = hold (sound_tests c) h in
      both (ranking k.n (take k.n k.ranks)) (all_zero (drop k.n k.ranks)) (hold (client_tests (view c)) f.0).1.1.0 f.1.1.0

  sound_back : sound c ≡ true → back_sound rank ≡ true
  unfolding sound sound_client
  sound_back h =
      let f = hold (sound_tests c) h in
      let m = hold (client_tests (view c)) f.0 in
      ap back_sound (sym (own_rank_lem c m.1.0))
      ∙ both (sound_inverse (own_rank (view c)) k.own.made (view c).inverse) (inverse_tidy k.inverse) m.1.1.1.1.1.1.0 f.1.1.1.1.1.0

  sound_line_lem : sound c ≡ true → line_sound rank ≡ true
  unfolding sound sound_client
  sound_line_lem h =
      let f = hold (sound_tests c) h in
      let m = hold (client_tests (view c)) f.0 in
      ap line_sound (sym (own_rank_lem c m.1.0))
      ∙ line_tests_lem (own_rank (view c))
      ∙ both (every (line_tested (own_rank (view c)))) tidied (held (line_tested (own_rank (view c))) m.1.1.1.1.1.1.1) f.1.1.1.1.1.1.0

  sound_listed : sound c ≡ true → list_right k.len k.total c.words ≡ true
  unfolding sound
  sound_listed h =
      let f = hold (sound_tests c) h in
      both unused totalled f.1.1.1.0
      (ap (eqb k.total) (places_sum (leb-true k.len max_items f.1.0)) ∙ f.1.1.1.1.0)

  sound_tested : sound c ≡ true → every tests ≡ true
  unfolding sound sound_client
  sound_tested h =
      let f = hold (sound_tests c) h in
      let m = hold (client_tests (view c)) f.0 in
      held tests (m.0, (m.1.0, (f.1.0, (m.1.1.1.1.1.0, (sound_ranks_lem h, (sound_listed h, (sound_back h, (sound_line_lem h, tt))))))))

  -- What a sound client is, once its words and its ranks are as many as they should be.
  pub sound_facts : sound c ≡ true → Sound c
  unfolding sound sound_client
  sound_facts h =
      let f = hold (sound_tests c) h in
      let len : k.len ≤ max_items = leb-true k.len max_items f.1.0 in
      let lines = between_true 1 max_lines k.n (hold (client_tests (view c)) f.0).0 in
      let stored_ranks : k.ranks ≡ ranks.stored (view c).ranks = sound_stored k.n k.ranks (sound_ranks_lem h) z.ranks lines.1 in
      let kept : Kept k.own slots = sound_kept k.own.made (eqb rank) k.own slots (slots_long c.words z.words) (sound_line_lem h) in
      let words : c.words ≡ (store (view c)).words =
      parts_are c.words z.words (stored (items_of (view c).items)) (slots_of (view c).own.pending) (stored (origins_of (view c).items))
      (items_stored len f.1.1.1.0) kept.whole (origins_stored len f.1.1.1.0) in
      let seconds : k.total ≡ running_time (view c).items = eqb-true k.total (running_time (view c).items) f.1.1.1.1.0 in
      let inverse : k.inverse ≡ inverse_stored (view c).inverse = tidy_stored k.inverse f.1.1.1.1.1.0 in
      let whole : c ≡ store (view c) =
      λ i. client_of (record { own = k.own; len = sym (listed len) i; total = seconds i; inverse = inverse i; n = k.n; line = k.line; ranks = stored_ranks i }) (words i) in
      record { yes = h; model = f.0; whole = whole; listed = listed len; kept = kept }

  -- ---- the tests as the code joins them

  tested : every tests ≡ sound c
  tested = bool_ext (every tests) (sound c) tested_sound sound_tested

  pub no_lines : between 1 max_lines k.n ≡ false → (false ≡ sound c) × (false ≡ true → Sound c)
  no_lines h = (ap (λ (b : Bool). b && every rest) (sym h) ∙ tested, λ y. never y)

  abbrev made : Bool → Bool → Bool → Bool → Bool
  made right list back own =
      ((((between 1 k.n k.line && (leb k.len max_items && leb k.own.taken max_others)) && right) && list) && back) && own

  pub answers : between 1 max_lines k.n ≡ true → (right list back own : Bool) (r r' : ℕ) → right ≡ ranks.sound_ranks k.n k.ranks
      → list ≡ list_right k.len k.total c.words → r ≡ rank → own ≡ line_sound r → r' ≡ rank → back ≡ back_sound r'
      → (made right list back own ≡ sound c) × (made right list back own ≡ true → Sound c)
  answers h right list back own r r' er el ek eo ek' eb =
      let joined : made (ranks.sound_ranks k.n k.ranks) (list_right k.len k.total c.words) (back_sound rank) (line_sound rank) ≡ every rest =
      simp (and_assoc, and-true) in
      let first : every rest ≡ every tests = ap (λ (b : Bool). b && every rest) (sym h) in
      let is : made right list back own ≡ sound c =
      (λ i. made (er i) (el i) ((eb ∙ ap back_sound ek') i) ((eo ∙ ap line_sound ek) i))
      ∙ joined ∙ first ∙ tested in
      (is, λ y. sound_facts (sym is ∙ y))

-- A sound client of the model: the struct for it is sound, and means that client.
use Prim.Native.Nat.{ℕ, zero, suc, ◌+◌, ◌-◌, ◌≤◌}
use native.Mathlib.Omega.{arith}
use mathlib.Core.Path.{◌≡◌, refl, ap, ◌∙◌, sym}
use mathlib.Core.Bool.{true}
use mathlib.Core.List.{List}
use lib.Dec.{eqb}
use lib.ListN.{length, take, drop, replicate}
use borrow.Author.Tests.{le-leb, eq-eqb}
use Rattle.limits.specs.Limits.{max_items, max_pending}
use Rattle.list.specs.Items.{stored, all_zero}
use Rattle.list.specs.Places.{items_of, origins_of, places_of}
use Rattle.list.specs.Seconds.{running_time}
use Rattle.list.proofs.Pad.{pad_take, pad_drop}
use Rattle.list.proofs.Places.{items_length, origins_length, places_of_lem}
use Rattle.model.specs.Questions.{every}
use Rattle.model.specs.Line as line
use Rattle.model.specs.Client as model
use Rattle.model.proofs.Tests.{held, both, and_right}
use Rattle.model.proofs.SoundLine.{facts_line}
use Rattle.model.proofs.SoundClient.{ClientFacts, client_facts}
use Rattle.ranks.specs.Stored as ranks
use Rattle.ranks.proofs.Laws.{stored_length, stored_take, stored_sound, sound_zero}
use Rattle.pending.specs.Slots.{slots_of}
use Rattle.line.specs.Line.{line_of, counts_of}
use Rattle.line.specs.Sound.{sound_line, tidy}
use Rattle.line.proofs.Stored as lines
use Rattle.client.specs.declared.Client.{Client}
use Rattle.client.specs.View.{size, items_in, slots_in, origins_in, list_in, inverse_in, inverse_stored, view, store, unused_zero, sound_tests, sound, Sound}
use Rattle.client.proofs.Words.{stored_items, stored_slots, stored_origins, stored_long}
use Rattle.client.proofs.Inverses.{ranks_fit, inverse_read, inverse_tidy_lem}
use Rattle.client.proofs.Sound.{Sizes, sound_facts}

-- ---- unused places

zeros : (k : ℕ) → all_zero (replicate k 0) ≡ true
unfolding all_zero
zeros zero = refl
zeros (suc k) = zeros k

module _ (m : model.Client) (s : model.sound_client m ≡ true) where
  abbrev f : ClientFacts m
  f = client_facts m s

  abbrev words : List ℕ
  words = (store m).words

  few : length m.own.pending ≤ max_pending
  few = omega (arith, f.own.count, f.own.room)

  slots_are : slots_in words ≡ slots_of m.own.pending
  slots_are = stored_slots m f.items few

  own_ranks : lines.Ranks (eqb (model.own_rank m))
  own_ranks = ranks_fit m f

  tests : every (line.line_tests m.own.made (eqb (model.own_rank m)) m.own) ≡ true
  tests =
      held (line.line_tests m.own.made (eqb (model.own_rank m)) m.own) (facts_line m.own.made (eqb (model.own_rank m)) m.own f.own)

  line_read : line_of (counts_of m.own) (slots_in words) ≡ m.own
  line_read = ap (line_of (counts_of m.own)) slots_are ∙ lines.stored_line m.own.made (eqb (model.own_rank m)) m.own own_ranks tests

  slots_tidy : tidy (m.own.made - m.own.acked) (slots_in words) ≡ true
  unfolding sound_line
  slots_tidy =
      ap (tidy (m.own.made - m.own.acked)) slots_are
      ∙ and_right (every (line.line_tests m.own.made (eqb (model.own_rank m)) (line_of (counts_of m.own) (slots_of m.own.pending))))
      (tidy (m.own.made - m.own.acked) (slots_of m.own.pending)) (lines.stored_sound m.own.made (eqb (model.own_rank m)) m.own own_ranks tests)

  pub words_long : length words ≡ size
  words_long = stored_long m f.items few

  pub stored_sizes : Sizes (store m)
  stored_sizes = record { words = words_long; ranks = stored_length m.ranks }

  ranks_read : take m.n (ranks.stored m.ranks) ≡ m.ranks
  ranks_read = stored_take m.n m.ranks f.lines.1 f.ranked

  -- one of the two parts of the places: a number of each, and zeros behind them
  module _ (l part : List ℕ) (e : part ≡ stored l) (n : length l ≡ length m.items) where
    part_read : take (length m.items) part ≡ l
    part_read = (λ i. take (sym n i) (e i)) ∙ pad_take max_items 0 l

    part_unused : all_zero (drop (length m.items) part) ≡ true
    part_unused = ap all_zero ((λ i. drop (sym n i) (e i)) ∙ pad_drop max_items 0 l (length l) (omega arith)) ∙ zeros (max_items - length l)

  inverse_back : inverse_in (inverse_stored m.inverse) ≡ m.inverse
  inverse_back = inverse_read (model.own_rank m) (max_items + 1) own_ranks (omega arith) m.inverse f.inverse.stands f.inverse.rank

  pub client_view : view (store m) ≡ m
  client_view = λ i. record { n = m.n; line = m.line; ranks = ranks_read i; items = read i; own = line_read i; inverse = inverse_back i }
    where
      read : list_in (length m.items) words ≡ m.items
      read =
          (λ i. places_of (part_read (items_of m.items) (items_in words) (stored_items m f.items) (items_length m.items) i)
          (part_read (origins_of m.items) (origins_in words) (stored_origins m f.items few) (origins_length m.items) i))
          ∙ places_of_lem m.items f.numbers

  pub client_stored : sound (store m) ≡ true
  unfolding sound
  client_stored =
      held (sound_tests (store m)) (
        ap model.sound_client client_view ∙ s,
        (
          le-leb (length m.items) max_items f.items,
          (
            sound_zero m.n (ranks.stored m.ranks) (stored_sound m.n m.ranks f.lines.1 f.ranked),
            (
              unused,
              (
                seconds,
                (
                  inverse_tidy_lem (model.own_rank m) (max_items + 1) own_ranks (omega arith) m.inverse f.inverse.stands f.inverse.rank,
                  (slots_tidy, tt),
                ),
              ),
            ),
          ),
        ),
      )
    where
      seconds : eqb (running_time m.items) (running_time (view (store m)).items) ≡ true
      seconds =
          eq-eqb (running_time m.items) (running_time (view (store m)).items) (ap (λ (v : model.Client). running_time v.items) (sym client_view))

      unused : unused_zero (length m.items) words ≡ true
      unused =
          both (all_zero (drop (length m.items) (items_in words))) (all_zero (drop (length m.items) (origins_in words)))
          (part_unused (items_of m.items) (items_in words) (stored_items m f.items) (items_length m.items))
          (part_unused (origins_of m.items) (origins_in words) (stored_origins m f.items few) (origins_length m.items))

  pub store_sound : Sound (store m)
  store_sound = sound_facts (store m) stored_sizes client_stored

-- A client that question 2 finds sound is the struct for what it stands for, and that is sound.
module _ (c : Client) (z : Sizes c) (s : sound c ≡ true) where
  pub stored_view : c ≡ store (view c)
  stored_view = (sound_facts c z s).whole

  pub view_sound : model.sound_client (view c) ≡ true
  view_sound = (sound_facts c z s).model

-- The struct for a sound server is sound, and means that server: what carries a run of the model over to the structs.
use Prim.Native.Nat.{ℕ, ◌+◌, ◌-◌, ◌≤◌, ◌<◌}
use native.Mathlib.Omega.{arith}
use mathlib.Core.Path.{◌≡◌, refl, ap, ap₂, sym, ◌∙◌}
use mathlib.Core.Bool.{Bool, true, false}
use mathlib.Core.List.{List, [], map}
use lib.Dec.{ltb}
use lib.ListN.{length, get_or, take, drop, length-map, get_or-eq_default}
use lib.Seq.{ext_get_or}
use borrow.Author.Tests.{le-leb, eq-eqb, ltb-true, ltb-false}
use Rattle.limits.specs.Limits.{max_lines, max_items, max_pending}
use Rattle.list.specs.Items.{stored, all_zero}
use Rattle.list.specs.declared.Origin.{Origin}
use Rattle.list.specs.Places.{items_of, origins_of, places_of, word_of, origin_at}
use Rattle.list.specs.Seconds.{running_time}
use Rattle.list.proofs.Items.{all_zero_lem, padded_zero}
use Rattle.list.proofs.Pad.{pad_take}
use Rattle.list.proofs.Places.{items_length, origins_length, places_of_lem}
use Rattle.model.specs.Questions.{every}
use Rattle.model.specs.Ranks.{rank_of}
use Rattle.model.specs.Line as line
use Rattle.model.specs.Server as model
use Rattle.model.proofs.Tests.{both, and_right, held}
use Rattle.model.proofs.SoundLine.{facts_line}
use Rattle.model.proofs.SoundServer.{ServerLine, LineMakers, ServerFacts, server_facts, taken_sum, lines_get, makers_get, makers_count}
use Rattle.ranks.specs.Stored as ranks
use Rattle.ranks.proofs.Laws as laws
use Rattle.pending.specs.Slots.{slots_of}
use Rattle.line.specs.declared.Line.{Line}
use Rattle.line.specs.Line.{line_of, counts_of}
use Rattle.line.specs.Sound.{tidy, sound_line, empty_line}
use Rattle.line.proofs.All.{each_all}
use Rattle.line.proofs.Makers.{makers_back}
use Rattle.line.proofs.Stored.{other_ranks_lem, stored_line, stored_sound, stored_empty}
use Rattle.server.specs.declared.Counts.{Counts}
use Rattle.server.specs.View.{items_in, origins_in, list_in, slots_at, counts_at, line_at, lines_from, makers_at, makers_of, makers_from, view, store, tidy_at, bare_at, empty_at, sound_tests, sound, Sizes}
use Rattle.server.proofs.Lines.{lines_length, line_used, makers_length, makers_used}
use Rattle.server.proofs.Rows.{makers_for, Row, Holds, sizes_of, store_holds}

module _ (m : model.Server) (s : model.sound_server m ≡ true) where
  facts : ServerFacts m
  facts = server_facts m s

  few : length m.lines ≤ max_lines
  few = omega (arith, facts.count, facts.n)

  line_facts : (i : ℕ) → i < m.n → ServerLine m.n m.ranks (taken_sum m.lines) (1 + i) (get_or m.lines i line.no_line)
  line_facts i h = lines_get m.n m.ranks (taken_sum m.lines) 1 m.lines facts.lines i (omega (arith, facts.count))

  many : length m.makers ≡ m.n
  many = makers_count m.n 1 m.lines m.makers facts.makers ∙ facts.count

  few_makers : length m.makers ≤ max_lines
  few_makers = omega (arith, many, facts.n)

  makers_facts : (i : ℕ) → i < m.n → LineMakers m.n (1 + i) (get_or m.lines i line.no_line) (get_or m.makers i [])
  makers_facts i h = makers_get m.n 1 m.lines m.makers facts.makers i (omega (arith, facts.count))

  no_line_lem : (i : ℕ) → m.n ≤ i → get_or m.lines i line.no_line ≡ line.no_line
  no_line_lem i h = get_or-eq_default m.lines line.no_line (omega (arith, facts.count))

  short : (i : ℕ) → length (get_or m.lines i line.no_line).pending ≤ max_pending
  short i = go (ltb i m.n) refl
    where
      go : (b : Bool) → ltb i m.n ≡ b → length (get_or m.lines i line.no_line).pending ≤ max_pending
      go true t = let f = (line_facts i (ltb-true i m.n t)).line in omega (arith, f.count, f.room)
      go false f = omega (arith, ap (λ (v : line.Line). length v.pending) (no_line_lem i (ltb-false i m.n f)))

  no_makers : (i : ℕ) → m.n ≤ i → get_or m.makers i [] ≡ []
  no_makers i h = get_or-eq_default m.makers [] (omega (arith, many))

  short_makers : (i : ℕ) → length (get_or m.makers i []) ≤ max_pending
  short_makers i = go (ltb i m.n) refl
    where
      go : (b : Bool) → ltb i m.n ≡ b → length (get_or m.makers i []) ≤ max_pending
      go true t =
          let h = ltb-true i m.n t in
          omega (arith, (makers_facts i h).count, (line_facts i h).line.room)
      go false f = omega (arith, ap (λ (os : List Origin). length os) (no_makers i (ltb-false i m.n f)))

  abbrev k : Counts
  k = (store m).counts

  abbrev words : List ℕ
  words = (store m).words

  pub store_sizes : Sizes (store m).counts (store m).words
  store_sizes = sizes_of m few few_makers short short_makers facts.items

  pub holds : Holds (store m).counts (store m).words m
  holds = store_holds m few few_makers short short_makers facts.items

  -- ---- a line in use

  module _ (i : ℕ) (h : i < m.n) where
    abbrev v : line.Line
    v = get_or m.lines i line.no_line

    abbrev rank : ℕ
    rank = rank_of m.ranks (1 + i)

    abbrev os : List Origin
    os = get_or m.makers i []

    row : Row k words i v os
    row = holds.rows i (omega (arith, facts.n))

    tests : every (line.line_tests v.taken (line.other m.n rank) v) ≡ true
    tests =
        held (line.line_tests v.taken (line.other m.n rank) v)
        (facts_line v.taken (line.other m.n rank) v (line_facts i h).line)

    line_means : line_at k words i ≡ v
    line_means =
        ap₂ line_of row.counts row.slots
        ∙ stored_line v.taken (line.other m.n rank) v (other_ranks_lem m.n rank (omega (arith, facts.n))) tests

    line_tidy : tidy_at k words i ≡ true
    unfolding sound_line
    line_tidy =
        ap₂ (λ (w : Line) (l : List ℕ). tidy (w.made - w.acked) l) row.counts row.slots
        ∙ and_right (every (line.line_tests v.taken (line.other m.n rank) (line_of (counts_of v) (slots_of v.pending))))
        (tidy (v.made - v.acked) (slots_of v.pending))
        (stored_sound v.taken (line.other m.n rank) v (other_ranks_lem m.n rank (omega (arith, facts.n))) tests)

    makers_mean : makers_of k words i ≡ os
    makers_mean =
        let f = makers_facts i h in
        ap₂ (λ (w : Line) (l : List ℕ). map origin_at (take (w.made - w.acked) l)) row.counts row.makers
        ∙ ap (λ (n : ℕ). map origin_at (take n (makers_for os))) (sym f.count) ∙ makers_back m.n (1 + i) os f.others

    makers_bare : bare_at k words i ≡ true
    makers_bare =
        ap₂ (λ (w : Line) (l : List ℕ). all_zero (drop (w.made - w.acked) l)) row.counts row.makers
        ∙ ap (λ (n : ℕ). all_zero (drop n (makers_for os))) (sym (length-map os word_of ∙ (makers_facts i h).count)) ∙ padded_zero max_pending (map word_of os)

  -- ---- a line that is not in use

  line_empty : (i : ℕ) → m.n ≤ i → i < max_lines → empty_at k words i ≡ true
  line_empty i h lt =
      let r = holds.rows i lt in
      both (empty_line (counts_at k i) (slots_at i words)) (all_zero (makers_at i words))
      (ap₂ empty_line (r.counts ∙ ap counts_of (no_line_lem i h)) (r.slots ∙ ap (λ (v : line.Line). slots_of v.pending) (no_line_lem i h)) ∙ stored_empty)
      (ap all_zero (r.makers ∙ ap makers_for (no_makers i h)) ∙ all_zero_lem max_pending)

  -- ---- the server

  lines_mean : lines_from k words 0 m.n ≡ m.lines
  lines_mean =
      ext_get_or line.no_line (lines_from k words 0 m.n) m.lines (lines_length k words 0 m.n ∙ sym facts.count)
      (λ i h.
      let used : i < m.n = omega (arith, lines_length k words 0 m.n) in
      line_used k words m.n i used ∙ line_means i used)

  all_makers_mean : makers_from k words 0 m.n ≡ m.makers
  all_makers_mean =
      ext_get_or [] (makers_from k words 0 m.n) m.makers (makers_length k words 0 m.n ∙ sym many)
      (λ i h.
      let used : i < m.n = omega (arith, makers_length k words 0 m.n) in
      makers_used k words m.n i used ∙ makers_mean i used)

  -- one of the two parts of the places: a number of each, and zeros behind them
  module _ (l part : List ℕ) (e : part ≡ stored l) (n : length l ≡ length m.items) where
    part_read : take (length m.items) part ≡ l
    part_read = (λ i. take (sym n i) (e i)) ∙ pad_take max_items 0 l

    part_unused : all_zero (drop (length m.items) part) ≡ true
    part_unused = ap all_zero (λ i. drop (sym n i) (e i)) ∙ padded_zero max_items l

  items_mean : list_in (length m.items) words ≡ m.items
  items_mean =
      (λ i. places_of (part_read (items_of m.items) (items_in words) holds.items (items_length m.items) i)
      (part_read (origins_of m.items) (origins_in words) holds.origins (origins_length m.items) i))
      ∙ places_of_lem m.items facts.numbers

  ranks_mean : take m.n (ranks.stored m.ranks) ≡ m.ranks
  ranks_mean = laws.stored_take m.n m.ranks facts.n.1 facts.ranked

  pub view_store : view (store m) ≡ m
  unfolding view store
  view_store = λ i. record { n = m.n; initial = m.initial; ranks = ranks_mean i; items = items_mean i; lines = lines_mean i; makers = all_makers_mean i }

  ranks_tidy : all_zero (drop m.n (ranks.stored m.ranks)) ≡ true
  ranks_tidy = laws.sound_zero m.n (ranks.stored m.ranks) (laws.stored_sound m.n m.ranks facts.n.1 facts.ranked)

  pub store_sound : sound (store m) ≡ true
  unfolding sound store
  store_sound =
      held (sound_tests (store m)) (
        ap model.sound_server view_store ∙ s,
        (
          le-leb (length m.items) max_items facts.items,
          (
            ranks_tidy,
            (
              part_unused (items_of m.items) (items_in words) holds.items (items_length m.items),
              (
                part_unused (origins_of m.items) (origins_in words) holds.origins (origins_length m.items),
                (
                  eq-eqb (running_time m.items) (running_time (view (store m)).items) (ap (λ (t : model.Server). running_time t.items) (sym view_store)),
                  (
                    each_all (tidy_at k words) 0 m.n (λ i h. line_tidy (0 + i) (omega arith)),
                    (
                      each_all (bare_at k words) 0 m.n (λ i h. makers_bare (0 + i) (omega arith)),
                      (each_all (empty_at k words) m.n (max_lines - m.n) (λ i h. line_empty (m.n + i) (omega arith) (omega arith)), tt),
                    ),
                  ),
                ),
              ),
            ),
          ),
        ),
      )

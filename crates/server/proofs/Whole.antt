-- What the code of question 2 computes is its definition, and a struct that passes it is the one for its meaning.
use Prim.Native.Nat.{ℕ, zero, suc, ◌+◌, ◌-◌, ◌≤◌, ◌<◌}
use native.Mathlib.Nat.{zero-add}
use native.Mathlib.Numerals.{add-one}
use native.Mathlib.Omega.{arith}
use mathlib.Core.Path.{◌≡◌, refl, ap, sym, ◌∙◌, subst}
use mathlib.Core.Bool.{Bool, true, false, ◌&&◌, cond, and-true, and_assoc}
use mathlib.Core.List.{List, [], ◌∷◌}
use lib.Dec.{leb, ltb, eqb}
use lib.ListN.{length, get_or, take, drop, length-map}
use lib.Seq.{length-take-le}
use borrow.Author.Tests.{leb-true, le-leb, eq-eqb, eqb-true, ltb-true, ltb-false, lt-ltb, le-ltb}
use Rattle.limits.specs.Limits.{max_lines, max_items, max_pending}
use Rattle.list.specs.Items.{stored, all_zero}
use Rattle.list.specs.declared.Origin.{Origin}
use Rattle.list.specs.Places.{Place, items_of, origins_of, origin_at}
use Rattle.list.specs.Seconds.{total_seconds, running_time}
use Rattle.list.proofs.Items.{stored_of}
use Rattle.list.proofs.Places.{places_length, places_items, places_origins, places_numbered}
use Rattle.model.specs.Questions.{every}
use Rattle.model.specs.Ranks.{rank_of, ranking}
use Rattle.model.specs.Line as line
use Rattle.model.specs.Server as model
use Rattle.model.proofs.Tests.{both, and_left, and_right, hold, held, bool_ext}
use Rattle.model.proofs.SoundServer.{taken_sum}
use Rattle.ranks.specs.Stored.{sound_ranks}
use Rattle.ranks.proofs.Laws.{take_rank, sound_ranking, sound_zero, sound_stored}
use Rattle.pending.specs.Slots.{all_from}
use Rattle.line.specs.Line.{counts_of, Kept}
use Rattle.line.specs.Sound.{sound_line, empty_line}
use Rattle.line.proofs.All.{all_each, all_same, all_both, all_parted}
use Rattle.line.proofs.Makers.{makers_are, makers_whole}
use Rattle.line.proofs.SoundWords.{sound_kept, empty_kept}
use Rattle.line.proofs.Stored.{empty_counts, empty_words}
use Rattle.server.specs.Right.{list_right}
use Rattle.server.specs.declared.Counts.{Counts}
use Rattle.server.specs.declared.Server.{Server}
use Rattle.server.specs.View.{size, items_in, origins_in, slots_at, makers_at, counts_at, line_at, lines_from, makers_of, makers_from, list_in, server_of, view, tidy_at, empty_at, bare_at, sound_tests, sound, Sound, Sizes}
use Rattle.server.specs.Totals.{total_of, in_limits, sound_at, makers_sound_at, line_sound_at}
use Rattle.server.proofs.Lines.{lines_length, line_used, line_unused, makers_length, makers_used, makers_unused, total_words, total_most}
use Rattle.server.proofs.Loops.{items_long, origins_long, slots_long, makers_long}
use Rattle.server.proofs.Rows.{slots_for, makers_for, Row, Holds, store_is}

-- ---- tests of places

pub each_first : (test : ℕ → Bool) (count : ℕ) → all_from test 0 count ≡ true → (i : ℕ) → i < count → test i ≡ true
each_first test count a i h = ap test (sym (zero-add i)) ∙ all_each test 0 count a i h

-- the places from n on, of m
pub each_last : (test : ℕ → Bool) (n m : ℕ) → all_from test n (m - n) ≡ true → (i : ℕ) → n ≤ i → i < m → test i ≡ true
each_last test n m a i h k =
    let e : i ≡ n + (i - n) = omega arith in
    ap test e ∙ all_each test n (m - n) a (i - n) (omega arith)

-- ---- one line, and all lines in use

-- made and taken together, or made as what is left
sums : (made taken sum : ℕ) → taken ≤ sum → eqb (made + taken) sum ≡ eqb made (sum - taken)
sums made taken sum h =
    bool_ext (eqb (made + taken) sum) (eqb made (sum - taken))
    (λ t. eq-eqb made (sum - taken) (omega (arith, eqb-true (made + taken) sum t)))
    (λ t. eq-eqb (made + taken) sum (omega (arith, eqb-true made (sum - taken) t)))

-- the ranks of the lines in use
abbrev ranks_in : Counts → List ℕ
ranks_in k = take k.n k.ranks

module _ (k : Counts) (words : List ℕ) where
  -- the lines in use
  abbrev used : List line.Line
  used = lines_from k words 0 k.n

  abbrev taken_all : ℕ
  taken_all = total_of (λ v. v.taken) k

  abbrev inserts_all : ℕ
  inserts_all = total_of (λ v. v.inserts) k

  taken_total : taken_sum used ≡ taken_all
  taken_total = total_words (λ v. v.taken) k words 0 k.n (λ j. refl)

  inserts_total : model.total (λ v. v.inserts) used ≡ inserts_all
  inserts_total = total_words (λ v. v.inserts) k words 0 k.n (λ j. refl)

  module _ (sum : ℕ) where
    -- the model's question of the line at place i
    abbrev model_at : ℕ → Bool
    model_at i = model.sound_line k.n (ranks_in k) sum (i + 1) (line_at k words i)

    model_lines : (i count : ℕ) → all_from model_at i count ≡ model.sound_lines k.n (ranks_in k) sum (suc i) (lines_from k words i count)
    unfolding all_from lines_from model.sound_lines
    model_lines i zero = refl
    model_lines i (suc count) =
        ap (λ (l : ℕ). model.sound_line k.n (ranks_in k) sum l (line_at k words i) && all_from model_at (suc i) count) (add-one i)
        ∙ ap (λ (b : Bool). model.sound_line k.n (ranks_in k) sum (suc i) (line_at k words i) && b) (model_lines (suc i) count)

    line_parts : (i : ℕ) → i < k.n → (counts_at k i).taken ≤ sum → sound_at k sum words i ≡ (model_at i && tidy_at k words i)
    unfolding model.sound_line sound_line
    line_parts i lt h =
        let v = counts_at k i in
        let tests : Bool = every (line.line_tests v.taken (line.other k.n (rank_of (ranks_in k) (i + 1))) (line_at k words i)) in
        ap (λ (r : ℕ). eqb (v.made + v.taken) sum && sound_line v.taken (line.other k.n r) v (slots_at i words))
        (sym (take_rank k.n k.ranks (i + 1) (omega arith) (omega arith)))
        ∙ ap (λ (b : Bool). b && (tests && tidy_at k words i)) (sums v.made v.taken sum h)
        ∙ sym (and_assoc (eqb v.made (sum - v.taken)) tests (tidy_at k words i))

  taken_few : (i : ℕ) → i < k.n → (counts_at k i).taken ≤ taken_all
  taken_few i h =
      let most = total_most (λ v. v.taken) used i (omega (arith, lines_length k words 0 k.n)) in
      let here = ap (λ (v : line.Line). v.taken) (line_used k words k.n i h) in
      omega (arith, taken_total, most, here)

  -- the code's test of the lines in use is the model's, and that their slots are tidy
  lines_parts : all_from (sound_at k taken_all words) 0 k.n ≡ (model.sound_lines k.n (ranks_in k) taken_all 1 used && all_from (tidy_at k words) 0 k.n)
  lines_parts =
      all_same (sound_at k taken_all words) (λ i. model_at taken_all i && tidy_at k words i) 0 k.n
      (λ i h. line_parts taken_all (0 + i) (omega arith) (taken_few (0 + i) (omega arith)))
      ∙ all_both (model_at taken_all) (tidy_at k words) 0 k.n
      ∙ ap (λ (b : Bool). b && all_from (tidy_at k words) 0 k.n) (model_lines taken_all 0 k.n)

  -- ---- the origins of the pending edits of all lines in use

  -- the model's question of those of the line at place i
  abbrev model_makers : ℕ → Bool
  model_makers i =
      eqb (length (makers_of k words i)) ((counts_at k i).made - (counts_at k i).acked) && model.other_makers k.n (i + 1) (makers_of k words i)

  model_makers_lem : (i count : ℕ) → all_from model_makers i count ≡ model.sound_makers k.n (suc i) (lines_from k words i count) (makers_from k words i count)
  unfolding all_from lines_from makers_from model.sound_makers
  model_makers_lem i zero = refl
  model_makers_lem i (suc count) =
      let counted : Bool = eqb (length (makers_of k words i)) ((counts_at k i).made - (counts_at k i).acked) in
      and_assoc counted (model.other_makers k.n (i + 1) (makers_of k words i)) (all_from model_makers (suc i) count)
      ∙ ap (λ (l : ℕ). counted && (model.other_makers k.n l (makers_of k words i) && all_from model_makers (suc i) count)) (add-one i)
      ∙ ap (λ (b : Bool). counted && (model.other_makers k.n (suc i) (makers_of k words i) && b)) (model_makers_lem (suc i) count)

  module _ (long : length words ≡ size) (few : k.n ≤ max_lines) (right : all_from (sound_at k taken_all words) 0 k.n ≡ true) where
    kept_used : (i : ℕ) → i < k.n → Kept (counts_at k i) (slots_at i words)
    kept_used i h =
        let v = counts_at k i in
        let others = line.other k.n (rank_of k.ranks (i + 1)) in
        sound_kept v.taken others v (slots_at i words) (slots_long words long i (omega arith))
        (and_right (eqb (v.made + v.taken) taken_all) (sound_line v.taken others v (slots_at i words)) (each_first (sound_at k taken_all words) k.n right i h))

    makers_one : (i : ℕ) → i < k.n → makers_sound_at k words i ≡ (model_makers i && bare_at k words i)
    makers_one i h =
        let c = (counts_at k i).made - (counts_at k i).acked in
        let most : c ≤ max_pending = (kept_used i h).few in
        let whole : length (makers_at i words) ≡ max_pending = makers_long words long i (omega arith) in
        let count : length (makers_of k words i) ≡ c =
        length-map (take c (makers_at i words)) origin_at ∙ length-take-le c (makers_at i words) (omega (arith, whole)) in
        makers_are k.n (i + 1) c (makers_at i words) (omega (arith, whole))
        ∙ ap (λ (b : Bool). (b && model.other_makers k.n (i + 1) (makers_of k words i)) && bare_at k words i)
        (sym (eq-eqb (length (makers_of k words i)) c count))

    -- the code's test of them is the model's, and that the words behind them are zero
    makers_parts : all_from (makers_sound_at k words) 0 k.n
        ≡ (model.sound_makers k.n 1 used (makers_from k words 0 k.n) && all_from (bare_at k words) 0 k.n)
    makers_parts =
        all_same (makers_sound_at k words) (λ i. model_makers i && bare_at k words i) 0 k.n (λ i h. makers_one (0 + i) (omega arith))
        ∙ all_both model_makers (bare_at k words) 0 k.n
        ∙ ap (λ (b : Bool). b && all_from (bare_at k words) 0 k.n) (model_makers_lem 0 k.n)

  -- all eight lines as the code tests them, in use or not
  lines_code : (taken : ℕ) → k.n ≤ max_lines → all_from (line_sound_at k taken words) 0 max_lines
      ≡ ((all_from (sound_at k taken words) 0 k.n && all_from (makers_sound_at k words) 0 k.n) && all_from (empty_at k words) k.n (max_lines - k.n))
  lines_code taken few =
      all_parted (line_sound_at k taken words) (λ i. sound_at k taken words i && makers_sound_at k words i) (empty_at k words) k.n max_lines few
      (λ i h. ap (λ (b : Bool). cond b (sound_at k taken words i && makers_sound_at k words i) (empty_at k words i)) (lt-ltb i k.n h))
      (λ i h lt. ap (λ (b : Bool). cond b (sound_at k taken words i && makers_sound_at k words i) (empty_at k words i)) (le-ltb i k.n h))
      ∙ ap (λ (b : Bool). b && all_from (empty_at k words) k.n (max_lines - k.n))
      (all_both (sound_at k taken words) (makers_sound_at k words) 0 k.n)

-- ---- the tests of the code

abbrev pub code_tests : Counts → List ℕ → List Bool
code_tests k words =
    leb 1 k.n
    ∷ leb k.n 8
    ∷ leb k.initial 128
    ∷ leb k.len 512
    ∷ sound_ranks k.n k.ranks
    ∷ leb k.len (k.initial + total_of (λ v. v.inserts) k)
    ∷ all_zero (drop k.len (items_in words))
    ∷ all_zero (drop k.len (origins_in words))
    ∷ eqb k.total (total_seconds (take k.len (items_in words)))
    ∷ all_from (sound_at k (total_of (λ v. v.taken) k) words) 0 k.n
    ∷ all_from (makers_sound_at k words) 0 k.n
    ∷ all_from (empty_at k words) k.n (max_lines - k.n)
    ∷ []

pub limits_few : (k : Counts) → in_limits k ≡ true → k.n ≤ max_lines
limits_few k t =
    let lines : Bool = leb 1 k.n && leb k.n max_lines in
    leb-true k.n max_lines
    (and_right (leb 1 k.n) (leb k.n max_lines)
    (and_left lines (leb k.initial 128) (and_left (lines && leb k.initial 128) (leb k.len max_items) t)))

module _ (k : Counts) (words : List ℕ) (z : Sizes k words) where
  abbrev s : Server
  s = server_of k words

  abbrev items : List ℕ
  items = take k.len (items_in words)

  abbrev origins : List ℕ
  origins = take k.len (origins_in words)

  abbrev places : List Place
  places = list_in k.len words

  -- the first len items and the first len origins are the places
  module _ (h : k.len ≤ max_items) where
    items_taken : length items ≡ k.len
    items_taken = length-take-le k.len (items_in words) (omega (arith, items_long words z.words))

    both_taken : length items ≡ length origins
    both_taken = items_taken ∙ sym (length-take-le k.len (origins_in words) (omega (arith, origins_long words z.words)))

    items_length : length places ≡ k.len
    items_length = places_length items origins both_taken ∙ items_taken

    items_stored : all_zero (drop k.len (items_in words)) ≡ true → items_in words ≡ stored (items_of places)
    items_stored t = stored_of (items_in words) k.len (items_long words z.words) h t ∙ ap stored (sym (places_items items origins both_taken))

    origins_stored : all_zero (drop k.len (origins_in words)) ≡ true → origins_in words ≡ stored (origins_of places)
    origins_stored t = stored_of (origins_in words) k.len (origins_long words z.words) h t ∙ ap stored (sym (places_origins items origins both_taken))

    -- the sum over the first len items is the running time
    total_alike : eqb k.total (total_seconds items) ≡ eqb k.total (running_time places)
    total_alike = ap (λ (l : List ℕ). eqb k.total (total_seconds l)) (sym (places_items items origins both_taken))

  abbrev oss : List (List Origin)
  oss = makers_from k words 0 k.n

  code_sound : every (code_tests k words) ≡ true → sound (server_of k words) ≡ true
  unfolding sound model.sound_server view
  code_sound e =
      let h = hold (code_tests k words) e in
      let limits = h.1.1.1 in
      let lists = limits.1.1.1 in
      let lines = lists.1.1.1 in
      let len : k.len ≤ max_items = leb-true k.len 512 limits.0 in
      let few : k.n ≤ max_lines = leb-true k.n 8 h.1.0 in
      let most : k.len ≤ k.initial + total_of (λ v. v.inserts) k = leb-true k.len (k.initial + total_of (λ v. v.inserts) k) limits.1.1.0 in
      let vs = used k words in
      let each = sym (lines_parts k words) ∙ lines.0 in
      let makers = sym (makers_parts k words z.words few lines.0) ∙ lines.1.0 in
      let model_yes = and_left (model.sound_lines k.n (ranks_in k) (taken_all k words) 1 vs) (all_from (tidy_at k words) 0 k.n) each in
      held (sound_tests s) (
        held (model.server_tests (view s)) (
          both (leb 1 k.n) (leb k.n 8) h.0 h.1.0,
          (
            h.1.1.0,
            (
              sound_ranking k.n k.ranks limits.1.0,
              (
                le-leb (length places) max_items (omega (arith, items_length len)),
                (
                  places_numbered items origins,
                  (
                    eq-eqb (length vs) k.n (lines_length k words 0 k.n),
                    (
                      subst (λ (t : ℕ). model.sound_lines k.n (ranks_in k) t 1 vs ≡ true) (sym (taken_total k words)) model_yes,
                      (
                        and_left (model.sound_makers k.n 1 vs oss) (all_from (bare_at k words) 0 k.n) makers,
                        (le-leb (length places) (k.initial + model.total (λ v. v.inserts) vs) (omega (arith, items_length len, inserts_total k words)), tt),
                      ),
                    ),
                  ),
                ),
              ),
            ),
          ),
        ),
        (
          limits.0,
          (
            sound_zero k.n k.ranks limits.1.0,
            (
              lists.0,
              (
                lists.1.0,
                (
                  sym (total_alike len) ∙ lists.1.1.0,
                  (
                    and_right (model.sound_lines k.n (ranks_in k) (taken_all k words) 1 vs) (all_from (tidy_at k words) 0 k.n) each,
                    (and_right (model.sound_makers k.n 1 vs oss) (all_from (bare_at k words) 0 k.n) makers, (lines.1.1.0, tt)),
                  ),
                ),
              ),
            ),
          ),
        ),
      )

  sound_code : sound (server_of k words) ≡ true → every (code_tests k words) ≡ true
  unfolding sound model.sound_server view sound_ranks
  sound_code e =
      let t = hold (sound_tests s) e in
      let m = hold (model.server_tests (view s)) t.0 in
      let lists = t.1.1.1 in
      let slots = lists.1.1.1 in
      let modeled = m.1.1.1.1.1.1 in
      let len : k.len ≤ max_items = leb-true k.len 512 t.1.0 in
      let few : k.n ≤ max_lines = leb-true k.n 8 (and_right (leb 1 k.n) (leb k.n 8) m.0) in
      let vs = used k words in
      let most : length places ≤ k.initial + model.total (λ v. v.inserts) vs =
      leb-true (length places) (k.initial + model.total (λ v. v.inserts) vs) modeled.1.1.0 in
      let right : all_from (sound_at k (total_of (λ v. v.taken) k) words) 0 k.n ≡ true =
      lines_parts k words
      ∙ both (model.sound_lines k.n (ranks_in k) (taken_all k words) 1 vs) (all_from (tidy_at k words) 0 k.n)
      (subst (λ (n : ℕ). model.sound_lines k.n (ranks_in k) n 1 vs ≡ true) (taken_total k words) modeled.0) slots.0 in
      held (code_tests k words) (
        and_left (leb 1 k.n) (leb k.n 8) m.0,
        (
          and_right (leb 1 k.n) (leb k.n 8) m.0,
          (
            m.1.0,
            (
              t.1.0,
              (
                both (ranking k.n (ranks_in k)) (all_zero (drop k.n k.ranks)) m.1.1.0 t.1.1.0,
                (
                  le-leb k.len (k.initial + total_of (λ v. v.inserts) k) (omega (arith, items_length len, inserts_total k words)),
                  (
                    lists.0,
                    (
                      lists.1.0,
                      (
                        total_alike len ∙ lists.1.1.0,
                        (
                          right,
                          (
                            makers_parts k words z.words few right
                                ∙ both (model.sound_makers k.n 1 vs oss) (all_from (bare_at k words) 0 k.n) modeled.1.0 slots.1.0,
                            (slots.1.1.0, tt),
                          ),
                        ),
                      ),
                    ),
                  ),
                ),
              ),
            ),
          ),
        ),
      )

  code_is : every (code_tests k words) ≡ sound (server_of k words)
  code_is = bool_ext (every (code_tests k words)) (sound (server_of k words)) code_sound sound_code

  -- as the code joins them
  abbrev rest : List Bool
  rest =
      sound_ranks k.n k.ranks
      ∷ leb k.len (k.initial + total_of (λ v. v.inserts) k)
      ∷ all_zero (drop k.len (items_in words))
      ∷ all_zero (drop k.len (origins_in words))
      ∷ eqb k.total (total_seconds (take k.len (items_in words)))
      ∷ all_from (sound_at k (total_of (λ v. v.taken) k) words) 0 k.n
      ∷ all_from (makers_sound_at k words) 0 k.n
      ∷ all_from (empty_at k words) k.n (max_lines - k.n)
      ∷ []

  in_parts : (b : Bool) → in_limits k ≡ b → (b && every rest) ≡ sound (server_of k words)
  in_parts b t =
      ap (λ (x : Bool). x && every rest) (sym t) ∙ group (leb 1 k.n) (leb k.n 8) (leb k.initial 128) (leb k.len 512) (every rest) ∙ code_is
    where
      group : (a b c d e : Bool) → ((((a && b) && c) && d) && e) ≡ (a && (b && (c && (d && e))))
      group a b c d e = simp and_assoc

  pub sound_no : in_limits k ≡ false → false ≡ sound (server_of k words)
  sound_no t = in_parts false t

  -- the tests of the code, one after the other
  pub sound_yes : (most taken : ℕ) (ranked listed lined : Bool) → in_limits k ≡ true → most ≡ total_of (λ v. v.inserts) k
      → taken ≡ total_of (λ v. v.taken) k → ranked ≡ sound_ranks k.n k.ranks → listed ≡ list_right k.len k.total words
      → lined ≡ all_from (line_sound_at k taken words) 0 max_lines
      → (((ranked && leb k.len (k.initial + most)) && listed) && lined) ≡ sound (server_of k words)
  sound_yes most taken ranked listed lined t m n r z' u =
      let right = sound_ranks k.n k.ranks in
      let all = total_of (λ v. v.inserts) k in
      let sum = total_of (λ v. v.taken) k in
      let lines : lined ≡ ((all_from (sound_at k sum words) 0 k.n && all_from (makers_sound_at k words) 0 k.n) && all_from (empty_at k words) k.n (max_lines - k.n)) =
      u ∙ ap (λ (j : ℕ). all_from (line_sound_at k j words) 0 max_lines) n ∙ lines_code k words sum (limits_few k t) in
      ap (λ (b : Bool). ((b && leb k.len (k.initial + most)) && listed) && lined) r
      ∙ ap (λ (j : ℕ). ((right && leb k.len (k.initial + j)) && listed) && lined) m
      ∙ ap (λ (b : Bool). ((right && leb k.len (k.initial + all)) && b) && lined) z'
      ∙ ap (λ (b : Bool). ((right && leb k.len (k.initial + all)) && list_right k.len k.total words) && b) lines
      ∙ group right (leb k.len (k.initial + all)) (all_zero (drop k.len (items_in words))) (all_zero (drop k.len (origins_in words)))
      (eqb k.total (total_seconds (take k.len (items_in words))))
      (all_from (sound_at k sum words) 0 k.n) (all_from (makers_sound_at k words) 0 k.n) (all_from (empty_at k words) k.n (max_lines - k.n))
      ∙ in_parts true t
    where
      group : (a b c d t e f g : Bool) → (((a && b) && ((c && d) && t)) && ((e && f) && g)) ≡ every (a ∷ b ∷ c ∷ d ∷ t ∷ e ∷ f ∷ g ∷ [])
      group a b c d t e f g = simp (and_assoc, and-true)

  -- ---- a struct that passes

  module _ (e : sound (server_of k words) ≡ true) where
    tests : every (code_tests k words) ≡ true
    tests = sound_code e

    few : k.n ≤ max_lines
    few = leb-true k.n 8 (hold (code_tests k words) tests).1.0

    lines_right : all_from (sound_at k (total_of (λ v. v.taken) k) words) 0 k.n ≡ true
    lines_right = (hold (code_tests k words) tests).1.1.1.1.1.1.1.1.1.0

    bare_at_lem : (i : ℕ) → i < k.n → bare_at k words i ≡ true
    unfolding sound
    bare_at_lem i h = each_first (bare_at k words) k.n (hold (sound_tests s) e).1.1.1.1.1.1.1.0 i h

    -- a line that is not in use: its counts and words, and its origins
    module _ (i : ℕ) (h : k.n ≤ i) (lt : i < max_lines) where
      both_empty : empty_at k words i ≡ true
      unfolding sound
      both_empty = each_last (empty_at k words) k.n max_lines (hold (sound_tests s) e).1.1.1.1.1.1.1.1.0 i h lt

      empty_at_lem : empty_line (counts_at k i) (slots_at i words) ≡ true
      empty_at_lem = and_left (empty_line (counts_at k i) (slots_at i words)) (all_zero (makers_at i words)) both_empty

      zero_at_lem : all_zero (makers_at i words) ≡ true
      zero_at_lem = and_right (empty_line (counts_at k i) (slots_at i words)) (all_zero (makers_at i words)) both_empty

    kept : (i : ℕ) → i < max_lines → Kept (counts_at k i) (slots_at i words)
    kept i lt = go (ltb i k.n) refl
      where
        go : (b : Bool) → ltb i k.n ≡ b → Kept (counts_at k i) (slots_at i words)
        go true t = kept_used k words z.words few lines_right i (ltb-true i k.n t)
        go false f = empty_kept (counts_at k i) (slots_at i words) (slots_long words z.words i lt) (empty_at_lem i (ltb-false i k.n f) lt)

    row : (i : ℕ) → i < max_lines → Row k words i (get_or (used k words) i line.no_line) (get_or oss i [])
    row i lt = go (ltb i k.n) refl
      where
        go : (b : Bool) → ltb i k.n ≡ b → Row k words i (get_or (used k words) i line.no_line) (get_or oss i [])
        go true t =
            let h = ltb-true i k.n t in
            let v = sym (line_used k words k.n i h) in
            record {
              counts = ap counts_of v;
              slots = (kept i lt).whole ∙ ap slots_for v;
              makers =
                  makers_whole ((counts_at k i).made - (counts_at k i).acked) (makers_at i words) (makers_long words z.words i lt) (kept i lt).few (bare_at_lem i h)
                  ∙ ap makers_for (sym (makers_used k words k.n i h));
            }
        go false f =
            let n = ltb-false i k.n f in
            let v = sym (line_unused k words k.n i n) in
            record {
              counts = empty_counts (counts_at k i) (slots_at i words) (empty_at_lem i n lt) ∙ ap counts_of v;
              slots = empty_words (counts_at k i) (slots_at i words) (slots_long words z.words i lt) (empty_at_lem i n lt) ∙ ap slots_for v;
              makers =
                  makers_whole 0 (makers_at i words) (makers_long words z.words i lt) (omega arith) (zero_at_lem i n lt)
                  ∙ ap makers_for (sym (makers_unused k words k.n i n));
            }

    pub struct_holds : Holds k words (view (server_of k words))
    unfolding sound view
    struct_holds =
        let t = hold (sound_tests s) e in
        let len : k.len ≤ max_items = leb-true k.len 512 t.1.0 in
        record {
          n = refl;
          initial = refl;
          len = sym (items_length len);
          total = eqb-true k.total (running_time places) t.1.1.1.1.1.0;
          ranks = sound_stored k.n k.ranks (hold (code_tests k words) tests).1.1.1.1.0 z.ranks few;
          items = items_stored len t.1.1.1.0;
          origins = origins_stored len t.1.1.1.1.0;
          rows = row;
        }

    pub struct_whole : Sound (server_of k words)
    unfolding sound view
    struct_whole =
        let t = hold (sound_tests s) e in
        record {
          yes = e;
          model = t.0;
          whole =
              store_is (view s) (omega (arith, lines_length k words 0 k.n, few)) (omega (arith, makers_length k words 0 k.n, few)) k words z struct_holds;
          listed = items_length (leb-true k.len 512 t.1.0);
          kept = kept;
        }

  -- the two promises of the code
  pub both_told : (r : Bool) → r ≡ sound (server_of k words) → (r ≡ sound (server_of k words)) × (r ≡ true → Sound (server_of k words))
  both_told r e = (e, λ t. struct_whole (sym e ∙ t))

-- The struct line by line: what the one struct for a server holds of each line, and that a struct which holds it is that one.
use Prim.Native.Nat.{ℕ, zero, suc, ◌+◌, ◌*◌, ◌≤◌, ◌<◌}
use native.Mathlib.Omega.{arith}
use mathlib.Core.Path.{◌≡◌, refl, ap, ap₂, sym, ◌∙◌}
use mathlib.Core.List.{List, [], ◌∷◌, ◌++◌, map, append_assoc, append-nil}
use lib.ListN.{length, get_or, take, drop, length-append, length-map, length-drop, take-append-drop, get_or-map}
use lib.Seq.{take-add, take_all, take_at, drop_at, drop-drop, ext_get_or}
use Rattle.limits.specs.Limits.{max_lines, max_items, max_pending}
use Rattle.list.specs.Items.{padded, stored}
use Rattle.list.specs.declared.Origin.{Origin}
use Rattle.list.specs.Places.{items_of, origins_of, word_of}
use Rattle.list.specs.Parts.{part}
use Rattle.list.specs.Seconds.{running_time}
use Rattle.list.proofs.Pad.{pad_get_or, pad_length}
use Rattle.list.proofs.Places as places
use Rattle.model.specs.Line as line
use Rattle.model.specs.Server as model
use Rattle.ranks.specs.Stored as ranks
use Rattle.ranks.proofs.Laws.{stored_length}
use Rattle.pending.specs.Slots as pending
use Rattle.pending.specs.Slots.{slots_of}
use Rattle.pending.proofs.Slots.{slots_length}
use Rattle.line.specs.Line.{counts_of}
use Rattle.server.specs.declared.Counts.{Counts}
use Rattle.server.specs.View.{size, origins, makers, items_in, origins_in, slots_at, makers_at, counts_at, server_of, all_lines, slots_of_lines, all_makers, words_of_makers, store, Sizes}

-- ---- parts of one length, one after the other

more : (n i : ℕ) → n * suc i ≡ n + n * i
more n i = omega arith

-- each element of a list has n words, and all puts them together
module _ {A : Type 0} (z : A) (n : ℕ) (f : A → List ℕ) (all : List A → List ℕ) (none_all : all [] ≡ [])
    (cons_all : (v : A) (vs : List A) → all (v ∷ vs) ≡ f v ++ all vs) where
  -- words in which each of them stands, from place a on
  blocks_are : (vs : List A) (words : List ℕ) (a : ℕ) → ((j : ℕ) → j < length vs → part (a + n * j) n words ≡ f (get_or vs j z))
      → part a (n * length vs) words ≡ all vs
  blocks_are [] words a h =
      let no : n * 0 ≡ 0 = omega arith in
      ap (λ (c : ℕ). part a c words) no ∙ sym none_all
  blocks_are (v ∷ vs) words a h =
      let here : a ≡ a + n * 0 = omega arith in
      ap (λ (c : ℕ). part a c words) (more n (length vs)) ∙ take-add n (n * length vs) (drop a words)
      ∙ ap₂ (λ (l r : List ℕ). l ++ r) (ap (λ (b : ℕ). part b n words) here ∙ h 0 (omega arith))
      (ap (take (n * length vs)) (drop-drop n a words)
      ∙ blocks_are vs words (a + n)
      (λ j lt.
      let next : a + n + n * j ≡ a + n * suc j = omega (arith, more n j) in
      ap (λ (b : ℕ). part b n words) next ∙ h (suc j) (omega arith)))
      ∙ sym (cons_all v vs)

  first : (v : A) (vs : List A) (rest : List ℕ) → all (v ∷ vs) ++ rest ≡ f v ++ (all vs ++ rest)
  first v vs rest = ap (λ (l : List ℕ). l ++ rest) (cons_all v vs) ∙ append_assoc (f v) (all vs) rest

  -- words that go on with them from place a on
  blocks_at : (vs : List A) (words rest : List ℕ) (a i : ℕ) → drop a words ≡ all vs ++ rest → ((j : ℕ) → length (f (get_or vs j z)) ≡ n) → i < length vs
      → part (a + n * i) n words ≡ f (get_or vs i z)
  blocks_at [] words rest a i e long h = absurd (omega arith)
  blocks_at (v ∷ vs) words rest a zero e long h =
      let here : a + n * 0 ≡ a = omega arith in
      ap (λ (b : ℕ). part b n words) here ∙ ap (take n) (e ∙ first v vs rest) ∙ take_at (f v) (all vs ++ rest) n (long 0)
  blocks_at (v ∷ vs) words rest a (suc i) e long h =
      let next : a + n * suc i ≡ a + n + n * i = omega (arith, more n i) in
      ap (λ (b : ℕ). part b n words) next
      ∙ blocks_at vs words rest (a + n) i
      (sym (drop-drop n a words) ∙ ap (drop n) (e ∙ first v vs rest) ∙ drop_at (f v) (all vs ++ rest) n (long 0)) (λ j. long (suc j)) (omega arith)

  blocks_long : (vs : List A) → ((j : ℕ) → length (f (get_or vs j z)) ≡ n) → length (all vs) ≡ n * length vs
  blocks_long [] long = ap length none_all ∙ omega arith
  blocks_long (v ∷ vs) long =
      ap length (cons_all v vs) ∙ length-append (f v) (all vs)
      ∙ omega (arith, long 0, blocks_long vs (λ k. long (suc k)), more n (length vs))

-- ---- four parts make the words

abbrev joined : List ℕ → List ℕ → List ℕ → List ℕ → List ℕ
joined xs ss os ms = xs ++ (ss ++ (os ++ ms))

-- the words of all lines, and all origins of pending edits
abbrev slots_in : List ℕ → List ℕ
slots_in words = part max_items 1024 words

abbrev makers_in : List ℕ → List ℕ
makers_in words = part makers 512 words

words_are : (words : List ℕ) → length words ≡ size → words ≡ joined (items_in words) (slots_in words) (origins_in words) (makers_in words)
words_are words long =
    let last : makers_in words ≡ drop makers words = take_all 512 (drop makers words) (omega (arith, length-drop makers words)) in
    sym (take-append-drop max_items words)
    ∙ ap (λ (l : List ℕ). items_in words ++ l)
    (sym (take-append-drop 1024 (drop max_items words))
    ∙ ap (λ (l : List ℕ). slots_in words ++ l)
    (drop-drop 1024 max_items words ∙ sym (take-append-drop max_items (drop origins words))
    ∙ ap (λ (l : List ℕ). origins_in words ++ l) (drop-drop max_items origins words ∙ sym last)))

module _ (xs ss os ms : List ℕ) (ex : length xs ≡ max_items) (es : length ss ≡ 1024) (eo : length os ≡ max_items) where
  items_of_lem : items_in (joined xs ss os ms) ≡ xs
  items_of_lem = take_at xs (ss ++ (os ++ ms)) max_items ex

  from_slots : drop max_items (joined xs ss os ms) ≡ ss ++ (os ++ ms)
  from_slots = drop_at xs (ss ++ (os ++ ms)) max_items ex

  from_origins : drop origins (joined xs ss os ms) ≡ os ++ ms
  from_origins = sym (drop-drop 1024 max_items (joined xs ss os ms)) ∙ ap (drop 1024) from_slots ∙ drop_at ss (os ++ ms) 1024 es

  origins_of_lem : origins_in (joined xs ss os ms) ≡ os
  origins_of_lem = ap (take max_items) from_origins ∙ take_at os ms max_items eo

  from_makers : drop makers (joined xs ss os ms) ≡ ms
  from_makers = sym (drop-drop max_items origins (joined xs ss os ms)) ∙ ap (drop max_items) from_origins ∙ drop_at os ms max_items eo

  joined_long : length ms ≡ 512 → length (joined xs ss os ms) ≡ size
  joined_long em = length-append xs (ss ++ (os ++ ms)) ∙ omega (arith, length-append ss (os ++ ms), length-append os ms)

-- ---- the struct

-- the words of a line, and the origins of its pending edits as words
abbrev pub slots_for : line.Line → List ℕ
slots_for v = slots_of v.pending

abbrev pub makers_for : List Origin → List ℕ
makers_for os = padded 0 max_pending (map word_of os)

-- the line v stands at place i, with the origins of its pending edits
pub record Row (k : Counts) (words : List ℕ) (i : ℕ) (v : line.Line) (os : List Origin) : Type 0 where
  pub counts : counts_at k i ≡ counts_of v
  pub slots : slots_at i words ≡ slots_for v
  pub makers : makers_at i words ≡ makers_for os

-- what the one struct for a server holds
pub record Holds (k : Counts) (words : List ℕ) (m : model.Server) : Type 0 where
  pub n : k.n ≡ m.n
  pub initial : k.initial ≡ m.initial
  pub len : k.len ≡ length m.items
  pub total : k.total ≡ running_time m.items
  pub ranks : k.ranks ≡ ranks.stored m.ranks
  pub items : items_in words ≡ stored (items_of m.items)
  pub origins : origins_in words ≡ stored (origins_of m.items)
  pub rows : (i : ℕ) → i < max_lines → Row k words i (get_or m.lines i line.no_line) (get_or m.makers i [])

slots_none : slots_of_lines [] ≡ []
unfolding slots_of_lines
slots_none = refl

slots_cons : (v : line.Line) (vs : List line.Line) → slots_of_lines (v ∷ vs) ≡ slots_for v ++ slots_of_lines vs
unfolding slots_of_lines
slots_cons v vs = refl

makers_none : words_of_makers [] ≡ []
unfolding words_of_makers
makers_none = refl

makers_cons : (os : List Origin) (oss : List (List Origin)) → words_of_makers (os ∷ oss) ≡ makers_for os ++ words_of_makers oss
unfolding words_of_makers
makers_cons os oss = refl

module _ (m : model.Server) (few : length m.lines ≤ max_lines) (few_makers : length m.makers ≤ max_lines) where
  eight : length (all_lines m) ≡ 8
  eight = pad_length max_lines line.no_line m.lines few

  eight_makers : length (all_makers m) ≡ 8
  eight_makers = pad_length max_lines [] m.makers few_makers

  line_is : (i : ℕ) → get_or (all_lines m) i line.no_line ≡ get_or m.lines i line.no_line
  line_is i = pad_get_or max_lines line.no_line m.lines i

  makers_is : (i : ℕ) → get_or (all_makers m) i [] ≡ get_or m.makers i []
  makers_is i = pad_get_or max_lines [] m.makers i

  counts_at_lem : (i : ℕ) → get_or (map counts_of (all_lines m)) i (counts_of line.no_line) ≡ counts_of (get_or m.lines i line.no_line)
  counts_at_lem i = get_or-map counts_of (all_lines m) i line.no_line ∙ ap counts_of (line_is i)

  -- a struct that holds each line of a server is the one for that server
  pub store_is : (k : Counts) (words : List ℕ) → Sizes k words → Holds k words m → server_of k words ≡ store m
  unfolding store
  store_is k words z h =
      let lines : k.lines ≡ map counts_of (all_lines m) =
      ext_get_or (counts_of line.no_line) k.lines (map counts_of (all_lines m)) (z.lines ∙ sym (length-map (all_lines m) counts_of ∙ eight))
      (λ i lt. (h.rows i (omega (arith, z.lines))).counts ∙ sym (counts_at_lem i)) in
      let slots_many : 1024 ≡ pending.size * length (all_lines m) = omega (arith, eight) in
      let slots : slots_in words ≡ slots_of_lines (all_lines m) =
      ap (λ (n : ℕ). part max_items n words) slots_many
      ∙ blocks_are line.no_line pending.size slots_for slots_of_lines slots_none slots_cons (all_lines m) words max_items
      (λ j lt. (h.rows j (omega (arith, eight))).slots ∙ ap slots_for (sym (line_is j))) in
      let makers_many : 512 ≡ max_pending * length (all_makers m) = omega (arith, eight_makers) in
      let made : makers_in words ≡ words_of_makers (all_makers m) =
      ap (λ (n : ℕ). part makers n words) makers_many
      ∙ blocks_are [] max_pending makers_for words_of_makers makers_none makers_cons (all_makers m) words makers
      (λ j lt. (h.rows j (omega (arith, eight_makers))).makers ∙ ap makers_for (sym (makers_is j))) in
      let all : words ≡ joined (stored (items_of m.items)) (slots_of_lines (all_lines m)) (stored (origins_of m.items)) (words_of_makers (all_makers m)) =
      words_are words z.words ∙ (λ j. joined (h.items j) (slots j) (h.origins j) (made j)) in
      λ j. record {
        counts = record { n = h.n j; initial = h.initial j; len = h.len j; total = h.total j; ranks = h.ranks j; lines = lines j };
        words = all j;
      }

  module _ (short : (i : ℕ) → length (get_or m.lines i line.no_line).pending ≤ max_pending)
      (short_makers : (i : ℕ) → length (get_or m.makers i []) ≤ max_pending) (fits : length m.items ≤ max_items) where
    abbrev xs : List ℕ
    xs = stored (items_of m.items)

    abbrev ss : List ℕ
    ss = slots_of_lines (all_lines m)

    abbrev os : List ℕ
    os = stored (origins_of m.items)

    abbrev ms : List ℕ
    ms = words_of_makers (all_makers m)

    slots_for_lem : (i : ℕ) → length (slots_for (get_or (all_lines m) i line.no_line)) ≡ pending.size
    slots_for_lem i = ap (λ (v : line.Line). length (slots_for v)) (line_is i) ∙ slots_length (get_or m.lines i line.no_line).pending (short i)

    makers_for_lem : (i : ℕ) → length (makers_for (get_or (all_makers m) i [])) ≡ max_pending
    makers_for_lem i =
        let l : List Origin = get_or m.makers i [] in
        ap (λ (l' : List Origin). length (makers_for l')) (makers_is i) ∙ pad_length max_pending 0 (map word_of l) (omega (arith, short_makers i, length-map l word_of))

    items_long : length xs ≡ max_items
    items_long = pad_length max_items 0 (items_of m.items) (omega (arith, places.items_length m.items))

    origins_long : length os ≡ max_items
    origins_long = pad_length max_items 0 (origins_of m.items) (omega (arith, places.origins_length m.items))

    slots_long : length ss ≡ 1024
    slots_long = omega (arith, blocks_long line.no_line pending.size slots_for slots_of_lines slots_none slots_cons (all_lines m) slots_for_lem, eight)

    makers_long : length ms ≡ 512
    makers_long = omega (arith, blocks_long [] max_pending makers_for words_of_makers makers_none makers_cons (all_makers m) makers_for_lem, eight_makers)

    pub sizes_of : Sizes (store m).counts (store m).words
    unfolding store
    sizes_of =
        record {
          words = joined_long xs ss os ms items_long slots_long origins_long makers_long;
          lines = length-map (all_lines m) counts_of ∙ eight;
          ranks = stored_length m.ranks;
        }

    pub store_holds : Holds (store m).counts (store m).words m
    unfolding store
    store_holds =
        record {
          n = refl;
          initial = refl;
          len = refl;
          total = refl;
          ranks = refl;
          items = items_of_lem xs ss os ms items_long slots_long origins_long;
          origins = origins_of_lem xs ss os ms items_long slots_long origins_long;
          rows = λ i h.
              record {
                counts = counts_at_lem i;
                slots =
                    blocks_at line.no_line pending.size slots_for slots_of_lines slots_none slots_cons (all_lines m) (joined xs ss os ms) (os ++ ms) max_items i
                    (from_slots xs ss os ms items_long slots_long origins_long) slots_for_lem (omega (arith, eight))
                    ∙ ap slots_for (line_is i);
                makers =
                    blocks_at [] max_pending makers_for words_of_makers makers_none makers_cons (all_makers m) (joined xs ss os ms) [] makers i
                    (from_makers xs ss os ms items_long slots_long origins_long ∙ sym (append-nil ms)) makers_for_lem (omega (arith, eight_makers))
                    ∙ ap makers_for (makers_is i);
              };
        }

-- The server's end in numbers and words: the model's server that these are, and back; question 2 of them.
use Rattle.std.specs.Prelude.{ℕ, zero, suc, ◌-◌, ◌<◌, ◌≡◌, Bool, true, ◌&&◌, cond, List, [], ◌∷◌, ◌++◌, map, leb, eqb, length, get_or, take, drop}
use Rattle.limits.specs.Limits.{max_lines, max_items, max_pending}
use Rattle.ot.specs.declared.Form.{Form}
use Rattle.ot.specs.Edit.{edit, size_after}
use Rattle.list.specs.Items.{padded, stored, all_zero, edited}
use Rattle.list.specs.declared.Origin.{Origin}
use Rattle.list.specs.Places.{Place, places_of, items_of, origins_of, word_of, origin_at}
use Rattle.list.specs.Seconds.{running_time}
use Rattle.model.specs.Questions.{every}
use Rattle.model.specs.Line as line
use Rattle.model.specs.Server as model
use Rattle.ranks.specs.Stored as ranks
use Rattle.pending.specs.Slots as pending
use Rattle.pending.specs.Slots.{all_from}
use Rattle.line.specs.declared.Line.{Line}
use Rattle.line.specs.Line.{line_of, counts_of, Kept}
use Rattle.line.specs.Sound.{tidy, empty_line}
pub use Rattle.server.specs.Words.{size, origins, makers, items_in, slots_at, origins_in, makers_at}
use Rattle.server.specs.declared.Counts.{Counts}
use Rattle.server.specs.declared.Server.{Server}

-- the first len places of the list
abbrev pub list_in : ℕ → List ℕ → List Place
list_in len words = places_of (take len (items_in words)) (take len (origins_in words))

abbrev pub counts_at : Counts → ℕ → Line
counts_at k i = get_or k.lines i (counts_of line.no_line)

abbrev pub line_at : Counts → List ℕ → ℕ → line.Line
line_at k words i = line_of (counts_at k i) (slots_at i words)

-- so many lines, the first of them at place i
unfoldable pub lines_from : Counts → List ℕ → ℕ → ℕ → List line.Line
lines_from k words i zero = []
lines_from k words i (suc count) = line_at k words i ∷ lines_from k words (suc i) count

abbrev pub makers_of : Counts → List ℕ → ℕ → List Origin
makers_of k words i = map origin_at (take ((counts_at k i).made - (counts_at k i).acked) (makers_at i words))

unfoldable pub makers_from : Counts → List ℕ → ℕ → ℕ → List (List Origin)
makers_from k words i zero = []
makers_from k words i (suc count) = makers_of k words i ∷ makers_from k words (suc i) count

abbrev pub server_of : Counts → List ℕ → Server
server_of k words = record { counts = k; words = words }

-- what the struct stands for: its first len places, and lines 1 to n
unfoldable pub view : Server → model.Server
view s =
    record {
      n = s.counts.n;
      initial = s.counts.initial;
      ranks = take s.counts.n s.counts.ranks;
      items = list_in s.counts.len s.words;
      lines = lines_from s.counts s.words 0 s.counts.n;
      makers = makers_from s.counts s.words 0 s.counts.n;
    }

-- all eight lines; over those that are not in use nothing has come
abbrev pub all_lines : model.Server → List line.Line
all_lines m = padded line.no_line max_lines m.lines

-- the words of some lines, one after the other
unfoldable pub slots_of_lines : List line.Line → List ℕ
slots_of_lines [] = []
slots_of_lines (v ∷ vs) = pending.slots_of v.pending ++ slots_of_lines vs

-- all eight, and their words, one line after the other
abbrev pub all_makers : model.Server → List (List Origin)
all_makers m = padded [] max_lines m.makers

unfoldable pub words_of_makers : List (List Origin) → List ℕ
words_of_makers [] = []
words_of_makers (os ∷ oss) = padded 0 max_pending (map word_of os) ++ words_of_makers oss

-- the one struct for a server: unused places are zero
abbrev pub counts : model.Server → Counts
counts m =
    record {
      n = m.n;
      initial = m.initial;
      len = length m.items;
      total = running_time m.items;
      ranks = ranks.stored m.ranks;
      lines = map counts_of (all_lines m);
    }

unfoldable pub store : model.Server → Server
store m =
    server_of (counts m)
    (stored (items_of m.items) ++ (slots_of_lines (all_lines m) ++ (stored (origins_of m.items) ++ words_of_makers (all_makers m))))

-- the slots of the line at place i, which is in use, have no bits that mean nothing; a line that is not in use is zero
abbrev pub tidy_at : Counts → List ℕ → ℕ → Bool
tidy_at k words i = tidy ((counts_at k i).made - (counts_at k i).acked) (slots_at i words)

abbrev pub empty_at : Counts → List ℕ → ℕ → Bool
empty_at k words i = empty_line (counts_at k i) (slots_at i words) && all_zero (makers_at i words)

-- behind the origins of its pending edits all is zero
abbrev pub bare_at : Counts → List ℕ → ℕ → Bool
bare_at k words i = all_zero (drop ((counts_at k i).made - (counts_at k i).acked) (makers_at i words))

-- Question 2: the model's, with what only a struct can break.
abbrev pub sound_tests : Server → List Bool
sound_tests s =
    model.sound_server (view s)
    ∷ leb s.counts.len max_items
    ∷ all_zero (drop s.counts.n s.counts.ranks)
    ∷ all_zero (drop s.counts.len (items_in s.words))
    ∷ all_zero (drop s.counts.len (origins_in s.words))
    ∷ eqb s.counts.total (running_time (view s).items)
    ∷ all_from (tidy_at s.counts s.words) 0 s.counts.n
    ∷ all_from (bare_at s.counts s.words) 0 s.counts.n
    ∷ all_from (empty_at s.counts s.words) s.counts.n (max_lines - s.counts.n)
    ∷ []

unfoldable pub sound : Server → Bool
sound s = every (sound_tests s)

-- What the calls may assume once question 2 has been answered yes: such a struct is the one for its meaning.
pub record Sound (s : Server) : Type 0 where
  pub yes : sound s ≡ true
  pub model : model.sound_server (view s) ≡ true
  pub whole : s ≡ store (view s)
  pub listed : length (view s).items ≡ s.counts.len
  pub kept : (i : ℕ) → i < max_lines → Kept (counts_at s.counts i) (slots_at i s.words)

-- the lengths of the words, of the counts and of the ranks
pub record Sizes (k : Counts) (ws : List ℕ) : Type 0 where
  pub words : length ws ≡ size
  pub lines : length k.lines ≡ max_lines
  pub ranks : length k.ranks ≡ max_lines

-- ---- the words in parts

-- the words are these items, these origins, and of each line these words and these origins
pub record Parts (xs os : List ℕ) (ss ms : ℕ → List ℕ) (words : List ℕ) : Type 0 where
  pub items : items_in words ≡ xs
  pub origins : origins_in words ≡ os
  pub slots : (i : ℕ) → i < max_lines → slots_at i words ≡ ss i
  pub makers : (i : ℕ) → i < max_lines → makers_at i words ≡ ms i
  pub long : length words ≡ size

-- the words of the line at a place are x now, or its origins are; all else is as before
abbrev pub SlotsWrote : ℕ → List ℕ → List ℕ → List ℕ → Type 0
SlotsWrote at x before after =
    Parts (items_in before) (origins_in before) (λ i. cond (eqb i at) x (slots_at i before)) (λ i. makers_at i before) after

abbrev pub MakersWrote : ℕ → List ℕ → List ℕ → List ℕ → Type 0
MakersWrote at x before after =
    Parts (items_in before) (origins_in before) (λ i. slots_at i before) (λ i. cond (eqb i at) x (makers_at i before)) after

-- the two parts that a struct's list is in, after an edit of form f, item x and that origin; nothing else changes
pub record Applied (f : Form) (x : ℕ) (o : Origin) (len : ℕ) (before after : List ℕ) (then : ℕ) : Type 0 where
  pub words : Parts (edited (edit f x) len (items_in before)) (edited (edit f (word_of o)) len (origins_in before)) (λ i. slots_at i before)
      (λ i. makers_at i before) after
  pub length : then ≡ size_after (edit f x) len

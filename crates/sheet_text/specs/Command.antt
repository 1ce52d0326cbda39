-- What a line of the run program says.
use Rattle.std.specs.Prelude.{ℕ, ◌&&◌, cond, List, [], ◌∷◌, leb, ltb}
use Rattle.sheet_print.specs.Decimal.{number_of, too_wide}
use Rattle.sheet_text.specs.Text.{words_of, same}

-- A client is named by its line (01: the bay), of 1 to the number of clients.
pub data Command : Type 0 where
  -- of no form below, or with a number out of its range
  Bad : Command
  -- line, position, item
  Insert : ℕ → ℕ → ℕ → Command
  -- line, position
  Delete : ℕ → ℕ → Command
  -- the client sends this number, and the server takes it
  Up : ℕ → ℕ → Command
  -- the server sends this number, and the client takes it
  Down : ℕ → ℕ → Command
  -- the client acknowledges
  Ack : ℕ → Command
  -- the server acknowledges
  Told : ℕ → Command

-- The words of the commands and of the first line, as bytes.
abbrev pub ins_word : List ℕ
ins_word = 105 ∷ 110 ∷ 115 ∷ []

abbrev pub del_word : List ℕ
del_word = 100 ∷ 101 ∷ 108 ∷ []

abbrev pub up_word : List ℕ
up_word = 117 ∷ 112 ∷ []

abbrev pub down_word : List ℕ
down_word = 100 ∷ 111 ∷ 119 ∷ 110 ∷ []

abbrev pub ack_word : List ℕ
ack_word = 97 ∷ 99 ∷ 107 ∷ []

abbrev pub told_word : List ℕ
told_word = 116 ∷ 111 ∷ 108 ∷ 100 ∷ []

abbrev pub lines_word : List ℕ
lines_word = 108 ∷ 105 ∷ 110 ∷ 101 ∷ 115 ∷ []

abbrev pub items_word : List ℕ
items_word = 105 ∷ 116 ∷ 101 ∷ 109 ∷ 115 ∷ []

-- a command of one word, after the client's line
abbrev pub plain : ℕ → List ℕ → Command
plain l w = cond (same w ack_word) (Ack l) (cond (same w told_word) (Told l) Bad)

-- of a word and a number of 16 bits
abbrev pub with_one : ℕ → List ℕ → ℕ → Command
with_one l w k =
    cond (ltb k 65536) (cond (same w del_word) (Delete l k) (cond (same w up_word) (Up l k) (cond (same w down_word) (Down l k) Bad))) Bad

-- of a word, a position of 16 bits and an item of 32
abbrev pub with_two : ℕ → List ℕ → ℕ → ℕ → Command
with_two l w p x = cond (ltb p 65536 && ltb x too_wide && same w ins_word) (Insert l p x) Bad

-- the words after the first number
abbrev pub after_number : ℕ → List ℕ → ℕ → List (List ℕ) → Command
after_number l w k [] = with_one l w k
after_number l w k (x ∷ []) = with_two l w k (number_of x)
after_number l w k (x ∷ y ∷ ws) = Bad

-- the words after the client's line
abbrev pub verb_of : ℕ → List (List ℕ) → Command
verb_of l [] = Bad
verb_of l (w ∷ []) = plain l w
verb_of l (w ∷ k ∷ ws) = after_number l w (number_of k) ws

-- all words of a line, of a sheet with n clients (01: a bay outside 1 to n)
abbrev pub spoken : ℕ → List (List ℕ) → Command
spoken n [] = Bad
spoken n (l ∷ ws) = cond (leb 1 (number_of l) && leb (number_of l) n) (verb_of (number_of l) ws) Bad

unfoldable pub command_of : ℕ → List ℕ → Command
command_of n line = spoken n (words_of line)

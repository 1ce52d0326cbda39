-- What the first line of the run program says.
use Rattle.std.specs.Prelude.{ℕ, ◌≡◌, Bool, true, ◌&&◌, cond, List, [], ◌∷◌, map, ltb, take, Option, Some, None}
use Rattle.sheet_text.specs.declared.first.First.{First}
use Rattle.sheet_print.specs.Decimal.{number_of, too_wide}
use Rattle.sheet_text.specs.Text.{words_of, same}
use Rattle.sheet_text.specs.Command.{lines_word, items_word}

pub data Opening : Type 0 where
  -- another form, or a number too wide
  none : Opening
  -- how many clients, and the initial items
  sheet : ℕ → List ℕ → Opening

-- each word is a number of 32 bits
abbrev pub numbers : List (List ℕ) → Bool
numbers [] = true
numbers (w ∷ ws) = ltb (number_of w) too_wide && numbers ws

-- the words after `items`
abbrev pub with_items : ℕ → List (List ℕ) → Opening
with_items n ws = cond (numbers ws) (sheet n (map number_of ws)) none

-- the words after the number of clients: `items`, and the items
abbrev pub after_number : ℕ → List (List ℕ) → Opening
after_number n [] = none
after_number n (i ∷ ws) = cond (same i items_word) (with_items n ws) none

-- the words after `lines`: a number of 8 bits, and what follows it
abbrev pub after_lines : List (List ℕ) → Opening
after_lines [] = none
after_lines (n ∷ ws) = cond (ltb (number_of n) 256) (after_number (number_of n) ws) none

abbrev pub opens : List (List ℕ) → Opening
opens [] = none
opens (l ∷ ws) = cond (same l lines_word) (after_lines ws) none

unfoldable pub opening_of : List ℕ → Opening
opening_of line = opens (words_of line)

-- As the code holds it: at most 129 items, one more than an opening may have.
abbrev pub max_held : ℕ
max_held = 129

abbrev pub held : Option First → Opening
held None = none
held (Some f) = sheet f.n f.items.items

abbrev pub cut : Opening → Opening
cut none = none
cut (sheet n items) = sheet n (take max_held items)

abbrev pub Reads : Opening → Option First → Type 0
Reads o f = held f ≡ cut o

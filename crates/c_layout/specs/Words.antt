-- Words as bytes, four to a word, and back; both round trips.
use Rattle.std.specs.Prelude.{ℕ, ◌+◌, ◌*◌, ◌/◌, ◌%◌, ◌<◌, ◌≡◌, List, [], ◌∷◌, ◌++◌, length, get_or, take, drop}

-- what makes a word of four bytes
abbrev pub Order : Type 0
Order = ℕ → ℕ → ℕ → ℕ → ℕ

abbrev pub low_first : Order
low_first a b c d = a + b * 256 + c * 65536 + d * 16777216

abbrev pub high_first : Order
high_first a b c d = low_first d c b a

abbrev pub word_at : Order → List ℕ → ℕ → ℕ
word_at f s i = f (get_or s i 0) (get_or s (i + 1) 0) (get_or s (i + 2) 0) (get_or s (i + 3) 0)

-- the words of bytes; a cut word is passed over
unfoldable pub words_by : Order → List ℕ → List ℕ
words_by f [] = []
words_by f (a ∷ []) = []
words_by f (a ∷ b ∷ []) = []
words_by f (a ∷ b ∷ c ∷ []) = []
words_by f (a ∷ b ∷ c ∷ d ∷ s) = f a b c d ∷ words_by f s

-- an end's words, and opening items
abbrev pub words_of : List ℕ → List ℕ
words_of s = words_by low_first s

abbrev pub items_of : List ℕ → List ℕ
items_of s = words_by high_first s

abbrev pub four_of : ℕ → List ℕ
four_of w = w % 256 ∷ w / 256 % 256 ∷ w / 65536 % 256 ∷ w / 16777216 ∷ []

-- the bytes of an end's words
unfoldable pub bytes_of : List ℕ → List ℕ
bytes_of [] = []
bytes_of (w ∷ ws) = four_of w ++ bytes_of ws

-- the list l with x from place `at` on, over what stood there
abbrev pub put_at : ℕ → List ℕ → List ℕ → List ℕ
put_at at x l = take at l ++ (x ++ drop (at + length x) l)

-- every element is a byte
abbrev pub Bytes : List ℕ → Type 0
Bytes s = (i : ℕ) → get_or s i 0 < 256

-- Words that were written read back as they were, and bytes that were read are written back as they were.
pub record RoundTrips : Type 0 where
  pub read_back : (ws : List ℕ) → words_of (bytes_of ws) ≡ ws
  pub written_back : (s : List ℕ) (n : ℕ) → length s ≡ 4 * n → Bytes s → bytes_of (words_of s) ≡ s

-- Lines that the run program prints (01: "Run program").
use Rattle.std.specs.Prelude.{ℕ, List, [], ◌∷◌, ◌++◌}
use Rattle.sheet_print.specs.Decimal.{decimal, listed}

-- `?`, `server` and `client`, as bytes
abbrev pub unknown : List ℕ
unknown = 63 ∷ 10 ∷ []

abbrev pub server_word : List ℕ
server_word = 115 ∷ 101 ∷ 114 ∷ 118 ∷ 101 ∷ 114 ∷ []

abbrev pub client_word : List ℕ
client_word = 99 ∷ 108 ∷ 105 ∷ 101 ∷ 110 ∷ 116 ∷ 32 ∷ []

-- a refusal's number, or 0, on a line
abbrev pub replied : ℕ → List ℕ
replied r = decimal r ++ (10 ∷ [])

abbrev pub server_list : List ℕ → List ℕ
server_list items = server_word ++ listed items

abbrev pub client_list : ℕ → List ℕ → List ℕ
client_list l items = (client_word ++ decimal l) ++ listed items

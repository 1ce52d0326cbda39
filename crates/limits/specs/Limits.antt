-- 01's limits by name.
use Rattle.std.specs.Prelude.{ℕ}

abbrev pub max_lines : ℕ
max_lines = 8

-- inserts of a client over its whole life: deleting an item does not give its insert back
abbrev pub max_inserts : ℕ
max_inserts = 48

-- edits of a client
abbrev pub max_edits : ℕ
max_edits = 400

-- edits of all other clients: 7 × 400
abbrev pub max_others : ℕ
max_others = 2800

-- 01: kept edits of a line
abbrev pub max_pending : ℕ
max_pending = 64

-- 128 + 8 × 48
abbrev pub max_items : ℕ
max_items = 512

-- bytes of a packet (02: N2)
abbrev pub max_packet : ℕ
max_packet = 1400

-- 01: items at opening
abbrev pub max_initial : ℕ
max_initial = 128

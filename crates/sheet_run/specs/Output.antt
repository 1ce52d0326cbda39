-- What the run program prints for its input (01: "Run program").
use Rattle.std.specs.Prelude.{ℕ, suc, ◌≤◌, ◌≡◌, Bool, true, false, cond, List, [], ◌∷◌, ◌++◌, ltb, eqb, length, take}
use Rattle.list.specs.Places.{items_of}
use Rattle.model.specs.Ranks.{line_ranks}
use Rattle.model.specs.Client.{Client}
use Rattle.model.specs.Server.{open_server}
use Rattle.sheet_print.specs.Sink.{Printed}
use Rattle.sheet_text.specs.Text.{lines_of}
use Rattle.sheet_print.specs.Lines.{unknown, replied, server_list, client_list}
use Rattle.sheet_text.specs.Command.{Command, Bad, Insert, Delete, Up, Down, Ack, Told, command_of}
use Rattle.sheet_text.specs.Opening.{Opening, none, sheet, opening_of}
use Rattle.sheet_ends.specs.Bench.{Bench, step, open_bench}

-- `long`, as bytes
abbrev pub long : List ℕ
long = 108 ∷ 111 ∷ 110 ∷ 103 ∷ 10 ∷ []

-- whether a line was understood
unfoldable pub understood : Command → Bool
understood Bad = false
understood (Insert l p x) = true
understood (Delete l p) = true
understood (Up l k) = true
understood (Down l k) = true
understood (Ack l) = true
understood (Told l) = true

-- the answer to a command
abbrev pub replies : Command → ℕ → List ℕ
replies c r = cond (understood c) (replied r) unknown

-- the lists of the clients from line l on: their items alone
unfoldable pub client_lists : ℕ → List Client → List ℕ
client_lists l [] = []
client_lists l (c ∷ cs) = client_list l (items_of c.items) ++ client_lists (suc l) cs

abbrev pub lists : Bench → List ℕ
lists b = server_list (items_of b.server.items) ++ client_lists 1 b.clients

-- the lines after the first, and the lists
unfoldable pub ran : Bench → List (List ℕ) → List ℕ
ran b [] = lists b
ran b (line ∷ ls) =
    replies (command_of b.server.n line) (step b (command_of b.server.n line)).refusal
    ++ ran (step b (command_of b.server.n line)).bench ls

-- The ranks are line numbers. An opening that is refused ends the program, and so does a first line that fails.
abbrev pub started : Opening → List (List ℕ) → List ℕ
started none ls = unknown
started (sheet n items) ls =
    cond (eqb (open_server n (line_ranks n) items).refusal 0) (replied 0 ++ ran (open_bench n items) ls)
    (replied (open_server n (line_ranks n) items).refusal)

abbrev pub printed : List (List ℕ) → List ℕ
printed [] = unknown
printed (line ∷ ls) = started (opening_of line) ls

abbrev pub max_input : ℕ
max_input = 65536

unfoldable pub output : List ℕ → List ℕ
output s = cond (ltb max_input (length s)) long (printed (lines_of s))

-- room for any output: 3 bytes a line, and nine lists of 512 items
abbrev pub max_output : ℕ
max_output = 262144

abbrev pub OutputFits : Type 0
OutputFits = (s : List ℕ) → length (output s) ≤ max_output

-- so a buffer of that length gets all of it
abbrev pub AllPrinted : Type 0
AllPrinted =
    (s before after : List ℕ) (n : ℕ) → max_output ≤ length before → Printed (output s) before after n → take n after ≡ output s

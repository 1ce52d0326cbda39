-- Pending edits (01: kept edits) as words. A line has 64 slots: the words 0 to 63 are their places, the words 64 to 127 their items.
use Rattle.std.specs.Prelude.{ℕ, zero, suc, ◌+◌, ◌*◌, ◌/◌, ◌%◌, Bool, true, ◌&&◌, cond, List, [], ◌∷◌, ◌++◌, map, eqb, get_or}
use Rattle.limits.specs.Limits.{max_pending}
use Rattle.ot.specs.declared.Form.{Form}
use Rattle.ot.specs.declared.Form.TheVariants as form
use Rattle.ot.specs.Edit.{Edit, edit, form_of, item_of}
use Rattle.list.specs.Items.{padded}

-- the words of a line
abbrev pub size : ℕ
size = 128

-- ---- one slot

-- position × 256 + priority; a delete has priority 0, nothing is 0, and so is an unused slot
abbrev pub place_of : Form → ℕ
place_of form.Nothing = 0
place_of (form.Delete p) = p * 256
place_of (form.Insert p r) = p * 256 + r

-- the form with a position and a priority
abbrev pub form_from : ℕ → ℕ → Form
form_from p r = cond (eqb p 0) form.Nothing (cond (eqb r 0) (form.Delete p) (form.Insert p r))

-- what a place means; positions have 16 bits
unfoldable pub form_at : ℕ → Form
form_at place = form_from (place / 256 % 65536) (place % 256)

-- ---- the slots of a line

-- the form in slot i, and the edit with its item
abbrev pub form_in : List ℕ → ℕ → Form
form_in words i = form_at (get_or words i 0)

abbrev pub edit_in : List ℕ → ℕ → Edit
edit_in words i = edit (form_in words i) (get_or words (max_pending + i) 0)

-- the edits in count slots, the first of them slot from
unfoldable pub edits_from : List ℕ → ℕ → ℕ → List Edit
edits_from words from zero = []
edits_from words from (suc count) = edit_in words from ∷ edits_from words (suc from) count

-- the words of a line for its pending edits: unused slots are zero
abbrev pub places_of : List Edit → List ℕ
places_of es = padded 0 max_pending (map (λ e. place_of (form_of e)) es)

abbrev pub items_of : List Edit → List ℕ
items_of es = padded 0 max_pending (map item_of es)

unfoldable pub slots_of : List Edit → List ℕ
slots_of es = places_of es ++ items_of es

-- a test of count numbers, the first of them from
unfoldable pub all_from : (ℕ → Bool) → ℕ → ℕ → Bool
all_from test from zero = true
all_from test from (suc count) = test from && all_from test (suc from) count

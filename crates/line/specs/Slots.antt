-- What the functions within say, of the places and the items of a line's slots lent side by side. No call's promise mentions these.
use Rattle.std.specs.Prelude.{ℕ, Bool, not, ◌&&◌, cond, List, [], ◌∷◌, eqb, leb, ltb, get_or}
use Rattle.limits.specs.Limits.{max_pending, max_edits, max_inserts}
use Rattle.ot.specs.Edit.{edit, item_of}
use Rattle.model.specs.Questions.{every}
use Rattle.model.specs.Cross.{placed, priority}
use Rattle.pending.specs.Slots.{place_of, form_at, all_from}
use Rattle.line.specs.declared.Line.{Line}

-- the priorities from low to high but one
abbrev pub allowed : ℕ → ℕ → ℕ → ℕ → Bool
allowed low high other r = leb low r && leb r high && not (eqb r other)

-- a slot in use: position, priority, and no bits that mean nothing
abbrev pub right_slot : (ℕ → Bool) → ℕ → ℕ → Bool
right_slot good place item =
    placed (edit (form_at place) item)
    && (priority good (edit (form_at place) item) && (eqb place (place_of (form_at place)) && eqb item (item_of (edit (form_at place) item))))

abbrev pub kept_slot : (ℕ → Bool) → Bool → ℕ → ℕ → Bool
kept_slot good used place item = cond used (right_slot good place item) (eqb place 0 && eqb item 0)

-- slot j, where the first count are in use
abbrev pub kept_at : (ℕ → Bool) → ℕ → List ℕ → List ℕ → ℕ → Bool
kept_at good count places items j = kept_slot good (ltb j count) (get_or places j 0) (get_or items j 0)

-- slot i as one in use
abbrev pub right_at : (ℕ → Bool) → List ℕ → List ℕ → ℕ → Bool
right_at good places items i = right_slot good (get_or places i 0) (get_or items i 0)

abbrev pub zero_at : List ℕ → List ℕ → ℕ → Bool
zero_at places items i = eqb (get_or places i 0) 0 && eqb (get_or items i 0) 0

-- at most 64 edits, each slot as it should be
unfoldable pub sound_slots : (ℕ → Bool) → ℕ → List ℕ → List ℕ → Bool
sound_slots good count places items = leb count max_pending && all_from (kept_at good count places items) 0 max_pending

abbrev pub counts_sound : ℕ → Line → Bool
counts_sound edits v =
    every (leb edits max_edits ∷ leb v.acked v.made ∷ leb v.inserts max_inserts ∷ leb v.inserts edits ∷ [])

-- The bytes of a message, high byte first, and what bytes read as (01: "Message bytes").
use Rattle.std.specs.Prelude.{ℕ, ◌+◌, ◌*◌, ◌/◌, ◌%◌, ◌&&◌, cond, Option, Some, None, List, [], ◌∷◌, ◌++◌, leb, eqb, length, get_or}
use Rattle.list.specs.declared.Origin.{Origin}
use Rattle.wire.specs.declared.Header.{Header}
use Rattle.wire.specs.declared.Message.{Message}
use Rattle.wire.specs.declared.Message.TheVariants.{Insert, Delete, Nothing, Ack}
use Rattle.wire.specs.Message.{in_range}

abbrev pub two : ℕ → List ℕ
two n = n / 256 ∷ n % 256 ∷ []

abbrev pub four : ℕ → List ℕ
four n = two (n / 65536) ++ two (n % 65536)

abbrev pub header : Header → List ℕ
header h = h.line ∷ h.direction ∷ two h.number ++ two h.seen

-- what every edit message ends with
abbrev pub origin : Origin → List ℕ
origin o = o.line ∷ two o.number

unfoldable pub bytes_of : Message → List ℕ
bytes_of (Insert h p x r) = 5 ∷ header h ++ two p ++ four x ++ (r ∷ origin h.origin)
bytes_of (Delete h p) = 7 ∷ header h ++ two p ++ origin h.origin
bytes_of (Nothing h) = 8 ∷ header h ++ origin h.origin
bytes_of (Ack l d s) = 4 ∷ l ∷ d ∷ two s

-- The kind byte alone fixes the length; 0 for a byte that is no kind.
abbrev pub size_of_kind : ℕ → ℕ
size_of_kind k = cond (eqb k 5) 17 (cond (eqb k 7) 12 (cond (eqb k 8) 10 (cond (eqb k 4) 5 0)))

abbrev pub two_at : List ℕ → ℕ → ℕ
two_at s i = get_or s i 0 * 256 + get_or s (i + 1) 0

abbrev pub four_at : List ℕ → ℕ → ℕ
four_at s i = two_at s i * 65536 + two_at s (i + 2)

abbrev pub origin_at : List ℕ → ℕ → Origin
origin_at s i = record { line = get_or s i 0; number = two_at s (i + 1) }

-- where the origin stands from i on
abbrev pub header_at : List ℕ → ℕ → Header
header_at s i = record { line = get_or s 1 0; direction = get_or s 2 0; number = two_at s 3; seen = two_at s 5; origin = origin_at s i }

-- the fields of a message of kind k, at their places
abbrev pub fields_of : ℕ → List ℕ → Message
fields_of k s =
    cond (eqb k 5) (Insert (header_at s 14) (two_at s 7) (four_at s 9) (get_or s 13 0))
    (cond (eqb k 7) (Delete (header_at s 9) (two_at s 7)) (cond (eqb k 8) (Nothing (header_at s 7)) (Ack (get_or s 1 0) (get_or s 2 0) (two_at s 3))))

-- exactly one message, each field in its range; else none
unfoldable pub parsed : List ℕ → Option Message
parsed s =
    cond (leb 1 (length s) && eqb (length s) (size_of_kind (get_or s 0 0)) && in_range (fields_of (get_or s 0 0) s))
    (Some (fields_of (get_or s 0 0) s))
    None

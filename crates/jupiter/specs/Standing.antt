-- Which origins stand on the lists that are shown, what an edit does where it arrives, and how much room that leaves.
use Rattle.std.specs.Prelude.{ℕ, zero, suc, ◌+◌, ◌≤◌, ◌<◌, ◌≡◌, Bool, true, false, not, cond, ◌&&◌, ◌||◌, List, [], ◌∷◌, length, get_or, take}
use Rattle.jupiter.specs.Name.{Name, same, holds}
use Rattle.jupiter.specs.Algebra.{Algebra}
use Rattle.jupiter.specs.Made.{Made, select, names}
use Rattle.jupiter.specs.Form.{form, list_at, in_order}
use Rattle.jupiter.specs.Point.{blank}
use Rattle.jupiter.specs.History.{History, order, missing}
use Rattle.jupiter.specs.Run.{Call, State, initial, run}
use Rattle.jupiter.specs.Claims.{Who, server, client, set_of, doc_of, inserts}
use Rattle.jupiter.specs.Origins.{Effect, puts, cuts, leaves, Origins, Opening, shown}

-- ---- effects

unfoldable pub is_puts : Effect → Bool
is_puts puts = true
is_puts (cuts x) = false
is_puts leaves = false

unfoldable pub is_cuts : Name → Effect → Bool
is_cuts o puts = false
is_cuts o (cuts x) = same o x
is_cuts o leaves = false

-- the name that the effect takes off beside the others, unless it is among them
unfoldable pub with_cut : Effect → List Name → List Name
with_cut puts ns = ns
with_cut (cuts o) ns = cond (holds ns o) ns (o ∷ ns)
with_cut leaves ns = ns

-- one of the elements passes the test
unfoldable pub any : {A : Type 0} → (A → Bool) → List A → Bool
any p [] = false
any p (x ∷ xs) = p x || any p xs

-- ---- sets of edits

module _ {𝓐 : Algebra} (𝓞 : Origins 𝓐) (d : 𝓐.Doc) (h : History 𝓐) where
  -- what the edit's maker had applied
  abbrev pub known_to : Made 𝓐 → List (Made 𝓐)
  known_to e = select (λ z. holds e.context z.name) (order h e.name.line)

  -- what the edit, as made, did to the list that its maker showed; of a delete this tells its target, the origin that it took off
  abbrev pub did : Made 𝓐 → Effect
  did e = 𝓞.effect e.edit (list_at d (known_to e))

  -- o is the name of an insert of the set
  abbrev pub put_by : List (Made 𝓐) → Name → Bool
  put_by C o = any (λ e. is_puts (did e) && same o e.name) C

  -- the targets of the set's deletes, each once
  unfoldable pub targets : List (Made 𝓐) → List Name
  targets [] = []
  targets (e ∷ es) = with_cut (did e) (targets es)

  -- what is left of an effect at the set C: nothing, where a delete of C has taken off the same
  unfoldable pub still : List (Made 𝓐) → Effect → Effect
  still C puts = puts
  still C (cuts o) = cond (holds (targets C) o) leaves (cuts o)
  still C leaves = leaves

  -- Where the set C is applied and the origins xs are shown: they are those of the opening list and of the inserts of C, less the targets of the
  -- deletes of C. So their number is known too.
  pub record Stands (C : List (Made 𝓐)) (xs : List Name) : Type 0 where
    pub member : (o : Name) → holds xs o ≡ (holds (𝓞.origins d) o || put_by C o) && not (holds (targets C) o)
    pub count : length xs + length (targets C) ≡ length (𝓞.origins d) + inserts C

module _ {𝓐 : Algebra} where
  -- what an end has applied, in 01's order
  abbrev pub set_in : Who → State 𝓐 → List (Made 𝓐)
  set_in server s = s.history.served
  set_in (client l) s = in_order (order s.history l) (s.history.applied l)

  -- What an arriving edit does: what it did as made, or nothing, where a delete that the taking end has applied took off the same. That the edit arrives
  -- in this form is said in `Claims`.
  pub record Keeps (𝓞 : Origins 𝓐) (d : 𝓐.Doc) (s : State 𝓐) (l : ℕ) : Type 0 where
    pub down : (e : Made 𝓐) (es : List (Made 𝓐)) → missing s.history l ≡ e ∷ es
        → 𝓞.effect (form e (set_in (client l) s)) (doc_of (client l) s) ≡ still 𝓞 d s.history (set_in (client l) s) (did 𝓞 d s.history e)
    pub up : (e : Made 𝓐) (es : List (Made 𝓐)) → s.history.untaken l ≡ e ∷ es
        → 𝓞.effect (form e (set_in server s)) (doc_of server s) ≡ still 𝓞 d s.history (set_in server s) (did 𝓞 d s.history e)

-- ---- the theorems, for every algebra of edits that has the laws

abbrev pub Membership : (𝓐 : Algebra) → Origins 𝓐 → Type 0
Membership 𝓐 𝓞 =
    (d : 𝓐.Doc) → Opening 𝓞 d → (cs : List (Call 𝓐)) (x : Who)
    → Stands 𝓞 d (run (initial d) cs).history (set_in x (run (initial d) cs)) (shown 𝓞 x (run (initial d) cs))

abbrev pub KeepsTarget : (𝓐 : Algebra) → Origins 𝓐 → Type 0
KeepsTarget 𝓐 𝓞 = (d : 𝓐.Doc) → Opening 𝓞 d → (cs : List (Call 𝓐)) (l : ℕ) → Keeps 𝓞 d (run (initial d) cs) l

-- how many of the numbers below n pass a test
unfoldable pub count_below : (ℕ → Bool) → ℕ → ℕ
count_below p zero = 0
count_below p (suc n) = cond (p n) (suc (count_below p n)) (count_below p n)

module _ {𝓐 : Algebra} where
  -- the edit that the server took as number k, from 0, took an item off its list
  pub record Removed (𝓞 : Origins 𝓐) (d : 𝓐.Doc) (h : History 𝓐) (k : ℕ) : Type 0 where
    pub target : Name
    pub effect : 𝓞.effect (form (get_or h.served k blank) (take k h.served)) (list_at d (take k h.served)) ≡ cuts target

  -- each edit that is counted is such a delete, and the end x has applied it
  abbrev pub Settled : (𝓞 : Origins 𝓐) (d : 𝓐.Doc) (s : State 𝓐) (x : Who) (settled : ℕ → Bool) → Type 0
  Settled 𝓞 d s x settled =
      (k : ℕ) → k < length s.history.served → settled k ≡ true
      → Removed 𝓞 d s.history k × (holds (names (set_of x s)) (get_or s.history.served k blank).name ≡ true)

-- Whichever deletes are counted that took an item off the server's list and that an end has applied: by so many at least its list is shorter than
-- the opening list and the inserts that it has applied.
abbrev pub Room : (𝓐 : Algebra) → Origins 𝓐 → Type 0
Room 𝓐 𝓞 =
    (d : 𝓐.Doc) → Opening 𝓞 d → (cs : List (Call 𝓐)) (x : Who) (settled : ℕ → Bool) → Settled 𝓞 d (run (initial d) cs) x settled
    → 𝓐.size (doc_of x (run (initial d) cs)) + count_below settled (length (run (initial d) cs).history.served) ≤ 𝓐.size d + inserts (set_in x (run (initial d) cs))

-- A command as the code holds it.
use Rattle.std.specs.Prelude.{ℕ, ◌<◌, ◌≡◌, List, ◌∷◌, drop, Option, Some, None}
use Rattle.sheet_text.specs.declared.Order.{Order}
use Rattle.sheet_text.specs.declared.Verb.{Verb}
use Rattle.sheet_text.specs.declared.Verb.TheVariants as verb
use Rattle.sheet_text.specs.declared.Line.{Line}
use Rattle.sheet_text.specs.Text.{before, lines_of}
use Rattle.sheet_text.specs.Command.{Command, Bad, Insert, Delete, Up, Down, Ack, Told, command_of}

-- the order of a verb on line l
abbrev pub on : ℕ → Option Verb → Option Order
on l None = None
on l (Some v) = Some (record { line = l; verb = v })

-- the one order of a command
unfoldable pub coded : Command → Option Order
coded Bad = None
coded (Insert l p x) = on l (Some (verb.Insert p x))
coded (Delete l p) = on l (Some (verb.Delete p))
coded (Up l k) = on l (Some (verb.Up k))
coded (Down l k) = on l (Some (verb.Down k))
coded (Ack l) = on l (Some verb.Ack)
coded (Told l) = on l (Some verb.Told)

-- a verb, or none, is what a command says, whatever its line
abbrev pub Says : Option Verb → (ℕ → Command) → Type 0
Says r c = (l : ℕ) → on l r ≡ coded (c l)

-- the first line of a text from place i on, of a sheet with n clients, and where the next one begins
pub record Next (s : List ℕ) (i n : ℕ) (r : Line) : Type 0 where
  pub lines : lines_of (drop i s) ≡ before 10 (drop i s) ∷ lines_of (drop r.after s)
  pub order : r.order ≡ coded (command_of n (before 10 (drop i s)))
  pub later : i < r.after

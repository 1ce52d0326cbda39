-- Lists of calls on the server and its clients, with no limit on any count, and what they leave.
use Rattle.std.specs.Prelude.{ℕ, Bool, true, not, ◌&&◌, cond, List, [], ◌∷◌, ◌++◌, eqb, length}
use Rattle.std.proofs.Math.Option.{Option, none, some}
use Rattle.std.proofs.Math.ListN.{get_elem?}
use Rattle.jupiter.specs.Algebra.{Algebra}
use Rattle.jupiter.specs.History.{at, History, no_history, made_by, new_name, after_edit, after_up, after_down, after_join}
use Rattle.jupiter.specs.Ends.{EditMessage, Ends, opened, can_send, message, current, can_take, editing, taking_up, taking_down, acking_up, acking_down, joining}

-- What was written, with its line. An end takes only what goes its way on its line, so the message says who may take it.
pub data Message (𝓐 : Algebra) : Type 0 where
  up down : ℕ → EditMessage 𝓐 → Message 𝓐
  up_ack down_ack : ℕ → ℕ → Message 𝓐

pub data Call (𝓐 : Algebra) : Type 0 where
  -- client l makes an edit
  edit : ℕ → 𝓐.Edit → Call 𝓐
  -- client l, or the server to client l, sends edit number k
  send_up send_down : ℕ → ℕ → Call 𝓐
  -- client l, or the server to client l, sends an acknowledgement
  tell_up tell_down : ℕ → Call 𝓐
  -- whoever may take it gets the message that was written as the i-th, counted from 0: at any time, in any order, any number of times
  deliver : ℕ → Call 𝓐
  -- client l joins late: its line starts at what the server has by now
  join : ℕ → Call 𝓐

-- `start l` is the number of edits behind line l's opening list: 0, or what the server had taken when client l joined. The counts of both ends
-- and the numbers in the line's messages begin behind them.
pub record State (𝓐 : Algebra) : Type 0 where
  pub ends : Ends 𝓐
  pub history : History 𝓐
  pub messages : List (Message 𝓐)
  pub start : ℕ → ℕ

module _ {𝓐 : Algebra} where
  abbrev pub initial : 𝓐.Doc → State 𝓐
  initial d = record { ends = opened d; history = no_history; messages = []; start = λ l. 0 }

  abbrev pub writes : Message 𝓐 → State 𝓐 → State 𝓐
  writes x s = record { ends = s.ends; history = s.history; messages = s.messages ++ (x ∷ []); start = s.start }

  abbrev pub goes : (Ends 𝓐 → Ends 𝓐) → (History 𝓐 → History 𝓐) → State 𝓐 → State 𝓐
  goes f g s = record { ends = f s.ends; history = g s.history; messages = s.messages; start = s.start }

  abbrev pub line_of : Message 𝓐 → ℕ
  line_of (up l m) = l
  line_of (down l m) = l
  line_of (up_ack l seen) = l
  line_of (down_ack l seen) = l

  -- none of the messages is on line l
  unfoldable pub silent : ℕ → List (Message 𝓐) → Bool
  silent l [] = true
  silent l (x ∷ xs) = not (eqb l (line_of x)) && silent l xs

  -- No edit was made on line l, and no message written: only such a line may start late. One that has joined and done nothing since may do so
  -- again.
  abbrev pub unused : ℕ → State 𝓐 → Bool
  unused l s = eqb (made_by s.history l) 0 && silent l s.messages

  abbrev pub joins : ℕ → State 𝓐 → State 𝓐
  joins l s =
      record {
        ends = joining l s.ends;
        history = after_join l s.history;
        messages = s.messages;
        start = at l (length s.history.served) s.start;
      }

  -- a message that may not be taken changes nothing
  unfoldable pub receive : Option (Message 𝓐) → State 𝓐 → State 𝓐
  receive none s = s
  receive (some (up l m)) s = cond (can_take m (s.ends.lines l)) (goes (taking_up l m) (after_up l) s) s
  receive (some (down l m)) s = cond (can_take m (s.ends.clients l)) (goes (taking_down l m) (after_down l) s) s
  receive (some (up_ack l seen)) s = cond (current seen (s.ends.lines l)) (goes (acking_up l seen) (λ h. h) s) s
  receive (some (down_ack l seen)) s = cond (current seen (s.ends.clients l)) (goes (acking_down l seen) (λ h. h) s) s

  unfoldable pub step : State 𝓐 → Call 𝓐 → State 𝓐
  step s (edit l e) =
      cond (𝓐.by (new_name s.history l) e && 𝓐.fits e (s.ends.docs l)) (goes (editing l e) (after_edit l e) s) s
  step s (send_up l k) =
      cond (can_send k (s.ends.clients l)) (writes (up l (message k (s.ends.clients l))) s) s
  step s (send_down l k) =
      cond (can_send k (s.ends.lines l)) (writes (down l (message k (s.ends.lines l))) s) s
  step s (tell_up l) = writes (up_ack l (s.ends.clients l).taken) s
  step s (tell_down l) = writes (down_ack l (s.ends.lines l).taken) s
  step s (deliver i) = receive (get_elem? s.messages i) s
  step s (join l) = cond (unused l s) (joins l s) s

  unfoldable pub run : State 𝓐 → List (Call 𝓐) → State 𝓐
  run s [] = s
  run s (c ∷ cs) = run (step s c) cs

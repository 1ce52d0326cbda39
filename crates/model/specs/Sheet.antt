-- A sheet: anything that has these calls. What is claimed of a sheet is stated for any of them, so that wrong ones can be tried.
use Rattle.std.specs.Prelude.{ℕ, List}
use Rattle.list.specs.Places.{Place}
use Rattle.model.specs.Questions.{Answer, Sent}

pub record Sheet : Type 1 where
  -- an end, the server's or a client's
  pub End : Type 0
  -- its list, each place with its origin, and for each line how many edits it made and took there
  pub items : End → List Place
  -- its running time (02: N6), as the end keeps it
  pub total : End → ℕ
  pub made : End → ℕ → ℕ
  pub taken : End → ℕ → ℕ
  -- n, ranks, items; n, line, ranks, items
  pub open_server : ℕ → List ℕ → List ℕ → Answer End
  pub open_client : ℕ → ℕ → List ℕ → List ℕ → Answer End
  -- position, item; position
  pub insert : End → ℕ → ℕ → Answer End
  pub delete : End → ℕ → Answer End
  -- takes its latest edit back
  pub take_back : End → Answer End
  -- line, number, lent bytes; line, lent bytes (an acknowledgement)
  pub send : End → ℕ → ℕ → List ℕ → Sent
  pub tell : End → ℕ → List ℕ → Sent
  -- bytes
  pub take : End → List ℕ → Answer End
  -- line, lent bytes, offset; the bytes of a packet (02: N2)
  pub pack : End → ℕ → List ℕ → ℕ → Sent
  pub take_packet : End → List ℕ → Answer End

-- Any list of calls is made of these. End 0 is the server's, end l the client's on line l. Nothing in a call says that it is in order:
-- whatever is refused is part of the list too.
pub data Call : Type 0 where
  -- client l inserts an item at a position, or deletes the one there
  insert : (l p x : ℕ) → Call
  delete : (l p : ℕ) → Call
  -- client l takes its latest edit back
  take_back : (l : ℕ) → Call
  -- end a sends on line l the edit of a number, or an acknowledgement, with these bytes lent
  send : (a l number : ℕ) (lent : List ℕ) → Call
  tell : (a l : ℕ) (lent : List ℕ) → Call
  -- end a takes the message that was written as number i, counted from 0: at any end, in any order, however often
  receive : (a i : ℕ) → Call
  -- end a writes a packet of the pending edits of line l, from an offset of these bytes on
  pack : (a l offset : ℕ) (lent : List ℕ) → Call
  -- end a takes a packet: messages that were written, by their numbers and in any order, end to end, and a tail with which no message begins
  packet : (a : ℕ) (is tail : List ℕ) → Call
  -- end a takes bytes that no message has
  junk : (a : ℕ) (bytes : List ℕ) → Call

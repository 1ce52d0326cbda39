-- What every sheet that converges has with it: the claim alone gives it.
use Rattle.std.specs.Prelude.{ℕ, zero, suc, ◌≤◌, ◌≡◌, Bool, true, false, not, ◌&&◌, List, [], ◌∷◌, ◌++◌, eqb}
use Rattle.jupiter.specs.Algebra.{Algebra}
use Rattle.jupiter.specs.Made.{Made}
use Rattle.jupiter.specs.History.{History}
use Rattle.jupiter.specs.Claims.{SameSet}
use Rattle.model.specs.Ranks.{among}
use Rattle.list.specs.Places.{items_of}
use Rattle.model.specs.Sheet.{Sheet, Call, insert, delete, take_back, send, tell, receive, pack, packet, junk}
use Rattle.model.specs.Run.{State, are_items, callable, number_of, run, start}
use Rattle.model.specs.Claim.{Opened, Converges}
use Rattle.model.specs.Order.{SameOrder}

-- the edits that end a has applied
abbrev pub applied_at : {𝓐 : Algebra} → History 𝓐 → ℕ → List (Made 𝓐)
applied_at h zero = h.served
applied_at h (suc a) = h.applied (suc a)

-- where a list of calls leads
abbrev pub after : (S : Sheet) → ℕ → (ranks : List ℕ) → List ℕ → List Call → State S ranks
after S n ranks items calls = run S n (start S n ranks items) calls

-- client l makes an edit, or takes one back
abbrev pub edit_of : ℕ → Call → Bool
edit_of l (insert j p x) = eqb j l
edit_of l (delete j p) = eqb j l
edit_of l (take_back j) = eqb j l
edit_of l (send a j number lent) = false
edit_of l (tell a j lent) = false
edit_of l (receive a i) = false
edit_of l (pack a j offset lent) = false
edit_of l (packet a is tail) = false
edit_of l (junk a bytes) = false

-- client l makes and takes nothing by any of the calls
unfoldable pub spared_by : ℕ → List Call → Bool
spared_by l [] = true
spared_by l (receive a i ∷ cs) = not (eqb a l) && spared_by l cs
spared_by l (pack a j offset lent ∷ cs) = spared_by l cs
spared_by l (packet a is tail ∷ cs) = not (eqb a l) && spared_by l cs
spared_by l (junk a bytes ∷ cs) = spared_by l cs
spared_by l (insert j p x ∷ cs) = not (eqb j l) && spared_by l cs
spared_by l (delete j p ∷ cs) = not (eqb j l) && spared_by l cs
spared_by l (take_back j ∷ cs) = not (eqb j l) && spared_by l cs
spared_by l (send a j number lent ∷ cs) = spared_by l cs
spared_by l (tell a j lent ∷ cs) = spared_by l cs

module _ (S : Sheet) where
  -- nothing is outstanding on line l: the server has taken what its client has made, and the client what the server has for it
  abbrev pub Quiet : {ranks : List ℕ} → State S ranks → ℕ → Type 0
  Quiet s l = (S.made (s.ends l) l ≡ S.taken (s.ends 0) l) × (S.taken (s.ends l) l ≡ S.made (s.ends 0) l)

  pub record Consistent : Type 0 where
    -- Quiescent consistency: the clients on whose lines nothing is outstanding, and the server, show one list.
    pub quiescent : (n : ℕ) (ranks items : List ℕ) → Opened S n ranks items → (calls : List Call) (l : ℕ) → 1 ≤ l → l ≤ n → Quiet (after S n ranks items calls) l
        → S.items ((after S n ranks items calls).ends l) ≡ S.items ((after S n ranks items calls).ends 0)
    -- Strong eventual consistency: two ends, at any two moments of a list of calls, that have applied the same set of edits show the same list.
    pub strong : (n : ℕ) (ranks items : List ℕ) → Opened S n ranks items → (calls more : List Call) (a b : ℕ) → a ≤ n → b ≤ n
        → SameSet (applied_at (after S n ranks items calls).recorded.history a) (applied_at (run S n (after S n ranks items calls) more).recorded.history b)
        → S.items ((after S n ranks items calls).ends a) ≡ S.items ((run S n (after S n ranks items calls) more).ends b)

  -- Two steps never change places (02: N13): of any two lists shown, at any ends and any two moments of a list of calls, two steps that stand on
  -- both stand in the same order on both. A moment is where a front part of the calls leads.
  abbrev pub OneOrder : Type 0
  OneOrder =
      (n : ℕ) (ranks items : List ℕ) → Opened S n ranks items → (calls more : List Call) (a b : ℕ) → a ≤ n → b ≤ n
      → SameOrder (S.items ((after S n ranks items calls).ends a)) (S.items ((run S n (after S n ranks items calls) more).ends b))

  -- Which refusals a message of a list of calls can meet: questions 2, 3 and 8 to 10 never say no to it.
  abbrev pub TakingRefusals : Type 0
  TakingRefusals =
      (n : ℕ) (ranks items : List ℕ) → Opened S n ranks items → (calls : List Call) (a i : ℕ) → a ≤ n
      → among (0 ∷ 4 ∷ 5 ∷ 6 ∷ 7 ∷ 12 ∷ []) (number_of S (after S n ranks items calls) (receive a i)) ≡ true

  -- Taking back (02: N7): client l makes an edit, or takes one back, and then takes that back, both not refused; in between it makes and takes
  -- nothing. Its items and their order are then as before the edit.
  abbrev pub TakesBack : Type 0
  TakesBack =
      (n : ℕ) (ranks items : List ℕ) → Opened S n ranks items → (calls between : List Call) (l : ℕ) (e : Call)
      → edit_of l e ≡ true → callable n e ≡ true → spared_by l between ≡ true
      → number_of S (after S n ranks items calls) e ≡ 0
      → number_of S (run S n (after S n ranks items calls) (e ∷ between)) (take_back l) ≡ 0
      → items_of (S.items ((run S n (after S n ranks items calls) (e ∷ (between ++ (take_back l ∷ [])))).ends l))
      ≡ items_of (S.items ((after S n ranks items calls).ends l))

  -- No list of calls tells two sheets apart that converge: by what opening says, by lists, totals, counts of edits, messages and reports, or
  -- by the number that the next call gets.
  pub record Agree (T : Sheet) : Type 0 where
    pub opens_server : (n : ℕ) (ranks items : List ℕ) → are_items items ≡ true → (S.open_server n ranks items).refusal ≡ (T.open_server n ranks items).refusal
    pub opens_client : (n l : ℕ) (ranks items : List ℕ) → are_items items ≡ true → (S.open_client n l ranks items).refusal ≡ (T.open_client n l ranks items).refusal
    pub lists : (n : ℕ) (ranks items : List ℕ) → Opened S n ranks items → (calls : List Call) (a : ℕ) → a ≤ n
        → S.items ((after S n ranks items calls).ends a) ≡ T.items ((after T n ranks items calls).ends a)
    pub totals : (n : ℕ) (ranks items : List ℕ) → Opened S n ranks items → (calls : List Call) (a : ℕ) → a ≤ n
        → S.total ((after S n ranks items calls).ends a) ≡ T.total ((after T n ranks items calls).ends a)
    pub made : (n : ℕ) (ranks items : List ℕ) → Opened S n ranks items → (calls : List Call) (l : ℕ) → 1 ≤ l → l ≤ n
        → (S.made ((after S n ranks items calls).ends l) l ≡ T.made ((after T n ranks items calls).ends l) l)
        × (S.made ((after S n ranks items calls).ends 0) l ≡ T.made ((after T n ranks items calls).ends 0) l)
    pub taken : (n : ℕ) (ranks items : List ℕ) → Opened S n ranks items → (calls : List Call) (l : ℕ) → 1 ≤ l → l ≤ n
        → (S.taken ((after S n ranks items calls).ends l) l ≡ T.taken ((after T n ranks items calls).ends l) l)
        × (S.taken ((after S n ranks items calls).ends 0) l ≡ T.taken ((after T n ranks items calls).ends 0) l)
    pub messages : (n : ℕ) (ranks items : List ℕ) → Opened S n ranks items → (calls : List Call) → (after S n ranks items calls).messages ≡ (after T n ranks items calls).messages
    pub reports : (n : ℕ) (ranks items : List ℕ) → Opened S n ranks items → (calls : List Call) → (after S n ranks items calls).reports ≡ (after T n ranks items calls).reports
    pub numbers : (n : ℕ) (ranks items : List ℕ) → Opened S n ranks items → (calls : List Call) (c : Call) → callable n c ≡ true
        → number_of S (after S n ranks items calls) c ≡ number_of T (after T n ranks items calls) c

pub record Consequences : Type 1 where
  pub consistent : (S : Sheet) → Converges S → Consistent S
  pub order : (S : Sheet) → Converges S → OneOrder S
  pub refusals : (S : Sheet) → Converges S → TakingRefusals S
  pub takes_back : (S : Sheet) → Converges S → TakesBack S
  pub agree : (S T : Sheet) → Converges S → Converges T → Agree S T

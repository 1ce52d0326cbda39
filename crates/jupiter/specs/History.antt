-- What the accepted calls leave behind: which edits were made, which the server took and in what order, which each client applied and in
-- what order. No buffer, no message, no form.
use Rattle.std.specs.Prelude.{ℕ, suc, ◌+◌, not, ◌&&◌, cond, List, [], ◌∷◌, ◌++◌, eqb, length}
use Rattle.jupiter.specs.Algebra.{Algebra}
use Rattle.jupiter.specs.Made.{Name, Made, holds, select, names, is_by, mine}

-- a family of values, one for each line, with the value of line l replaced
abbrev pub at : {A : Type 0} → ℕ → A → (ℕ → A) → ℕ → A
at l v f k = cond (eqb l k) v (f k)

pub record History (𝓐 : Algebra) : Type 0 where
  -- the edits that the server has taken, in the order in which it took them
  pub served : List (Made 𝓐)
  -- 01: a client's unaccepted edits: made on line l and not taken by the server, in order of making
  pub untaken : ℕ → List (Made 𝓐)
  -- the edits that client l has applied, in its order of applying
  pub applied : ℕ → List (Made 𝓐)

module _ {𝓐 : Algebra} where
  abbrev pub no_history : History 𝓐
  no_history = record { served = []; untaken = λ l. []; applied = λ l. [] }

  -- 01's order of the edits, as far as line l is concerned: no other client's untaken edit has reached client l or the server.
  abbrev pub order : History 𝓐 → ℕ → List (Made 𝓐)
  order h l = h.served ++ h.untaken l

  -- how many edits client l has made, and how many of other lines the server has taken
  abbrev pub made_by : History 𝓐 → ℕ → ℕ
  made_by h l = length (mine l h.served) + length (h.untaken l)

  -- 01: client l's missing edits: the server took them on other lines, and the client has not applied them
  unfoldable pub missing : History 𝓐 → ℕ → List (Made 𝓐)
  missing h l = select (λ e. not (is_by l e) && not (holds (names (h.applied l)) e.name)) h.served

  -- the name of client l's next edit
  abbrev pub new_name : History 𝓐 → ℕ → Name
  new_name h l = record { line = l; number = suc (made_by h l) }

  -- client l makes an edit: its context is what the client has applied
  abbrev pub new_edit : History 𝓐 → ℕ → 𝓐.Edit → Made 𝓐
  new_edit h l e = record { name = new_name h l; edit = e; context = names (h.applied l) }

  abbrev pub makes : ℕ → Made 𝓐 → History 𝓐 → History 𝓐
  makes l e h =
      record {
        served = h.served;
        untaken = at l (h.untaken l ++ (e ∷ [])) h.untaken;
        applied = at l (h.applied l ++ (e ∷ [])) h.applied;
      }

  unfoldable pub after_edit : ℕ → 𝓐.Edit → History 𝓐 → History 𝓐
  after_edit l e h = makes l (new_edit h l e) h

  -- the server takes client l's first untaken edit
  unfoldable pub serves : ℕ → List (Made 𝓐) → History 𝓐 → History 𝓐
  serves l [] h = h
  serves l (e ∷ es) h = record { served = h.served ++ (e ∷ []); untaken = at l es h.untaken; applied = h.applied }

  abbrev pub after_up : ℕ → History 𝓐 → History 𝓐
  after_up l h = serves l (h.untaken l) h

  -- client l takes its first missing edit
  unfoldable pub applies : ℕ → List (Made 𝓐) → History 𝓐 → History 𝓐
  applies l [] h = h
  applies l (e ∷ es) h =
      record { served = h.served; untaken = h.untaken; applied = at l (h.applied l ++ (e ∷ [])) h.applied }

  abbrev pub after_down : ℕ → History 𝓐 → History 𝓐
  after_down l h = applies l (missing h l) h

  -- line l starts here: what the server has taken counts as applied by client l, in the contexts of its edits too
  abbrev pub after_join : ℕ → History 𝓐 → History 𝓐
  after_join l h = record { served = h.served; untaken = h.untaken; applied = at l h.served h.applied }

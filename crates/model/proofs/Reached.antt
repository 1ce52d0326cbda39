-- The state of the theory that a list of calls has led to: what the theory proves of the states it reaches, it proves of the sheet's.
use mathlib.Core.Path.{◌≡◌, refl, ap}
use mathlib.Core.List.{List, []}
use Prim.Native.Nat.{ℕ, zero, suc, ◌≤◌}
use native.Mathlib.Omega.{arith}
use Rattle.list.specs.Places.{Place}
use Rattle.jupiter.specs.Form.{grown, list_at, replay}
use Rattle.jupiter.specs.Run as theory
use Rattle.jupiter.specs.Claims.{Who, doc_of}
use Rattle.jupiter.specs.Claims as claims
use Rattle.jupiter.proofs.Start.{from_opening}
use Rattle.jupiter.proofs.Runs.{Reached}
use Rattle.model.specs.Edits.{edits}
use Rattle.model.specs.Run.{State}
use Rattle.model.specs.Ours.{End, ours}
use Rattle.model.proofs.Sim.{Moment, Sim, present}

-- an end as the theory names it
abbrev pub who : ℕ → Who
who zero = claims.server
who (suc a) = claims.client (suc a)

-- the theory's state: every line is there from the opening
abbrev pub state_of : {ranks : List ℕ} → Moment ranks → theory.State (edits ranks)
state_of m = record { ends = m.ends; history = m.history; messages = []; start = λ l. 0 }

module _ {n : ℕ} {items : List Place} {ranks : List ℕ} {from : Moment ranks} {s : State ours ranks} (sim : Sim n items from s) where
  pub reached : Reached items (state_of (present sim))
  unfolding replay list_at grown
  reached = record { inv = from_opening items sim.E s.recorded.history sim.inv; fine = tt; openings = λ l. record { behind = refl; list = refl } }

  -- each end shows the list that the theory's end has
  pub shows : (a : ℕ) → a ≤ n → ours.items (s.ends a) ≡ doc_of (who a) (state_of (present sim))
  shows zero hi = ap (λ (e : End). ours.items e) sim.server_is
  shows (suc a) hi = ap (λ (e : End). ours.items e) (sim.client_is (suc a) (omega arith) hi)

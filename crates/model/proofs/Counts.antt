-- The counts of the ends are those of the history.
use mathlib.Core.Path.{◌≡◌, refl, ap, sym, ◌∙◌}
use mathlib.Core.List.{List}
use Prim.Native.Nat.{ℕ, zero, suc, ◌≤◌}
use native.Mathlib.Nat.{zero-add}
use native.Mathlib.Omega.{arith}
use lib.ListN.{length, length-append}
use Rattle.list.specs.Places.{Place}
use Rattle.jupiter.specs.Algebra.{Algebra}
use Rattle.jupiter.specs.Made.{mine, others}
use Rattle.jupiter.specs.History.{History, made_by}
use Rattle.jupiter.specs.Ends.{Ends}
use Rattle.jupiter.specs.Claims.{LineClaim}
use Rattle.jupiter.proofs.World.{mine_served}
use Rattle.jupiter.proofs.Start.{from_opening}
use Rattle.jupiter.proofs.Theorem.{line_claim}
use Rattle.model.specs.Edits.{edits}
use Rattle.model.specs.Log.{made_at, taken_at}
use Rattle.model.specs.Run.{State}
use Rattle.model.specs.Ours.{ours}
use Rattle.model.proofs.Sim.{Moment, Sim}

client_made_at : {𝓐 : Algebra} (h : History 𝓐) (l : ℕ) → 1 ≤ l → made_at h l l ≡ made_by h l
unfolding made_at
client_made_at h zero a = absurd (omega arith)
client_made_at h (suc l) a = refl

client_taken_at : {𝓐 : Algebra} (h : History 𝓐) (l : ℕ) → 1 ≤ l → taken_at h l l ≡ length (others l (h.applied l))
unfolding taken_at
client_taken_at h zero a = absurd (omega arith)
client_taken_at h (suc l) a = refl

server_made_at : {𝓐 : Algebra} (h : History 𝓐) (l : ℕ) → made_at h 0 l ≡ length (others l h.served)
unfolding made_at
server_made_at h l = refl

server_taken_at : {𝓐 : Algebra} (h : History 𝓐) (l : ℕ) → taken_at h 0 l ≡ length (mine l h.served)
unfolding taken_at
server_taken_at h l = refl

module _ (n : ℕ) (items : List Place) {ranks : List ℕ} {from : Moment ranks} (s : State ours ranks) (sim : Sim n items from s) (l : ℕ) where
  abbrev h : History (edits ranks)
  h = s.recorded.history

  abbrev E : Ends (edits ranks)
  E = sim.E

  -- what the theory claims of line l
  pub line : LineClaim items h l 0 (E.clients l) (E.lines l) (E.docs l) E.doc
  line = line_claim items (λ k. 0) E h (from_opening items E h sim.inv) l

  pub client_made : 1 ≤ l → (E.clients l).made ≡ made_at h l l
  client_made lo =
      line.client_made ∙ ap length (mine_served l h.served (h.untaken l) (sim.inv.lines l).untaken_own) ∙ length-append (mine l h.served) (h.untaken l)
      ∙ sym (client_made_at h l lo)

  pub client_taken_lem : 1 ≤ l → (E.clients l).taken ≡ taken_at h l l
  client_taken_lem lo = sym (sim.taken l) ∙ sym (client_taken_at h l lo)

  pub server_made : (E.lines l).made ≡ made_at h 0 l
  server_made = sym (zero-add (E.lines l).made) ∙ line.server_made ∙ sym (server_made_at h l)

  pub server_taken_lem : (E.lines l).taken ≡ taken_at h 0 l
  server_taken_lem = line.server_taken_lem ∙ sym (server_taken_at h l)

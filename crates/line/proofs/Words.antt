-- The words of a line that question 2 let through: their length, and one more edit.
use Prim.Native.Nat.{ℕ, ◌+◌, ◌-◌, ◌<◌}
use native.Mathlib.Omega.{arith}
use mathlib.Core.Path.{◌≡◌, ap, ◌∙◌, sym}
use mathlib.Core.List.{List, [], ◌∷◌, ◌++◌}
use lib.ListN.{length, set}
use Rattle.limits.specs.Limits.{max_pending}
use Rattle.ot.specs.declared.Form.{Form}
use Rattle.ot.specs.Edit.{edit, item_of}
use Rattle.pending.specs.Slots.{size, place_of, slots_of}
use Rattle.pending.proofs.Slots.{edits_length, slots_length, slots_append}
use Rattle.line.specs.declared.Line.{Line}
use Rattle.line.specs.Line.{pending_in, Kept}

module _ (v : Line) (words : List ℕ) (k : Kept v words) where
  pub pending_length : length (pending_in v words) ≡ v.made - v.acked
  pending_length = edits_length words 0 (v.made - v.acked)

  pub kept_size : length words ≡ size
  kept_size = ap length k.whole ∙ slots_length (pending_in v words) (omega (arith, pending_length, k.few))

  -- one more edit
  pub kept_append : (f : Form) (x n : ℕ) (after : List ℕ) → n ≡ v.made - v.acked → v.made - v.acked < max_pending → x ≡ item_of (edit f x)
      → after ≡ set (set words n (place_of f)) (max_pending + n) x → after ≡ slots_of (pending_in v words ++ (edit f x ∷ []))
  kept_append f x n after e room i w =
      w ∙ ap (λ (l : List ℕ). set (set l n (place_of f)) (max_pending + n) x) k.whole
      ∙ ap (λ (j : ℕ). set (set (slots_of (pending_in v words)) j (place_of f)) (max_pending + j) x) (e ∙ sym pending_length)
      ∙ slots_append (pending_in v words) f x (omega (arith, pending_length)) i

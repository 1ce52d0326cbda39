-- The loop that writes the origins of the pending edits.
use Prim.Native.Nat.{ℕ, ◌+◌, ◌-◌, ◌≤◌, ◌<◌}
use native.Mathlib.Omega.{arith}
use mathlib.Core.Path.{◌≡◌, refl, ap, ◌∙◌}
use mathlib.Core.List.{List}
use lib.ListN.{length, get_or, set, length-set}
use lib.Seq.{get_or-set_same, get_or-set_other}
use borrow.Author.Count.{below_more}
use Rattle.list.specs.Places.{word_of}
use Rattle.client.specs.Packets.{OwnOrigins}

-- the word of an edit of the line
abbrev word_for : ℕ → ℕ → ℕ
word_for line number = word_of (record { line = line; number = number })

-- The origins of the edits from those acknowledged up to a number are written.
pub record OriginsTo (line acked : ℕ) (before origins : List ℕ) (number : ℕ) : Type 0 where
  pub long : length origins ≡ length before
  pub each : (j : ℕ) → j < number - acked → get_or origins j 0 ≡ word_of (record { line = line; number = acked + 1 + j })

module _ (line acked : ℕ) (before : List ℕ) where
  pub origins_start : OriginsTo line acked before before acked
  origins_start = record { long = refl; each = λ j h. absurd (omega (arith, h)) }

  module _ {origins : List ℕ} {number : ℕ} (from : acked ≤ number) (o : OriginsTo line acked before origins number) where
    pub origins_turn : number - acked < length before → (w : ℕ) → w ≡ word_of (record { line = line; number = number + 1 })
        → OriginsTo line acked before (set origins (number - acked) w) (number + 1)
    origins_turn inside w ew =
        let i : ℕ = number - acked in
        let here : get_or (set origins i w) i 0 ≡ word_for line (acked + 1 + i) =
        get_or-set_same origins i w 0 (omega (arith, o.long)) ∙ ew ∙ ap (word_for line) (omega arith) in
        let one : number + 1 - acked ≡ i + 1 = omega arith in
        record {
          long = length-set origins i w ∙ o.long;
          each = λ j h.
              below_more (λ j. get_or (set origins i w) j 0 ≡ word_for line (acked + 1 + j)) i
              (λ j h. get_or-set_other origins i j w 0 (λ e. omega (arith, e, h)) ∙ o.each j h) here j (omega (arith, h, one));
        }

  pub origins_end : {origins : List ℕ} {number : ℕ} → OriginsTo line acked before origins number → (made : ℕ) → made ≤ number → OwnOrigins line acked made origins
  origins_end o made h = record { each = λ j below. o.each j (omega (arith, below, h)) }

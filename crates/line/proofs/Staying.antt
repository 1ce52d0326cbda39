-- The words of a line that question 2 let through: the edits that stay once some are acknowledged.
use Prim.Native.Nat.{ℕ, zero, suc, ◌+◌, ◌-◌, ◌≤◌}
use native.Mathlib.Omega.{arith}
use mathlib.Core.Path.{◌≡◌, refl, ap, ◌∙◌, sym}
use mathlib.Core.List.{List, [], ◌∷◌, map}
use lib.ListN.{length, take, drop, replicate, length-drop, length-map}
use lib.Seq.{take-append-le, drop-append-le, take_at}
use Rattle.limits.specs.Limits.{max_pending}
use Rattle.ot.specs.Edit.{Edit, form_of}
use Rattle.list.specs.Items.{padded}
use Rattle.list.proofs.Pad.{pad_length}
use Rattle.model.specs.Line as model
use Rattle.model.proofs.Cross.{placed_drop}
use Rattle.pending.specs.Slots.{place_of, edits_from, places_of, items_of, slots_of}
use Rattle.pending.specs.Crossing.{forms_from, placed_forms, Ready}
use Rattle.pending.proofs.Forms.{placed_forms_lem, forms_edits}
use Rattle.pending.proofs.Slots.{edits_length, edits_drop}
use Rattle.line.specs.declared.Line.{Line}
use Rattle.line.specs.Line.{pending_in, line_of, Kept}
use Rattle.line.proofs.Words.{pending_length, kept_size}
use Rattle.line.specs.Taking.{Between}

-- ---- places alone

abbrev place : Edit → ℕ
place e = place_of (form_of e)

places_drop : (n : ℕ) (es : List Edit) → drop n (map place es) ≡ map place (drop n es)
places_drop zero es = refl
places_drop (suc n) [] = refl
places_drop (suc n) (e ∷ es) = places_drop n es

-- the places that stay once the first gone of gone + count edits go
places_left : (es : List Edit) (gone count : ℕ) → length es ≡ gone + count → gone + count ≤ max_pending
    → take count (drop gone (slots_of es)) ≡ map place (drop gone es)
unfolding slots_of
places_left es gone count n h =
    let unused : List ℕ = replicate (max_pending - length (map place es)) 0 in
    let all : length (map place es) ≡ gone + count = length-map es place ∙ n in
    let long : length (places_of es) ≡ max_pending = pad_length max_pending 0 (map place es) (omega arith) in
    let rest : length (drop gone (map place es)) ≡ count = omega (arith, length-drop gone (map place es)) in
    ap (take count) (drop-append-le gone (places_of es) (items_of es) (omega arith))
    ∙ take-append-le count (drop gone (places_of es)) (items_of es) (omega (arith, length-drop gone (places_of es)))
    ∙ ap (take count) (drop-append-le gone (map place es) unused (omega arith))
    ∙ take_at (drop gone (map place es)) unused count rest ∙ places_drop gone es

-- ---- a line

module _ (v : Line) (words : List ℕ) (k : Kept v words) (seen : ℕ) (b : Between v seen) where
  parts : v.made - v.acked ≡ seen - v.acked + (v.made - seen)
  parts = omega (arith, b.0, b.1)

  pub parts_few : seen - v.acked + (v.made - seen) ≤ max_pending
  parts_few = omega (arith, parts, k.few)

  pub parts_length : length (pending_in v words) ≡ seen - v.acked + (v.made - seen)
  parts_length = pending_length v words k ∙ parts

  pub left_edits : edits_from words (seen - v.acked) (v.made - seen) ≡ model.unacked (line_of v words) seen
  left_edits =
      let first : 0 + (seen - v.acked) ≡ seen - v.acked = omega arith in
      sym (ap (λ (n : ℕ). drop (seen - v.acked) (edits_from words 0 n)) parts
      ∙ edits_drop words (seen - v.acked) 0 (v.made - seen)
      ∙ ap (λ (i : ℕ). edits_from words i (v.made - seen)) first)

  pub left_length : length (model.unacked (line_of v words) seen) ≡ v.made - seen
  left_length = ap length (sym left_edits) ∙ edits_length words (seen - v.acked) (v.made - seen)

  pub left_forms : forms_from words (seen - v.acked) (v.made - seen) ≡ map form_of (model.unacked (line_of v words) seen)
  left_forms = forms_edits words (seen - v.acked) (v.made - seen) ∙ ap (map form_of) left_edits

  pub left_ready : Ready (seen - v.acked) (v.made - seen) words
  left_ready =
      record {
        few = parts_few;
        size = omega (arith, kept_size v words k);
        placed =
            ap placed_forms left_forms ∙ sym (placed_forms_lem (model.unacked (line_of v words) seen))
            ∙ placed_drop (seen - v.acked) (pending_in v words) k.placed;
      }

  pub left_places : padded 0 max_pending (take (v.made - seen) (drop (seen - v.acked) words)) ≡ places_of (model.unacked (line_of v words) seen)
  left_places =
      ap (λ (l : List ℕ). padded 0 max_pending (take (v.made - seen) (drop (seen - v.acked) l))) k.whole
      ∙ ap (padded 0 max_pending) (places_left (pending_in v words) (seen - v.acked) (v.made - seen) parts_length parts_few)

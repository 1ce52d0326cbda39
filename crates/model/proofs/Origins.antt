-- The origin of an edit is the name under which it was made. Transforming leaves it alone, so every form of the edit has it.
use mathlib.Core.Path.{◌≡◌, refl, ap, sym, ◌∙◌}
use mathlib.Core.Bool.{true}
use mathlib.Core.List.{List, ◌++◌}
use Prim.Native.Nat.{ℕ, zero, suc}
use lib.Dec.{eqb}
use lib.ListN.{length}
use borrow.Author.Tests.{eq-eqb}
use Rattle.list.specs.declared.Origin.{Origin}
use Rattle.list.specs.Places.{Place}
use Rattle.jupiter.specs.Name.{Name}
use Rattle.jupiter.specs.Made.{Made}
use Rattle.jupiter.specs.Form.{Last, all_inside, outside, last_outside, form_by, form_in, form}
use Rattle.jupiter.specs.Point.{own, point}
use Rattle.jupiter.specs.History.{History, order}
use Rattle.jupiter.specs.Ends.{Ends, EditMessage}
use Rattle.jupiter.proofs.Grid.{own_name}
use Rattle.jupiter.proofs.World.{Inv}
use Rattle.jupiter.proofs.Step.{UpMessage}
use Rattle.model.specs.Edits.{name_of, Rule, edits_by, edits}
use Rattle.model.specs.Server.{own_origin}
use Rattle.model.specs.Log.{header_of}
use Rattle.model.proofs.Tests.{both}
use Rattle.model.proofs.Instance.{bears}

module _ {by : Rule} where
  form_in_origin : (n : ℕ) (e : Made (edits_by by)) (C : List (Made (edits_by by))) → (form_in n e C).origin ≡ e.edit.origin
  unfolding form_in form_by
  form_in_origin zero e C = refl
  form_in_origin (suc n) e C = go (last_outside e.context C) (λ C'. form_in_origin n e C')
    where
      go : (x : Last (edits_by by)) → ((C' : List (Made (edits_by by))) → (form_in n e C').origin ≡ e.edit.origin) → (form_by (λ e' C'. form_in n e' C') e x).origin ≡ e.edit.origin
      go all_inside ih = refl
      go (outside before z after) ih = ih (before ++ after)

  pub form_origin : (e : Made (edits_by by)) (C : List (Made (edits_by by))) → (form e C).origin ≡ e.edit.origin
  unfolding form
  form_origin e C = form_in_origin (length C) e C

-- an origin that is a name
named_so : (o : Origin) (x : Name) → name_of o ≡ x → o ≡ record { line = x.line; number = x.number }
named_so o x e = λ i. record { line = (e i).line; number = (e i).number }

-- An edit that goes up has the line that it goes on and its own number as origin.
pub up_origin : (ranks : List ℕ) (items : List Place) (E : Ends (edits ranks)) (h : History (edits ranks)) → Inv items E h → (l : ℕ) (x : EditMessage (edits ranks)) → UpMessage items E h l x
    → x.edit.origin ≡ record { line = l; number = x.number }
up_origin ranks items E h inv l x ok =
    let known = (inv.lines l).line.grid.contexts in
    let made = own l (order h l) ok.index in
    let name : made.name ≡ record { line = l; number = x.number } = own_name l (order h l) known ok.index ok.made ∙ ap (λ (k : ℕ). record { line = l; number = k }) (sym ok.number) in
    ap (λ e. e.origin) ok.edit ∙ form_origin made (point l (order h l) ok.index x.seen)
    ∙ named_so made.edit.origin (record { line = l; number = x.number }) ((bears made.name made.edit (known.own_by ok.index ok.made)).name ∙ name)

-- question 4 of an edit that goes up: its origin is its line and its number
pub own_origin_lem : {by : Rule} (l direction : ℕ) (m : EditMessage (edits_by by)) → m.edit.origin ≡ record { line = l; number = m.number } → own_origin (header_of l direction m) ≡ true
own_origin_lem l direction m e =
    both (eqb m.edit.origin.line l) (eqb m.edit.origin.number m.number) (eq-eqb m.edit.origin.line l (ap (λ (o : Origin). o.line) e))
    (eq-eqb m.edit.origin.number m.number (ap (λ (o : Origin). o.number) e))

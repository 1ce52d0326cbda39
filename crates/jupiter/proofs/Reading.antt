-- For the reader of the definitions: what they say, in other words.
use Prim.Native.Nat.{ℕ, ◌≤◌, ◌<◌}
use mathlib.Core.Path.{◌≡◌, refl, sym, ap, ◌∙◌, subst}
use mathlib.Core.Bool.{Bool, true, false, cond}
use mathlib.Core.List.{List, [], ◌∷◌, ◌++◌}
use lib.Dec.{T}
use lib.ListN.{length}
use Rattle.jupiter.specs.Algebra.{Algebra, Laws}
use Rattle.jupiter.specs.Made.{Name, Made, holds, mine, others}
use Rattle.jupiter.specs.Form.{Last, all_inside, outside, further, last_outside}
use Rattle.jupiter.specs.Point.{point, own, oth, own_form, oth_form}
use Rattle.jupiter.specs.History.{order}
use Rattle.jupiter.specs.Ends.{EditMessage}
use Rattle.jupiter.specs.Run.{Call, State, run}
use Rattle.jupiter.proofs.Lists.{All}
use Rattle.jupiter.proofs.Forms.{Inside, form_by_lem}
use Rattle.jupiter.proofs.Grid.{own_form_same, oth_form_same, Contexts}
use Rattle.jupiter.proofs.Line.{UpOk, DownOk}
use Rattle.jupiter.proofs.Size.{form_grows}
use Rattle.jupiter.proofs.Runs.{Reached, run_ok}

module _ {𝓐 : Algebra} where
  -- what the search for z finds: nothing is outside; or z is, everything behind it is not, and the parts put the set back together
  abbrev pub Found : List Name → List (Made 𝓐) → Last 𝓐 → Type 0
  Found context C all_inside = All (Inside context) C
  Found context C (outside before z after) = (C ≡ before ++ z ∷ after) × (holds context z.name ≡ false) × All (Inside context) after

  pub finds : (context : List Name) (C : List (Made 𝓐)) → Found context C (last_outside context C)
  unfolding last_outside further
  finds context [] = tt
  finds context (x ∷ xs) = go (last_outside context xs) (finds context xs)
    where
      here : (b : Bool) → holds context x.name ≡ b → All (Inside context) xs → Found context (x ∷ xs) (cond b all_inside (outside [] x xs))
      here true e h = (e, h)
      here false e h = (refl, e, h)

      go : (r : Last 𝓐) → Found context xs r → Found context (x ∷ xs) (further context x xs r)
      go all_inside h = here (holds context x.name) refl h
      go (outside before z after) h = (ap {B = List (Made 𝓐)} (λ r. x ∷ r) h.0, h.1, h.2)

  -- Forms do not change as the run goes on.
  pub own_forms_stay : (d : 𝓐.Doc) (laws : Laws 𝓐) (s : State 𝓐) → Reached d s → (cs : List (Call 𝓐)) (l i j : ℕ)
      → i < length (mine l (order s.history l)) → j ≤ length (others l (order s.history l))
      → own_form l (order (run s cs).history l) i j ≡ own_form l (order s.history l) i j
  own_forms_stay d laws s r cs l i j =
      own_form_same l (order s.history l) (order (run s cs).history l) ((run_ok d laws cs s r).later.grows l) i j

  pub oth_forms_stay : (d : 𝓐.Doc) (laws : Laws 𝓐) (s : State 𝓐) → Reached d s → (cs : List (Call 𝓐)) (l i j : ℕ)
      → i ≤ length (mine l (order s.history l)) → j < length (others l (order s.history l))
      → oth_form l (order (run s cs).history l) i j ≡ oth_form l (order s.history l) i j
  oth_forms_stay d laws s r cs l i j =
      oth_form_same l (order s.history l) (order (run s cs).history l) ((run_ok d laws cs s r).later.grows l) i j

  -- A message's edit may bear the name of the edit as made, and adds what the edit as made adds.
  module _ (laws : Laws 𝓐) (l : ℕ) (w : List (Made 𝓐)) (contexts : Contexts l w) (taken : ℕ) (x : EditMessage 𝓐) where
    pub up_by : (ok : UpOk l w taken x) → T (𝓐.by (own l w ok.index).name x.edit)
    up_by ok =
        subst (λ e. T (𝓐.by (own l w ok.index).name e)) (sym ok.edit)
        (form_by_lem laws _ (own l w ok.index) (point l w ok.index x.seen) (contexts.own_by ok.index ok.made))

    pub up_growth : (ok : UpOk l w taken x) → 𝓐.grows x.edit ≡ 𝓐.grows (own l w ok.index).edit
    up_growth ok = ap 𝓐.grows ok.edit ∙ form_grows laws (own l w ok.index) (point l w ok.index x.seen)

    pub down_by : (ok : DownOk l w taken x) → T (𝓐.by (oth l w ok.index).name x.edit)
    down_by ok =
        subst (λ e. T (𝓐.by (oth l w ok.index).name e)) (sym ok.edit)
        (form_by_lem laws _ (oth l w ok.index) (point l w x.seen ok.index) (contexts.oth_by ok.index ok.made))

    pub down_growth : (ok : DownOk l w taken x) → 𝓐.grows x.edit ≡ 𝓐.grows (oth l w ok.index).edit
    down_growth ok = ap 𝓐.grows ok.edit ∙ form_grows laws (oth l w ok.index) (point l w x.seen ok.index)

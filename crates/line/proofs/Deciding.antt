-- What the code decides is the decision of the definitions: one law for each return of decide.
use Prim.Native.Nat.{ℕ, ◌-◌}
use mathlib.Core.Path.{◌≡◌, refl, ap, ap₂, ◌∙◌, sym, subst}
use mathlib.Core.Bool.{Bool, true, false, ◌&&◌, cond}
use mathlib.Core.List.{List, [], ◌∷◌, map, map-map}
use lib.ListN.{length, take, drop, length-map}
use Rattle.std.specs.Prelude.{Ok, Err}
use Rattle.refusal.specs.declared.Refusal.{Refusal}
use Rattle.refusal.specs.declared.Refusal.TheVariants as refusal
use Rattle.refusal.specs.Number.{number}
use Rattle.refusal.proofs.Some.{number_some, ok_same, ok_err}
use Rattle.limits.specs.Limits.{max_pending}
use Rattle.ot.specs.declared.Form.{Form}
use Rattle.ot.specs.declared.Form.TheVariants as form
use Rattle.ot.specs.Edit.{Edit, edit, form_of, item_of}
use Rattle.ot.proofs.Laws.{laws}
use Rattle.list.specs.Items.{padded}
use Rattle.model.specs.Cross.{past, over, all_placed}
use Rattle.model.specs.Line as model
use Rattle.model.specs.Questions.{ask, asks}
use Rattle.pending.specs.declared.Crossed.{Crossed}
use Rattle.pending.specs.Slots.{place_of, places_of}
use Rattle.pending.specs.Crossing.{forms_from, over_forms, placed_forms, crossed, filled, Ready}
use Rattle.pending.proofs.Forms.{past_forms_lem, over_forms_lem, over_items, placed_forms_lem, steps_length}
use Rattle.line.specs.declared.Line.{Line}
use Rattle.line.specs.Line.{line_of, counts_of, Kept}
use Rattle.line.specs.Keeping.{fits_list}
use Rattle.line.proofs.Parts.{then_yes, then_no}
use Rattle.line.specs.declared.taking.Arrival.{Arrival}
use Rattle.line.specs.declared.taking.Report.{Report}
use Rattle.line.specs.declared.taking.Decision.{Decision}
use Rattle.line.specs.Taking.{edit_of, arrival_asked, nine, refusal_of, no_report, line_then, done, taken_as, Decided, Later, Between}
use Rattle.line.proofs.Asked.{asked_seen}
use Rattle.line.proofs.Staying.{left_forms, left_length, left_ready, left_places}

-- an arrival that does or does not carry an edit
abbrev as_carrying : Bool → Arrival → Arrival
as_carrying b a =
    record { line = a.line; direction = a.direction; number = a.number; seen = a.seen; carries = b; form = a.form; item = a.item; origin = a.origin }

-- ---- the edit past those that stay, by forms

module _ (a : Arrival) (es : List Edit) (x : Crossed) (ex : x ≡ crossed a.form (map form_of es)) where
  crossed_is : x ≡ crossed (form_of (edit_of a)) (map form_of es)
  crossed_is = ex ∙ ap (λ (f : Form). crossed f (map form_of es)) (sym (laws.form_of_lem a.form a.item))

  edit_is : edit x.form (item_of (edit_of a)) ≡ past (edit_of a) es
  edit_is = ap (λ (c : Crossed). edit c.form (item_of (edit_of a))) crossed_is ∙ sym (past_forms_lem (edit_of a) es)

  form_is : x.form ≡ form_of (past (edit_of a) es)
  form_is = sym (laws.form_of_lem x.form (item_of (edit_of a))) ∙ ap form_of edit_is

  placed_is : x.placed ≡ all_placed (over (edit_of a) es)
  placed_is = ap (λ (c : Crossed). c.placed) crossed_is ∙ ap placed_forms (sym (over_forms_lem (edit_of a) es)) ∙ sym (placed_forms_lem (over (edit_of a) es))

  passed_is : x.passed ≡ length es
  passed_is = ap (λ (c : Crossed). c.passed) ex ∙ steps_length a.form (map form_of es) ∙ length-map es form_of

  fits_is : (len : ℕ) (b : Bool) → ((i : ℕ) → b ≡ fits_list (edit x.form i) len)
      → (x.placed && b) ≡ (all_placed (over (edit_of a) es) && fits_list (past (edit_of a) es) len)
  fits_is len b h = ap₂ (λ (s t : Bool). s && t) placed_is (h (item_of (edit_of a)) ∙ ap (λ (e : Edit). fits_list e len) edit_is)

places_over : (a : Arrival) (es : List Edit) → filled (over_forms a.form (map form_of es)) ≡ places_of (over (edit_of a) es)
places_over a es =
    ap (λ (f : Form). filled (over_forms f (map form_of es))) (sym (laws.form_of_lem a.form a.item))
    ∙ ap filled (sym (over_forms_lem (edit_of a) es)) ∙ ap (padded 0 max_pending) (map-map place_of form_of (over (edit_of a) es))

-- ---- the returns

module _ (v : Line) (words : List ℕ) (k : Kept v words) (len inserts : ℕ) (a : Arrival) (later : List ℕ) where
  abbrev m : model.Line
  m = line_of v words

  abbrev first : ℕ
  first = asks (arrival_asked v a.number a.seen a.carries)

  abbrev last : Bool → ℕ
  last b = cond b (asks (ask 9 (nine m len a.seen (edit_of a)) ∷ [])) 0

  refused : (r : Refusal) → number r ≡ refusal_of v m len a → Decided v words len inserts a (Err r) later
  refused r er = record { refusal = er; done = λ d e. absurd (ok_err e); stay = λ d e. absurd (ok_err e) }

  -- what is taken, where no question says no
  accepted : (d : Decision) → refusal_of v m len a ≡ 0 → d ≡ done m inserts a → Later v a.seen words later (line_then m inserts a).pending
      → Decided v words len inserts a (Ok d) later
  accepted d z e l =
      record { refusal = sym z; done = λ q eq. sym (ok_same eq) ∙ e; stay = λ q eq. l }

  -- one of questions 5 to 8
  pub early : (r : Refusal) → number r ≡ first → Decided v words len inserts a (Err r) later
  early r er = refused r (er ∙ sym (then_no first (last a.carries) (λ z. number_some r (er ∙ z))))

  module _ (z : 0 ≡ first) where
    pub seen_between : Between v a.seen
    seen_between = asked_seen v a.number a.seen a.carries (sym z)

    -- what is left to ask
    last_asks : (b : Bool) → a.carries ≡ b → refusal_of v m len a ≡ last b
    last_asks b e = then_yes first (last a.carries) (sym z) ∙ ap last e

    pub ready : Ready (a.seen - v.acked) (v.made - a.seen) words
    ready = left_ready v words k a.seen seen_between

    pub acked_done : a.carries ≡ false → (report : Report) → report ≡ no_report
        → later ≡ padded 0 max_pending (take (v.made - a.seen) (drop (a.seen - v.acked) words))
        → Decided v words len inserts a (Ok (record { report = report; line = counts_of (model.line_acked a.seen m); form = form.Nothing })) later
    acked_done f report er el =
        accepted (record { report = report; line = counts_of (model.line_acked a.seen m); form = form.Nothing }) (last_asks false f)
        (ap (λ (k : Report). record { report = k; line = counts_of (model.line_acked a.seen m); form = form.Nothing }) er
        ∙ ap (λ (b : Bool). done m inserts (as_carrying b a)) (sym f))
        (subst (λ (b : Bool). Later v a.seen words later (cond b (model.line_taken inserts a.seen (edit_of a) m) (model.line_acked a.seen m)).pending)
        (sym f) (record { places = el ∙ left_places v words k a.seen seen_between; items = refl }))

    module _ (t : a.carries ≡ true) (x : Crossed) (ex : x ≡ crossed a.form (forms_from words (a.seen - v.acked) (v.made - a.seen)))
        (b : Bool) (eb : (i : ℕ) → b ≡ fits_list (edit x.form i) len) where
      abbrev staying : List Edit
      staying = model.unacked m a.seen

      forms : forms_from words (a.seen - v.acked) (v.made - a.seen) ≡ map form_of staying
      forms = left_forms v words k a.seen seen_between

      crossing : x ≡ crossed a.form (map form_of staying)
      crossing = ex ∙ ap (crossed a.form) forms

      nine_is : (y : Bool) → (x.placed && b) ≡ y → refusal_of v m len a ≡ asks (ask 9 y ∷ [])
      nine_is y e = last_asks true t ∙ ap (λ (s : Bool). asks (ask 9 s ∷ [])) (sym (fits_is a staying x crossing len b eb) ∙ e)

      pub nine_no : (x.placed && b) ≡ false → Decided v words len inserts a (Err refusal.Misfit) later
      nine_no f = refused refusal.Misfit (sym (nine_is false f))

      -- the edit came as f, was applied as g and transformed past so many
      abbrev taken : ℕ → Form → Form → Decision
      taken passed f g = taken_as v inserts a.seen f (record { form = g; placed = x.placed; passed = passed })

      pub taken_done : (d : Decision) → (x.placed && b) ≡ true → d ≡ taken_as v inserts a.seen a.form x
          → later ≡ filled (over_forms a.form (forms_from words (a.seen - v.acked) (v.made - a.seen)))
          → Decided v words len inserts a (Ok d) later
      taken_done d y ed el =
          accepted d (nine_is true y)
          (ed
          ∙ ap (λ (n : ℕ). taken n a.form x.form) (passed_is a staying x crossing ∙ left_length v words k a.seen seen_between)
          ∙ ap₂ (taken (v.made - a.seen)) (sym (laws.form_of_lem a.form a.item)) (form_is a staying x crossing)
          ∙ ap (λ (c : Bool). done m inserts (as_carrying c a)) (sym t))
          (subst (λ (c : Bool). Later v a.seen words later (cond c (model.line_taken inserts a.seen (edit_of a) m) (model.line_acked a.seen m)).pending)
          (sym t) (record { places = el ∙ ap (λ (fs : List Form). filled (over_forms a.form fs)) forms ∙ places_over a staying; items = over_items (edit_of a) staying }))

-- The edits of a sheet have what the theory asks so that origins can be spoken of; so no list of a sheet holds an origin twice, and
-- any two have one order.
use Prim.Native.Nat.{ℕ, zero, suc, ◌+◌, ◌-◌, ◌≤◌, ◌<◌}
use native.Mathlib.Nat.{le_of_suc-le-suc, not-suc-le-zero}
use native.Mathlib.Omega.{arith}
use mathlib.Core.Path.{◌≡◌, refl, sym, ap, ◌∙◌, subst}
use mathlib.Core.Bool.{Bool, true, false, cond, ◌||◌, true≢false}
use mathlib.Core.Option.{some}
use mathlib.Core.List.{List, [], ◌∷◌, map}
use lib.Dec.{T, ltb}
use lib.ListN.{length, get_or, take, drop, length-map, take-append-drop}
use lib.Seq.{split_at}
use borrow.Author.Tests.{ltb-true, ltb-false}
use Rattle.ot.specs.declared.Form.{Form}
use Rattle.ot.specs.declared.Form.TheVariants as form
use Rattle.ot.specs.Edit.{Edit, Nothing, Delete, Insert, edit, inserted_at, deleted_at, applied_as, fits, transformed}
use Rattle.ot.specs.Laws.{stamp}
use Rattle.ot.proofs.Keeps.{either, keeps}
use Rattle.ot.proofs.Laws.{laws}
use Rattle.list.specs.Places.{Place, place_of, initial_from, initial_places}
use Rattle.jupiter.specs.Name.{Name, same, holds}
use Rattle.jupiter.specs.Algebra.{Laws}
use Rattle.jupiter.specs.Run.{State}
use Rattle.jupiter.specs.Claims.{Who, doc_of}
use Rattle.jupiter.specs.Origins.{Once, Effect, puts, cuts, leaves, Turns, remains, added, Origins, Opening}
use Rattle.jupiter.specs.Orders.{SameOrder}
use Rattle.jupiter.proofs.Replay.{same_eq, same_refl, is_false, or_true}
use Rattle.jupiter.proofs.Runs.{Reached, Onward}
use Rattle.jupiter.proofs.Standing.{known_at}
use Rattle.jupiter.proofs.NoneTwice.{stand_of, moment}
use Rattle.jupiter.proofs.OneOrder.{one_order_of}
use Rattle.model.specs.Cross.{inserts_of}
use Rattle.model.specs.Edits.{Named, name_of, edits}
use Rattle.model.proofs.Tests.{between_true}
use Rattle.model.proofs.Instance.{from_T, bears}

-- ---- origins as names

abbrev pub names_of : List Place → List Name
names_of l = map (λ p. name_of p.origin) l

pub names_length : (l : List Place) → length (names_of l) ≡ length l
names_length l = length-map l (λ p. name_of p.origin)

abbrev pub no_name : Name
no_name = record { line = 0; number = 0 }

-- what an edit does to the names on a list
abbrev effect_of : Edit → List Name → Effect
effect_of Nothing ns = leaves
effect_of (Delete p) ns = cuts (get_or ns (p - 1) no_name)
effect_of (Insert p x r) ns = puts

turns_of : (o : Name) (e : Edit) (ns : List Name) → fits e (length ns) ≡ true → Turns o (effect_of e ns) ns (applied_as (λ x. o) e ns)
unfolding applied_as fits
turns_of o Nothing ns h = refl
turns_of o (Delete p) ns h =
    record { front = take (p - 1) ns; back = drop (suc (p - 1)) ns; less = refl; more = split_at ns (p - 1) no_name (omega (arith, between_true 1 (length ns) p h)) }
turns_of o (Insert p x r) ns h = record { front = take (p - 1) ns; back = drop (p - 1) ns; less = sym (take-append-drop (p - 1) ns); more = refl }

-- ---- a place of a list after an insert and after a delete, before and behind it
module _ {A : Type 0} where
  inserted_before : (k i : ℕ) (x : A) (l : List A) (d : A) → k < i → i ≤ length l → get_or (inserted_at i x l) k d ≡ get_or l k d
  inserted_before k zero x l d h b = absurd (not-suc-le-zero h)
  inserted_before k (suc i) x [] d h b = absurd (not-suc-le-zero b)
  inserted_before zero (suc i) x (y ∷ l) d h b = refl
  inserted_before (suc k) (suc i) x (y ∷ l) d h b = inserted_before k i x l d (le_of_suc-le-suc h) (le_of_suc-le-suc b)

  inserted_behind : (k i : ℕ) (x : A) (l : List A) (d : A) → i ≤ k → i ≤ length l → get_or (inserted_at i x l) (suc k) d ≡ get_or l k d
  inserted_behind k zero x l d h b = refl
  inserted_behind k (suc i) x [] d h b = absurd (not-suc-le-zero b)
  inserted_behind zero (suc i) x (y ∷ l) d h b = absurd (not-suc-le-zero h)
  inserted_behind (suc k) (suc i) x (y ∷ l) d h b = inserted_behind k i x l d (le_of_suc-le-suc h) (le_of_suc-le-suc b)

  deleted_before : (k i : ℕ) (l : List A) (d : A) → k < i → get_or (deleted_at i l) k d ≡ get_or l k d
  deleted_before k zero l d h = absurd (not-suc-le-zero h)
  deleted_before k (suc i) [] d h = refl
  deleted_before zero (suc i) (y ∷ l) d h = refl
  deleted_before (suc k) (suc i) (y ∷ l) d h = deleted_before k i l d (le_of_suc-le-suc h)

  deleted_behind : (k i : ℕ) (l : List A) (d : A) → i ≤ k → i < length l → get_or (deleted_at i l) k d ≡ get_or l (suc k) d
  deleted_behind k i [] d h b = absurd (not-suc-le-zero b)
  deleted_behind k zero (y ∷ l) d h b = refl
  deleted_behind zero (suc i) (y ∷ l) d h b = absurd (not-suc-le-zero h)
  deleted_behind (suc k) (suc i) (y ∷ l) d h b = deleted_behind k i l d (le_of_suc-le-suc h) (le_of_suc-le-suc b)

-- ---- no name twice: two places, two names
pub held : (ns : List Name) (i : ℕ) → i < length ns → holds ns (get_or ns i no_name) ≡ true
unfolding holds
held [] i h = absurd (not-suc-le-zero h)
held (n ∷ ns) zero h = rw (same_refl n) refl
held (n ∷ ns) (suc i) h = rw (held ns i (le_of_suc-le-suc h)) (or_true (same (get_or ns i no_name) n))

differ : (ns : List Name) (i j : ℕ) → Once ns → i < j → j < length ns → same (get_or ns i no_name) (get_or ns j no_name) ≡ false
differ [] i j u h b = absurd (not-suc-le-zero b)
differ (n ∷ ns) i zero u h b = absurd (not-suc-le-zero h)
differ (n ∷ ns) zero (suc j) u h b =
    is_false (same n (get_or ns j no_name)) (λ t. true≢false (sym (held ns j (le_of_suc-le-suc b)) ∙ ap (holds ns) (sym (same_eq n (get_or ns j no_name) t)) ∙ u.0))
differ (n ∷ ns) (suc i) (suc j) u h b = differ ns i j u.1 (le_of_suc-le-suc h) (le_of_suc-le-suc b)

same_back : (x y : Name) → same x y ≡ false → same y x ≡ false
same_back x y e = is_false (same y x) (λ t. true≢false (sym (same_refl x) ∙ ap (same x) (sym (same_eq y x t)) ∙ e))

-- ---- transforming

insert_puts : (e : Edit) (ns : List Name) (s : ℕ × ℕ) → stamp e ≡ some s → effect_of e ns ≡ puts
unfolding stamp
insert_puts Nothing ns s e = absurd (let z : ◌≡◌ {A = ℕ} 0 1 = cc in omega arith)
insert_puts (Delete p) ns s e = absurd (let z : ◌≡◌ {A = ℕ} 0 1 = cc in omega arith)
insert_puts (Insert p x r) ns s e = refl

effects : (o : Name) (a b : Edit) (ns : List Name) → fits a (length ns) ≡ true → fits b (length ns) ≡ true → Once ns
    → effect_of (transformed a b) (applied_as (λ x. o) b ns) ≡ remains (effect_of a ns) (effect_of b ns)
unfolding transformed applied_as fits remains stamp
effects o Nothing b ns f g u = refl
effects o (Insert p x r) b ns f g u = insert_puts (transformed (Insert p x r) b) (applied_as (λ x. o) b ns) (x, r) (keeps (Insert p x r) b)
effects o (Delete p) Nothing ns f g u = refl
effects o (Delete p) (Insert q y s) ns f g u =
    let h = between_true 1 (length ns) p f in
    let k = between_true 1 (length ns + 1) q g in
    let after = inserted_at (q - 1) o ns in
    let back : p + 1 - 1 ≡ suc (p - 1) = omega arith in
    either (λ e. effect_of (edit e 0) after ≡ cuts (get_or ns (p - 1) no_name)) (ltb p q) (form.Delete p) (form.Delete (p + 1))
    (λ t. ap cuts (inserted_before (p - 1) (q - 1) o ns no_name (omega (arith, ltb-true p q t)) (omega arith)))
    (λ t. ap (λ (i : ℕ). cuts (get_or after i no_name)) back ∙ ap cuts (inserted_behind (p - 1) (q - 1) o ns no_name (omega (arith, ltb-false p q t)) (omega arith)))
effects o (Delete p) (Delete q) ns f g u =
    let h = between_true 1 (length ns) p f in
    let k = between_true 1 (length ns) q g in
    let a = get_or ns (p - 1) no_name in
    let b = get_or ns (q - 1) no_name in
    let Left : Form → Type 0 = λ e. effect_of (edit e 0) (deleted_at (q - 1) ns) ≡ cond (same a b) leaves (cuts a) in
    let remain : (t : Bool) → same a b ≡ t → cond t leaves (cuts a) ≡ cond (same a b) leaves (cuts a) = λ t e. ap (λ (c : Bool). cond c leaves (cuts a)) (sym e) in
    either Left (ltb p q) (form.Delete p) (cond (ltb q p) (form.Delete (p - 1)) form.Nothing)
    (λ t. let lt = ltb-true p q t in
    ap cuts (deleted_before (p - 1) (q - 1) ns no_name (omega arith)) ∙ remain false (differ ns (p - 1) (q - 1) u (omega arith) (omega arith)))
    (λ t. either Left (ltb q p) (form.Delete (p - 1)) form.Nothing
    (λ t'. let lt = ltb-true q p t' in
    let next : suc (p - 1 - 1) ≡ p - 1 = omega arith in
    ap cuts (deleted_behind (p - 1 - 1) (q - 1) ns no_name (omega arith) (omega arith) ∙ ap (λ (i : ℕ). get_or ns i no_name) next)
    ∙ remain false (same_back b a (differ ns (q - 1) (p - 1) u (omega arith) (omega arith))))
    (λ t'. let z : p ≡ q = omega (arith, ltb-false p q t, ltb-false q p t') in remain true (ap (λ (i : ℕ). same a (get_or ns (i - 1) no_name)) (sym z) ∙ same_refl a)))

grows_effect : (e : Edit) (ns : List Name) → inserts_of e ≡ added (effect_of e ns)
unfolding added
grows_effect Nothing ns = refl
grows_effect (Delete p) ns = refl
grows_effect (Insert p x r) ns = refl

pub edit_origins : (ranks : List ℕ) → Origins (edits ranks)
edit_origins ranks =
    record {
      origins = names_of;
      effect = λ e l. effect_of e.edit (names_of l);
      turns = λ x e l s u.
          subst (Turns x (effect_of e.edit (names_of l)) (names_of l))
          (ap (λ (o : Name). applied_as (λ y. o) e.edit (names_of l)) (sym (bears x e s).name) ∙ sym (laws.looked (λ p. name_of p.origin) (place_of e.origin) e.edit l))
          (turns_of x e.edit (names_of l) (fitting e l u));
      transforms = λ x y a b l h s t u v once.
          ap (effect_of (transformed a.edit b.edit)) (laws.looked (λ p. name_of p.origin) (place_of b.origin) b.edit l)
          ∙ effects (name_of b.origin) a.edit b.edit (names_of l) (fitting a l u) (fitting b l v) once;
      from_one = λ x e s. (bears x e s).line;
      size_is = λ l. sym (names_length l);
      grows_is = λ e l. grows_effect e.edit (names_of l);
    }
  where
    fitting : (e : Named) (l : List Place) → T (fits e.edit (length l)) → fits e.edit (length (names_of l)) ≡ true
    fitting e l u = ap (fits e.edit) (names_length l) ∙ from_T (fits e.edit (length l)) u

-- ---- the list that a sheet is opened with

initial_names : (k : ℕ) (xs : List ℕ) (o : Name) → holds (names_of (initial_from k xs)) o ≡ true → (o.line ≡ 0) × (k ≤ o.number)
unfolding initial_from holds
initial_names k [] o h = absurd (true≢false (sym h))
initial_names k (x ∷ xs) o h = go (same o (record { line = 0; number = k })) refl h (initial_names (suc k) xs o)
  where
    go : (b : Bool) → same o (record { line = 0; number = k }) ≡ b → (b || holds (names_of (initial_from (suc k) xs)) o) ≡ true
        → (holds (names_of (initial_from (suc k) xs)) o ≡ true → (o.line ≡ 0) × (suc k ≤ o.number)) → (o.line ≡ 0) × (k ≤ o.number)
    go true e h ih =
        let q = same_eq o (record { line = 0; number = k }) e in
        let a : o.number ≡ k = ap (λ (x : Name). x.number) q in
        (ap (λ (x : Name). x.line) q, omega arith)
    go false e h ih = ((ih h).0, omega (arith, (ih h).1))

initial_once : (k : ℕ) (xs : List ℕ) → Once (names_of (initial_from k xs))
unfolding initial_from
initial_once k [] = tt
initial_once k (x ∷ xs) = (
  is_false (holds (names_of (initial_from (suc k) xs)) (record { line = 0; number = k })) (λ t. absurd (omega (arith, (initial_names (suc k) xs (record { line = 0; number = k }) t).1))),
  initial_once (suc k) xs,
)

pub may_open : (ranks xs : List ℕ) → Opening (edit_origins ranks) (initial_places xs)
unfolding edit_origins
may_open ranks xs = record { zeros = λ o t. (initial_names 1 xs o t).0; once = initial_once 1 xs }

-- ---- every list that a run shows

pub shown_once : (ranks : List ℕ) (items : List Place) → Laws (edits ranks) → Opening (edit_origins ranks) items → (s : State (edits ranks)) → Reached items s → (x : Who) → Once (names_of (doc_of x s))
unfolding edit_origins
shown_once ranks items lawful opening s r x =
    let at = stand_of items s r x in
    subst (λ (l : List Place). Once (names_of l)) (sym at.is) (known_at (moment items (edit_origins ranks) lawful opening s r) at.line at.i at.j at.good).once

-- and any two, at a moment and at a later one, have one order
pub shown_order : (ranks : List ℕ) (items : List Place) → Laws (edits ranks) → Opening (edit_origins ranks) items → (s t : State (edits ranks)) → Reached items s → Onward items s t → (x y : Who)
    → SameOrder (names_of (doc_of x s)) (names_of (doc_of y t))
unfolding edit_origins
shown_order ranks items lawful opening s t r on x y = one_order_of items lawful (edit_origins ranks) opening s t r on x y

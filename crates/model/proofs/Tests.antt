-- Lists of tests and questions as facts, and back.
use mathlib.Core.Path.{◌≡◌, refl, ap, sym, ◌∙◌}
use mathlib.Core.Bool.{Bool, true, false, ◌&&◌, cond}
use mathlib.Core.List.{List, [], ◌∷◌, ◌++◌}
use Prim.Native.Nat.{ℕ, zero, suc, ◌≤◌, ◌<◌}
use native.Mathlib.Omega.{arith}
use lib.Dec.{leb, eqb}
use lib.ListN.{length, get_or, drop}
use borrow.Author.Tests.{leb-true, le-leb, eqb-true}
pub use Rattle.ot.proofs.Fits.{and_left, and_right}
use Rattle.model.specs.Questions.{Question, ask, asks, every, between, Report, no_report, Answer, answer}

-- two tests that say the same
pub bool_ext : (a b : Bool) → (a ≡ true → b ≡ true) → (b ≡ true → a ≡ true) → a ≡ b
bool_ext true b f g = sym (f refl)
bool_ext false true f g = g refl
bool_ext false false f g = refl

pub both : (s t : Bool) → s ≡ true → t ≡ true → (s && t) ≡ true
both true t e f = f
both false t e f = e

-- three tests in a row, and four
pub three : (a b d : Bool) → (a && b && d) ≡ true → (a ≡ true) × (b ≡ true) × (d ≡ true)
three a b d e = (and_left a b (and_left (a && b) d e), and_right a b (and_left (a && b) d e), and_right (a && b) d e)

pub four : (a b d x : Bool) → (a && b && d && x) ≡ true → (a ≡ true) × (b ≡ true) × (d ≡ true) × (x ≡ true)
four a b d x e =
    let rest = three a b d (and_left (a && b && d) x e) in
    (rest.0, rest.1, rest.2, and_right (a && b && d) x e)

-- a list of which everything passes a test: appended to, dropped from, read
module _ {A : Type 0} (test : A → Bool) (all : List A → Bool) (none_fails : all [] ≡ true) (next : (x : A) (xs : List A) → all (x ∷ xs) ≡ (test x && all xs)) where
  pub all_append : (xs : List A) (x : A) → all xs ≡ true → test x ≡ true → all (xs ++ (x ∷ [])) ≡ true
  all_append [] x a t = next x [] ∙ both (test x) (all []) t none_fails
  all_append (y ∷ xs) x a t =
      let b = sym (next y xs) ∙ a in
      next y (xs ++ (x ∷ [])) ∙ both (test y) (all (xs ++ (x ∷ []))) (and_left (test y) (all xs) b) (all_append xs x (and_right (test y) (all xs) b) t)

  pub all_drop : (k : ℕ) (xs : List A) → all xs ≡ true → all (drop k xs) ≡ true
  all_drop zero xs a = a
  all_drop (suc k) [] a = a
  all_drop (suc k) (y ∷ xs) a = all_drop k xs (and_right (test y) (all xs) (sym (next y xs) ∙ a))

  pub all_at : (xs : List A) (i : ℕ) (d : A) → i < length xs → all xs ≡ true → test (get_or xs i d) ≡ true
  all_at [] i d lt a = absurd (omega arith)
  all_at (x ∷ xs) zero d lt a = and_left (test x) (all xs) (sym (next x xs) ∙ a)
  all_at (x ∷ xs) (suc i) d lt a = all_at xs i d (omega arith) (and_right (test x) (all xs) (sym (next x xs) ∙ a))

-- each test of a list holds
abbrev pub Hold : List Bool → Type 0
Hold [] = Unit {0}
Hold (b ∷ bs) = (b ≡ true) × Hold bs

-- such facts, one after another
infixr 4 ◌&◌
abbrev pub ◌&◌ : {A B : Type 0} → A → B → A × B
a & b = (a, b)

pub hold : (bs : List Bool) → every bs ≡ true → Hold bs
hold [] e = tt
hold (b ∷ bs) e = (and_left b (every bs) e, hold bs (and_right b (every bs) e))

pub held : (bs : List Bool) → Hold bs → every bs ≡ true
held [] h = refl
held (b ∷ bs) h = both b (every bs) h.0 (held bs h.1)

-- each question of a list is answered yes
abbrev pub Yes : List Question → Type 0
Yes [] = Unit {0}
Yes (q ∷ qs) = (q.yes ≡ true) × Yes qs

-- no question has the number 0
abbrev pub Numbered : List Question → Type 0
Numbered [] = Unit {0}
Numbered (q ∷ qs) = (q.number ≡ 0 → ⊥) × Numbered qs

pub yes_all : (qs : List Question) → Numbered qs → asks qs ≡ 0 → Yes qs
yes_all [] n e = tt
yes_all (q ∷ qs) n e = go q.yes refl (yes_all qs n.1) e
  where
    go : (b : Bool) → q.yes ≡ b → (asks qs ≡ 0 → Yes qs) → cond b (asks qs) q.number ≡ 0 → (q.yes ≡ true) × Yes qs
    go true y rest e' = (y, rest e')
    go false y rest e' = absurd (n.0 e')

pub all_yes : (qs : List Question) → Yes qs → asks qs ≡ 0
all_yes [] y = refl
all_yes (q ∷ qs) y = rw y.0 (all_yes qs y.1)

-- Two lists of questions with the same first no: some of the first list say yes and are not in the second, and the others are asked in both.
-- A question is looked at only where those before it said yes.
pub data Alike : List Question → List Question → Type 0 where
  done : Alike [] []
  over : {q : Question} {qs ps : List Question} → q.yes ≡ true → Alike qs ps → Alike (q ∷ qs) ps
  same : {k : ℕ} {a b : Bool} {qs ps : List Question} → a ≡ b → (a ≡ true → Alike qs ps) → Alike (ask k a ∷ qs) (ask k b ∷ ps)

pub alike : (qs ps : List Question) → Alike qs ps → asks qs ≡ asks ps
alike qs ps Alike.done = refl
alike qs' ps' (Alike.over {q} {qs} {ps} e r) = ap (λ (b : Bool). cond b (asks qs) q.number) e ∙ alike qs ps r
alike qs' ps' (Alike.same {k} {a} {b} {qs} {ps} e r) = ap (λ (t : Bool). cond t (asks qs) k) e ∙ go b refl (λ y. alike qs ps (r (e ∙ y)))
  where
    go : (t : Bool) → b ≡ t → (b ≡ true → asks qs ≡ asks ps) → cond t (asks qs) k ≡ cond t (asks ps) k
    go true y f = f y
    go false y f = refl

pub never : {A : Type 0} → false ≡ true → A
never e = absurd (let z : ◌≡◌ {A = ℕ} 0 1 = cc in omega arith)

-- What holds of the end as it came, and of the new end where nothing was refused, holds of the end that is answered.
pub answer_keeps : {E : Type 0} (P : E → Type 0) (r : ℕ) (old new : E) (k : Report) → P old → (r ≡ 0 → P new) → P (answer r old new k).end
unfolding answer
answer_keeps {E} P r old new k o n = go (eqb r 0) refl
  where
    go : (b : Bool) → eqb r 0 ≡ b → P (cond {A = Answer E} b (record { refusal = 0; end = new; report = k }) (record { refusal = r; end = old; report = no_report })).end
    go true e = n (eqb-true r 0 e)
    go false e = o

pub between_true : (a b p : ℕ) → between a b p ≡ true → (a ≤ p) × (p ≤ b)
between_true a b p e = (leb-true a p (and_left (leb a p) (leb p b) e), leb-true p b (and_right (leb a p) (leb p b) e))

pub true_between : (a b p : ℕ) → a ≤ p → p ≤ b → between a b p ≡ true
true_between a b p h k = both (leb a p) (leb p b) (le-leb a p h) (le-leb p b k)

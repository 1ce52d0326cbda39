-- Lists of names: one name more or less leaves the others where they were.
use Prim.Native.Nat.{suc, ◌≤◌, zero-le}
use native.Mathlib.Omega.{arith}
use mathlib.Core.Path.{◌≡◌, refl, sym, ap, ◌∙◌, subst}
use mathlib.Core.Logic.{◌⊎◌, inl, inr}
use mathlib.Core.Bool.{Bool, true, false, ◌||◌, true≢false}
use mathlib.Core.List.{List, [], ◌∷◌, ◌++◌}
use lib.ListN.{length, length-append}
use Rattle.jupiter.specs.Name.{Name, same, holds}
use Rattle.jupiter.specs.Orders.{before}
use Rattle.jupiter.specs.Origins.{Once, OneMore, Effect, puts, cuts, leaves, Turns}
use Rattle.jupiter.proofs.Replay.{or_true, same_eq, same_refl, same_sym, same_differ, is_false, holds_both}

-- a name that is on a list differs from one that is not
pub apart : (xs : List Name) (a x : Name) → holds xs a ≡ true → holds xs x ≡ false → same a x ≡ false
apart xs a x h n = same_differ a x (λ e. true≢false (sym h ∙ ap (holds xs) e ∙ n))

-- ---- a name put between front and back
held_beside : (a x : Name) → same a x ≡ false → (front back : List Name) → holds (front ++ x ∷ back) a ≡ holds (front ++ back) a
unfolding holds
held_beside a x ne [] back = rw ne refl
held_beside a x ne (y ∷ front) back = ap (λ b. same a y || b) (held_beside a x ne front back)

held_itself : (a x : Name) → same a x ≡ true → (front back : List Name) → holds (front ++ x ∷ back) a ≡ true
unfolding holds
held_itself a x e front back =
    holds_both front (x ∷ back) a ∙ ap (λ b. holds front a || (b || holds back a)) e ∙ or_true (holds front a)

order_beside : (a b x : Name) → same a x ≡ false → same b x ≡ false → (front back : List Name) → before a b (front ++ x ∷ back) ≡ before a b (front ++ back)
unfolding before
order_beside a b x na nb [] back = rw na refl
order_beside a b x na nb (y ∷ front) back = rw (held_beside b x nb front back, order_beside a b x na nb front back) refl

once_put : (x : Name) (front back : List Name) → holds (front ++ back) x ≡ false → Once (front ++ back) → Once (front ++ x ∷ back)
unfolding holds
once_put x [] back new once = (new, once)
once_put x (y ∷ front) back new once = go (same x y) refl new (λ n. once_put x front back n once.1)
  where
    go : (b : Bool) → same x y ≡ b → b || holds (front ++ back) x ≡ false → (holds (front ++ back) x ≡ false → Once (front ++ x ∷ back)) → Once (y ∷ (front ++ x ∷ back))
    go true e n ih = absurd (true≢false n)
    go false e n ih = (held_beside y x (same_sym x y e) front back ∙ once.0, ih n)

once_cut : (x : Name) (front back : List Name) → Once (front ++ x ∷ back) → (holds (front ++ back) x ≡ false) × Once (front ++ back)
unfolding holds
once_cut x [] back once = once
once_cut x (y ∷ front) back once =
    let rest = once_cut x front back once.1 in
    let ne : same y x ≡ false = is_false _ (λ e. true≢false (sym (held_itself y x e front back) ∙ once.0)) in
    (rw (same_sym y x ne) rest.0, (sym (held_beside y x ne front back) ∙ once.0, rest.1))

-- ---- the same of OneMore
module _ (x : Name) (xs ys : List Name) (m : OneMore x xs ys) where
  -- another name stands there as before
  pub held_other : (a : Name) → same a x ≡ false → holds ys a ≡ holds xs a
  held_other a ne = ap (λ r. holds r a) m.more ∙ held_beside a x ne m.front m.back ∙ ap (λ r. holds r a) (sym m.less)

  pub order_other : (a b : Name) → same a x ≡ false → same b x ≡ false → before a b ys ≡ before a b xs
  order_other a b na nb = ap (before a b) m.more ∙ order_beside a b x na nb m.front m.back ∙ ap (before a b) (sym m.less)

  pub held_new : holds ys x ≡ true
  held_new = ap (λ r. holds r x) m.more ∙ held_itself x x (same_refl x) m.front m.back

  pub once_more : holds xs x ≡ false → Once xs → Once ys
  once_more new once = subst Once (sym m.more) (once_put x m.front m.back (ap (λ r. holds r x) (sym m.less) ∙ new) (subst Once m.less once))

  pub once_less : Once ys → (holds xs x ≡ false) × Once xs
  once_less once =
      let r = once_cut x m.front m.back (subst Once m.more once) in
      (ap (λ q. holds q x) m.less ∙ r.0, subst Once (sym m.less) r.1)

pub length_more : {A : Type 0} (x : A) (xs ys : List A) → OneMore x xs ys → length ys ≡ suc (length xs)
length_more x xs ys m =
    let a = ap length m.more ∙ length-append m.front (x ∷ m.back) in
    let b = ap length m.less ∙ length-append m.front m.back in
    omega arith

-- a name that is on a list is put in at one place of the rest
record Found (x : Name) (ys : List Name) : Type 0 where
  rest : List Name
  more : OneMore x rest ys

find : (x : Name) (ys : List Name) → holds ys x ≡ true → Found x ys
unfolding holds
find x [] h = absurd (true≢false (sym h))
find x (y ∷ ys) h = go (same x y) refl h (find x ys)
  where
    go : (b : Bool) → same x y ≡ b → b || holds ys x ≡ true → (holds ys x ≡ true → Found x ys) → Found x (y ∷ ys)
    go true e h ih = record { rest = ys; more = record { front = []; back = ys; less = refl; more = ap {B = List Name} (λ z. z ∷ ys) (sym (same_eq x y e)) } }
    go false e h ih =
        let m = (ih h).more in
        record {
          rest = y ∷ (ih h).rest;
          more = record { front = y ∷ m.front; back = m.back; less = ap {B = List Name} (λ r. y ∷ r) m.less; more = ap {B = List Name} (λ r. y ∷ r) m.more };
        }

-- names of which none stands twice, all of them on another list: that one is at least as long
pub once_within : (xs ys : List Name) → Once xs → ((o : Name) → holds xs o ≡ true → holds ys o ≡ true) → length xs ≤ length ys
unfolding holds
once_within [] ys once f = zero-le
once_within (x ∷ xs) ys once f =
    let found = find x ys (f x (ap (λ b. b || holds xs x) (same_refl x))) in
    let rest_holds : (o : Name) → holds xs o ≡ true → holds found.rest o ≡ true =
    λ o t. sym (held_other x found.rest ys found.more o (apart xs o x t once.0)) ∙ f o (ap (λ b. same o x || b) t ∙ or_true (same o x)) in
    omega (arith, once_within xs found.rest once.1 rest_holds, length_more x found.rest ys found.more)

-- ---- one edit, whose name x is not on the list yet
pub record Stepped (x : Name) (f : Effect) (xs ys : List Name) : Type 0 where
  pub turns : Turns x f xs ys
  pub new : holds xs x ≡ false
  pub once : Once xs

pub once_after : (x : Name) (f : Effect) (xs ys : List Name) → Stepped x f xs ys → Once ys
once_after x puts xs ys s = once_more x xs ys s.turns s.new s.once
once_after x (cuts y) xs ys s = (once_less y ys xs s.turns s.once).1
once_after x leaves xs ys s = subst Once (sym s.turns) s.once

-- only x can be new on the list
pub held_before : (x : Name) (f : Effect) (xs ys : List Name) → Stepped x f xs ys → (o : Name) → holds ys o ≡ true → (holds xs o ≡ true) ⊎ (o ≡ x)
held_before x puts xs ys s o h = go (same o x) refl
  where
    go : (b : Bool) → same o x ≡ b → (holds xs o ≡ true) ⊎ (o ≡ x)
    go true e = inr (same_eq o x e)
    go false e = inl (sym (held_other x xs ys s.turns o e) ∙ h)
held_before x (cuts y) xs ys s o h =
    let gone = (once_less y ys xs s.turns s.once).0 in
    inl (held_other y ys xs s.turns o (apart ys o y h gone) ∙ h)
held_before x leaves xs ys s o h = inl (ap (λ r. holds r o) (sym s.turns) ∙ h)

-- two names that stand before and after stand in the same order
pub order_after : (x : Name) (f : Effect) (xs ys : List Name) → Stepped x f xs ys → (a b : Name) → holds xs a ≡ true → holds xs b ≡ true → holds ys a ≡ true
    → holds ys b ≡ true → before a b ys ≡ before a b xs
order_after x puts xs ys s a b ax bx ay by = order_other x xs ys s.turns a b (apart xs a x ax s.new) (apart xs b x bx s.new)
order_after x (cuts y) xs ys s a b ax bx ay by =
    let gone = (once_less y ys xs s.turns s.once).0 in
    sym (order_other y ys xs s.turns a b (apart ys a y ay gone) (apart ys b y by gone))
order_after x leaves xs ys s a b ax bx ay by = ap (before a b) s.turns

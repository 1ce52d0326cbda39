-- Sets of edits with one edit more: their inserts, and the targets of their deletes.
use Prim.Native.Nat.{ℕ, zero, suc, ◌+◌, ◌<◌}
use native.Mathlib.Nat.{le_of_suc-le-suc, not-suc-le-zero}
use native.Mathlib.Omega.{arith}
use mathlib.Core.Path.{◌≡◌, refl, sym, ap, ◌∙◌}
use mathlib.Core.Bool.{Bool, true, false, cond, ◌&&◌, ◌||◌}
use mathlib.Core.List.{List, [], ◌∷◌, ◌++◌}
use lib.ListN.{length, get_or}
use Rattle.jupiter.specs.Name.{Name, same, holds}
use Rattle.jupiter.specs.Algebra.{Algebra}
use Rattle.jupiter.specs.Made.{Made, select}
use Rattle.jupiter.specs.History.{History}
use Rattle.jupiter.specs.Claims.{inserts}
use Rattle.jupiter.specs.Origins.{Once, OneMore, Effect, puts, cuts, leaves, Origins}
use Rattle.jupiter.specs.Standing.{is_puts, is_cuts, with_cut, any, did, put_by, targets}
use Rattle.jupiter.proofs.Replay.{or_true, same_eq}
use Rattle.jupiter.proofs.Size.{inserts_append}
use Rattle.jupiter.proofs.Names.{once_within}

pub or_swap : (a b c : Bool) → a || (b || c) ≡ b || (a || c)
or_swap true b c = sym (or_true b)
or_swap false b c = refl

pub any_more : {A : Type 0} (p : A → Bool) (z : A) (C C' : List A) → OneMore z C C' → any p C' ≡ p z || any p C
unfolding any
any_more {A} p z C C' more = ap (any p) more.more ∙ go more.front ∙ ap (λ r. p z || any p r) (sym more.less)
  where
    go : (xs : List A) → any p (xs ++ z ∷ more.back) ≡ p z || any p (xs ++ more.back)
    go [] = refl
    go (x ∷ xs) = ap (λ b. p x || b) (go xs) ∙ or_swap (p x) (p z) (any p (xs ++ more.back))

-- an element that is selected and passes the test
pub any_selected : {A : Type 0} (p q : A → Bool) (d : A) (xs : List A) (i : ℕ) → i < length xs → q (get_or xs i d) ≡ true → p (get_or xs i d) ≡ true → any p (select q xs) ≡ true
unfolding any select
any_selected p q d [] i lt s t = absurd (not-suc-le-zero lt)
any_selected p q d (x ∷ xs) zero lt s t = rw s (ap (λ b. b || any p (select q xs)) t)
any_selected p q d (x ∷ xs) (suc i) lt s t = go (q x) (any_selected p q d xs i (le_of_suc-le-suc lt) s t)
  where
    go : (b : Bool) → any p (select q xs) ≡ true → any p (cond b (x ∷ select q xs) (select q xs)) ≡ true
    go true e = ap (λ b. p x || b) e ∙ or_true (p x)
    go false e = e

-- ---- one target more
held_cut : (p : Effect) (ns : List Name) (o : Name) → holds (with_cut p ns) o ≡ is_cuts o p || holds ns o
unfolding with_cut is_cuts holds
held_cut puts ns o = refl
held_cut leaves ns o = refl
held_cut (cuts a) ns o = go (holds ns a) refl
  where
    go : (b : Bool) → holds ns a ≡ b → holds (cond b ns (a ∷ ns)) o ≡ same o a || holds ns o
    go false e = refl
    go true e = have (same o a) refl
      where
        have : (c : Bool) → same o a ≡ c → holds ns o ≡ c || holds ns o
        have true q = ap (holds ns) (same_eq o a q) ∙ e
        have false q = refl

pub length_cut : (a : Name) (ns : List Name) (there : Bool) → holds ns a ≡ there → length (with_cut (cuts a) ns) ≡ cond there (length ns) (suc (length ns))
unfolding with_cut
length_cut a ns true e = rw e refl
length_cut a ns false e = rw e refl

once_cut : (p : Effect) (ns : List Name) → Once ns → Once (with_cut p ns)
unfolding with_cut
once_cut puts ns once = once
once_cut leaves ns once = once
once_cut (cuts a) ns once = go (holds ns a) refl
  where
    go : (b : Bool) → holds ns a ≡ b → Once (cond b ns (a ∷ ns))
    go true e = once
    go false e = (e, once)

module _ {𝓐 : Algebra} (𝓞 : Origins 𝓐) (d : 𝓐.Doc) (h : History 𝓐) where
  -- o is a target of the set: some delete of it took o off
  pub target_any : (C : List (Made 𝓐)) (o : Name) → holds (targets 𝓞 d h C) o ≡ any (λ e. is_cuts o (did 𝓞 d h e)) C
  unfolding targets any holds
  target_any [] o = refl
  target_any (e ∷ C) o = held_cut (did 𝓞 d h e) (targets 𝓞 d h C) o ∙ ap (λ b. is_cuts o (did 𝓞 d h e) || b) (target_any C o)

  targets_once : (C : List (Made 𝓐)) → Once (targets 𝓞 d h C)
  unfolding targets
  targets_once [] = tt
  targets_once (e ∷ C) = once_cut (did 𝓞 d h e) (targets 𝓞 d h C) (targets_once C)

  module _ (z : Made 𝓐) (C C' : List (Made 𝓐)) (more : OneMore z C C') where
    pub target_more : (o : Name) → holds (targets 𝓞 d h C') o ≡ is_cuts o (did 𝓞 d h z) || holds (targets 𝓞 d h C) o
    target_more o = target_any C' o ∙ any_more (λ e. is_cuts o (did 𝓞 d h e)) z C C' more ∙ ap (λ b. is_cuts o (did 𝓞 d h z) || b) (sym (target_any C o))

    -- neither list has a name twice, and they hold the same names
    pub targets_more : length (targets 𝓞 d h C') ≡ length (with_cut (did 𝓞 d h z) (targets 𝓞 d h C))
    targets_more =
        let cut = with_cut (did 𝓞 d h z) (targets 𝓞 d h C) in
        let same_held : (o : Name) → holds (targets 𝓞 d h C') o ≡ holds cut o = λ o. target_more o ∙ sym (held_cut (did 𝓞 d h z) (targets 𝓞 d h C) o) in
        let le = once_within (targets 𝓞 d h C') cut (targets_once C') (λ o t. sym (same_held o) ∙ t) in
        let ge = once_within cut (targets 𝓞 d h C') (once_cut (did 𝓞 d h z) (targets 𝓞 d h C) (targets_once C)) (λ o t. same_held o ∙ t) in
        omega arith

    pub put_more : (o : Name) → put_by 𝓞 d h C' o ≡ (is_puts (did 𝓞 d h z) && same o z.name) || put_by 𝓞 d h C o
    put_more o = any_more (λ e. is_puts (did 𝓞 d h e) && same o e.name) z C C' more

    pub inserts_more : inserts C' ≡ 𝓐.grows z.edit + inserts C
    unfolding inserts
    inserts_more =
        let a = ap inserts more.more ∙ inserts_append more.front (z ∷ more.back) in
        let b = ap inserts more.less ∙ inserts_append more.front more.back in
        omega arith

-- With every edit its context: in 01's order each edit stands behind all that its maker had applied.
use Prim.Native.Nat.{ℕ, zero, suc, ◌<◌}
use native.Mathlib.Nat.{le_of_suc-le-suc, not-suc-le-zero}
use mathlib.Core.Path.{◌≡◌, refl, sym, ap, ◌∙◌, subst}
use mathlib.Core.Logic.{◌⊎◌, inl, inr}
use mathlib.Core.Bool.{Bool, true, false, true≢false, ◌||◌}
use mathlib.Core.List.{List, [], ◌∷◌, ◌++◌, append_assoc, append-nil}
use lib.ListN.{length, get_or}
use Rattle.jupiter.specs.Algebra.{Algebra}
use Rattle.jupiter.specs.Made.{Name, Made, same, holds, names}
use Rattle.jupiter.specs.Point.{blank}
use Rattle.jupiter.specs.History.{History, order}
use Rattle.jupiter.proofs.Lists.{All}
use Rattle.jupiter.proofs.Replay.{or_true, same_eq, holds_append, holds_more, holds_last, holds_split}

module _ {𝓐 : Algebra} where
  -- every name of the one list is held by the other
  abbrev pub Within : List Name → List (Made 𝓐) → Type 0
  Within ns S = (n : Name) → holds ns n ≡ true → holds (names S) n ≡ true

  abbrev pub ClosedFrom : List (Made 𝓐) → List (Made 𝓐) → Type 0
  ClosedFrom before [] = Unit {0}
  ClosedFrom before (e ∷ es) = Within e.context before × ClosedFrom (before ++ (e ∷ [])) es

  pub within_append : (xs ys : List (Made 𝓐)) → Within (names xs) (xs ++ ys)
  within_append xs ys n t = holds_append xs ys n ∙ ap (λ b. b || holds (names ys) n) t

  more_snoc : (b b' : List (Made 𝓐)) (e : Made 𝓐) → Within (names b) b' → Within (names (b ++ (e ∷ []))) (b' ++ (e ∷ []))
  more_snoc b b' e f n t = go (holds_split b e n t)
    where
      go : (holds (names b) n ≡ true) ⊎ (n ≡ e.name) → holds (names (b' ++ (e ∷ []))) n ≡ true
      go (inl h) = holds_more b' e n (f n h)
      go (inr q) = subst (λ x. holds (names (b' ++ (e ∷ []))) x ≡ true) (sym q) (holds_last b' e)

  closed_more : (b b' es : List (Made 𝓐)) → Within (names b) b' → ClosedFrom b es → ClosedFrom b' es
  closed_more b b' [] f h = tt
  closed_more b b' (e ∷ es) f h = (λ n t. f n (h.0 n t), closed_more (b ++ (e ∷ [])) (b' ++ (e ∷ [])) es (more_snoc b b' e f) h.1)

  closed_insert : (b xs : List (Made 𝓐)) (g : Made 𝓐) (ys : List (Made 𝓐)) → ClosedFrom b (xs ++ ys) → Within g.context (b ++ xs) → ClosedFrom b (xs ++ g ∷ ys)
  closed_insert b [] g ys h k = (λ n t. subst (λ r. holds (names r) n ≡ true) (append-nil b) (k n t), closed_more b (b ++ (g ∷ [])) ys (within_append b (g ∷ [])) h)
  closed_insert b (x ∷ xs) g ys h k =
      (h.0, closed_insert (b ++ (x ∷ [])) xs g ys h.1 (λ n t. subst (λ r. holds (names r) n ≡ true) (sym (append_assoc b (x ∷ []) xs)) (k n t)))

  closed_at : (b xs : List (Made 𝓐)) (g : Made 𝓐) (ys : List (Made 𝓐)) → ClosedFrom b (xs ++ g ∷ ys) → Within g.context (b ++ xs)
  closed_at b [] g ys h n t = subst (λ r. holds (names r) n ≡ true) (sym (append-nil b)) (h.0 n t)
  closed_at b (x ∷ xs) g ys h n t = subst (λ r. holds (names r) n ≡ true) (append_assoc b (x ∷ []) xs) (closed_at (b ++ (x ∷ [])) xs g ys h.1 n t)

  closed_front : (b xs ys : List (Made 𝓐)) → ClosedFrom b (xs ++ ys) → ClosedFrom b xs
  closed_front b [] ys h = tt
  closed_front b (x ∷ xs) ys h = (h.0, closed_front (b ++ (x ∷ [])) xs ys h.1)

  closed_get : (b xs : List (Made 𝓐)) → ClosedFrom b xs → (i : ℕ) → i < length xs → Within (get_or xs i blank).context (b ++ xs)
  closed_get b [] h i lt n t = absurd (not-suc-le-zero lt)
  closed_get b (x ∷ xs) h zero lt n t = within_append b (x ∷ xs) n (h.0 n t)
  closed_get b (x ∷ xs) h (suc i) lt n t =
      subst (λ r. holds (names r) n ≡ true) (append_assoc b (x ∷ []) xs) (closed_get (b ++ (x ∷ [])) xs h.1 i (le_of_suc-le-suc lt) n t)

  -- what is held of a list all of whose names another list holds
  pub all_within : (xs S : List (Made 𝓐)) → All (λ e. holds (names S) e.name ≡ true) xs → Within (names xs) S
  unfolding holds
  all_within [] S h n t = absurd (true≢false (sym t))
  all_within (x ∷ xs) S h n t = go (same n x.name) refl t (all_within xs S h.1 n)
    where
      go : (b : Bool) → same n x.name ≡ b → b || holds (names xs) n ≡ true → (holds (names xs) n ≡ true → holds (names S) n ≡ true) → holds (names S) n ≡ true
      go true e k ih = subst (λ y. holds (names S) y ≡ true) (sym (same_eq n x.name e)) h.0
      go false e k ih = ih k

  -- each element's context is held by the whole
  abbrev pub ClosedSet : List (Made 𝓐) → Type 0
  ClosedSet S = All (λ e. Within e.context S) S

  closed_set_more : (xs S S' : List (Made 𝓐)) → Within (names S) S' → All (λ e. Within e.context S) xs → All (λ e. Within e.context S') xs
  closed_set_more [] S S' f h = tt
  closed_set_more (x ∷ xs) S S' f h = (λ n t. f n (h.0 n t), closed_set_more xs S S' f h.1)

  pub closed_set_snoc : (S : List (Made 𝓐)) (e : Made 𝓐) → ClosedSet S → Within e.context S → ClosedSet (S ++ (e ∷ []))
  closed_set_snoc S e h k =
      let on = within_append S (e ∷ []) in
      Rattle.jupiter.proofs.Lists.all_append (λ x. Within x.context (S ++ (e ∷ []))) S (e ∷ []) (closed_set_more S S (S ++ (e ∷ [])) on h) (λ n t. on n (k n t), tt)

  -- ---- of a history
  pub record Closed (h : History 𝓐) : Type 0 where
    pub order_closed : (l : ℕ) → ClosedFrom [] (order h l)
    pub applied_within : (l : ℕ) → Within (names (h.applied l)) (order h l)
    pub applied_closed : (l : ℕ) → ClosedSet (h.applied l)

  -- line l: its client makes an edit
  pub closed_edit : (w ap : List (Made 𝓐)) (o : Made 𝓐) → o.context ≡ names ap → ClosedFrom [] w → Within (names ap) w → ClosedFrom [] (w ++ (o ∷ []))
  closed_edit w ap o c h k =
      closed_insert [] w o [] (subst (ClosedFrom []) (sym (append-nil w)) h) (λ n t. k n (subst (λ r. holds r n ≡ true) c t))

  pub within_snoc : (ap w : List (Made 𝓐)) (o : Made 𝓐) → Within (names ap) w → Within (names (ap ++ (o ∷ []))) (w ++ (o ∷ []))
  within_snoc ap w o f = more_snoc ap w o f

  -- the server takes an edit that stands first behind xs on its own line
  pub closed_other : (xs : List (Made 𝓐)) (g : Made 𝓐) (us ys : List (Made 𝓐)) → ClosedFrom [] (xs ++ g ∷ us) → ClosedFrom [] (xs ++ ys) → ClosedFrom [] (xs ++ g ∷ ys)
  closed_other xs g us ys own_line h = closed_insert [] xs g ys h (closed_at [] xs g us own_line)

  pub within_insert : (S xs : List (Made 𝓐)) (g : Made 𝓐) (ys : List (Made 𝓐)) → Within (names S) (xs ++ ys) → Within (names S) (xs ++ g ∷ ys)
  unfolding holds
  within_insert S xs g ys f n t =
      let e = sym (holds_append xs ys n) ∙ f n t in
      holds_append xs (g ∷ ys) n ∙ go (holds (names xs) n) e
    where
      go : (b : Bool) → b || holds (names ys) n ≡ true → b || (same n g.name || holds (names ys) n) ≡ true
      go true k = refl
      go false k = ap (λ c. same n g.name || c) k ∙ or_true (same n g.name)

  pub context_of : (xs : List (Made 𝓐)) (g : Made 𝓐) (ys : List (Made 𝓐)) → ClosedFrom [] (xs ++ g ∷ ys) → Within g.context xs
  context_of xs g ys h = closed_at [] xs g ys h

  -- what the server has taken is closed
  pub served_closed : (h : History 𝓐) → Closed h → (i : ℕ) → i < length h.served → Within (get_or h.served i blank).context h.served
  served_closed h k = closed_get [] h.served (closed_front [] h.served (h.untaken 0) (k.order_closed 0))

-- Deletes that took an item off the server's list have different targets. So where they are applied, there is room for as many items more.
use Prim.Native.Nat.{ℕ, zero, suc, ◌≤◌, ◌<◌}
use native.Mathlib.Nat.{le_refl}
use native.Mathlib.Omega.{arith}
use mathlib.Core.Path.{◌≡◌, refl, sym, ap, ◌∙◌, subst}
use mathlib.Core.Bool.{Bool, true, false, cond, true≢false, ◌||◌}
use mathlib.Core.List.{List, [], ◌∷◌, append-nil}
use lib.ListN.{length, get_or, take, drop, length-append, get_or-append}
use lib.Seq.{take-suc, split_at}
use Rattle.jupiter.specs.Name.{Name, same, holds}
use Rattle.jupiter.specs.Algebra.{Algebra, Laws}
use Rattle.jupiter.specs.Made.{Made, names}
use Rattle.jupiter.specs.Form.{in_order}
use Rattle.jupiter.specs.Point.{blank}
use Rattle.jupiter.specs.History.{History, order}
use Rattle.jupiter.specs.Run.{State, initial, run}
use Rattle.jupiter.specs.Claims.{Who, server, client, set_of, doc_of}
use Rattle.jupiter.specs.Origins.{Once, Effect, puts, cuts, leaves, Origins}
use Rattle.jupiter.specs.Standing.{is_cuts, any, did, targets, still, set_in, count_below, Room}
use Rattle.jupiter.proofs.Replay.{or_true, same_eq, same_refl, is_false, holds_in, in_itself}
use Rattle.jupiter.proofs.Runs.{reached_by}
use Rattle.jupiter.proofs.Names.{once_within}
use Rattle.jupiter.proofs.NoneTwice.{moment}
use Rattle.jupiter.proofs.Prefix.{Taken}
use Rattle.jupiter.proofs.Cuts.{any_selected, target_any, target_more}
use Rattle.jupiter.proofs.Arriving.{taken_still, stands_in}

-- ---- effects with a name are no others
is_cut : Effect → Bool
is_cut puts = false
is_cut (cuts o) = true
is_cut leaves = false

cut_name : Name → Effect → Name
cut_name a puts = a
cut_name a (cuts o) = o
cut_name a leaves = a

module _ {𝓐 : Algebra} (𝓞 : Origins 𝓐) (d : 𝓐.Doc) (h : History 𝓐) where
  -- an effect that is left at C, of a delete: its target is none of C's
  still_cuts : (C : List (Made 𝓐)) (p : Effect) (o : Name) → still 𝓞 d h C p ≡ cuts o → (p ≡ cuts o) × (holds (targets 𝓞 d h C) o ≡ false)
  unfolding still is_cut cut_name
  still_cuts C puts o e = absurd (true≢false (sym (ap is_cut e)))
  still_cuts C leaves o e = absurd (true≢false (sym (ap is_cut e)))
  still_cuts C (cuts y) o e = go (holds (targets 𝓞 d h C) y) refl e
    where
      go : (b : Bool) → holds (targets 𝓞 d h C) y ≡ b → cond b leaves (cuts y) ≡ cuts o → (cuts y ≡ cuts o) × (holds (targets 𝓞 d h C) o ≡ false)
      go true q e = absurd (true≢false (sym (ap is_cut e)))
      go false q e = (e, ap (holds (targets 𝓞 d h C)) (sym (ap (cut_name o) e)) ∙ q)

  -- the edit that the server took as number k, and those before it
  abbrev edit_at : ℕ → Made 𝓐
  edit_at k = get_or h.served k blank

  abbrev first_edits : ℕ → List (Made 𝓐)
  first_edits k = take k h.served

  abbrev targets_to : ℕ → List Name
  targets_to n = targets 𝓞 d h (first_edits n)

  -- For each number below n that is counted, the target of its edit: all are on the list T.
  record Collected (T : List Name) (settled : ℕ → Bool) (n : ℕ) : Type 0 where
    ns : List Name
    once : Once ns
    long : length ns ≡ count_below settled n
    within : (o : Name) → holds ns o ≡ true → holds T o ≡ true
    earlier : (o : Name) → holds ns o ≡ true → holds (targets_to n) o ≡ true

  -- what is asked of the edits that are counted
  abbrev Each : List Name → (ℕ → Bool) → Type 0
  Each T settled = (k : ℕ) → k < length h.served → settled k ≡ true → (o : Name) × (still 𝓞 d h (first_edits k) (did 𝓞 d h (edit_at k)) ≡ cuts o) × (holds T o ≡ true)

  module _ (T : List Name) (settled : ℕ → Bool) (each : Each T settled) where
    collect : (n : ℕ) → n ≤ length h.served → Collected T settled n
    unfolding count_below holds is_cuts
    collect zero le = record { ns = []; once = tt; long = refl; within = λ o t. absurd (true≢false (sym t)); earlier = λ o t. absurd (true≢false (sym t)) }
    collect (suc n) le = go (settled n) refl (collect n (omega arith))
      where
        more : (o : Name) → holds (targets_to (suc n)) o ≡ is_cuts o (did 𝓞 d h (edit_at n)) || holds (targets_to n) o
        more o =
            target_more 𝓞 d h (edit_at n) (first_edits n) (first_edits (suc n))
            (record { front = first_edits n; back = []; less = sym (append-nil (first_edits n)); more = take-suc h.served n blank le }) o

        go : (b : Bool) → settled n ≡ b → Collected T settled n → Collected T settled (suc n)
        go false e c =
            record {
              ns = c.ns;
              once = c.once;
              long = rw e c.long;
              within = c.within;
              earlier = λ o t. more o ∙ ap (λ b. is_cuts o (did 𝓞 d h (edit_at n)) || b) (c.earlier o t) ∙ or_true (is_cuts o (did 𝓞 d h (edit_at n)));
            }
        go true e c =
            let x = each n le e in
            let new = still_cuts (first_edits n) (did 𝓞 d h (edit_at n)) x.0 x.1 in
            record {
              ns = x.0 ∷ c.ns;
              once = (is_false _ (λ t. true≢false (sym (c.earlier x.0 t) ∙ new.1)), c.once);
              long = rw e (ap suc c.long);
              within = λ o t. in_T o x.0 x.2 (same o x.0) refl t;
              earlier = λ o t. more o ∙ ap (λ p. is_cuts o p || holds (targets_to n) o) new.0 ∙ in_earlier o (same o x.0) t;
            }
          where
            in_T : (o y : Name) → holds T y ≡ true → (b : Bool) → same o y ≡ b → b || holds c.ns o ≡ true → holds T o ≡ true
            in_T o y held true q t = ap (holds T) (same_eq o y q) ∙ held
            in_T o y held false q t = c.within o t

            in_earlier : (o : Name) (b : Bool) → b || holds c.ns o ≡ true → b || holds (targets_to n) o ≡ true
            in_earlier o true t = refl
            in_earlier o false t = c.earlier o t

    settled_targets : count_below settled (length h.served) ≤ length T
    settled_targets =
        let c = collect (length h.served) (le_refl _) in
        subst (λ n. n ≤ length T) c.long (once_within c.ns T c.once c.within)

module _ {𝓐 : Algebra} (s : State 𝓐) where
  abbrev nth : ℕ → Made 𝓐
  nth k = get_or s.history.served k blank

  -- an edit that an end has applied is in its set
  in_set : (x : Who) (k : ℕ) → k < length s.history.served → holds (names (set_of x s)) (nth k).name ≡ true → (p : Made 𝓐 → Bool) → p (nth k) ≡ true → any p (set_in x s) ≡ true
  unfolding in_order
  in_set server k lt t p q =
      let served = s.history.served in
      subst (λ C. any p C ≡ true) (in_itself served) (any_selected p (λ e. holds (names served) e.name) blank served k lt (holds_in served k lt) q)
  in_set (client l) k lt t p q =
      let h = s.history in
      let is : get_or (order h l) k blank ≡ nth k = get_or-append h.served (h.untaken l) blank k lt in
      let n = length-append h.served (h.untaken l) in
      any_selected p (λ e. holds (names (h.applied l)) e.name) blank (order h l) k (omega arith) (ap (λ e. holds (names (h.applied l)) e.name) is ∙ t) (ap p is ∙ q)

pub room : (𝓐 : Algebra) → Laws 𝓐 → (𝓞 : Origins 𝓐) → Room 𝓐 𝓞
unfolding is_cuts
room 𝓐 laws 𝓞 d opening cs x settled each =
    let s = run (initial d) cs in
    let h = s.history in
    let r = reached_by d laws cs in
    let T = targets 𝓞 d h (set_in x s) in
    let targets_differ = settled_targets 𝓞 d h T settled (λ k lt t.
    let removed = (each k lt t).0 in
    let o = removed.target in
    let taken : Taken h (nth s k) = record { before = take k h.served; after = drop (suc k) h.served; is = split_at h.served k blank lt } in
    let left = sym (taken_still (moment d 𝓞 laws opening s r) taken) ∙ removed.effect in
    let cuts_o = (still_cuts 𝓞 d h (take k h.served) (did 𝓞 d h (nth s k)) o left).0 in
    (o, left, target_any 𝓞 d h (set_in x s) o ∙ in_set s x k lt (each k lt t).1 (λ e. is_cuts o (did 𝓞 d h e)) (ap (is_cuts o) cuts_o ∙ same_refl o))) in
    omega (arith, (stands_in 𝓞 laws d opening s r x).count, 𝓞.size_is (doc_of x s), 𝓞.size_is d)

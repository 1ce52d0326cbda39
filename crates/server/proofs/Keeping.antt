-- The loop by which the other lines keep an edit: its start, a turn, and a turn that leaves a line out.
use Prim.Native.Nat.{ℕ, ◌+◌, ◌≤◌, ◌<◌}
use native.Mathlib.Omega.{arith}
use mathlib.Core.Path.{◌≡◌, refl, ap, sym, ◌∙◌, subst}
use mathlib.Core.Bool.{Bool, true, false, ◌&&◌, not, cond}
use mathlib.Core.List.{List}
use lib.Dec.{ltb, eqb}
use lib.ListN.{length, set, length-set}
use lib.Seq.{get_or-set_same, get_or-set_other}
use borrow.Author.Tests.{eqb-true, eqb-false, eq-eqb, ne_eqb, ltb-true, lt-ltb, le-ltb}
use Rattle.limits.specs.Limits.{max_lines}
use Rattle.ot.specs.Edit.{Edit}
use Rattle.model.specs.Line as line
use Rattle.model.proofs.Tests.{bool_ext}
use Rattle.line.specs.declared.Line.{Line}
use Rattle.line.specs.Line.{counts_of, Kept}
use Rattle.line.specs.Keeping.{with_kept}
use Rattle.server.specs.declared.Counts.{Counts}
use Rattle.server.specs.View.{slots_at, makers_at, counts_at, SlotsWrote, MakersWrote}
use Rattle.server.specs.Taking.{keeps, slots_kept, makers_kept, KeptBy}

-- ---- which lines keep it

none : (b : Bool) → (b && false) ≡ false
none true = refl
none false = refl

all : (b : Bool) → (b && true) ≡ b
all true = refl
all false = refl

pub keeps_own : (most at : ℕ) → keeps most at at ≡ false
keeps_own most at = ap (λ (b : Bool). ltb at most && not b) (eq-eqb at at refl) ∙ none (ltb at most)

pub keeps_other : (most at i : ℕ) → (i ≡ at → ⊥) → keeps most at i ≡ ltb i most
keeps_other most at i n = ap (λ (b : Bool). ltb i most && not b) (ne_eqb i at n) ∙ all (ltb i most)

keeps_past : (most at i : ℕ) → most ≤ i → keeps most at i ≡ false
keeps_past most at i h = ap (λ (b : Bool). b && not (eqb i at)) (le-ltb i most h)

-- the line at place i is looked at
keeps_next : (at i : ℕ) → (i ≡ at → ⊥) → keeps (i + 1) at i ≡ true
keeps_next at i n = keeps_other (i + 1) at i n ∙ lt-ltb i (i + 1) (omega arith)

keeps_still : (at i j : ℕ) → (j ≡ i → ⊥) → keeps i at j ≡ keeps (i + 1) at j
keeps_still at i j n =
    ap (λ (b : Bool). b && not (eqb j at))
    (bool_ext (ltb j i) (ltb j (i + 1)) (λ t. lt-ltb j (i + 1) (omega (arith, ltb-true j i t))) (λ t. lt-ltb j i (less (ltb-true j (i + 1) t))))
  where
    less : j < i + 1 → j < i
    less h = let m = n in omega arith

-- ---- the loop

-- by which the counts, the words and the origins of a line are known
abbrev pub counts_then : Bool → Line → Line
counts_then b v = cond b (with_kept v v.inserts) v

abbrev pub slots_then : Bool → Edit → Line → List ℕ → List ℕ
slots_then b e v words = cond b (slots_kept e v words) words

abbrev pub makers_then : Bool → ℕ → Line → List ℕ → List ℕ
makers_then b word v words = cond b (makers_kept word v words) words

module _ (at : ℕ) (e : Edit) (word : ℕ) (k : Counts) (before : List ℕ) where
  module _ (i : ℕ) (r : Counts) (after : List ℕ) (s : KeptBy i at e word k before r after) where
    same_keeps : (j : ℕ) → i ≡ at → keeps i at j ≡ keeps (i + 1) at j
    same_keeps j o = go (eqb j i) refl
      where
        go : (b : Bool) → eqb j i ≡ b → keeps i at j ≡ keeps (i + 1) at j
        go true t =
            let same : j ≡ at = eqb-true j i t ∙ o in
            ap (keeps i at) same ∙ keeps_own i at ∙ sym (keeps_own (i + 1) at) ∙ ap (keeps (i + 1) at) (sym same)
        go false f = keeps_still at i j (eqb-false j i f)

    -- the line that the edit came on
    pub kept_skip : i ≡ at → KeptBy (i + 1) at e word k before r after
    kept_skip o =
        record {
          n = s.n;
          initial = s.initial;
          len = s.len;
          total = s.total;
          ranks = s.ranks;
          lines = s.lines;
          counts = λ j h. s.counts j h ∙ ap (λ (b : Bool). counts_then b (counts_at k j)) (same_keeps j o);
          words =
              record {
                items = s.words.items;
                origins = s.words.origins;
                slots = λ j h. s.words.slots j h ∙ ap (λ (b : Bool). slots_then b e (counts_at k j) (slots_at j before)) (same_keeps j o);
                makers = λ j h. s.words.makers j h ∙ ap (λ (b : Bool). makers_then b word (counts_at k j) (makers_at j before)) (same_keeps j o);
                long = s.words.long;
              };
        }

    module _ (n : i ≡ at → ⊥) (lt : i < max_lines) where
      abbrev v : Line
      v = counts_at k i

      -- its counts, words and origins are still as they came
      pub uncounted : counts_at r i ≡ counts_at k i
      uncounted = s.counts i lt ∙ ap (λ (b : Bool). counts_then b v) (keeps_past i at i (omega arith))

      untouched : slots_at i after ≡ slots_at i before
      untouched = s.words.slots i lt ∙ ap (λ (b : Bool). slots_then b e v (slots_at i before)) (keeps_past i at i (omega arith))

      unnamed : makers_at i after ≡ makers_at i before
      unnamed = s.words.makers i lt ∙ ap (λ (b : Bool). makers_then b word v (makers_at i before)) (keeps_past i at i (omega arith))

      pub kept_still : Kept v (slots_at i before) → Kept v (slots_at i after)
      kept_still h = subst (Kept v) (sym untouched) h

      module _ (lines : length k.lines ≡ max_lines) (middle then : List ℕ) (wrote : SlotsWrote i (slots_kept e v (slots_at i after)) after middle)
          (named : MakersWrote i (makers_kept word v (makers_at i middle)) middle then) (w : Line) (ew : w ≡ with_kept v v.inserts) where
        abbrev next : Counts
        next = record { n = r.n; initial = r.initial; len = r.len; total = r.total; ranks = r.ranks; lines = set r.lines i w }

        counts_then_lem : (j : ℕ) → j < max_lines → counts_at next j ≡ counts_then (keeps (i + 1) at j) (counts_at k j)
        counts_then_lem j h = go (eqb j i) refl
          where
            go : (b : Bool) → eqb j i ≡ b → counts_at next j ≡ counts_then (keeps (i + 1) at j) (counts_at k j)
            go true t =
                subst (λ (y : ℕ). counts_at next y ≡ counts_then (keeps (i + 1) at y) (counts_at k y)) (sym (eqb-true j i t))
                (get_or-set_same r.lines i w (counts_of line.no_line) (omega (arith, s.lines, lines)) ∙ ew
                ∙ ap (λ (b : Bool). counts_then b v) (sym (keeps_next at i n)))
            go false f =
                let o = eqb-false j i f in
                get_or-set_other r.lines i j w (counts_of line.no_line) o ∙ s.counts j h
                ∙ ap (λ (b : Bool). counts_then b (counts_at k j)) (keeps_still at i j o)

        -- a part of each line, of which that of line i was written
        block : (part : ℕ → List ℕ → List ℕ) (x : List ℕ) (then : Bool → ℕ → List ℕ) (last : List ℕ)
            → ((j : ℕ) → j < max_lines → part j last ≡ cond (eqb j i) x (part j after))
            → ((j : ℕ) → j < max_lines → part j after ≡ then (keeps i at j) j) → x ≡ then true i
            → (j : ℕ) → j < max_lines → part j last ≡ then (keeps (i + 1) at j) j
        block part x then' last wr was new j h = go (eqb j i) refl
          where
            go : (b : Bool) → eqb j i ≡ b → part j last ≡ then' (keeps (i + 1) at j) j
            go true t =
                wr j h ∙ ap (λ (b : Bool). cond b x (part j after)) t ∙ new ∙ ap (λ (y : ℕ). then' true y) (sym (eqb-true j i t))
                ∙ ap (λ (b : Bool). then' b j) (sym (ap (λ (y : ℕ). keeps (i + 1) at y) (eqb-true j i t) ∙ keeps_next at i n))
            go false f =
                wr j h ∙ ap (λ (b : Bool). cond b x (part j after)) f ∙ was j h
                ∙ ap (λ (b : Bool). then' b j) (keeps_still at i j (eqb-false j i f))

        -- another line
        pub kept_turn : KeptBy (i + 1) at e word k before (record { n = r.n; initial = r.initial; len = r.len; total = r.total; ranks = r.ranks; lines = set r.lines i w }) then
        kept_turn =
            record {
              n = s.n;
              initial = s.initial;
              len = s.len;
              total = s.total;
              ranks = s.ranks;
              lines = length-set r.lines i w ∙ s.lines;
              counts = counts_then_lem;
              words =
                  record {
                    items = named.items ∙ wrote.items ∙ s.words.items;
                    origins = named.origins ∙ wrote.origins ∙ s.words.origins;
                    slots =
                        block slots_at (slots_kept e v (slots_at i after)) (λ b j. slots_then b e (counts_at k j) (slots_at j before)) then
                        (λ j h. named.slots j h ∙ wrote.slots j h) s.words.slots (ap (slots_kept e v) untouched);
                    makers =
                        block makers_at (makers_kept word v (makers_at i middle)) (λ b j. makers_then b word (counts_at k j) (makers_at j before)) then
                        (λ j h. named.makers j h ∙ ap (cond (eqb j i) (makers_kept word v (makers_at i middle))) (wrote.makers j h)) s.words.makers
                        (ap (makers_kept word v) (wrote.makers i lt ∙ unnamed));
                    long = named.long;
                  };
            }

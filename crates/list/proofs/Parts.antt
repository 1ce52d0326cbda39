-- An array in parts: what a written part leaves of the others.
use Prim.Native.Nat.{ℕ, ◌+◌, ◌-◌, ◌≤◌, ◌<◌}
use native.Mathlib.Omega.{arith}
use mathlib.Core.Path.{◌≡◌, ap, sym, ◌∙◌}
use mathlib.Core.List.{List, ◌++◌}
use lib.ListN.{length, take, drop, set, length-append, length-take, length-drop, length-set, take-append-drop}
use lib.Seq.{take_at, drop_at, drop-set-add, drop-set-lt, take-set-lt, take-set-le, take-append-le, drop-append-le, length-take-le, drop-drop}
use borrow.Rule.Slice.PartMut.{put_mid}
use Rattle.list.specs.Parts.{part}

-- l' is l with the n words from a on written: they are x now, and parts that do not reach there are as before
pub record Wrote (a n : ℕ) (x l l' : List ℕ) : Type 0 where
  pub here : part a n l' ≡ x
  pub before : (b m : ℕ) → b + m ≤ a → part b m l' ≡ part b m l
  pub behind : (b m : ℕ) → a + n ≤ b → part b m l' ≡ part b m l
  pub long : length l' ≡ length l

-- one word
pub wrote_word : (a n i v : ℕ) (l : List ℕ) → i < n → Wrote a n (set (part a n l) i v) l (set l (a + i) v)
wrote_word a n i v l h =
    record {
      here = ap (take n) (drop-set-add a l i v) ∙ take-set-lt n (drop a l) i v h;
      before = λ b m f.
          let j : a + i ≡ b + (a + i - b) = omega arith in
          ap (λ (k : ℕ). part b m (set l k v)) j ∙ ap (take m) (drop-set-add b l (a + i - b) v) ∙ take-set-le m (drop b l) (a + i - b) v (omega arith);
      behind = λ b m f. ap (take m) (drop-set-lt b l (a + i) v (omega arith));
      long = length-set l (a + i) v;
    }

-- so many words behind the first so many; what stands further on does not matter
front : (b m : ℕ) (l r : List ℕ) → b + m ≤ length l → part b m (l ++ r) ≡ part b m l
front b m l r h =
    let k = length-drop b l in
    ap (take m) (drop-append-le b l r (omega arith)) ∙ take-append-le m (drop b l) r (omega arith)

-- a part that was lent
pub wrote_part : (a n : ℕ) (x l : List ℕ) → a + n ≤ length l → length x ≡ n → Wrote a n x l (put_mid a n l x)
wrote_part a n x l h e =
    let k : length (take a l) ≡ a = length-take-le a l (omega arith) in
    let rest = drop n (drop a l) in
    record {
      here = ap (take n) (drop_at (take a l) (x ++ rest) a k) ∙ take_at x rest n e;
      before = λ b m f.
          let fits : b + m ≤ length (take a l) = omega arith in
          front b m (take a l) (x ++ rest) fits ∙ sym (front b m (take a l) (drop a l) fits) ∙ ap (part b m) (take-append-drop a l);
      behind = λ b m f.
          let j = b - (a + n) in
          let far : b ≡ a + (n + j) = omega arith in
          ap (λ (c : ℕ). take m (drop c (put_mid a n l x))) far
          ∙ ap (take m)
          (sym (drop-drop (n + j) a (put_mid a n l x)) ∙ ap (drop (n + j)) (drop_at (take a l) (x ++ rest) a k)
          ∙ sym (drop-drop j n (x ++ rest)) ∙ ap (drop j) (drop_at x rest n e)
          ∙ drop-drop j n (drop a l) ∙ drop-drop (n + j) a l)
          ∙ ap (λ (c : ℕ). take m (drop c l)) (sym far);
      long = simp (length-append, length-take, length-drop) (omega arith);
    }

pub part_length : (a n : ℕ) (l : List ℕ) → a + n ≤ length l → length (part a n l) ≡ n
part_length a n l h = simp (length-take, length-drop) (omega arith)

-- What the closure makes of each four bytes stands in front of i, in whatever order it keeps to.
use Rattle.std.proofs.Common.{ℕ, ◌≡◌, List}
use Rattle.list.proofs.Sweep.{swept}
use Rattle.c_layout.specs.Words.{Order, word_at, words_by}
use Rattle.c_layout.proofs.decode_by.Given as goal

abbrev pub invariant-loop-i : goal.invariant-loop-i
invariant-loop-i g l =
    (f : Order) → ((b : List ℕ) (x : ℕ) → goal.F-post g l.word b x → x ≡ word_at f b 0) → l.words ≡ swept (words_by f l.bytes) l.initial.words l.i

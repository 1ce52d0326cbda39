-- Bytes written one after another into a lent buffer, as many as it holds.
use Rattle.std.specs.Prelude.{ℕ, ◌+◌, min, ◌≡◌, cond, List, [], ◌∷◌, ◌++◌, ltb, length, set, take, drop}

pub record Sink : Type 0 where
  -- the lent buffer
  pub buffer : List ℕ
  -- where the next byte goes
  pub «at» : ℕ

abbrev pub sink : List ℕ → ℕ → Sink
sink l k = record { buffer = l; «at» = k }

-- a byte for which no place is left is dropped
unfoldable pub put : ℕ → Sink → Sink
put b s = cond (ltb s.«at» (length s.buffer)) (sink (set s.buffer s.«at» b) (s.«at» + 1)) s

unfoldable pub puts : List ℕ → Sink → Sink
puts [] s = s
puts (b ∷ bs) s = puts bs (put b s)

-- A whole output was written from the front: n bytes of it, all that the buffer holds, and the bytes past those stay.
pub record Printed (output before after : List ℕ) (n : ℕ) : Type 0 where
  pub count : n ≡ min (length output) (length before)
  pub bytes : after ≡ take n output ++ drop n before

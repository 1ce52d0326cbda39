-- A client whose numbers are too wide for their fields: read as the widest they make an unsound client, as they do themselves.
use Prim.Native.Nat.{◌<◌}
use native.Mathlib.Omega.{arith}
use mathlib.Core.Path.{◌≡◌}
use mathlib.Core.Bool.{true}
use borrow.Author.Tests.{leb-true}
use Rattle.model.proofs.Tests.{hold}
use Rattle.model.proofs.SoundClient.{client_facts}
use Rattle.client.specs.declared.Client.{Client}
use Rattle.client.specs.View.{client_of, view, sound, sound_tests}
use Rattle.c_layout.specs.Numbers.{capped, capped_line}
use Rattle.c_layout.proofs.Counts.{in_field, was_in_field, Small, small_same, small_was}
use Rattle.c_client.specs.Reading.{capped_end}

-- the bounds of question 2 on each number
record Bounds (c : Client) : Type 0 where
  n : c.counts.n < 255
  line : c.counts.line < 255
  len : c.counts.len < 65535
  own : Small c.counts.own

bounds : (c : Client) → sound c ≡ true → Bounds c
unfolding sound
bounds c s =
    let t = hold (sound_tests c) s in
    let f = client_facts (view c) t.0 in
    record {
      n = omega (arith, f.lines.1);
      line = omega (arith, f.lines.1, f.line.1);
      len = omega (arith, leb-true c.counts.len 512 t.1.0);
      own =
          record {
            made = omega (arith, f.own.edits);
            taken = omega (arith, f.taken);
            acked = omega (arith, f.own.acked, f.own.edits);
            inserts = omega (arith, f.own.inserts);
          };
    }

module _ (c : Client) where
  same : capped_line c.counts.own ≡ c.counts.own → capped 65535 c.counts.len ≡ c.counts.len → capped 255 c.counts.n ≡ c.counts.n
      → capped 255 c.counts.line ≡ c.counts.line → capped_end c ≡ c
  same own len n line = λ i. client_of (record { own = own i; len = len i; total = c.counts.total; inverse = c.counts.inverse; n = n i; line = line i; ranks = c.counts.ranks }) c.words

  pub sound_same : sound c ≡ true → capped_end c ≡ c
  sound_same s =
      let b = bounds c s in
      same (small_same c.counts.own b.own) (in_field 65535 c.counts.len b.len) (in_field 255 c.counts.n b.n)
      (in_field 255 c.counts.line b.line)

  pub sound_capped : sound (capped_end c) ≡ true → capped_end c ≡ c
  sound_capped s =
      let b = bounds (capped_end c) s in
      same (small_was c.counts.own b.own) (was_in_field 65535 c.counts.len b.len) (was_in_field 255 c.counts.n b.n)
      (was_in_field 255 c.counts.line b.line)

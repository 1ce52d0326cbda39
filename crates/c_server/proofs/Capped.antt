-- A server whose numbers are too wide for their fields: read as the widest they make an unsound server, as they do themselves.
use Prim.Native.Nat.{ℕ, ◌+◌, ◌-◌, ◌≤◌, ◌<◌}
use native.Mathlib.Omega.{arith}
use mathlib.Core.Path.{◌≡◌, refl, ap, sym, ◌∙◌, subst}
use mathlib.Core.Bool.{Bool, true, false}
use mathlib.Core.List.{map}
use lib.Dec.{ltb}
use lib.ListN.{length, get_or}
use borrow.Author.Tests.{leb-true, ltb-true, ltb-false}
use Rattle.limits.specs.Limits.{max_lines, max_items}
use Rattle.list.specs.Items.{all_zero}
use Rattle.model.specs.Line as line
use Rattle.model.specs.Server as model
use Rattle.model.proofs.Tests.{hold, and_left}
use Rattle.model.proofs.SoundServer.{ServerFacts, server_facts, line_fact, made_most}
use Rattle.line.specs.Line.{counts_of}
use Rattle.line.specs.Sound.{empty_line}
use Rattle.line.proofs.Stored.{empty_counts}
use Rattle.server.specs.declared.Server.{Server}
use Rattle.server.specs.View.{slots_at, makers_at, counts_at, line_at, server_of, view, empty_at, sound, sound_tests}
use Rattle.server.proofs.Lines.{line_used}
use Rattle.server.proofs.Whole.{each_last}
use Rattle.c_layout.specs.Numbers.{capped, capped_line}
use Rattle.c_layout.proofs.Counts.{in_field, was_in_field, Small, all_same, all_was}
use Rattle.c_server.specs.Reading.{capped_end}

-- the bounds of question 2 on each number
record Bounds (s : Server) : Type 0 where
  n : s.counts.n < 255
  initial : s.counts.initial < 65535
  len : s.counts.len < 65535
  lines : (i : ℕ) → i < max_lines → Small (counts_at s.counts i)

module _ (s : Server) (yes' : sound s ≡ true) where
  facts : ServerFacts (view s)
  unfolding sound
  facts = server_facts (view s) (hold (sound_tests s) yes').0

  -- a line in use, and one that is not
  small_used : (i : ℕ) → i < s.counts.n → Small (counts_at s.counts i)
  unfolding view
  small_used i h =
      let is : model.line_of (view s) (i + 1) ≡ line_at s.counts s.words i =
      ap (λ (j : ℕ). get_or (view s).lines j line.no_line) (let e : i + 1 - 1 ≡ i = omega arith in e)
      ∙ line_used s.counts s.words s.counts.n i h in
      let f = line_fact (view s) facts (i + 1) (omega arith) (omega arith) in
      let made : (line_at s.counts s.words i).made ≤ 2800 = subst (λ (v : line.Line). v.made ≤ 2800) is (made_most (view s) facts (i + 1) (omega arith) (omega arith)) in
      let taken : (line_at s.counts s.words i).taken ≤ 400 = subst (λ (v : line.Line). v.taken ≤ 400) is f.line.edits in
      let acked : (line_at s.counts s.words i).acked ≤ (line_at s.counts s.words i).made = subst (λ (v : line.Line). v.acked ≤ v.made) is f.line.acked in
      let inserts : (line_at s.counts s.words i).inserts ≤ 48 = subst (λ (v : line.Line). v.inserts ≤ 48) is f.line.inserts in
      record { made = omega arith; taken = omega arith; acked = omega arith; inserts = omega arith }

  small_unused : (i : ℕ) → s.counts.n ≤ i → i < max_lines → Small (counts_at s.counts i)
  unfolding sound
  small_unused i l h =
      let all_empty = (hold (sound_tests s) yes').1.1.1.1.1.1.1.1.0 in
      let empty = each_last (empty_at s.counts s.words) s.counts.n max_lines all_empty i l h in
      let unmade = and_left (empty_line (counts_at s.counts i) (slots_at i s.words)) (all_zero (makers_at i s.words)) empty in
      subst Small (sym (empty_counts (counts_at s.counts i) (slots_at i s.words) unmade))
      (record { made = omega arith; taken = omega arith; acked = omega arith; inserts = omega arith })

  bounds : Bounds s
  unfolding sound view
  bounds =
      record {
        n = omega (arith, facts.n.1);
        initial = omega (arith, facts.initial);
        len = omega (arith, leb-true s.counts.len max_items (hold (sound_tests s) yes').1.0);
        lines = λ i h. go i h (ltb i s.counts.n) refl;
      }
    where
      go : (i : ℕ) → i < max_lines → (b : Bool) → ltb i s.counts.n ≡ b → Small (counts_at s.counts i)
      go i h true t = small_used i (ltb-true i s.counts.n t)
      go i h false t = small_unused i (ltb-false i s.counts.n t) h

module _ (s : Server) (eight : length s.counts.lines ≡ max_lines) where
  same : capped 255 s.counts.n ≡ s.counts.n → capped 65535 s.counts.initial ≡ s.counts.initial → capped 65535 s.counts.len ≡ s.counts.len
      → map capped_line s.counts.lines ≡ s.counts.lines → capped_end s ≡ s
  same n initial len lines = λ i. server_of (record { n = n i; initial = initial i; len = len i; total = s.counts.total; ranks = s.counts.ranks; lines = lines i }) s.words

  pub sound_same : sound s ≡ true → capped_end s ≡ s
  sound_same yes' =
      let b = bounds s yes' in
      same (in_field 255 s.counts.n b.n) (in_field 65535 s.counts.initial b.initial) (in_field 65535 s.counts.len b.len)
      (all_same (counts_of line.no_line) s.counts.lines (λ i h. b.lines i (omega arith)))

  pub sound_capped : sound (capped_end s) ≡ true → capped_end s ≡ s
  sound_capped yes' =
      let b = bounds (capped_end s) yes' in
      same (was_in_field 255 s.counts.n b.n) (was_in_field 65535 s.counts.initial b.initial) (was_in_field 65535 s.counts.len b.len)
      (all_was (counts_of line.no_line) s.counts.lines (λ i h. b.lines i (omega arith)))

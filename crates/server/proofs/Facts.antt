-- What is known of a struct that question 2 found sound.
use Prim.Native.Nat.{ℕ, ◌+◌, ◌-◌, ◌≤◌, ◌<◌}
use native.Mathlib.Omega.{arith}
use mathlib.Core.Path.{◌≡◌, ap, sym, ◌∙◌, subst}
use mathlib.Core.List.{List, []}
use lib.ListN.{length, get_or, take}
use lib.Seq.{take-take}
use Rattle.limits.specs.Limits.{max_lines, max_items}
use Rattle.list.specs.Items.{stored}
use Rattle.list.specs.Places.{items_of}
use Rattle.list.specs.Seconds.{total_seconds}
use Rattle.list.proofs.Pad.{pad_take}
use Rattle.list.proofs.Places.{items_length}
use Rattle.model.specs.Line as line
use Rattle.model.specs.Server as model
use Rattle.model.proofs.SoundServer.{ServerLine, LineMakers, ServerFacts, server_facts, taken_sum, line_fact, makers_fact, makers_count, made_most}
use Rattle.server.specs.declared.Counts.{Counts}
use Rattle.server.specs.declared.Server.{Server}
use Rattle.server.specs.View.{counts_at, line_at, makers_of, server_of, view, Sound, Sizes}
use Rattle.server.proofs.Lines.{line_used, makers_used}
use Rattle.server.proofs.Rows.{Holds}
use Rattle.server.proofs.Stored.{store_sizes, holds}

module _ (k : Counts) (words : List ℕ) (h : Sound (server_of k words)) where
  abbrev m : model.Server
  m = view (server_of k words)

  pub facts : ServerFacts (view (server_of k words))
  facts = server_facts m h.model

  pub sizes : Sizes k words
  sizes = subst (λ (s : Server). Sizes s.counts s.words) (sym h.whole) (store_sizes m h.model)

  -- it holds what its meaning says
  pub own_holds : Holds k words (view (server_of k words))
  own_holds = subst (λ (s : Server). Holds s.counts s.words m) (sym h.whole) (holds m h.model)

  pub lines_few : k.n ≤ max_lines
  lines_few = omega (arith, own_holds.n, facts.n)

  pub lines_count : length (view (server_of k words)).lines ≡ k.n
  lines_count = facts.count ∙ sym own_holds.n

  pub makers_many : length (view (server_of k words)).makers ≡ k.n
  makers_many = makers_count m.n 1 m.lines m.makers facts.makers ∙ lines_count

  pub len_few : k.len ≤ max_items
  len_few = omega (arith, h.listed, facts.items)

  -- the list's items are the first words, and the total is their sum
  pub first_words : take k.len words ≡ items_of (view (server_of k words)).items
  first_words =
      let count : k.len ≡ length (items_of m.items) = own_holds.len ∙ sym (items_length m.items) in
      sym (take-take k.len max_items words len_few) ∙ ap (take k.len) own_holds.items
      ∙ ap (λ (n : ℕ). take n (stored (items_of m.items))) count ∙ pad_take max_items 0 (items_of m.items)

  pub first_count : length (take k.len words) ≡ k.len
  first_count = ap length first_words ∙ items_length m.items ∙ h.listed

  pub first_sum : k.total ≡ total_seconds (take k.len words)
  first_sum = own_holds.total ∙ ap total_seconds (sym first_words)

  -- ---- a line in use

  module _ (i : ℕ) (lt : i < k.n) where
    pub at_view : get_or (view (server_of k words)).lines i line.no_line ≡ line_at k words i
    unfolding view
    at_view = line_used k words k.n i lt

    pub makers_view : get_or (view (server_of k words)).makers i [] ≡ makers_of k words i
    unfolding view
    makers_view = makers_used k words k.n i lt

    line_is : model.line_of m (i + 1) ≡ line_at k words i
    line_is =
        let e : i + 1 - 1 ≡ i = omega arith in
        ap (λ (j : ℕ). get_or m.lines j line.no_line) e ∙ at_view

    pub at_facts : ServerLine k.n (view (server_of k words)).ranks (taken_sum (view (server_of k words)).lines) (i + 1) (line_at k words i)
    at_facts =
        subst (λ (n : ℕ). ServerLine n m.ranks (taken_sum m.lines) (i + 1) (line_at k words i)) (sym own_holds.n)
        (subst (ServerLine m.n m.ranks (taken_sum m.lines) (i + 1)) line_is (line_fact m facts (i + 1) (omega arith) (omega (arith, own_holds.n))))

    makers_is : model.makers_of m (i + 1) ≡ makers_of k words i
    makers_is =
        let e : i + 1 - 1 ≡ i = omega arith in
        ap (λ (j : ℕ). get_or m.makers j []) e ∙ makers_view

    -- there are as many origins as pending edits, all of edits of other clients
    pub at_makers : LineMakers k.n (i + 1) (line_at k words i) (makers_of k words i)
    at_makers =
        subst (λ (n : ℕ). LineMakers n (i + 1) (line_at k words i) (makers_of k words i)) (sym own_holds.n)
        (subst (λ (v : line.Line). LineMakers m.n (i + 1) v (makers_of k words i)) line_is
        (subst (LineMakers m.n (i + 1) (model.line_of m (i + 1))) makers_is (makers_fact m facts (i + 1) (omega arith) (omega (arith, own_holds.n)))))

    pub made_few : (counts_at k i).made ≤ 2800
    made_few = omega (arith, made_most m facts (i + 1) (omega arith) (omega (arith, own_holds.n)), ap (λ (v : line.Line). v.made) line_is)

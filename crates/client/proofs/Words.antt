-- The words of a client in their three parts, the items, the slots of its line and the origins: as they are, and once a call has written some.
use Prim.Native.Nat.{ℕ, ◌≤◌}
use native.Mathlib.Omega.{arith}
use mathlib.Core.Path.{◌≡◌, refl, ap, sym, ◌∙◌}
use mathlib.Core.List.{List, [], ◌++◌}
use lib.ListN.{length, take, drop, replicate, length-append, length-drop, take-append-drop}
use lib.Seq.{take_all, take_at, drop_at, drop-drop}
use borrow.Rule.Slice.PartMut.{put_mid}
use Rattle.limits.specs.Limits.{max_items, max_pending}
use Rattle.list.specs.Items.{stored}
use Rattle.list.specs.Places.{items_of, origins_of}
use Rattle.list.proofs.Pad.{pad_length}
use Rattle.list.proofs.Places.{items_length, origins_length}
use Rattle.list.proofs.Parts.{Wrote, wrote_part, part_length}
use Rattle.model.specs.Client as model
use Rattle.pending.specs.Slots as pending
use Rattle.pending.specs.Slots.{slots_of}
use Rattle.pending.proofs.Slots.{slots_length}
use Rattle.client.specs.View.{size, items_in, slots_in, origins_in, origins as from, store}

-- ---- three parts make the words

abbrev pub joined : List ℕ → List ℕ → List ℕ → List ℕ
joined items slots origins = items ++ (slots ++ origins)

module _ (items slots origins : List ℕ) (ei : length items ≡ max_items) where
  pub items_of_lem : items_in (joined items slots origins) ≡ items
  items_of_lem = take_at items (slots ++ origins) max_items ei

  pub slots_of_lem : length slots ≡ pending.size → slots_in (joined items slots origins) ≡ slots
  slots_of_lem es = ap (take pending.size) (drop_at items (slots ++ origins) max_items ei) ∙ take_at slots origins pending.size es

  pub origins_of_lem : length slots ≡ pending.size → length origins ≡ max_items → origins_in (joined items slots origins) ≡ origins
  origins_of_lem es eo =
      ap (take max_items)
      (sym (drop-drop pending.size max_items (joined items slots origins)) ∙ ap (drop pending.size) (drop_at items (slots ++ origins) max_items ei)
      ∙ drop_at slots origins pending.size es)
      ∙ take_all max_items origins (omega arith)

  pub joined_long : length slots ≡ pending.size → length origins ≡ max_items → length (joined items slots origins) ≡ size
  joined_long es eo = length-append items (slots ++ origins) ∙ omega (arith, length-append slots origins)

module _ (words : List ℕ) (long : length words ≡ size) where
  pub items_long : length (items_in words) ≡ max_items
  items_long = part_length 0 max_items words (omega arith)

  pub slots_long : length (slots_in words) ≡ pending.size
  slots_long = part_length max_items pending.size words (omega arith)

  pub origins_long : length (origins_in words) ≡ max_items
  origins_long = part_length from max_items words (omega arith)

  pub parts_are : (items slots origins : List ℕ) → items_in words ≡ items → slots_in words ≡ slots → origins_in words ≡ origins
      → words ≡ joined items slots origins
  parts_are items slots origins ei es eo =
      let last : drop pending.size (drop max_items words) ≡ origins_in words =
      drop-drop pending.size max_items words ∙ sym (take_all max_items (drop from words) (omega (arith, length-drop from words))) in
      sym (take-append-drop max_items words)
      ∙ ap (λ (l : List ℕ). items_in words ++ l) (sym (take-append-drop pending.size (drop max_items words)))
      ∙ (λ i. joined (ei i) (es i) ((last ∙ eo) i))

-- ---- the words of the struct for a client

module _ (m : model.Client) (most : length m.items ≤ max_items) where
  pub list_long : length (stored (items_of m.items)) ≡ max_items
  list_long = pad_length max_items 0 (items_of m.items) (omega (arith, items_length m.items))

  pub names_long : length (stored (origins_of m.items)) ≡ max_items
  names_long = pad_length max_items 0 (origins_of m.items) (omega (arith, origins_length m.items))

  pub stored_items : items_in (store m).words ≡ stored (items_of m.items)
  stored_items = items_of_lem (stored (items_of m.items)) (slots_of m.own.pending) (stored (origins_of m.items)) list_long

  -- and the pending edits have slots
  module _ (few : length m.own.pending ≤ max_pending) where
    pending_long : length (slots_of m.own.pending) ≡ pending.size
    pending_long = slots_length m.own.pending few

    pub stored_slots : slots_in (store m).words ≡ slots_of m.own.pending
    stored_slots = slots_of_lem (stored (items_of m.items)) (slots_of m.own.pending) (stored (origins_of m.items)) list_long pending_long

    pub stored_origins : origins_in (store m).words ≡ stored (origins_of m.items)
    stored_origins =
        origins_of_lem (stored (items_of m.items)) (slots_of m.own.pending) (stored (origins_of m.items)) list_long pending_long names_long

    pub stored_long : length (store m).words ≡ size
    stored_long = joined_long (stored (items_of m.items)) (slots_of m.own.pending) (stored (origins_of m.items)) list_long pending_long names_long

-- zeros are the words of no items and no edits
pub zero_words : replicate size 0 ≡ joined (stored []) (slots_of []) (stored [])
unfolding slots_of
zero_words = refl

pub zero_slots : slots_in (replicate size 0) ≡ slots_of []
unfolding slots_of
zero_slots = refl

-- ---- what a call writes

-- the words with other slots
abbrev pub with_slots : List ℕ → List ℕ → List ℕ
with_slots words slots = put_mid max_items pending.size words slots

-- with other origins, then with other items as well
abbrev pub with_origins : List ℕ → List ℕ → List ℕ
with_origins words origins = put_mid from max_items words origins

abbrev pub with_places : List ℕ → List ℕ → List ℕ → List ℕ
with_places words origins items = put_mid 0 max_items (with_origins words origins) items

-- what a written part leaves
module _ (words : List ℕ) (long : length words ≡ size) where
  pub slots_wrote : (slots : List ℕ) → length slots ≡ pending.size → Wrote max_items pending.size slots words (with_slots words slots)
  slots_wrote slots e = wrote_part max_items pending.size slots words (omega arith) e

  pub origins_wrote : (origins : List ℕ) → length origins ≡ max_items → Wrote from max_items origins words (with_origins words origins)
  origins_wrote origins e = wrote_part from max_items origins words (omega arith) e

  -- origins, then items: the slots stay
  module _ (origins items : List ℕ) (eo : length origins ≡ max_items) (ei : length items ≡ max_items) where
    first : Wrote from max_items origins words (with_origins words origins)
    first = origins_wrote origins eo

    second : Wrote 0 max_items items (with_origins words origins) (with_places words origins items)
    second = wrote_part 0 max_items items (with_origins words origins) (omega (arith, first.long)) ei

    pub places_long : length (with_places words origins items) ≡ length words
    places_long = second.long ∙ first.long

    pub places_items : items_in (with_places words origins items) ≡ items
    places_items = second.here

    pub places_slots : slots_in (with_places words origins items) ≡ slots_in words
    places_slots = second.behind max_items pending.size (omega arith) ∙ first.before max_items pending.size (omega arith)

    pub places_origins : origins_in (with_places words origins items) ≡ origins
    places_origins = second.behind from max_items (omega arith) ∙ first.here

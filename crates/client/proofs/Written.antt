-- What a call that is not refused writes: the slots of the line as it then is, and the places after an edit. It is the struct for the
-- model's client with that line and that list.
use Prim.Native.Nat.{ℕ, ◌-◌, ◌≤◌}
use native.Mathlib.Omega.{arith}
use mathlib.Core.Path.{◌≡◌, ap, ◌∙◌, sym}
use mathlib.Core.Bool.{true}
use mathlib.Core.List.{List}
use lib.ListN.{length, take}
use lib.Seq.{take-take}
use Rattle.limits.specs.Limits.{max_items, max_pending}
use Rattle.ot.specs.declared.Form.{Form}
use Rattle.ot.specs.Edit.{Edit, edit, applied, fits}
use Rattle.list.specs.declared.Origin.{Origin}
use Rattle.list.specs.Items.{stored, edited, Room, Edited}
use Rattle.list.specs.Places.{Place, applied_by, word_of, items_of, origins_of}
use Rattle.list.specs.Parts.{part}
use Rattle.list.specs.Seconds.{total_seconds, running_time}
use Rattle.list.proofs.Pad.{pad_take}
use Rattle.list.proofs.Parts.{Wrote}
use Rattle.list.proofs.Places.{items_length}
use Rattle.list.proofs.Seconds.{total_items}
use Rattle.model.specs.Line as line
use Rattle.model.specs.Client as client
use Rattle.model.proofs.SoundClient.{ClientFacts, client_facts}
use Rattle.ranks.specs.Stored as ranks
use Rattle.pending.specs.Slots as pending
use Rattle.pending.specs.Slots.{slots_of}
use Rattle.pending.proofs.Slots.{slots_length}
use Rattle.line.specs.declared.Line.{Line}
use Rattle.line.specs.Line.{counts_of}
use Rattle.line.proofs.Room.{room_items, room_origins, room_length}
use Rattle.client.specs.declared.Client.{Client}
use Rattle.client.specs.declared.Inverse.{Inverse}
use Rattle.client.specs.View.{size, items_in, origins_in, origins as from, inverse_stored, client_of, view, store, Sound, Applied}
use Rattle.client.proofs.Words.{items_long, origins_long, parts_are, stored_items, stored_origins, with_slots, with_origins, with_places, slots_wrote, origins_wrote, places_long, places_items, places_slots, places_origins}

-- The two parts of the places, one after the other: the origins change as items would whose edit brings the origin.
module _ (words : List ℕ) (long : length words ≡ size) (f : Form) (x n : ℕ) (o : Origin) (w : ℕ) (ew : w ≡ word_of o) where
  pub applied_both : (origins items : List ℕ) (r₁ r : ℕ) → length origins ≡ length (origins_in words)
      → length items ≡ length (items_in (with_origins words origins)) → Edited (edit f w) n (origins_in words) origins r₁
      → Edited (edit f x) n (items_in (with_origins words origins)) items r → Applied f x o n words (with_places words origins items) r
  applied_both origins items r₁ r lo li eo ei =
      let long_origins : length origins ≡ max_items = lo ∙ origins_long words long in
      let first : Wrote from max_items origins words (with_origins words origins) = origins_wrote words long origins long_origins in
      let long_items : length items ≡ max_items = li ∙ items_long (with_origins words origins) (first.long ∙ long) in
      record {
        items =
            places_items words long origins items long_origins long_items ∙ ei.items ∙ ap (edited (edit f x) n) (first.before 0 max_items (omega arith));
        slots = places_slots words long origins items long_origins long_items;
        origins =
            places_origins words long origins items long_origins long_items ∙ eo.items ∙ ap (λ (k : ℕ). edited (edit f k) n (origins_in words)) ew;
        words = places_long words long origins items long_origins long_items;
        len = ei.length;
      }

-- the client with another line, another length, another total, another inverse and other words
abbrev pub changed : Client → Line → ℕ → ℕ → Inverse → List ℕ → Client
changed c own len total inverse words =
    client_of (record { own = own; len = len; total = total; inverse = inverse; n = c.counts.n; line = c.counts.line; ranks = c.counts.ranks }) words

-- the list as a call lends it, from place 0 to len: its items, and nothing behind them
abbrev pub listed : Client → List ℕ
listed c = part 0 (c.counts.len - 0) c.words

-- what the total after an edit asks
abbrev pub Summed : Client → Form → ℕ → Type 0
Summed c f x = (length (listed c) ≤ max_items) × ((fits (edit f x) (length (listed c)) ≡ true) × (c.counts.total ≡ total_seconds (listed c)))

module _ (c : Client) (s : Sound c) where
  pub facts : ClientFacts (view c)
  facts = client_facts (view c) s.model

  pub len_few : c.counts.len ≤ max_items
  len_few = omega (arith, facts.items, s.listed)

  pub pending_few : length (view c).own.pending ≤ max_pending
  pending_few = omega (arith, facts.own.count, facts.own.room)

  items_stored : items_in c.words ≡ stored (items_of (view c).items)
  items_stored = ap (λ (d : Client). items_in d.words) s.whole ∙ stored_items (view c) facts.items

  origins_stored : origins_in c.words ≡ stored (origins_of (view c).items)
  origins_stored = ap (λ (d : Client). origins_in d.words) s.whole ∙ stored_origins (view c) facts.items pending_few

  pub listed_is : listed c ≡ items_of (view c).items
  listed_is =
      let from_0 : c.counts.len - 0 ≡ c.counts.len = omega arith in
      ap (λ (n : ℕ). part 0 n c.words) from_0 ∙ sym (take-take c.counts.len max_items c.words len_few) ∙ ap (take c.counts.len) items_stored
      ∙ ap (λ (n : ℕ). take n (stored (items_of (view c).items))) (sym (items_length (view c).items ∙ s.listed))
      ∙ pad_take max_items 0 (items_of (view c).items)

  listed_long : length (listed c) ≡ c.counts.len
  listed_long = ap length listed_is ∙ items_length (view c).items ∙ s.listed

  -- what the room for an edit leaves to be known
  pub summed : (f : Form) (x : ℕ) → Room (edit f x) c.counts.len max_items → Summed c f x
  summed f x room = (
    omega (arith, listed_long, len_few),
    (ap (fits (edit f x)) listed_long ∙ room.fitting, ap (λ (d : Client). d.counts.total) s.whole ∙ ap total_seconds (sym listed_is)),
  )

module _ (c : Client) (s : Sound c) (long : length c.words ≡ size) (v : line.Line) (few : length v.pending ≤ max_pending)
    (slots : List ℕ) (es : slots ≡ slots_of v.pending) where
  -- the slots are written: the places are as they were
  abbrev kept : List ℕ
  kept = with_slots c.words slots

  wrote : Wrote max_items pending.size slots c.words kept
  wrote = slots_wrote c.words long slots (ap length es ∙ slots_length v.pending few)

  pub kept_long : length kept ≡ size
  kept_long = wrote.long ∙ long

  module _ (f : Form) (x : ℕ) (o : Origin) (room : Room (edit f x) c.counts.len max_items) where
    abbrev list : List Place
    list = applied_by o (edit f x) (view c).items

    pub becomes : (own : Line) (len total : ℕ) (inverse : Inverse) (after : List ℕ) (e : Edit) → own ≡ counts_of v
        → total ≡ total_seconds (applied (edit f x) (listed c)) → inverse ≡ inverse_stored e → Applied f x o c.counts.len kept after len
        → changed c own len total inverse after ≡ store (client.with (view c) list v e)
    becomes own len total inverse after e eo et ei a =
        let n : ℕ = c.counts.len in
        let items : items_in after ≡ stored (items_of list) =
        a.items ∙ room_items o f x n (view c).items s.listed room (items_in kept) (wrote.before 0 max_items (omega arith) ∙ items_stored c s) in
        let origins : origins_in after ≡ stored (origins_of list) =
        a.origins
        ∙ room_origins o f x n (view c).items s.listed room (origins_in kept) (wrote.behind from max_items (omega arith) ∙ origins_stored c s) in
        let words : after ≡ (store (client.with (view c) list v e)).words =
        parts_are after (a.words ∙ kept_long) (stored (items_of list)) (slots_of v.pending) (stored (origins_of list)) items
        (a.slots ∙ wrote.here ∙ es) origins in
        let size' : len ≡ length list = a.len ∙ room_length o f x n (view c).items s.listed room in
        let seconds : total ≡ running_time list =
        et ∙ ap (λ (l : List ℕ). total_seconds (applied (edit f x) l)) (listed_is c s) ∙ sym (total_items o (edit f x) (view c).items) in
        let places : c.counts.ranks ≡ ranks.stored (view c).ranks = ap (λ (d : Client). d.counts.ranks) s.whole in
        λ i. client_of (record { own = eo i; len = size' i; total = seconds i; inverse = ei i; n = c.counts.n; line = c.counts.line; ranks = places i }) (words i)

-- The client's end in numbers and words: the model's client that these are, and back; question 2 of them.
use Rattle.std.specs.Prelude.{ℕ, ◌-◌, ◌≡◌, Bool, true, false, ◌&&◌, List, [], ◌∷◌, ◌++◌, leb, eqb, length, take, drop}
use Rattle.refusal.specs.declared.Refusal.{Refusal}
use Rattle.refusal.specs.declared.Refusal.TheVariants as refusal
use Rattle.limits.specs.Limits.{max_items}
use Rattle.ot.specs.declared.Form.{Form}
use Rattle.ot.specs.Edit.{Edit, edit, form_of, item_of, size_after}
use Rattle.list.specs.declared.Origin.{Origin}
use Rattle.list.specs.Items.{stored, all_zero, edited}
use Rattle.list.specs.Places.{Place, places_of, items_of, origins_of, word_of}
use Rattle.list.specs.Parts.{part}
use Rattle.list.specs.Seconds.{total_seconds, running_time}
use Rattle.model.specs.Questions.{every}
use Rattle.model.specs.Client as model
use Rattle.ranks.specs.Stored as ranks
use Rattle.pending.specs.Slots as pending
use Rattle.pending.specs.Slots.{place_of, form_at}
use Rattle.line.specs.Line.{line_of, counts_of, Kept}
use Rattle.line.specs.Sound.{tidy}
use Rattle.client.specs.declared.Counts.{Counts}
use Rattle.client.specs.declared.Inverse.{Inverse}
use Rattle.client.specs.declared.Client.{Client}

-- the words of a client: 512 items, the 128 words of its line, and the origins of the items
abbrev pub size : ℕ
size = 1152

abbrev pub items_in : List ℕ → List ℕ
items_in words = part 0 max_items words

abbrev pub slots_in : List ℕ → List ℕ
slots_in words = part max_items pending.size words

-- where the origins begin
abbrev pub origins : ℕ
origins = 640

abbrev pub origins_in : List ℕ → List ℕ
origins_in words = part origins max_items words

-- the first len places of the list
abbrev pub list_in : ℕ → List ℕ → List Place
list_in len words = places_of (take len (items_in words)) (take len (origins_in words))

abbrev pub client_of : Counts → List ℕ → Client
client_of k words = record { counts = k; words = words }

-- the stored inverse, and how it is stored: a place as in a slot, and the item
abbrev pub inverse_in : Inverse → Edit
inverse_in b = edit (form_at b.place) b.item

abbrev pub inverse_stored : Edit → Inverse
inverse_stored e = record { place = place_of (form_of e); item = item_of e }

-- it has no bits that mean nothing
abbrev pub inverse_tidy : Inverse → Bool
inverse_tidy b = eqb b.place (place_of (form_at b.place)) && eqb b.item (item_of (inverse_in b))

-- what the struct stands for: its first len places, and the edits in its first slots
abbrev pub view : Client → model.Client
view c =
    record {
      n = c.counts.n;
      line = c.counts.line;
      ranks = take c.counts.n c.counts.ranks;
      items = list_in c.counts.len c.words;
      own = line_of c.counts.own (slots_in c.words);
      inverse = inverse_in c.counts.inverse;
    }

-- the one struct for a client: unused places are zero
abbrev pub counts : model.Client → Counts
counts m =
    record {
      own = counts_of m.own;
      len = length m.items;
      total = running_time m.items;
      inverse = inverse_stored m.inverse;
      n = m.n;
      line = m.line;
      ranks = ranks.stored m.ranks;
    }

abbrev pub store : model.Client → Client
store m =
    client_of (counts m) (stored (items_of m.items) ++ (pending.slots_of m.own.pending ++ stored (origins_of m.items)))

-- the places behind the list are zero, of the items and of the origins
abbrev pub unused_zero : ℕ → List ℕ → Bool
unused_zero len words = all_zero (drop len (items_in words)) && all_zero (drop len (origins_in words))

-- the list's part of question 2 by its words: unused places are zero, and the total is the sum over the first len items
abbrev pub list_right : ℕ → ℕ → List ℕ → Bool
list_right len total words = unused_zero len words && eqb total (total_seconds (take len (items_in words)))

-- Question 2: the model's, with what only a struct can break.
abbrev pub sound_tests : Client → List Bool
sound_tests c =
    model.sound_client (view c)
    ∷ leb c.counts.len max_items
    ∷ all_zero (drop c.counts.n c.counts.ranks)
    ∷ unused_zero c.counts.len c.words
    ∷ eqb c.counts.total (running_time (view c).items)
    ∷ inverse_tidy c.counts.inverse
    ∷ tidy (c.counts.own.made - c.counts.own.acked) (slots_in c.words)
    ∷ []

unfoldable pub sound : Client → Bool
sound c = every (sound_tests c)

-- What a sound struct is, among it the store of what it stands for.
pub record Sound (c : Client) : Type 0 where
  pub yes : sound c ≡ true
  pub model : model.sound_client (view c) ≡ true
  pub whole : c ≡ store (view c)
  pub listed : length (view c).items ≡ c.counts.len
  pub kept : Kept c.counts.own (slots_in c.words)

-- what a call answers at a client that is not sound
abbrev pub SaysUnsound : Client → Refusal → Type 0
SaysUnsound c r = (r ≡ refusal.Unsound) × (sound c ≡ false)

-- An edit of form f, item x and that origin was applied to the list of n places: items and origins changed, and nothing else.
pub record Applied (f : Form) (x : ℕ) (o : Origin) (n : ℕ) (before after : List ℕ) (r : ℕ) : Type 0 where
  pub items : items_in after ≡ edited (edit f x) n (items_in before)
  pub slots : slots_in after ≡ slots_in before
  pub origins : origins_in after ≡ edited (edit f (word_of o)) n (origins_in before)
  pub words : length after ≡ length before
  pub len : r ≡ size_after (edit f x) n

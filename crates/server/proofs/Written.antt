-- What is written of the server's words, by parts: the words of a line, the origins of its pending edits, or the list.
use Prim.Native.Nat.{ℕ, ◌+◌, ◌-◌, ◌*◌, ◌≤◌, ◌<◌}
use native.Mathlib.Omega.{arith}
use mathlib.Core.Path.{◌≡◌, refl, ap, ap₂, sym, ◌∙◌, subst}
use mathlib.Core.Bool.{Bool, true, false, cond}
use mathlib.Core.List.{List, [], ◌∷◌, ◌++◌}
use lib.Dec.{ltb, eqb}
use lib.ListN.{length, take, drop, set, length-append, length-take}
use borrow.Author.Tests.{ltb-true, ltb-false, eqb-true, eqb-false}
use borrow.Rule.Slice.PartMut.{put_mid}
use Rattle.limits.specs.Limits.{max_items, max_lines, max_pending}
use Rattle.ot.specs.declared.Form.{Form}
use Rattle.ot.specs.Edit.{Edit, edit}
use Rattle.list.specs.declared.Origin.{Origin}
use Rattle.list.specs.Items.{capacity, padded, edited, Room, Edited}
use Rattle.list.specs.Places.{word_of}
use Rattle.list.specs.Parts.{part}
use Rattle.list.proofs.Pad.{pad_length}
use Rattle.list.proofs.Array.{edited_length}
use Rattle.list.proofs.Parts.{Wrote, wrote_part, wrote_word}
use Rattle.pending.specs.Slots as pending
use Rattle.pending.proofs.Slots.{slots_length}
use Rattle.line.specs.declared.Line.{Line}
use Rattle.line.specs.Line.{pending_in, Kept}
use Rattle.line.proofs.Words.{pending_length}
use Rattle.line.proofs.Room.{room_form}
use Rattle.line.specs.Taking.{Between, accepted}
use Rattle.server.specs.View.{size, origins, makers, items_in, origins_in, slots_at, makers_at, Parts, SlotsWrote, MakersWrote, Applied}
use Rattle.server.specs.Taking.{slots_kept, makers_kept, makers_left}
use Rattle.server.proofs.Loops.{lent_is, base, makers_base, items_long, origins_long}

-- of parts of one length, one behind the other, the one at place i was written
module _ (a n i : ℕ) (x l l' : List ℕ) (w : Wrote (a + n * i) n x l l') (j : ℕ) (below : j < i → a + n * j + n ≤ a + n * i)
    (above : i < j → a + n * i + n ≤ a + n * j) where
  apart : (j ≡ i → ⊥) → part (a + n * j) n l' ≡ part (a + n * j) n l
  apart ne = go (ltb j i) refl
    where
      go : (b : Bool) → ltb j i ≡ b → part (a + n * j) n l' ≡ part (a + n * j) n l
      go true t = w.before (a + n * j) n (below (ltb-true j i t))
      go false f =
          let more : i < j = let o = ne in omega (arith, ltb-false j i f) in
          w.behind (a + n * j) n (above more)

  block_at : part (a + n * j) n l' ≡ cond (eqb j i) x (part (a + n * j) n l)
  block_at = go (eqb j i) refl
    where
      go : (b : Bool) → eqb j i ≡ b → part (a + n * j) n l' ≡ cond b x (part (a + n * j) n l)
      go true t = ap (λ (k : ℕ). part (a + n * k) n l') (eqb-true j i t) ∙ w.here
      go false f = apart (eqb-false j i f)

module _ (i : ℕ) (x words after : List ℕ) (h : i < max_lines) (long : length words ≡ size) where
  slots_of_lem : Wrote (base i) pending.size x words after → SlotsWrote i x words after
  slots_of_lem w =
      record {
        items = w.before 0 max_items (omega arith);
        origins = w.behind origins max_items (omega arith);
        slots = λ j lt. block_at max_items pending.size i x words after w j (λ o. omega arith) (λ o. omega arith);
        makers = λ j lt. w.behind (makers_base j) max_pending (omega arith);
        long = w.long ∙ long;
      }

  makers_of_lem : Wrote (makers_base i) max_pending x words after → MakersWrote i x words after
  makers_of_lem w =
      record {
        items = w.before 0 max_items (omega arith);
        origins = w.before origins max_items (omega arith);
        slots = λ j lt. w.before (base j) pending.size (omega arith);
        makers = λ j lt. block_at makers max_pending i x words after w j (λ o. omega arith) (λ o. omega arith);
        long = w.long ∙ long;
      }

-- as code lends them and gets them back
abbrev pub put_slots : ℕ → List ℕ → List ℕ → List ℕ
put_slots i words x = put_mid (base i) (base i + pending.size - base i) words x

abbrev pub put_makers : ℕ → List ℕ → List ℕ → List ℕ
put_makers i words x = put_mid (makers_base i) (makers_base i + max_pending - makers_base i) words x

pub slots_wrote : (i : ℕ) (x words : List ℕ) → i < max_lines → length words ≡ size → length x ≡ pending.size → SlotsWrote i x words (put_slots i words x)
slots_wrote i x words h long e =
    let n : pending.size ≡ base i + pending.size - base i = omega arith in
    subst (λ (m : ℕ). SlotsWrote i x words (put_mid (base i) m words x)) n
    (slots_of_lem i x words (put_mid (base i) pending.size words x) h long (wrote_part (base i) pending.size x words (omega arith) e))

pub makers_wrote : (i : ℕ) (x words : List ℕ) → i < max_lines → length words ≡ size → length x ≡ max_pending → MakersWrote i x words (put_makers i words x)
makers_wrote i x words h long e =
    let n : max_pending ≡ makers_base i + max_pending - makers_base i = omega arith in
    subst (λ (m : ℕ). MakersWrote i x words (put_mid (makers_base i) m words x)) n
    (makers_of_lem i x words (put_mid (makers_base i) max_pending words x) h long (wrote_part (makers_base i) max_pending x words (omega arith) e))

-- one origin
pub maker_wrote : (i c v : ℕ) (words : List ℕ) → i < max_lines → length words ≡ size → c < max_pending
    → MakersWrote i (set (makers_at i words) c v) words (set words (makers_base i + c) v)
maker_wrote i c v words h long lt =
    makers_of_lem i (set (makers_at i words) c v) words (set words (makers_base i + c) v) h long (wrote_word (makers_base i) max_pending c v words lt)

-- the list: first its origins, then its items
abbrev pub put_origins : List ℕ → List ℕ → List ℕ
put_origins words os = put_mid origins max_items words os

module _ (words os xs : List ℕ) (long : length words ≡ size) (eo : length os ≡ max_items) where
  first : Wrote origins max_items os words (put_origins words os)
  first = wrote_part origins max_items os words (omega arith) eo

  pub first_long : length (put_origins words os) ≡ size
  first_long = first.long ∙ long

  pub first_items : items_in (put_origins words os) ≡ items_in words
  first_items = first.before 0 max_items (omega arith)

  pub list_wrote : length xs ≡ max_items → Parts xs os (λ i. slots_at i words) (λ i. makers_at i words) (put_mid 0 max_items (put_origins words os) xs)
  list_wrote ex =
      let w = wrote_part 0 max_items xs (put_origins words os) (omega (arith, first_long)) ex in
      record {
        items = w.here;
        origins = w.behind origins max_items (omega arith) ∙ first.here;
        slots = λ i lt. w.behind (base i) pending.size (omega arith) ∙ first.before (base i) pending.size (omega arith);
        makers = λ i lt. w.behind (makers_base i) max_pending (omega arith) ∙ first.behind (makers_base i) max_pending (omega arith);
        long = w.long ∙ first_long;
      }

-- ---- what the functions write, from one place up to another

module _ (at : ℕ) (v : Line) (words : List ℕ) (h : at < max_lines) (long : length words ≡ size) (from to : ℕ) where
  -- the words of the line
  module _ (r : (from ≡ base at) × (to ≡ base at + pending.size)) where
    lent_slots : take (to - from) (drop from words) ≡ slots_at at words
    lent_slots = ap₂ (λ (a b : ℕ). take (b - a) (drop a words)) r.0 r.1 ∙ lent_is (base at) pending.size words

    put : (x y : List ℕ) → x ≡ y → length y ≡ pending.size → SlotsWrote at y words (put_mid from (to - from) words x)
    put x y e n =
        subst (SlotsWrote at y words) (λ i. put_mid (sym r.0 i) (sym r.1 i - sym r.0 i) words (sym e i)) (slots_wrote at y words h long n)

    -- one more edit is kept
    pub keep_wrote : (e : Edit) (x : List ℕ) → Kept v (slots_at at words) → v.made - v.acked < max_pending
        → x ≡ slots_kept e v (take (to - from) (drop from words)) → SlotsWrote at (slots_kept e v (slots_at at words)) words (put_mid from (to - from) words x)
    keep_wrote e x k room ex =
        let few : length (pending_in v (slots_at at words) ++ (e ∷ [])) ≤ max_pending =
        omega (arith, length-append (pending_in v (slots_at at words)) (e ∷ []), pending_length v (slots_at at words) k) in
        put x (slots_kept e v (slots_at at words)) (ex ∙ ap (slots_kept e v) lent_slots) (slots_length (pending_in v (slots_at at words) ++ (e ∷ [])) few)

    -- what an accepted message leaves
    pub accept_wrote : (seen : ℕ) (later x : List ℕ) → Kept v (slots_at at words) → Between v seen → length later ≡ max_pending
        → x ≡ accepted v seen later (take (to - from) (drop from words))
        → SlotsWrote at (accepted v seen later (slots_at at words)) words (put_mid from (to - from) words x)
    accept_wrote seen later x k between el ex =
        let left : List ℕ = take (v.made - seen) (drop (max_pending + (seen - v.acked)) (slots_at at words)) in
        let few : length left ≤ max_pending = omega (arith, length-take (v.made - seen) (drop (max_pending + (seen - v.acked)) (slots_at at words)), k.few, between) in
        put x (accepted v seen later (slots_at at words)) (ex ∙ ap (accepted v seen later) lent_slots)
        (length-append later (padded 0 max_pending left) ∙ omega (arith, el, pad_length max_pending 0 left few))

  -- the origins of acknowledged edits go
  pub drop_wrote : (from ≡ makers_base at) × (to ≡ makers_base at + max_pending) → (seen : ℕ) (x : List ℕ) → Between v seen → v.made - v.acked ≤ max_pending
      → x ≡ makers_left v seen (take (to - from) (drop from words))
      → MakersWrote at (makers_left v seen (makers_at at words)) words (put_mid from (to - from) words x)
  drop_wrote r seen x between few ex =
      let lent : take (to - from) (drop from words) ≡ makers_at at words =
      ap₂ (λ (a b : ℕ). take (b - a) (drop a words)) r.0 r.1 ∙ lent_is (makers_base at) max_pending words in
      let new : x ≡ makers_left v seen (makers_at at words) = ex ∙ ap (makers_left v seen) lent in
      let left : List ℕ = take (v.made - seen) (drop (seen - v.acked) (makers_at at words)) in
      let short : length left ≤ max_pending = omega (arith, length-take (v.made - seen) (drop (seen - v.acked) (makers_at at words)), few, between) in
      subst (MakersWrote at (makers_left v seen (makers_at at words)) words) (λ i. put_mid (sym r.0 i) (sym r.1 i - sym r.0 i) words (sym new i))
      (makers_wrote at (makers_left v seen (makers_at at words)) words h long (pad_length max_pending 0 left short))

-- an origin is put behind those of the line's pending edits
pub name_wrote : (at : ℕ) (v : Line) (words : List ℕ) → at < max_lines → length words ≡ size → (word from c : ℕ) → v.made - v.acked < max_pending
    → from ≡ makers_base at → c ≡ v.made - v.acked → MakersWrote at (makers_kept word v (makers_at at words)) words (set words (from + c) word)
name_wrote at v words h long word from c room ef ec =
    subst (λ (j : ℕ). MakersWrote at (makers_kept word v (makers_at at words)) words (set words j word)) (λ i. sym ef i + sym ec i)
    (maker_wrote at (v.made - v.acked) word words h long room)

-- an edit is applied to both parts of the list
module _ (f : Form) (x : ℕ) (o : Origin) (len : ℕ) (words : List ℕ) (long : length words ≡ size) (room : Room (edit f x) len capacity) where
  pub origins_room : (w : ℕ) → (length (take (makers - origins) (drop origins words)) ≡ capacity) × Room (edit f w) len capacity
  origins_room w = (origins_long words long, room_form f x w room)

  pub apply_wrote : (w then also : ℕ) (os xs : List ℕ) → w ≡ word_of o → Edited (edit f w) len (take (makers - origins) (drop origins words)) os also
      → Edited (edit f x) len (take max_items (put_origins words os)) xs then
      → Applied f x o len words (put_mid 0 max_items (put_origins words os) xs) then
  apply_wrote w then also os xs ew eo ex =
      let room_in : (a : List ℕ) → length a ≡ max_items → (y : ℕ) → Room (edit f y) len (length a) =
      λ a e y. subst (λ (m : ℕ). Room (edit f y) len m) (sym e) (room_form f x y room) in
      let origins_are : os ≡ edited (edit f (word_of o)) len (origins_in words) = eo.items ∙ ap (λ (y : ℕ). edited (edit f y) len (origins_in words)) ew in
      let os_long : length os ≡ max_items =
      ap length eo.items ∙ edited_length (edit f w) len (origins_in words) (room_in (origins_in words) (origins_long words long) w) ∙ origins_long words long in
      let items_are : xs ≡ edited (edit f x) len (items_in words) = ex.items ∙ ap (edited (edit f x) len) (first_items words os xs long os_long) in
      let xs_long : length xs ≡ max_items =
      ap length items_are ∙ edited_length (edit f x) len (items_in words) (room_in (items_in words) (items_long words long) x) ∙ items_long words long in
      let p = list_wrote words os xs long os_long xs_long in
      record {
        words =
            record {
              items = p.items ∙ items_are;
              origins = p.origins ∙ origins_are;
              slots = p.slots;
              makers = p.makers;
              long = p.long;
            };
        length = ex.length;
      }

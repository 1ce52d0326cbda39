-- What is written where a message is accepted is the one struct for the server that the model makes.
use Prim.Native.Nat.{ℕ, zero, suc, ◌-◌, ◌≤◌, ◌<◌}
use native.Mathlib.Omega.{arith}
use mathlib.Core.Path.{◌≡◌, refl, ap, sym, ◌∙◌, subst}
use mathlib.Core.Bool.{Bool, true, false, cond}
use mathlib.Core.List.{List, [], ◌∷◌, ◌++◌, map}
use lib.Dec.{ltb, eqb}
use lib.ListN.{length, get_or, set, take, drop, length-map, length-set, get_or-eq_default}
use lib.Seq.{get_or-set_same, get_or-set_other}
use borrow.Author.Tests.{eqb-true, eqb-false, eq-eqb, ne_eqb, ltb-true, ltb-false, le-ltb}
use Rattle.std.specs.Prelude.{Ok}
use Rattle.limits.specs.Limits.{max_items, max_lines, max_pending}
use Rattle.ot.specs.Edit.{Edit, edit, applied, fits}
use Rattle.list.specs.declared.Origin.{Origin}
use Rattle.list.specs.Items.{padded, stored}
use Rattle.list.specs.Places.{applied_by, items_of, origins_of, word_of, origin_at}
use Rattle.list.specs.Seconds.{total_seconds, running_time}
use Rattle.list.proofs.Pad.{pad_snoc}
use Rattle.list.proofs.Places.{words_of_at}
use Rattle.list.proofs.Seconds.{total_items}
use Rattle.model.specs.Line as line
use Rattle.model.specs.Server as model
use Rattle.model.proofs.Instance.{map_drop}
use Rattle.model.proofs.SoundServer.{length_at_place}
use Rattle.pending.specs.Slots.{slots_of}
use Rattle.line.specs.declared.Line.{Line}
use Rattle.line.specs.Line.{counts_of, Kept}
use Rattle.line.proofs.Room.{room_items, room_origins, room_length}
use Rattle.line.specs.declared.taking.Arrival.{Arrival}
use Rattle.line.specs.declared.taking.Decision.{Decision}
use Rattle.line.specs.Taking.{line_then, edit_then, accepted}
use Rattle.line.proofs.Accepting.{accepted_slots}
use Rattle.line.proofs.Decisions.{then_edit}
use Rattle.server.specs.declared.Counts.{Counts}
use Rattle.server.specs.View.{slots_at, makers_at, counts_at, line_at, makers_of, server_of, view, store, Sound, SlotsWrote, MakersWrote, Applied}
use Rattle.server.specs.Decides.{place_of, inserts_then, Decided}
use Rattle.server.specs.Taking.{KeptBy, makers_left, takes_it, keeps_it, server_then}
use Rattle.server.proofs.Rows.{Row, makers_for, store_is}
use Rattle.server.proofs.Facts.{sizes, own_holds, len_few, first_words, first_count, first_sum, lines_few, lines_count, makers_many, at_view, makers_view, at_makers}
use Rattle.server.proofs.Asked.{roomy_each}
use Rattle.server.proofs.Decided.{Accepted, accepts}
use Rattle.server.proofs.Keeping.{keeps_own, keeps_other, counts_then, slots_then, makers_then}
use Rattle.server.proofs.Takes.{line_is}

-- ---- a list of which one place gets f and every other g

module _ {A : Type 0} (z : A) (f g : A → A) where
  place_same : (i : ℕ) (vs : List A) → i < length vs → get_or (model.at_place i f g vs) i z ≡ f (get_or vs i z)
  unfolding model.at_place
  place_same i [] h = absurd (omega arith)
  place_same zero (v ∷ vs) h = refl
  place_same (suc i) (v ∷ vs) h = place_same i vs (omega arith)

  map_at : (vs : List A) (j : ℕ) → j < length vs → get_or (map g vs) j z ≡ g (get_or vs j z)
  map_at [] j h = absurd (omega arith)
  map_at (v ∷ vs) zero h = refl
  map_at (v ∷ vs) (suc j) h = map_at vs j (omega arith)

  place_other : (i : ℕ) (vs : List A) (j : ℕ) → (j ≡ i → ⊥) → j < length vs → get_or (model.at_place i f g vs) j z ≡ g (get_or vs j z)
  unfolding model.at_place
  place_other i [] j n h = absurd (omega arith)
  place_other zero (v ∷ vs) zero n h = absurd (n refl)
  place_other zero (v ∷ vs) (suc j) n h = map_at vs j (omega arith)
  place_other (suc i) (v ∷ vs) zero n h = refl
  place_other (suc i) (v ∷ vs) (suc j) n h = place_other i vs j (λ e. n (ap suc e)) (omega arith)

  -- a place behind them
  place_none : (i : ℕ) (vs : List A) (j : ℕ) → length vs ≤ j → get_or (model.at_place i f g vs) j z ≡ get_or vs j z
  place_none i vs j h = get_or-eq_default (model.at_place i f g vs) z (omega (arith, length_at_place i f g vs)) ∙ sym (get_or-eq_default vs z h)

-- ---- origins as words

drop_take : (g c : ℕ) (l : List ℕ) → drop g (take c l) ≡ take (c - g) (drop g l)
drop_take zero c l =
    let e : c ≡ c - 0 = omega arith in
    ap (λ (n : ℕ). take n l) e
drop_take (suc g) zero l =
    let e : 0 ≡ 0 - suc g = omega arith in
    no_more l ∙ ap (λ (n : ℕ). take n (drop (suc g) l)) e
  where
    no_more : (r : List ℕ) → drop (suc g) (take 0 r) ≡ take 0 (drop (suc g) r)
    no_more r = refl
drop_take (suc g) (suc c) [] = none (suc c - suc g)
  where
    none : (n : ℕ) → ◌≡◌ {A = List ℕ} [] (take {A = ℕ} n [])
    none zero = refl
    none (suc n) = refl
drop_take (suc g) (suc c) (x ∷ l) =
    let e : c - g ≡ suc c - suc g = omega arith in
    drop_take g c l ∙ ap (λ (n : ℕ). take n (drop g l)) e

-- those left once some are dropped
left_words : (g c : ℕ) (ws : List ℕ) → map word_of (drop g (map origin_at (take c ws))) ≡ take (c - g) (drop g ws)
left_words g c ws =
    ap (map word_of) (map_drop origin_at g (take c ws)) ∙ words_of_at (drop g (take c ws)) ∙ drop_take g c ws

-- one more behind them
more_words : (c : ℕ) (o : Origin) (ws : List ℕ) → map word_of (map origin_at (take c ws) ++ (o ∷ [])) ≡ take c ws ++ (word_of o ∷ [])
more_words c o ws = go (take c ws)
  where
    go : (l : List ℕ) → map word_of (map origin_at l ++ (o ∷ [])) ≡ l ++ (word_of o ∷ [])
    go [] = refl
    go (w ∷ l) = λ i. words_of_at (w ∷ []) i ++ go l i

-- the counts with those of one line, and the length and the total of the list
abbrev pub with_line : Counts → ℕ → Line → ℕ → ℕ → Counts
with_line k at v len total = record { n = k.n; initial = k.initial; len = len; total = total; ranks = k.ranks; lines = set k.lines at v }

-- ---- a decision that refuses nothing

module _ (k : Counts) (words : List ℕ) (h : Sound (server_of k words)) (a : Arrival) (d : Decision) (later : List ℕ)
    (r : Decided k words a (Ok d) later) where
  pub taken : Accepted k words a d later
  taken = accepts k words a d later r h

  abbrev m : model.Server
  m = view (server_of k words)

  abbrev at : ℕ
  at = place_of a

  abbrev v : Line
  v = counts_at k at

  abbrev w : line.Line
  w = line_at k words at

  below : place_of a < max_lines
  below = taken.below

  abbrev then : line.Line
  then = line_then w (inserts_then k a) a

  -- the edit that is applied and kept
  abbrev kept : Edit
  kept = edit_then (model.line_of m a.line) a

  abbrev e : Edit
  e = edit d.form a.item

  edit_is : e ≡ kept
  edit_is =
      ap (λ (x : Decision). edit x.form a.item) taken.answer ∙ then_edit w a
      ∙ ap (λ (u : line.Line). edit_then u a) (sym (line_is k words h a taken.up))

  abbrev word : ℕ
  word = word_of a.origin

  abbrev most : ℕ
  most = cond a.carries k.n 0

  abbrev new : model.Server
  new = server_then m a

  -- ---- the list as it came, lent to find the total that it will have

  lent_list : take (k.len - 0) words ≡ take k.len words
  lent_list =
      let n : k.len - 0 ≡ k.len = omega arith in
      ap (λ (c : ℕ). take c words) n

  pub list_asked : (length (take (k.len - 0) words) ≤ max_items)
      × ((fits (edit d.form a.item) (length (take (k.len - 0) words)) ≡ true) × (k.total ≡ total_seconds (take (k.len - 0) words)))
  list_asked =
      let count : length (take (k.len - 0) words) ≡ k.len = ap length lent_list ∙ first_count k words h in (
        omega (arith, count, len_few k words h),
        (ap (fits e) count ∙ taken.room.fitting, first_sum k words h ∙ ap total_seconds (sym lent_list)),
      )

  -- ---- the other lines have kept it

  module _ (k₁ : Counts) (words₁ : List ℕ) (by : KeptBy (cond a.carries k.n 0) (place_of a) (edit d.form a.item) (word_of a.origin) k words k₁ words₁) where
    own_slots : slots_at at words₁ ≡ slots_at at words
    own_slots = by.words.slots at below ∙ ap (λ (b : Bool). slots_then b e v (slots_at at words)) (keeps_own most at)

    own_makers : makers_at at words₁ ≡ makers_at at words
    own_makers = by.words.makers at below ∙ ap (λ (b : Bool). makers_then b word v (makers_at at words)) (keeps_own most at)

    pub kept_own : Kept (counts_at k (place_of a)) (slots_at (place_of a) words₁)
    kept_own = subst (Kept v) (sym own_slots) (h.kept at below)

    module _ (words₂ words₃ words₄ : List ℕ) (len : ℕ) (wrote : SlotsWrote (place_of a) (accepted (counts_at k (place_of a)) a.seen later (slots_at (place_of a) words₁)) words₁ words₂)
        (dropped : MakersWrote (place_of a) (makers_left (counts_at k (place_of a)) a.seen (makers_at (place_of a) words₂)) words₂ words₃)
        (listed : Applied d.form a.item a.origin k.len words₃ words₄ len) (total : ℕ)
        (summed : total ≡ total_seconds (applied (edit d.form a.item) (take (k.len - 0) words))) where
      abbrev k₄ : Counts
      k₄ = with_line k₁ (place_of a) d.line len total

      own_line : get_or new.lines at line.no_line ≡ then
      own_line =
          place_same line.no_line (takes_it a) (keeps_it a.carries kept) at m.lines (omega (arith, taken.used, lines_count k words h))
          ∙ ap (takes_it a) (at_view k words h at taken.used)

      slots_own : slots_at at words₄ ≡ slots_of then.pending
      slots_own =
          listed.words.slots at below ∙ dropped.slots at below ∙ wrote.slots at below
          ∙ ap (λ (b : Bool). cond b (accepted v a.seen later (slots_at at words₁)) (slots_at at words₁)) (eq-eqb at at refl)
          ∙ ap (accepted v a.seen later) own_slots
          ∙ accepted_slots v a.seen (slots_at at words) later then.pending (h.kept at below) taken.seen taken.stay

      own_origins : get_or new.makers at [] ≡ drop (a.seen - v.acked) (makers_of k words at)
      own_origins =
          place_same [] (model.unacked_makers m a.line a.seen) (λ os. cond a.carries (os ++ (a.origin ∷ [])) os) at m.makers
          (omega (arith, taken.used, makers_many k words h))
          ∙ ap (λ (u : line.Line). drop (a.seen - u.acked) (get_or m.makers at [])) (line_is k words h a taken.up)
          ∙ ap (drop (a.seen - v.acked)) (makers_view k words h at taken.used)

      makers_own : makers_at at words₄ ≡ makers_for (drop (a.seen - v.acked) (makers_of k words at))
      makers_own =
          let left : v.made - v.acked - (a.seen - v.acked) ≡ v.made - a.seen = omega (arith, taken.seen) in
          listed.words.makers at below ∙ dropped.makers at below
          ∙ ap (λ (b : Bool). cond b (makers_left v a.seen (makers_at at words₂)) (makers_at at words₂)) (eq-eqb at at refl)
          ∙ ap (makers_left v a.seen) (wrote.makers at below ∙ own_makers)
          ∙ ap (λ (n : ℕ). padded 0 max_pending (take n (drop (a.seen - v.acked) (makers_at at words)))) (sym left)
          ∙ ap (padded 0 max_pending) (sym (left_words (a.seen - v.acked) (v.made - v.acked) (makers_at at words)))

      own_row : Row k₄ words₄ at (get_or new.lines at line.no_line) (get_or new.makers at [])
      own_row =
          subst (λ (os : List Origin). Row k₄ words₄ at (get_or new.lines at line.no_line) os) (sym own_origins)
          (subst (λ (u : line.Line). Row k₄ words₄ at u (drop (a.seen - v.acked) (makers_of k words at))) (sym own_line)
          (record {
            counts =
                get_or-set_same k₁.lines at d.line (counts_of line.no_line) (omega (arith, below, by.lines, (sizes k words h).lines))
                ∙ ap (λ (x : Decision). x.line) taken.answer;
            slots = slots_own;
            makers = makers_own;
          }))

      -- another line
      module _ (i : ℕ) (lt : i < max_lines) (n : i ≡ place_of a → ⊥) where
        abbrev u : line.Line
        u = get_or m.lines i line.no_line

        abbrev os : List Origin
        os = get_or m.makers i []

        old : Row k words i (get_or (view (server_of k words)).lines i line.no_line) (get_or (view (server_of k words)).makers i [])
        old = (own_holds k words h).rows i lt

        counts_then_lem : (b : Bool) → ltb i most ≡ b → counts_at k₄ i ≡ counts_then b (counts_at k i)
        counts_then_lem b f =
            get_or-set_other k₁.lines at i d.line (counts_of line.no_line) n ∙ by.counts i lt
            ∙ ap (λ (c : Bool). counts_then c (counts_at k i)) (keeps_other most at i n ∙ f)

        slots_then_lem : (b : Bool) → ltb i most ≡ b → slots_at i words₄ ≡ slots_then b e (counts_at k i) (slots_at i words)
        slots_then_lem b f =
            listed.words.slots i lt ∙ dropped.slots i lt ∙ wrote.slots i lt
            ∙ ap (λ (c : Bool). cond c (accepted v a.seen later (slots_at at words₁)) (slots_at i words₁)) (ne_eqb i at n)
            ∙ by.words.slots i lt ∙ ap (λ (c : Bool). slots_then c e (counts_at k i) (slots_at i words)) (keeps_other most at i n ∙ f)

        makers_then_lem : (b : Bool) → ltb i most ≡ b → makers_at i words₄ ≡ makers_then b word (counts_at k i) (makers_at i words)
        makers_then_lem b f =
            listed.words.makers i lt ∙ dropped.makers i lt
            ∙ ap (λ (c : Bool). cond c (makers_left v a.seen (makers_at at words₂)) (makers_at i words₂)) (ne_eqb i at n)
            ∙ wrote.makers i lt ∙ by.words.makers i lt
            ∙ ap (λ (c : Bool). makers_then c word (counts_at k i) (makers_at i words)) (keeps_other most at i n ∙ f)

        -- its origins with one more
        named : i < k.n → (room_i : (counts_at k i).made - (counts_at k i).acked < max_pending) → makers_then true word (counts_at k i) (makers_at i words) ≡ makers_for (makers_of k words i ++ (a.origin ∷ []))
        named used_i room_i =
            let c : ℕ = (counts_at k i).made - (counts_at k i).acked in
            let ws : List ℕ = take c (makers_at i words) in
            let count : length ws ≡ c = sym (length-map ws origin_at) ∙ (at_makers k words h i used_i).count in
            let whole : makers_at i words ≡ padded 0 max_pending ws = old.makers ∙ ap makers_for (makers_view k words h i used_i) ∙ ap (padded 0 max_pending) (words_of_at ws) in
            ap (λ (l : List ℕ). set l c word) whole ∙ ap (λ (j : ℕ). set (padded 0 max_pending ws) j word) (sym count)
            ∙ pad_snoc max_pending 0 ws word (omega (arith, count)) ∙ ap (padded 0 max_pending) (sym (more_words c a.origin (makers_at i words)))

        -- it keeps the edit
        kept_row : i < k.n → (room_i : (counts_at k i).made - (counts_at k i).acked < max_pending) → ltb i most ≡ true → Row k₄ words₄ i (keeps_it true kept u) (os ++ (a.origin ∷ []))
        kept_row used_i room_i f =
            subst (λ (p : line.Line). Row k₄ words₄ i (keeps_it true kept p) (os ++ (a.origin ∷ []))) (sym (at_view k words h i used_i))
            (subst (λ (l : List Origin). Row k₄ words₄ i (keeps_it true kept (line_at k words i)) (l ++ (a.origin ∷ []))) (sym (makers_view k words h i used_i))
            (subst (λ (q : Edit). Row k₄ words₄ i (keeps_it true q (line_at k words i)) (makers_of k words i ++ (a.origin ∷ []))) edit_is
            (record { counts = counts_then_lem true f; slots = slots_then_lem true f; makers = makers_then_lem true f ∙ named used_i room_i })))

        -- it does not
        same_row : ltb i most ≡ false → Row k₄ words₄ i u os
        same_row f = record { counts = counts_then_lem false f ∙ old.counts; slots = slots_then_lem false f ∙ old.slots; makers = makers_then_lem false f ∙ old.makers }

        abbrev row_for : Bool → Type 0
        row_for b =
            Row k₄ words₄ i (get_or (model.at_place at (takes_it a) (keeps_it b kept) m.lines) i line.no_line)
            (get_or (model.at_place at (model.unacked_makers m a.line a.seen) (λ l. cond b (l ++ (a.origin ∷ [])) l) m.makers) i [])

        in_use : (b : Bool) → i < k.n → Row k₄ words₄ i (keeps_it b kept u) (cond b (os ++ (a.origin ∷ [])) os) → row_for b
        in_use b used_i row =
            subst (λ (l : List Origin). Row k₄ words₄ i (get_or (model.at_place at (takes_it a) (keeps_it b kept) m.lines) i line.no_line) l)
            (sym (place_other [] (model.unacked_makers m a.line a.seen) (λ l. cond b (l ++ (a.origin ∷ [])) l) at m.makers i n (omega (arith, makers_many k words h))))
            (subst (λ (p : line.Line). Row k₄ words₄ i p (cond b (os ++ (a.origin ∷ [])) os))
            (sym (place_other line.no_line (takes_it a) (keeps_it b kept) at m.lines i n (omega (arith, lines_count k words h)))) row)

        other_row : (b : Bool) → a.carries ≡ b → (c : Bool) → ltb i k.n ≡ c → row_for b
        other_row true c true l =
            let used_i : i < k.n = ltb-true i k.n l in
            in_use true used_i (kept_row used_i (others_room c used_i) (ap (λ (q : Bool). ltb i (cond q k.n 0)) c ∙ l))
          where
            others_room : a.carries ≡ true → i < k.n → (counts_at k i).made - (counts_at k i).acked < max_pending
            others_room c' used_i = roomy_each k at (taken.roomy c') i used_i n
        other_row false c true l =
            let used_i : i < k.n = ltb-true i k.n l in
            in_use false used_i (same_row (ap (λ (q : Bool). ltb i (cond q k.n 0)) c ∙ le-ltb i 0 (omega arith)))
        other_row b c false l =
            let past : k.n ≤ i = ltb-false i k.n l in
            subst (λ (q : List Origin). Row k₄ words₄ i (get_or (model.at_place at (takes_it a) (keeps_it b kept) m.lines) i line.no_line) q)
            (sym (place_none [] (model.unacked_makers m a.line a.seen) (λ q. cond b (q ++ (a.origin ∷ [])) q) at m.makers i (omega (arith, makers_many k words h))))
            (subst (λ (p : line.Line). Row k₄ words₄ i p os)
            (sym (place_none line.no_line (takes_it a) (keeps_it b kept) at m.lines i (omega (arith, lines_count k words h))))
            (same_row (le-ltb i most (few_lines a.carries past))))
          where
            few_lines : (q : Bool) → k.n ≤ i → cond q k.n 0 ≤ i
            few_lines true p = p
            few_lines false p = omega arith

      row : (i : ℕ) → i < max_lines → Row k₄ words₄ i (get_or new.lines i line.no_line) (get_or new.makers i [])
      row i lt = go (eqb i at) refl
        where
          go : (b : Bool) → eqb i at ≡ b → Row k₄ words₄ i (get_or new.lines i line.no_line) (get_or new.makers i [])
          go true q = subst (λ (j : ℕ). Row k₄ words₄ j (get_or new.lines j line.no_line) (get_or new.makers j [])) (sym (eqb-true i at q)) own_row
          go false q = other_row i lt (eqb-false i at q) a.carries refl (ltb i k.n) refl

      pub written : server_of (with_line k₁ (place_of a) d.line len total) words₄ ≡ store (server_then (view (server_of k words)) a)
      written =
          let own = own_holds k words h in
          let count : length new.lines ≡ k.n =
          length_at_place at (takes_it a) (keeps_it a.carries kept) m.lines ∙ lines_count k words h in
          let count_makers : length new.makers ≡ k.n =
          length_at_place at (model.unacked_makers m a.line a.seen) (λ l. cond a.carries (l ++ (a.origin ∷ [])) l) m.makers ∙ makers_many k words h in
          store_is new (omega (arith, count, lines_few k words h)) (omega (arith, count_makers, lines_few k words h)) k₄ words₄
          (record {
            words = listed.words.long;
            lines = length-set k₁.lines at d.line ∙ by.lines ∙ (sizes k words h).lines;
            ranks = ap length by.ranks ∙ (sizes k words h).ranks;
          })
          (record {
            n = by.n ∙ own.n;
            initial = by.initial ∙ own.initial;
            ranks = by.ranks ∙ own.ranks;
            len = listed.length ∙ room_length a.origin d.form a.item k.len m.items h.listed taken.room ∙ ap (λ (q : Edit). length (applied_by a.origin q m.items)) edit_is;
            total =
                summed ∙ ap (λ (l : List ℕ). total_seconds (applied e l)) (lent_list ∙ first_words k words h)
                ∙ sym (total_items a.origin e m.items)
                ∙ ap (λ (q : Edit). running_time (applied_by a.origin q m.items)) edit_is;
            items =
                listed.words.items
                ∙ room_items a.origin d.form a.item k.len m.items h.listed taken.room _ (dropped.items ∙ wrote.items ∙ by.words.items ∙ own.items)
                ∙ ap (λ (q : Edit). stored (items_of (applied_by a.origin q m.items))) edit_is;
            origins =
                listed.words.origins
                ∙ room_origins a.origin d.form a.item k.len m.items h.listed taken.room _ (dropped.origins ∙ wrote.origins ∙ by.words.origins ∙ own.origins)
                ∙ ap (λ (q : Edit). stored (origins_of (applied_by a.origin q m.items))) edit_is;
            rows = row;
          })

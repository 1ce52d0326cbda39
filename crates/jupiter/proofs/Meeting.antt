-- The two ways of a line to the point where its lists meet.
use Prim.Native.Nat.{ℕ, zero, suc, ◌+◌, ◌-◌, ◌≤◌, ◌<◌, suc-le-suc, zero-le}
use native.Mathlib.Nat.{le_refl}
use native.Mathlib.Omega.{arith}
use mathlib.Core.Path.{◌≡◌, refl, sym, ap, ◌∙◌, subst}
use mathlib.Core.Bool.{Bool, true, false, not, cond, true≢false, ◌&&◌, ◌||◌}
use mathlib.Core.List.{List, [], ◌∷◌, ◌++◌}
use lib.Dec.{ltb}
use lib.ListN.{length, get_or, drop, drop_of_length-le, length-drop, get_or-append}
use lib.Seq.{drop-cons, drop-append_seam, get_or-drop}
use Rattle.jupiter.specs.Algebra.{Algebra}
use Rattle.jupiter.specs.Made.{Name, Made, same, holds, select, reject, names, is_by, mine, others}
use Rattle.jupiter.specs.Form.{form, list_at, in_order, without, replay}
use Rattle.jupiter.specs.Point.{point, blank, own, oth}
use Rattle.jupiter.specs.History.{History, order, missing}
use Rattle.jupiter.specs.Ends.{End, Ends}
use Rattle.jupiter.proofs.Lists as L
use Rattle.jupiter.proofs.Lists.{All, all_at}
use Rattle.jupiter.proofs.Grid.{ltb_true, ltb_lt, own_line, own_name, oth_line, doc_at}
use Rattle.jupiter.proofs.Line.{LineAt, between_good}
use Rattle.jupiter.proofs.World.{mine_served, others_served, Inv, missing_is}
use Rattle.jupiter.proofs.Replay.{or_true, same_refl, same_eq, is_false, holds_more, held_next, holds_in}

and_false : (b : Bool) → b && false ≡ false
and_false true = refl
and_false false = refl

and_true' : (b : Bool) → b && true ≡ b
and_true' true = refl
and_true' false = refl

module _ {𝓐 : Algebra} where
  -- what is held of a part is held of the whole
  pub holds_select : (p : Made 𝓐 → Bool) (xs : List (Made 𝓐)) (n : Name) → holds (names (select p xs)) n ≡ true → holds (names xs) n ≡ true
  unfolding holds select
  holds_select p [] n h = h
  holds_select p (x ∷ xs) n h = go (p x) h (holds_select p xs n)
    where
      go : (b : Bool) → holds (names (cond b (x ∷ select p xs) (select p xs))) n ≡ true → (holds (names (select p xs)) n ≡ true → holds (names xs) n ≡ true)
          → same n x.name || holds (names xs) n ≡ true
      go true h ih = or_on (same n x.name) h
        where
          or_on : (c : Bool) → c || holds (names (select p xs)) n ≡ true → c || holds (names xs) n ≡ true
          or_on true k = refl
          or_on false k = ih k
      go false h ih = ap (λ b. same n x.name || b) (ih h) ∙ or_true (same n x.name)

  pub holds_reject : (p : Made 𝓐 → Bool) (xs : List (Made 𝓐)) (n : Name) → holds (names (reject p xs)) n ≡ true → holds (names xs) n ≡ true
  unfolding holds reject
  holds_reject p [] n h = h
  holds_reject p (x ∷ xs) n h = go (p x) h (holds_reject p xs n)
    where
      go : (b : Bool) → holds (names (cond b (reject p xs) (x ∷ reject p xs))) n ≡ true → (holds (names (reject p xs)) n ≡ true → holds (names xs) n ≡ true)
          → same n x.name || holds (names xs) n ≡ true
      go false h ih = or_on (same n x.name) h
        where
          or_on : (c : Bool) → c || holds (names (reject p xs)) n ≡ true → c || holds (names xs) n ≡ true
          or_on true k = refl
          or_on false k = ih k
      go true h ih = ap (λ b. same n x.name || b) (ih h) ∙ or_true (same n x.name)

  -- and what is held is an element
  pub record HeldAt (xs : List (Made 𝓐)) (n : Name) : Type 0 where
    pub place : ℕ
    pub below : place < length xs
    pub named_so : (get_or xs place blank).name ≡ n

  pub held_at : (xs : List (Made 𝓐)) (n : Name) → holds (names xs) n ≡ true → HeldAt xs n
  unfolding holds
  held_at [] n h = absurd (true≢false (sym h))
  held_at (x ∷ xs) n h = go (same n x.name) refl h (held_at xs n)
    where
      go : (b : Bool) → same n x.name ≡ b → b || holds (names xs) n ≡ true → (holds (names xs) n ≡ true → HeldAt xs n) → HeldAt (x ∷ xs) n
      go true e k ih = record { place = 0; below = suc-le-suc zero-le; named_so = sym (same_eq n x.name e) }
      go false e k ih = let r = ih k in record { place = suc r.place; below = suc-le-suc r.below; named_so = r.named_so }

  pub held_all : (P : Name → Type 0) (xs : List (Made 𝓐)) → All (λ e. P e.name) xs → (n : Name) → holds (names xs) n ≡ true → P n
  held_all P xs every n h = let r = held_at xs n h in subst P r.named_so (all_at (λ e. P e.name) blank xs every r.place r.below)

  holds_without : (done less : List (Made 𝓐)) (n : Name) → holds (names (without done less)) n ≡ holds (names done) n && not (holds (names less) n)
  unfolding holds without select
  holds_without [] less n = refl
  holds_without (x ∷ xs) less n = go (same n x.name) refl (holds (names less) x.name) refl (holds_without xs less n)
    where
      go : (a : Bool) → same n x.name ≡ a → (b : Bool) → holds (names less) x.name ≡ b
          → holds (names (select (λ e. not (holds (names less) e.name)) xs)) n ≡ holds (names xs) n && not (holds (names less) n)
          → holds (names (cond (not b) (x ∷ select (λ e. not (holds (names less) e.name)) xs) (select (λ e. not (holds (names less) e.name)) xs))) n
          ≡ (a || holds (names xs) n) && not (holds (names less) n)
      go true e true f ih =
          let nx : holds (names less) n ≡ true = ap (holds (names less)) (same_eq n x.name e) ∙ f in
          rw nx (ih ∙ rw nx (and_false (holds (names xs) n)))
      go true e false f ih =
          let nx : holds (names less) n ≡ false = ap (holds (names less)) (same_eq n x.name e) ∙ f in
          rw (nx, e) refl
      go false e true f ih = ih
      go false e false f ih = rw e ih

  -- of edits with names of their own: which are among those from number i on
  module _ (xs : List (Made 𝓐)) (inj : (j k : ℕ) → j < length xs → k < length xs → same (get_or xs j blank).name (get_or xs k blank).name ≡ true → j ≡ k) where
    not_behind : (i k : ℕ) → k < i → k < length xs → holds (names (drop i xs)) (get_or xs k blank).name ≡ true → ⊥
    not_behind i k lt h t =
        let r = held_at (drop i xs) (get_or xs k blank).name t in
        let b : r.place < length xs - i = subst (λ n. r.place < n) (length-drop i xs) r.below in
        let q : (get_or xs (i + r.place) blank).name ≡ (get_or xs k blank).name = ap (λ x. x.name) (sym (get_or-drop i xs r.place blank)) ∙ r.named_so in
        let z : i + r.place ≡ k = inj (i + r.place) k (omega arith) h (ap (λ n. same n (get_or xs k blank).name) q ∙ same_refl (get_or xs k blank).name) in
        omega arith

    behind : (i k : ℕ) → ¬ (k < i) → k < length xs → holds (names (drop i xs)) (get_or xs k blank).name ≡ true
    behind i k le h =
        let lt : k - i < length (drop i xs) = omega (arith, length-drop i xs) in
        let n : i + (k - i) ≡ k = omega arith in
        subst (λ x. holds (names (drop i xs)) x.name ≡ true) (get_or-drop i xs (k - i) blank ∙ ap (λ j. get_or xs j blank) n) (holds_in (drop i xs) (k - i) lt)

    holds_drop : (i k : ℕ) → k < length xs → not (holds (names (drop i xs)) (get_or xs k blank).name) ≡ ltb k i
    holds_drop i k h = go (ltb k i) refl
      where
        go : (b : Bool) → ltb k i ≡ b → not (holds (names (drop i xs)) (get_or xs k blank).name) ≡ ltb k i
        go false e = ap not (behind i k (λ lt. true≢false (sym (ltb_true k i lt) ∙ e)) h) ∙ sym e
        go true e = ap not (is_false (holds (names (drop i xs)) (get_or xs k blank).name) (not_behind i k (ltb_lt k i e) h)) ∙ sym e

module _ {𝓐 : Algebra} (d : 𝓐.Doc) (l : ℕ) (w served applied : List (Made 𝓐)) (c v : End 𝓐) (doc : 𝓐.Doc) (line : LineAt d l w served applied c v doc) where
  abbrev m : ℕ
  m = length (mine l w)

  abbrev n : ℕ
  n = length (others l w)

  own_inj : (j k : ℕ) → j < m → k < m → same (own l w j).name (own l w k).name ≡ true → j ≡ k
  own_inj j k hj hk e =
      let q : suc j ≡ suc k =
      sym (line.grid.contexts.own_number j hj) ∙ ap (λ x. x.number) (same_eq (own l w j).name (own l w k).name e) ∙ line.grid.contexts.own_number k hk in
      omega arith

  -- what the client has applied, less its own edits from number i + 1 on
  pub client_less : (i : ℕ) → in_order w (without applied (drop i (mine l w))) ≡ point l w i c.taken
  unfolding in_order
  client_less i =
      L.select_firsts (is_by l) blank (λ e. holds (names (without applied (drop i (mine l w)))) e.name) w i c.taken
      (λ k h. holds_without applied (drop i (mine l w)) (own l w k).name
      ∙ ap (λ b. b && not (holds (names (drop i (mine l w))) (own l w k).name)) (line.applied_own k h) ∙ holds_drop (mine l w) own_inj i k h)
      (λ k h. holds_without applied (drop i (mine l w)) (oth l w k).name
      ∙ ap (λ b. holds (names applied) (oth l w k).name && not b) (is_false (holds (names (drop i (mine l w))) (oth l w k).name) (stranger k h))
      ∙ and_true' (holds (names applied) (oth l w k).name) ∙ line.applied_oth k h)
    where
      stranger : (k : ℕ) → k < n → holds (names (drop i (mine l w))) (oth l w k).name ≡ true → ⊥
      stranger k h t =
          let r = held_at (drop i (mine l w)) (oth l w k).name t in
          let b : r.place < m - i = subst (λ x. r.place < x) (length-drop i (mine l w)) r.below in
          let q : (own l w (i + r.place)).name ≡ (oth l w k).name = ap (λ x. x.name) (sym (get_or-drop i (mine l w) r.place blank)) ∙ r.named_so in
          oth_line l w k h (sym (own_line l w (i + r.place) (omega arith)) ∙ ap (λ x. x.line) q)

  -- the missing edits past the unaccepted ones
  walk_oth : (r j : ℕ) → j + r ≡ n → c.taken ≤ j → (done : List (Made 𝓐)) → ((i : ℕ) → i < m → holds (names done) (own l w i).name ≡ true)
      → ((k : ℕ) → k < n → holds (names done) (oth l w k).name ≡ ltb k j) → replay w done (drop j (others l w)) (doc_at d l w m j) ≡ doc_at d l w m n
  unfolding replay in_order
  walk_oth zero j e a done f g =
      let q : j ≡ n = omega arith in
      ap (λ r. replay w done r (doc_at d l w m j)) (drop_of_length-le (others l w) {i = j} (omega arith)) ∙ ap (doc_at d l w m) q
  walk_oth (suc r) j e a done f g =
      let jn : j < n = omega arith in
      let set : in_order w done ≡ point l w m j =
      L.select_firsts (is_by l) blank (λ x. holds (names done) x.name) w m j (λ k h. f k h ∙ sym (ltb_true k m h)) g in
      let good = between_good d l w served applied c v doc line m j line.v_taken (le_refl m) a (omega arith) in
      let edge = line.grid.oth_edge m j good jn (L.lag_le (is_by l) blank w j) in
      ap (λ r. replay w done r (doc_at d l w m j)) (drop-cons (others l w) j blank jn)
      ∙ ap (λ C. replay w (done ++ (oth l w j ∷ [])) (drop (suc j) (others l w)) (𝓐.apply (form (oth l w j) C) (doc_at d l w m j))) set
      ∙ ap (replay w (done ++ (oth l w j ∷ [])) (drop (suc j) (others l w))) (sym edge.gives)
      ∙ walk_oth r (suc j) (omega arith) (omega arith) (done ++ (oth l w j ∷ [])) (λ i h. holds_more done (oth l w j) (own l w i).name (f i h))
      (held_next (oth l w) n line.grid.contexts.oth_inj done j jn g)

  -- the unaccepted edits past the missing ones
  walk_own : (r i : ℕ) → i + r ≡ m → v.taken ≤ i → (done : List (Made 𝓐)) → ((k : ℕ) → k < m → holds (names done) (own l w k).name ≡ ltb k i)
      → ((k : ℕ) → k < n → holds (names done) (oth l w k).name ≡ true) → replay w done (drop i (mine l w)) (doc_at d l w i n) ≡ doc_at d l w m n
  unfolding replay in_order
  walk_own zero i e a done f g =
      let q : i ≡ m = omega arith in
      ap (λ r. replay w done r (doc_at d l w i n)) (drop_of_length-le (mine l w) {i = i} (omega arith)) ∙ ap (λ x. doc_at d l w x n) q
  walk_own (suc r) i e a done f g =
      let im : i < m = omega arith in
      let set : in_order w done ≡ point l w i n =
      L.select_firsts (is_by l) blank (λ x. holds (names done) x.name) w i n f (λ k h. g k h ∙ sym (ltb_true k n h)) in
      let good = between_good d l w served applied c v doc line i n a (omega arith) line.c_taken (le_refl n) in
      let edge = line.grid.own_edge i n good im (line.grid.contexts.seen_le i im) in
      ap (λ r. replay w done r (doc_at d l w i n)) (drop-cons (mine l w) i blank im)
      ∙ ap (λ C. replay w (done ++ (own l w i ∷ [])) (drop (suc i) (mine l w)) (𝓐.apply (form (own l w i) C) (doc_at d l w i n))) set
      ∙ ap (replay w (done ++ (own l w i ∷ [])) (drop (suc i) (mine l w))) (sym edge.gives)
      ∙ walk_own r (suc i) (omega arith) (omega arith) (done ++ (own l w i ∷ [])) (held_next (own l w) m own_inj done i im f)
      (λ k h. holds_more done (own l w i) (oth l w k).name (g k h))

module _ {𝓐 : Algebra} (d : 𝓐.Doc) (E : Ends 𝓐) (h : History 𝓐) (inv : Inv d E h) (l : ℕ) where
  abbrev w : List (Made 𝓐)
  w = order h l

  abbrev line : LineAt d l w h.served (h.applied l) (E.clients l) (E.lines l) (E.docs l)
  line = (inv.lines l).line

  -- what the server has taken, by the line's numbers
  pub served_oth : (k : ℕ) → k < length (others l w) → holds (names h.served) (oth l w k).name ≡ true
  served_oth k lt =
      let e = others_served l h.served (h.untaken l) (inv.lines l).untaken_own in
      holds_reject (is_by l) h.served (oth l w k).name
      (subst (λ r. k < length r → holds (names (others l h.served)) (get_or r k blank).name ≡ true) (sym e) (holds_in (others l h.served) k) lt)

  served_own : (k : ℕ) → k < length (mine l w) → holds (names h.served) (own l w k).name ≡ ltb k (E.lines l).taken
  served_own k lt = go (ltb k (E.lines l).taken) refl
    where
      go : (b : Bool) → ltb k (E.lines l).taken ≡ b → holds (names h.served) (own l w k).name ≡ ltb k (E.lines l).taken
      go true e =
          let ka : k < length (mine l h.served) = subst (λ n. k < n) (inv.lines l).v_count (ltb_lt k _ e) in
          let same_one : own l w k ≡ get_or (mine l h.served) k blank =
          ap (λ r. get_or r k blank) (mine_served l h.served (h.untaken l) (inv.lines l).untaken_own) ∙ get_or-append (mine l h.served) (h.untaken l) blank k ka in
          ap (λ x. holds (names h.served) x.name) same_one ∙ holds_select (is_by l) h.served _ (holds_in (mine l h.served) k ka) ∙ sym e
      go false e =
          is_false _ (λ t. let y : suc k ≤ (E.lines l).taken = inv.served_bound l (suc k) (ap (holds (names h.served)) (sym (own_name l w line.grid.contexts k lt)) ∙ t) in
          true≢false (sym (ltb_true k _ y) ∙ e)) ∙ sym e

  -- what the server has taken, less the others from number j + 1 on
  pub server_less : (j : ℕ) → in_order w (without h.served (drop j (others l w))) ≡ point l w (E.lines l).taken j
  unfolding in_order
  server_less j =
      L.select_firsts (is_by l) blank (λ e. holds (names (without h.served (drop j (others l w)))) e.name) w (E.lines l).taken j
      (λ k lt. holds_without h.served (drop j (others l w)) (own l w k).name
      ∙ ap (λ b. holds (names h.served) (own l w k).name && not b) (is_false (holds (names (drop j (others l w))) (own l w k).name) (stranger k lt))
      ∙ and_true' (holds (names h.served) (own l w k).name) ∙ served_own k lt)
      (λ k lt. holds_without h.served (drop j (others l w)) (oth l w k).name
      ∙ ap (λ b. b && not (holds (names (drop j (others l w))) (oth l w k).name)) (served_oth k lt) ∙ holds_drop (others l w) line.grid.contexts.oth_inj j k lt)
    where
      stranger : (k : ℕ) → k < length (mine l w) → holds (names (drop j (others l w))) (own l w k).name ≡ true → ⊥
      stranger k lt t =
          let r = held_at (drop j (others l w)) (own l w k).name t in
          let b : r.place < length (others l w) - j = subst (λ x. r.place < x) (length-drop j (others l w)) r.below in
          let q : (oth l w (j + r.place)).name ≡ (own l w k).name = ap (λ x. x.name) (sym (get_or-drop j (others l w) r.place blank)) ∙ r.named_so in
          oth_line l w (j + r.place) (omega arith) (sym (ap (λ x. x.line) q ∙ own_line l w k lt))

  pub down_way : replay w (h.applied l) (missing h l) (E.docs l) ≡ doc_at d l w (length (mine l w)) (length (others l w))
  down_way =
      ap (λ r. replay w (h.applied l) r (E.docs l)) (missing_is d E h inv l
      ∙ ap (drop (E.clients l).taken) (sym (others_served l h.served (h.untaken l) (inv.lines l).untaken_own)))
      ∙ ap (replay w (h.applied l) (drop (E.clients l).taken (others l w))) line.c_doc
      ∙ walk_oth d l w h.served (h.applied l) (E.clients l) (E.lines l) (E.docs l) line (length (others l w) - (E.clients l).taken) (E.clients l).taken
      (omega (arith, line.c_taken)) (le_refl _) (h.applied l) line.applied_own line.applied_oth

  pub server_doc : E.doc ≡ doc_at d l w (E.lines l).taken (length (others l w))
  server_doc = inv.doc_is ∙ ap (list_at d) (sym line.served_at)

  pub untaken_is : h.untaken l ≡ drop (E.lines l).taken (mine l w)
  untaken_is =
      sym (ap (drop (E.lines l).taken) (mine_served l h.served (h.untaken l) (inv.lines l).untaken_own)
      ∙ ap (λ n. drop n (mine l h.served ++ h.untaken l)) (inv.lines l).v_count ∙ drop-append_seam (mine l h.served) (h.untaken l))

  pub up_way : replay w h.served (h.untaken l) E.doc ≡ doc_at d l w (length (mine l w)) (length (others l w))
  up_way =
      ap (λ r. replay w h.served r E.doc) untaken_is ∙ ap (replay w h.served (drop (E.lines l).taken (mine l w))) server_doc
      ∙ walk_own d l w h.served (h.applied l) (E.clients l) (E.lines l) (E.docs l) line (length (mine l w) - (E.lines l).taken) (E.lines l).taken
      (omega (arith, line.v_taken)) (le_refl _) h.served served_own served_oth

  -- 01's Meeting
  pub meet : replay w (h.applied l) (missing h l) (E.docs l) ≡ replay w h.served (h.untaken l) E.doc
  meet = down_way ∙ sym up_way

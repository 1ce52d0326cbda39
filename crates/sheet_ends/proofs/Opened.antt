-- Opening the clients one after the other, and what stands there then.
use Prim.Native.Nat.{ℕ, zero, suc, ◌+◌, ◌-◌, ◌<◌, ◌≤◌}
use mathlib.Core.Path.{◌≡◌, refl, sym, ap, ap₂, ◌∙◌}
use mathlib.Core.Bool.{Bool, true, false, ◌&&◌, cond}
use mathlib.Core.List.{List, ◌∷◌, ◌++◌, map}
use native.Mathlib.Nat.{add-zero, zero-add, add-suc, suc-add}
use native.Mathlib.Omega.{arith}
use borrow.Author.Tests.{lt-leb, eqb-true, eqb-false, ne_eqb}
use lib.Dec.{leb, eqb}
use lib.ListN.{length, get_or, set, replicate, length-map, length-set}
use lib.Seq.{ext_get_or, get_or-set_same, get_or-set_other}
use Rattle.std.specs.Prelude.{Result, Ok, Err, ⊤, IsErrAnd}
use Rattle.refusal.specs.declared.Refusal.{Refusal}
use Rattle.refusal.specs.Number.{number}
use Rattle.refusal.proofs.Some.{number_some, passed_on}
use Rattle.limits.specs.Limits.{max_lines}
use Rattle.list.specs.Items.{padded}
use Rattle.model.specs.Limits.{max_initial}
use Rattle.model.specs.Questions.{between, answer, Answer}
use Rattle.model.specs.Ranks.{line_ranks}
use Rattle.model.specs.Client.{no_client, open_client}
use Rattle.line.specs.Taking.{done_of}
use Rattle.client.specs.declared.Client.{Client}
use Rattle.client.specs.View.{store}
use Rattle.client.specs.Answers.{opened}
use Rattle.server.specs.declared.Server.{Server}
use Rattle.server.specs.Answers as servers
use Rattle.sheet_ends.specs.declared.Ends.{Ends}
use Rattle.sheet_ends.specs.Bench.{open_clients}
use Rattle.sheet_ends.specs.Ends.{opening}
use Rattle.sheet_ends.specs.Orders as orders
use Rattle.sheet_ends.proofs.Calls.{end_stored, open_keeps}

module _ (n : ℕ) (ranks items : List ℕ) where
  -- the client of line l
  abbrev at : ℕ → Client
  at l = store (open_client n l ranks items).end

  opens_as : (l : ℕ) → (opened n l ranks items).end ≡ at l
  opens_as l = end_stored store no_client (open_client n l ranks items) (open_keeps n l ranks items)

  -- what an opening leaves, whatever it answers
  pub opened_end : (l : ℕ) (q : Result ⊤ Refusal) (c : Client) → done_of q c ≡ opened n l ranks items → c ≡ at l
  opened_end l (Ok x) c p = ap (λ (a : Answer Client). a.end) p ∙ opens_as l
  opened_end l (Err r) c p = ap (λ (a : Answer Client). a.end) p ∙ opens_as l

  -- ---- the loop: the clients of the first j lines are open

  pub record Opening (cs : List Client) (j : ℕ) : Type 0 where
    pub to : j ≤ max_lines
    pub count : length cs ≡ max_lines
    pub begun : (i : ℕ) → i < j → get_or cs i (at 0) ≡ at (suc i)

  pub opening_start : (cs : List Client) → length cs ≡ max_lines → Opening cs 0
  opening_start cs eight = record { to = omega arith; count = eight; begun = λ i h. absurd (omega arith) }

  pub opening_turn : (cs : List Client) (j : ℕ) → j < max_lines → Opening cs j → (q : Result ⊤ Refusal) (c : Client)
      → done_of q c ≡ opened n (j + 1) ranks items → Opening (set cs j c) (j + 1)
  opening_turn cs j small g q c p =
      record { to = omega arith; count = length-set cs j c ∙ g.count; begun = λ i h. go i h (eqb i j) refl }
    where
      inside : j < length cs
      inside = omega (arith, g.count)

      go : (i : ℕ) → i < j + 1 → (t : Bool) → eqb i j ≡ t → get_or (set cs j c) i (at 0) ≡ at (suc i)
      go i h true e =
          let same = eqb-true i j e in
          let next : j + 1 ≡ suc i = omega arith in
          ap (λ (k : ℕ). get_or (set cs j c) k (at 0)) same ∙ get_or-set_same cs j c (at 0) inside ∙ opened_end (j + 1) q c p ∙ ap at next
      go i h false e =
          let apart = eqb-false i j e in
          get_or-set_other cs j i c (at 0) apart ∙ g.begun i (omega arith)

  -- ---- its end

  opening_length : (l k : ℕ) → length (opening n ranks items l k) ≡ k
  opening_length l zero = refl
  opening_length l (suc k) = ap suc (opening_length (suc l) k)

  opening_at : (k l i : ℕ) (d : Client) → i < k → get_or (opening n ranks items l k) i d ≡ at (l + i)
  opening_at zero l i d h = absurd (omega arith)
  opening_at (suc k) l zero d h = ap at (sym (add-zero l))
  opening_at (suc k) l (suc i) d h = opening_at k (suc l) i d (omega arith) ∙ ap at (suc-add l i ∙ sym (add-suc l i))

  pub opening_end : (cs : List Client) (j : ℕ) → max_lines ≤ j → Opening cs j → cs ≡ opening n ranks items 1 max_lines
  opening_end cs j h g =
      ext_get_or (at 0) cs (opening n ranks items 1 max_lines) (g.count ∙ sym (opening_length 1 max_lines)) (λ (i : ℕ) small.
      let one : suc i ≡ 1 + i = omega arith in
      let few : i < max_lines = omega (arith, g.count) in
      g.begun i (omega arith) ∙ ap at one ∙ sym (opening_at max_lines 1 i (at 0) few))

  -- ---- a line past n stays zero

  and_none : (a : Bool) → (a && false) ≡ false
  and_none true = refl
  and_none false = refl

  no_second : (a b c : Bool) → b ≡ false → (a && (b && c)) ≡ false
  no_second true b c e = rw e
  no_second false b c e = refl

  past_n : (l : ℕ) → n < l → (open_client n l ranks items).end ≡ no_client
  unfolding open_client answer
  past_n l h =
      rw (no_second (between 1 max_lines n) (between 1 n l) (leb (length items) max_initial && true) (rw (lt-leb l n h) (and_none (leb 1 l))))

  opening_past : (l j : ℕ) → n < l → opening n ranks items l j ≡ replicate j (store no_client)
  opening_past l zero h = refl
  opening_past l (suc j) h = ap₂ (λ (x : Client) (r : List Client). x ∷ r) (ap store (past_n l h)) (opening_past (suc l) j (omega arith))

-- ---- with line numbers as ranks, these are the clients of the bench

module _ (n : ℕ) (items : List ℕ) where
  abbrev opens : ℕ → ℕ → List Client
  opens = opening n (line_ranks n) items

  opening_from : (k l j : ℕ) → k ≤ n → l ≡ suc (n - k) → opens l (k + j) ≡ map store (open_clients n items k) ++ replicate j (store no_client)
  opening_from zero l j h e = ap (opens l) (zero-add j) ∙ opening_past n (line_ranks n) items l j (omega arith)
  opening_from (suc k) l j h e =
      let s : l ≡ n - k = omega arith in
      let r = opening_from k (suc l) j (omega arith) (omega arith) in
      ap (opens l) (suc-add k j) ∙ ap₂ (λ (x : Client) (r : List Client). x ∷ r) (ap (at n (line_ranks n) items) s) r

  clients_length : (k : ℕ) → length (open_clients n items k) ≡ k
  clients_length zero = refl
  clients_length (suc k) = ap suc (clients_length k)

  pub opening_all : n ≤ max_lines → opens 1 max_lines ≡ padded (store no_client) max_lines (map store (open_clients n items n))
  opening_all high =
      let e : max_lines ≡ n + (max_lines - n) = omega arith in
      ap (opens 1) e ∙ opening_from n 1 (max_lines - n) (omega arith) (omega arith)
      ∙ ap (λ (k : ℕ). map store (open_clients n items n) ++ replicate (max_lines - k) (store no_client)) (sym (length-map (open_clients n items n) store ∙ clients_length n))

-- ---- the server first, and then the clients

module _ (e : Ends) (n : ℕ) (ranks items : List ℕ) (s : Server) where
  by : (a : Answer Server) → a ≡ servers.opened n ranks items → (t : Bool) → eqb a.refusal 0 ≡ t
      → orders.on_server (record { server = e.server; clients = cond t (opening n ranks items 1 max_lines) e.clients }) a ≡ orders.opened e n ranks items
  by a p t q =
      ap (λ (x : Bool). orders.on_server (record { server = e.server; clients = cond x (opening n ranks items 1 max_lines) e.clients }) a) (sym q)
      ∙ ap (λ (b : Answer Server). orders.on_server (record { server = e.server; clients = cond (eqb b.refusal 0) (opening n ranks items 1 max_lines) e.clients }) b) p

  pub not_opened : (r : Refusal) → done_of (Err r) s ≡ servers.opened n ranks items → (q : Result ⊤ Refusal) → IsErrAnd q (λ y. y ≡ r)
      → orders.done_of q (record { server = s; clients = e.clients }) ≡ orders.opened e n ranks items
  not_opened r p q h =
      ap (λ (x : Result ⊤ Refusal). orders.done_of x (record { server = s; clients = e.clients })) (passed_on q r h)
      ∙ by (done_of (Err r) s) p false (ne_eqb (number r) 0 (number_some r))

  pub all_opened : (x : ⊤) → done_of (Ok x) s ≡ servers.opened n ranks items → (e' : Ends) → e' ≡ record { server = s; clients = opening n ranks items 1 max_lines }
      → ◌≡◌ {A = orders.Done} (record { refusal = 0; ends = e' }) (orders.opened e n ranks items)
  all_opened x p e' q = ap (λ (x : Ends). record { refusal = 0; ends = x }) q ∙ by (done_of (Ok x) s) p true refl

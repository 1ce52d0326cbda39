-- Showing the lists of the clients, one after the other, and of the server.
use Prim.Native.Nat.{ℕ, suc, ◌+◌, ◌≤◌, ◌<◌}
use mathlib.Core.Path.{◌≡◌, sym, ap, ap₂, ◌∙◌, subst}
use mathlib.Core.Bool.{true}
use mathlib.Core.List.{List, ◌++◌, map}
use native.Mathlib.Omega.{arith}
use lib.ListN.{length, get_or, take, drop, length-map, drop_of_length-le, get_or-map}
use lib.Seq.{take-take, length-take-le, drop-cons}
use Rattle.std.proofs.lemmas.List.{get_or_default}
use Rattle.limits.specs.Limits.{max_lines, max_items}
use Rattle.list.specs.Places.{items_of, places_of}
use Rattle.list.specs.Parts.{part}
use Rattle.list.proofs.Places.{places_items}
use Rattle.list.proofs.Parts.{part_length}
use Rattle.model.specs.Questions.{every}
use Rattle.model.specs.Client as models
use Rattle.model.proofs.SoundClient.{client_facts}
use Rattle.client.specs.declared.Client.{Client}
use Rattle.client.specs.View.{size, origins, view, store}
use Rattle.client.proofs.Stored.{words_long}
use Rattle.server.specs.View as server
use Rattle.sheet_print.specs.Sink.{Sink, puts}
use Rattle.sheet_print.specs.Lines.{server_list, client_list}
use Rattle.sheet_print.proofs.Sinks.{puts_append, then}
use Rattle.sheet_ends.specs.declared.Ends.{Ends}
use Rattle.sheet_ends.specs.Ends.{view_ends, Whole}
use Rattle.sheet_ends.proofs.Benches.{every_at}
use Rattle.sheet_ends.proofs.Wholes.{lines_few, server_long, server_short, clients_taken}
use Rattle.sheet_run.specs.Shown.{Shown}
use Rattle.sheet_run.specs.Output.{client_lists, lists}

-- ---- the items of a list whose items are the first words of its end, and whose origins begin at word a

list_shown : (len a : ℕ) (words : List ℕ) → len ≤ max_items → max_items ≤ length words → a + max_items ≤ length words
    → take len words ≡ items_of (places_of (take len (part 0 max_items words)) (take len (part a max_items words)))
list_shown len a words few whole fits =
    let items = part 0 max_items words in
    let names = part a max_items words in
    let i : length items ≡ max_items = part_length 0 max_items words (omega arith) in
    let o : length names ≡ max_items = part_length a max_items words fits in
    sym (take-take len max_items words few)
    ∙ sym (places_items (take len items) (take len names) (length-take-le len items (omega arith) ∙ sym (length-take-le len names (omega arith))))

-- ---- the clients, one after the other

module _ (cs : List Client) where
  -- the lists of those from place i on
  abbrev pub lists_from : ℕ → List ℕ
  lists_from i = client_lists (suc i) (map view (drop i cs))

  pub lists_none : (i : ℕ) (z : Sink) → length cs ≤ i → puts (lists_from i) z ≡ z
  unfolding client_lists puts
  lists_none i z h = ap (λ (l : List Client). puts (client_lists (suc i) (map view l)) z) (drop_of_length-le cs h)

  -- one list more
  module _ (g : Shown cs) (i : ℕ) (d : Client) (small : i < length cs) where
    abbrev c : Client
    c = get_or cs i d

    shown : take c.counts.len c.words ≡ items_of (view c).items
    shown =
        let long = g.long i d small in
        list_shown c.counts.len origins c.words (g.within i d small) (omega arith) (omega arith)

    pub lists_next : (z z' y : Sink) → z' ≡ puts (client_list (i + 1) (take c.counts.len c.words)) z → puts (lists_from i) z ≡ y → puts (lists_from (i + 1)) z' ≡ y
    unfolding client_lists
    lists_next z z' y p h =
        let next : i + 1 ≡ suc i = omega arith in
        ap (puts (lists_from (i + 1))) p
        ∙ ap₂ (λ (j : ℕ) (l : List ℕ). puts (client_lists (suc j) (map view (drop j cs))) (puts (client_list j l) z)) next shown
        ∙ sym (puts_append (client_list (suc i) (items_of (view c).items)) (lists_from (suc i)) z)
        ∙ ap (λ (l : List Client). puts (client_lists (suc i) (map view l)) z) (sym (drop-cons cs i d small)) ∙ h

-- ---- all ends

stored_shown : (ms : List models.Client) → every (map models.sound_client ms) ≡ true → length ms ≤ max_lines → Shown (map store ms)
stored_shown ms s few =
    record {
      few = let l = length-map ms store in omega arith;
      long = λ i d small. subst (λ (c : Client). length c.words ≡ size) (sym (at i d small)) (words_long (get_or ms i models.no_client) (sound i small));
      within =
          λ i d small.
          subst (λ (c : Client). c.counts.len ≤ max_items) (sym (at i d small)) (client_facts (get_or ms i models.no_client) (sound i small)).items;
    }
  where
    at : (i : ℕ) (d : Client) → i < length (map store ms) → get_or (map store ms) i d ≡ store (get_or ms i models.no_client)
    at i d small = get_or_default (map store ms) i d (store models.no_client) small ∙ get_or-map store ms i models.no_client

    sound : (i : ℕ) → i < length (map store ms) → models.sound_client (get_or ms i models.no_client) ≡ true
    sound i small = let l = length-map ms store in every_at ms i s (omega arith)

module _ (e : Ends) (g : Whole e) where
  pub clients_shown : Shown (take e.server.counts.n e.clients)
  unfolding server.view
  clients_shown =
      let count = g.sound.count in
      subst Shown (sym (clients_taken e g)) (stored_shown (view_ends e).clients g.sound.clients (omega (arith, lines_few e g)))

  -- the server's list, and then those of the clients
  pub all_shown : (a b c : Sink) → b ≡ puts (server_list (take e.server.counts.len e.server.words)) a
      → c ≡ puts (client_lists 1 (map view (take e.server.counts.n e.clients))) b → c ≡ puts (lists (view_ends e)) a
  unfolding server.view
  all_shown a b c p q =
      then (server_list (take e.server.counts.len e.server.words)) (client_lists 1 (map view (take e.server.counts.n e.clients))) a p q
      ∙ ap (λ (l : List ℕ). puts (server_list l ++ client_lists 1 (map view (take e.server.counts.n e.clients))) a)
      (list_shown e.server.counts.len server.origins e.server.words (server_short e g) (omega (arith, server_long e g)) (omega (arith, server_long e g)))

-- A sheet made of a client and a server follows another one if the client follows the client and the server the server.
use mathlib.Core.Path.{◌≡◌, refl}
use mathlib.Core.Bool.{false}
use mathlib.Core.List.{List}
use Prim.Native.Nat.{ℕ}
use lib.ListN.{length}
use Rattle.model.specs.Limits.{max_packet}
use Rattle.model.specs.Questions.{between, no_report}
use Rattle.model.specs.Claim.{Back}
use Rattle.model.specs.SheetOf.{ClientCalls, ServerCalls, End, client, server, answer_as, sheet_of}
use Rattle.model.proofs.Alone.{ClientAlone, ServerAlone, both_alone}
use Rattle.convergence.proofs.Carry.{Alike, EndFollows, Follows}

-- A client on line l, by the calls that the server has too: it opens on that line.
abbrev pub on_line : ℕ → ClientCalls → ServerCalls
on_line l c =
    record {
      Server = c.Client;
      items = c.items;
      total = c.total;
      made = λ e k. c.made e;
      taken = λ e k. c.taken e;
      opens = λ n. c.opens n l;
      send = c.send;
      tell = c.tell;
      take = c.take;
      pack = c.pack;
      take_packet = c.take_packet;
    }

-- what a client leaves alone by these calls, and with them by those that it alone has
pub line_alone : (l : ℕ) (c : ClientCalls) → ClientAlone c → ServerAlone (on_line l c)
line_alone l c a = record { takes = a.takes; packets = a.packets; no_packets = a.no_packets; packs = a.packs; sends = a.sends; tells = a.tells }

pub edits_alone : (l : ℕ) (c : ClientCalls) → ServerAlone (on_line l c) → ((e : c.Client) (p x : ℕ) → Back e (c.insert e p x)) → ((e : c.Client) (p : ℕ) → Back e (c.delete e p))
    → ((e : c.Client) → Back e (c.take_back e)) → ClientAlone c
edits_alone l c a i d t =
    record { inserts = i; deletes = d; takes_back = t; takes = a.takes; packets = a.packets; no_packets = a.no_packets; packs = a.packs; sends = a.sends; tells = a.tells }

pub record ClientFollows (c d : ClientCalls) (R : c.Client → d.Client → Type 0) : Type 0 where
  pub end : (l : ℕ) → EndFollows (on_line l c) (on_line l d) R
  pub inserts : (a : c.Client) (b : d.Client) → R a b → (p x : ℕ) → Alike R (c.insert a p x) (d.insert b p x)
  pub deletes : (a : c.Client) (b : d.Client) → R a b → (p : ℕ) → Alike R (c.delete a p) (d.delete b p)
  pub takes_back : (a : c.Client) (b : d.Client) → R a b → Alike R (c.take_back a) (d.take_back b)
  pub alone : ClientAlone c

module _ (c d : ClientCalls) (v w : ServerCalls) (P : c.Client → d.Client → Type 0) (Q : v.Server → w.Server → Type 0) where
  abbrev Here : Type 0
  Here = End c.Client v.Server

  abbrev There : Type 0
  There = End d.Client w.Server

  abbrev pub Both : Here → There → Type 0
  Both (client a) (client b) = P a b
  Both (client a) (server b) = ⊥
  Both (server a) (client b) = ⊥
  Both (server a) (server b) = Q a b

  -- what holds of two clients and of two servers holds of two ends that stand for each other
  either : (G : (a : Here) (b : There) → Both a b → Type 0) → ((a : c.Client) (b : d.Client) (r : P a b) → G (client a) (client b) r)
      → ((a : v.Server) (b : w.Server) (r : Q a b) → G (server a) (server b) r) → (a : Here) (b : There) (r : Both a b) → G a b r
  either G f g (client a) (client b) r = f a b r
  either G f g (client a) (server b) r = absurd r
  either G f g (server a) (client b) r = absurd r
  either G f g (server a) (server b) r = g a b r

  pub follows : ClientFollows c d P → EndFollows v w Q → ServerAlone v → Follows (sheet_of c v) (sheet_of d w) Both
  follows f g still =
      record {
        end =
            record {
              items = either (λ a b r. (sheet_of c v).items a ≡ (sheet_of d w).items b) (f.end 0).items g.items;
              total = either (λ a b r. (sheet_of c v).total a ≡ (sheet_of d w).total b) (f.end 0).total g.total;
              made = either (λ a b r. (l : ℕ) → (sheet_of c v).made a l ≡ (sheet_of d w).made b l) (f.end 0).made g.made;
              taken = either (λ a b r. (l : ℕ) → (sheet_of c v).taken a l ≡ (sheet_of d w).taken b l) (f.end 0).taken g.taken;
              opens_refusal = g.opens_refusal;
              opens = g.opens;
              takes = either (λ a b r. (bytes : List ℕ) → Alike Both ((sheet_of c v).take a bytes) ((sheet_of d w).take b bytes)) (λ a b r bytes. as_client _ _ ((f.end 0).takes a b r bytes)) (λ a b r bytes. as_server _ _ (g.takes a b r bytes));
              packets = either (λ a b r. (bytes : List ℕ) → between 1 max_packet (length bytes) ≡ false → ((sheet_of c v).take_packet a bytes).refusal ≡ ((sheet_of d w).take_packet b bytes).refusal) (f.end 0).packets g.packets;
              packs = either (λ a b r. (l : ℕ) (lent : List ℕ) (offset : ℕ) → (sheet_of c v).pack a l lent offset ≡ (sheet_of d w).pack b l lent offset) (f.end 0).packs g.packs;
              sends = either (λ a b r. (l number : ℕ) (lent : List ℕ) → (sheet_of c v).send a l number lent ≡ (sheet_of d w).send b l number lent) (f.end 0).sends g.sends;
              tells = either (λ a b r. (l : ℕ) (lent : List ℕ) → (sheet_of c v).tell a l lent ≡ (sheet_of d w).tell b l lent) (f.end 0).tells g.tells;
            };
        client_refusal = λ n l. (f.end l).opens_refusal n;
        client_opens = λ n l. (f.end l).opens n;
        inserts = either (λ a b r. (p x : ℕ) → Alike Both ((sheet_of c v).insert a p x) ((sheet_of d w).insert b p x)) (λ a b r p x. as_client _ _ (f.inserts a b r p x)) (λ a b r p x. unmade a b r);
        deletes = either (λ a b r. (p : ℕ) → Alike Both ((sheet_of c v).delete a p) ((sheet_of d w).delete b p)) (λ a b r p. as_client _ _ (f.deletes a b r p)) (λ a b r p. unmade a b r);
        takes_back = either (λ a b r. Alike Both ((sheet_of c v).take_back a) ((sheet_of d w).take_back b)) (λ a b r. as_client _ _ (f.takes_back a b r)) unmade;
        alone = both_alone c v f.alone still;
      }
    where
      as_client : (x : _) (y : _) → Alike P x y → Alike Both (answer_as client x) (answer_as client y)
      as_client x y k = record { refusal = k.refusal; report = k.report; ends = k.ends }

      as_server : (x : _) (y : _) → Alike Q x y → Alike Both (answer_as server x) (answer_as server y)
      as_server x y k = record { refusal = k.refusal; report = k.report; ends = k.ends }

      unmade : (a : v.Server) (b : w.Server) → Q a b → Alike Both (record { refusal = 2; end = server a; report = no_report }) (record { refusal = 2; end = server b; report = no_report })
      unmade a b r = record { refusal = refl; report = refl; ends = r }

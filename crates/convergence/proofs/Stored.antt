-- An end in a struct, whichever of the two ends: what the struct stands for, the one struct of each sound end, and what the methods
-- answer. A call at a struct then answers what the model's call answers at the end that it stands for.
use mathlib.Core.Path.{◌≡◌, refl, ap, sym, ◌∙◌, subst}
use mathlib.Core.Bool.{Bool, true, false, cond}
use mathlib.Core.List.{List}
use Prim.Native.Nat.{ℕ, ◌<◌}
use native.Mathlib.Omega.{arith}
use lib.Dec.{eqb}
use lib.ListN.{length}
use borrow.Author.Tests.{eqb-false, eq-eqb, ne_eqb}
use Rattle.model.specs.Limits.{max_packet}
use Rattle.model.specs.Questions.{between, no_report, Answer, Sent}
use Rattle.model.specs.Packets.{handed_over, unpacked}
use Rattle.model.specs.SheetOf.{ServerCalls}
use Rattle.model.specs.Claim.{Back, Unwritten, PastStays, StretchAlone}
use Rattle.model.proofs.Packets.{unpacked_sound, packet_law, packet_none}
use Rattle.model.proofs.Alone.{ServerAlone}
use Rattle.convergence.proofs.Carry.{Alike, EndFollows}
use Rattle.convergence.proofs.Small.{Small, Little}

-- the model's answer in structs: on a refusal the end is the one that came
abbrev pub given : {E M : Type 0} → (M → E) → E → Answer M → Answer E
given store e a = record { refusal = a.refusal; end = cond (eqb a.refusal 0) (store a.end) e; report = a.report }

-- question 2 said no
abbrev pub unsound : {E : Type 0} → E → Answer E
unsound e = record { refusal = 2; end = e; report = no_report }

abbrev pub unsent : List ℕ → Sent
unsent lent = record { refusal = 2; written = 0; buffer = lent }

-- one of the two ends, in structs E and in the model M
pub record Stored (E M : Type 0) : Type 0 where
  pub view : E → M
  pub store : M → E
  -- question 2 of the struct, and of the model's end
  pub sound : E → Bool
  pub sound_end : M → Bool
  -- what a refused opening leaves
  pub nothing : E
  pub view_store : (m : M) → sound_end m ≡ true → view (store m) ≡ m
  pub store_sound : (m : M) → sound_end m ≡ true → sound (store m) ≡ true
  pub sound_view : (e : E) → sound e ≡ true → sound_end (view e) ≡ true

-- what a sending leaves alone
abbrev pub Alone : List ℕ → Sent → Type 0
Alone lent r = Unwritten lent r × PastStays lent r

-- and what a packet that is written does
abbrev pub Stretch : ℕ → List ℕ → Sent → Type 0
Stretch offset lent r = Unwritten lent r × StretchAlone offset lent r

pub unsent_alone : (lent : List ℕ) (r : ℕ) → Alone lent (record { refusal = r; written = 0; buffer = lent })
unsent_alone lent r = (λ n. (refl, refl), refl)

pub unsent_stretch : (offset : ℕ) (lent : List ℕ) (r : ℕ) → Stretch offset lent (record { refusal = r; written = 0; buffer = lent })
unsent_stretch offset lent r = (λ n. (refl, refl), (refl, refl))

module _ {E M : Type 0} (k : Stored E M) where
  -- what a method answers, by the model's answer
  abbrev pub guarded : E → Answer M → Answer E
  guarded e a = cond (k.sound e) (given k.store e a) (unsound e)

  abbrev pub sends : E → Sent → List ℕ → Sent
  sends e a lent = cond (k.sound e) a (unsent lent)

  -- the struct is the one for a sound end of the model
  abbrev pub Stands : E → M → Type 0
  Stands e m = (e ≡ k.store m) × (k.sound_end m ≡ true)

  -- what holds of the answer whether question 2 says yes or no
  pub answer_either : (P : Answer E → Type 0) (e : E) (a : Answer M) → (k.sound e ≡ true → P (given k.store e a)) → P (unsound e) → P (guarded e a)
  answer_either P e a p q = go (k.sound e) refl
    where
      go : (b : Bool) → k.sound e ≡ b → P (cond b (given k.store e a) (unsound e))
      go true s = p s
      go false s = q

  pub sending_either : (P : Sent → Type 0) (e : E) (a : Sent) (lent : List ℕ) → P a → P (unsent lent) → P (sends e a lent)
  sending_either P e a lent p q = go (k.sound e)
    where
      go : (b : Bool) → P (cond b a (unsent lent))
      go true = p
      go false = q

  -- ---- at a struct that stands for m

  stored_end : (m : M) (a : Answer M) → Back m a → (given k.store (k.store m) a).end ≡ k.store a.end
  stored_end m a h = go (eqb a.refusal 0) refl
    where
      go : (b : Bool) → eqb a.refusal 0 ≡ b → cond b (k.store a.end) (k.store m) ≡ k.store a.end
      go true e = refl
      go false e = ap k.store (sym (h (eqb-false a.refusal 0 e)).0)

  at_stored : (m : M) → k.sound_end m ≡ true → (call : M → Answer M) → guarded (k.store m) (call (k.view (k.store m))) ≡ given k.store (k.store m) (call m)
  at_stored m s call =
      let e = k.store m in
      ap (λ (b : Bool). cond b (given k.store e (call (k.view e))) (unsound e)) (k.store_sound m s)
      ∙ ap (λ (v : M). given k.store e (call v)) (k.view_store m s)

  pub alike : (e : E) (m : M) → Stands e m → (call : M → Answer M) → Back m (call m) → k.sound_end (call m).end ≡ true
      → Alike Stands (guarded e (call (k.view e))) (call m)
  alike e m r call h t =
      subst (λ (a : Answer E). Alike Stands a (call m)) (sym (ap (λ (y : E). guarded y (call (k.view y))) r.0 ∙ at_stored m r.1 call))
      (record { refusal = refl; report = refl; ends = (stored_end m (call m) h, t) })

  sending_alike : (e : E) (m : M) → Stands e m → (call : M → Sent) (lent : List ℕ) → sends e (call (k.view e)) lent ≡ call m
  sending_alike e m r call lent =
      ap (λ (y : E). sends y (call (k.view y)) lent) r.0 ∙ ap (λ (b : Bool). cond b (call (k.view (k.store m))) (unsent lent)) (k.store_sound m r.1) ∙ ap call (k.view_store m r.1)

  -- an opening that was not refused
  opened_stands : (a : Answer M) → a.refusal ≡ 0 → k.sound_end a.end ≡ true → Stands (given k.store k.nothing a).end a.end
  opened_stands a z s = (ap (λ (b : Bool). cond b (k.store a.end) k.nothing) (eq-eqb a.refusal 0 z), s)

  -- ---- what the calls leave alone, whatever struct they are handed

  pub answer_back : (e : E) (a : Answer M) → Back (k.view e) a → Back e (guarded e a)
  answer_back e a h =
      answer_either (Back e) e a (λ s n. (ap (λ (b : Bool). cond b (k.store a.end) e) (ne_eqb a.refusal 0 n), (h n).1)) (λ n. (refl, refl))

  -- ---- packets

  -- one message at a struct that is not sound
  unsound_refuses : (call : M → List ℕ → Answer M) (e : E) → k.sound e ≡ false → (b : List ℕ)
      → ((guarded e (call (k.view e) b)).refusal ≡ 2) × ((guarded e (call (k.view e) b)).end ≡ e)
  unsound_refuses call e s b =
      let is = ap (λ (t : Bool). cond t (given k.store e (call (k.view e) b)) (unsound e)) s in
      (ap (λ (a : Answer E). a.refusal) is, ap (λ (a : Answer E). a.end) is)

  -- a packet that is too short or too long
  module _ (taking : E → List ℕ → Answer E) (bytes : List ℕ) (out : between 1 max_packet (length bytes) ≡ false) where
    odd_refused : (e : E) → k.sound e ≡ true → (unpacked k.sound taking e bytes).refusal ≡ 15
    odd_refused e s =
        ap (λ (a : Answer E). a.refusal) (unpacked_sound k.sound taking e bytes s)
        ∙ ap (λ (t : Bool). (cond {A = Answer E} t (handed_over taking (length bytes) 0 e bytes) (record { refusal = 15; end = e; report = no_report })).refusal) out

    pub odd_small : (e : E) → (unpacked k.sound taking e bytes).refusal < 256
    unfolding unpacked
    odd_small e = subst (λ (t : Bool). (told (cond (k.sound e) (cond t 0 15) 2)).refusal < 256) (sym out) (go (k.sound e))
      where
        told : ℕ → Answer E
        told r = cond (eqb r 0) (handed_over taking (length bytes) 0 e bytes) (record { refusal = r; end = e; report = no_report })

        go : (t : Bool) → (told (cond t 15 2)).refusal < 256
        go true = omega arith
        go false = omega arith

  odd_alike : (taking : E → List ℕ → Answer E) (call : M → List ℕ → Answer M) (e : E) (m : M) → Stands e m → (bytes : List ℕ) → between 1 max_packet (length bytes) ≡ false
      → (unpacked k.sound taking e bytes).refusal ≡ (unpacked k.sound_end call m bytes).refusal
  odd_alike taking call e m r bytes out =
      odd_refused taking bytes out e (ap k.sound r.0 ∙ k.store_sound m r.1)
      ∙ sym (ap (λ (a : Answer M). a.refusal) (unpacked_sound k.sound_end call m bytes r.1)
      ∙ ap (λ (t : Bool). (cond {A = Answer M} t (handed_over call (length bytes) 0 m bytes) (record { refusal = 15; end = m; report = no_report })).refusal) out)

-- ---- the calls that both ends have

-- m has the model's calls, and v says what is read off a struct.
module _ (v m : ServerCalls) (k : Stored v.Server m.Server) where
  -- the calls of a struct: question 2, then the model's answer
  abbrev pub stored_calls : ServerCalls
  stored_calls =
      record {
        Server = v.Server;
        opens = λ n ranks xs. given k.store k.nothing (m.opens n ranks xs);
        send = λ e l number lent. sends k e (m.send (k.view e) l number lent) lent;
        tell = λ e l lent. sends k e (m.tell (k.view e) l lent) lent;
        take = λ e bytes. guarded k e (m.take (k.view e) bytes);
        pack = λ e l lent offset. sends k e (m.pack (k.view e) l lent offset) lent;
        take_packet = unpacked k.sound (λ e bytes. guarded k e (m.take (k.view e) bytes));
        items = v.items;
        total = v.total;
        made = v.made;
        taken = v.taken;
      }

  -- What is asked of both: the struct of a sound end is read as that end, the model's calls keep ends sound, and their answers are small.
  pub record Modelled : Type 0 where
    pub items : (e : m.Server) → k.sound_end e ≡ true → v.items (k.store e) ≡ m.items e
    pub total : (e : m.Server) → k.sound_end e ≡ true → v.total (k.store e) ≡ m.total e
    pub made : (e : m.Server) → k.sound_end e ≡ true → (l : ℕ) → v.made (k.store e) l ≡ m.made e l
    pub taken : (e : m.Server) → k.sound_end e ≡ true → (l : ℕ) → v.taken (k.store e) l ≡ m.taken e l
    pub opens_sound : (n : ℕ) (ranks xs : List ℕ) → (m.opens n ranks xs).refusal ≡ 0 → k.sound_end (m.opens n ranks xs).end ≡ true
    pub takes_sound : (e : m.Server) (bytes : List ℕ) → k.sound_end e ≡ true → k.sound_end (m.take e bytes).end ≡ true
    pub packets : (e : m.Server) (bytes : List ℕ) → m.take_packet e bytes ≡ unpacked k.sound_end m.take e bytes
    pub alone : ServerAlone m
    pub opens : (n : ℕ) (ranks xs : List ℕ) → Small (m.opens n ranks xs)
    pub takes : (e : m.Server) (bytes : List ℕ) → Small (m.take e bytes)
    pub packs : (e : m.Server) (l : ℕ) (lent : List ℕ) (offset : ℕ) → Little (m.pack e l lent offset)
    pub sends : (e : m.Server) (l number : ℕ) (lent : List ℕ) → Little (m.send e l number lent)
    pub tells : (e : m.Server) (l : ℕ) (lent : List ℕ) → Little (m.tell e l lent)

  module _ (f : Modelled) where
    pub stored_alone : ServerAlone stored_calls
    stored_alone =
        record {
          takes = λ e bytes. answer_back k e (m.take (k.view e) bytes) (f.alone.takes (k.view e) bytes);
          packets = packet_law k.sound stored_calls.take (unsound_refuses k m.take);
          no_packets = packet_none k.sound stored_calls.take (unsound_refuses k m.take);
          packs = λ e l lent offset. sending_either k (Stretch offset lent) e (m.pack (k.view e) l lent offset) lent (f.alone.packs (k.view e) l lent offset) (unsent_stretch offset lent 2);
          sends = λ e l number lent. sending_either k (Alone lent) e (m.send (k.view e) l number lent) lent (f.alone.sends (k.view e) l number lent) (unsent_alone lent 2);
          tells = λ e l lent. sending_either k (Alone lent) e (m.tell (k.view e) l lent) lent (f.alone.tells (k.view e) l lent) (unsent_alone lent 2);
        }

    -- the struct follows the model
    pub stored_follows : EndFollows stored_calls m (Stands k)
    stored_follows =
        record {
          items = λ e d r. ap v.items r.0 ∙ f.items d r.1;
          total = λ e d r. ap v.total r.0 ∙ f.total d r.1;
          made = λ e d r l. ap (λ (x : v.Server). v.made x l) r.0 ∙ f.made d r.1 l;
          taken = λ e d r l. ap (λ (x : v.Server). v.taken x l) r.0 ∙ f.taken d r.1 l;
          opens_refusal = λ n ranks xs. refl;
          opens = λ n ranks xs z. opened_stands k (m.opens n ranks xs) z (f.opens_sound n ranks xs z);
          takes = λ e d r bytes. alike k e d r (λ x. m.take x bytes) (f.alone.takes d bytes) (f.takes_sound d bytes r.1);
          packets = λ e d r bytes out.
              odd_alike k stored_calls.take m.take e d r bytes out ∙ ap (λ (a : Answer m.Server). a.refusal) (sym (f.packets d bytes));
          packs = λ e d r l lent offset. sending_alike k e d r (λ x. m.pack x l lent offset) lent;
          sends = λ e d r l number lent. sending_alike k e d r (λ x. m.send x l number lent) lent;
          tells = λ e d r l lent. sending_alike k e d r (λ x. m.tell x l lent) lent;
        }

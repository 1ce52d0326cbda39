-- A packet at a client: one message by the code's answer, the loop over all, and what questions 2 and 15 refuse.
use Prim.Native.Nat.{ℕ, ◌+◌, ◌-◌, ◌≤◌, ◌<◌}
use mathlib.Core.Path.{◌≡◌, refl, ap, sym, ◌∙◌, subst}
use mathlib.Core.Bool.{Bool, true, false, cond}
use mathlib.Core.List.{List}
use lib.Dec.{eqb}
use lib.ListN.{length, take, drop}
use Rattle.std.specs.Prelude.{Result, Ok, Err, IsErrAnd}
use Rattle.std.proofs.lemmas.Result.{err_from_is_err_and}
use Rattle.refusal.specs.declared.Refusal.{Refusal}
use Rattle.refusal.specs.declared.Refusal.TheVariants as refusal
use Rattle.refusal.specs.Number.{number}
use Rattle.refusal.proofs.Some.{number_some}
use Rattle.limits.specs.Limits.{max_packet}
use Rattle.model.specs.Questions as model
use Rattle.model.specs.Client as client
use Rattle.model.specs.Client.{take_client}
use Rattle.model.specs.Packets.{counted}
use Rattle.model.proofs.Sound.{client_takes_lem}
use Rattle.line.specs.declared.taking.Report.{Report}
use Rattle.line.specs.declared.taking.Stopped.{Stopped}
use Rattle.line.specs.Taking.{answer_of, packet_of}
use Rattle.wire_packet.specs.Packet.{message_start, message_end}
use Rattle.wire_packet.proofs.Handing.{Handing, handing_end, handing_stop, handing_turn, packet_unsound, packet_length, packet_taken_lem, message_unsound, message_length, message_taken_lem}
use Rattle.client.specs.declared.Client.{Client}
use Rattle.client.specs.View.{view, store, sound, Sound, SaysUnsound}
use Rattle.client.specs.Answers.{refused_with, guarded, taken}
use Rattle.client.specs.Packets.{messages_taken, packet_taken, taken_at}
use Rattle.client.proofs.Stored.{store_sound}

-- a sound client that takes any bytes is sound again
sound_after : (c : Client) → Sound c → (bytes : List ℕ) → Sound (taken c bytes).end
unfolding guarded
sound_after c s bytes = go (sound c) (eqb a.refusal 0)
  where
    a : model.Answer client.Client
    a = take_client (view c) bytes

    if : Bool → model.Answer Client
    if done = record { refusal = a.refusal; end = cond done (store a.end) c; report = a.report }

    go : (asked done : Bool) → Sound (cond asked (if done) (refused_with 2 c)).end
    go true true = store_sound a.end (client_takes_lem (view c) bytes s.model)
    go true false = s
    go false done = s

-- ---- the loop

pub sound_taken : {c : Client} → Sound c → (bytes : List ℕ) (r : Result Report Refusal) (after : Client) → answer_of r after ≡ taken c bytes → Sound after
sound_taken {c} s bytes r after e = subst Sound (end_is r) (subst (λ (a : model.Answer Client). Sound a.end) (sym e) (sound_after c s bytes))
  where
    end_is : (q : Result Report Refusal) → (answer_of q after).end ≡ after
    end_is (Ok k) = refl
    end_is (Err k) = refl

module _ (start : Client) (bytes : List ℕ) {at count : ℕ} {c : Client} (h : Handing taken bytes start at count c) where
  pub all_end : length bytes ≤ at → packet_of (Ok count) c ≡ messages_taken start bytes
  all_end g = handing_end taken bytes start h g

  -- the message that begins here is lent and taken
  module _ (more : at < length bytes) (to : ℕ) (et : to ≡ message_end bytes at) (after : Client) where
    pub all_stop : (r : Refusal) → answer_of (Err r) after ≡ taken c (take (to - at) (drop at bytes))
        → packet_of (Err (record { refusal = r; taken = count })) after ≡ messages_taken start bytes
    all_stop r ea = handing_stop taken bytes start h more to et (answer_of (Err r) after) ea (number_some r)

    pub all_turn : (k : Report) → answer_of (Ok k) after ≡ taken c (take (to - at) (drop at bytes)) → Handing taken bytes start to (count + 1) after
    all_turn k ea = handing_turn taken bytes start h more to et (answer_of (Ok k) after) ea refl

-- ---- the calls

module _ (c : Client) (bytes : List ℕ) where
  -- a packet of which no message was asked
  none_taken : (s : Stopped) (r : Refusal) → s.refusal ≡ r → s.taken ≡ 0 → packet_of (Err s) c ≡ refused_with (number r) c
  none_taken s r er et = λ i. record { refusal = number (er i); end = c; report = counted (et i) }

  -- question 2 says no
  module _ (r : Refusal) (u : SaysUnsound c r) where
    two : refused_with (number r) c ≡ refused_with 2 c
    two = ap (λ (x : Refusal). refused_with (number x) c) u.0

    pub packet_no : (q : Result ℕ Stopped) → IsErrAnd q (λ s. (s.refusal ≡ r) × (s.taken ≡ 0)) → packet_of q c ≡ packet_taken c bytes
    packet_no q h =
        let p = err_from_is_err_and q h in
        ap (λ (x : Result ℕ Stopped). packet_of x c) p.1 ∙ none_taken p.0 r p.2.0 p.2.1 ∙ two ∙ packet_unsound sound taken c bytes u.1

    pub message_no : (q : Result Report Refusal) → IsErrAnd q (λ y. y ≡ r) → (at : ℕ) → answer_of q c ≡ taken_at c bytes at
    message_no q h at =
        let p = err_from_is_err_and q h in
        ap (λ (x : Result Report Refusal). answer_of x c) (p.1 ∙ ap Err p.2) ∙ two ∙ message_unsound sound taken c bytes at u.1

  module _ (s : Sound c) where
    -- question 15 says no
    module _ (l : model.between 1 max_packet (length bytes) ≡ false) where
      pub packet_none : (t : Stopped) → t.refusal ≡ refusal.Length → t.taken ≡ 0 → packet_of (Err t) c ≡ packet_taken c bytes
      packet_none t er et = none_taken t refusal.Length er et ∙ packet_length sound taken c bytes s.yes l

      pub message_none : (at : ℕ) → refused_with 15 c ≡ taken_at c bytes at
      message_none at = message_length sound taken c bytes at s.yes l

    -- both say yes
    module _ (l : model.between 1 max_packet (length bytes) ≡ true) where
      pub packet_all : messages_taken c bytes ≡ packet_taken c bytes
      packet_all = packet_taken_lem sound taken c bytes s.yes l

      pub message_one : (at from to : ℕ) → from ≡ message_start bytes at → to ≡ message_end bytes from
          → taken c (take (to - from) (drop from bytes)) ≡ taken_at c bytes at
      message_one at from to ef et = message_taken_lem sound taken c bytes at from to ef et s.yes l

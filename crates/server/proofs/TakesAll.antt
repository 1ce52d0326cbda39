-- A packet at the server: a sound one stays sound, the loop over all messages, and what questions 2 and 15 refuse.
use Prim.Native.Nat.{ℕ, ◌+◌, ◌-◌, ◌≤◌, ◌<◌}
use native.Mathlib.Omega.{arith}
use mathlib.Core.Path.{◌≡◌, refl, ap, ap₂, sym, ◌∙◌, subst}
use mathlib.Core.Bool.{Bool, true, false, cond}
use mathlib.Core.List.{List}
use lib.Dec.{eqb}
use lib.ListN.{length, take, drop}
use Rattle.std.specs.Prelude.{Result, Ok, Err, IsErrAnd}
use Rattle.refusal.specs.declared.Refusal.{Refusal}
use Rattle.refusal.specs.Number.{number}
use Rattle.refusal.proofs.Some.{number_some}
use Rattle.limits.specs.Limits.{max_packet}
use Rattle.model.specs.Questions as model
use Rattle.model.specs.Questions.{asks, between}
use Rattle.model.specs.Server as server
use Rattle.model.specs.Server.{take_server}
use Rattle.model.proofs.Sound.{server_takes_lem}
use Rattle.model.proofs.Tests.{yes_all}
use Rattle.line.specs.declared.taking.Report.{Report}
use Rattle.line.specs.declared.taking.Stopped.{Stopped}
use Rattle.line.specs.Taking.{answer_of, packet_of}
use Rattle.wire_packet.specs.Packet.{message_start, message_end}
use Rattle.wire_packet.proofs.Handing.{Handing, handing_end, handing_stop, handing_turn, packet_unsound, packet_length, packet_taken_lem, message_unsound, message_length, message_taken_lem}
use Rattle.server.specs.declared.Server.{Server}
use Rattle.server.specs.View.{view, store, sound, Sound, Sizes}
use Rattle.server.specs.Answers.{refused_with, guarded, taken}
use Rattle.server.proofs.Facts.{sizes}
use Rattle.server.proofs.Sends.{model_sound}
use Rattle.server.proofs.Stored.{store_sizes, store_sound}
use Rattle.server.proofs.Whole.{struct_whole}
use Rattle.server.specs.Packets.{packet_asked, messages_taken, packet_taken, taken_at}

-- the lengths of a struct's arrays, and that it is sound
abbrev Stands : Server → Type 0
Stands s = Sizes s.counts s.words × (sound s ≡ true)

-- A taking leaves both: the model's server is sound then, and such a one is stored whole.
taken_stands : (s : Server) (bytes : List ℕ) → Stands s → Stands (taken s bytes).end
unfolding guarded
taken_stands s bytes h = go (sound s) (eqb a.refusal 0) refl
  where
    a : model.Answer server.Server
    a = take_server (view s) bytes

    if : Bool → model.Answer Server
    if done = record { refusal = a.refusal; end = cond done (store a.end) s; report = a.report }

    go : (b done : Bool) → sound s ≡ b → Stands (cond b (if done) (refused_with 2 s)).end
    go true true y = let m = server_takes_lem (view s) bytes (model_sound s 0 y) in (store_sizes a.end m, store_sound a.end m)
    go true false y = h
    go false done n = h

-- ---- the loop

-- a sound server that takes any bytes is sound again
pub sound_taken : (s : Server) → Sound s → (bytes : List ℕ) (r : Result Report Refusal) (new : Server) → answer_of r new ≡ taken s bytes → Sound new
sound_taken s h bytes r new e =
    let t = subst (λ (a : model.Answer Server). Stands a.end) (sym e) (taken_stands s bytes (sizes s.counts s.words h, h.yes)) in
    let whole = subst Stands (end_is r) t in
    struct_whole new.counts new.words whole.0 whole.1
  where
    end_is : (q : Result Report Refusal) → (answer_of q new).end ≡ new
    end_is (Ok k) = refl
    end_is (Err k) = refl

module _ (start : Server) (bytes : List ℕ) {at count : ℕ} {s : Server} (h : Handing taken bytes start at count s) where
  pub all_end : length bytes ≤ at → packet_of (Ok count) s ≡ messages_taken start bytes
  all_end g = handing_end taken bytes start h g

  -- the message that begins here is lent and taken
  module _ (more : at < length bytes) (to : ℕ) (et : to ≡ message_end bytes at) (new : Server) where
    pub all_stop : (r : Refusal) → answer_of (Err r) new ≡ taken s (take (to - at) (drop at bytes))
        → packet_of (Err (record { refusal = r; taken = count })) new ≡ messages_taken start bytes
    all_stop r e = handing_stop taken bytes start h more to et (answer_of (Err r) new) e (number_some r)

    pub all_turn : (k : Report) → answer_of (Ok k) new ≡ taken s (take (to - at) (drop at bytes)) → Handing taken bytes start to (count + 1) new
    all_turn k e = handing_turn taken bytes start h more to et (answer_of (Ok k) new) e refl

-- ---- the calls

module _ (s : Server) (bytes : List ℕ) where
  -- question 2 or 15 said no
  module _ (r : Refusal) (e : number r ≡ asks (packet_asked s bytes)) where
    refused_as : (answers : model.Answer Server) → (sound s ≡ false → refused_with 2 s ≡ answers)
        → (sound s ≡ true → between 1 max_packet (length bytes) ≡ false → refused_with 15 s ≡ answers) → refused_with (number r) s ≡ answers
    refused_as answers odd none = go (sound s) (between 1 max_packet (length bytes)) refl refl e
      where
        go : (a b : Bool) → sound s ≡ a → between 1 max_packet (length bytes) ≡ b → number r ≡ cond a (cond b 0 15) 2 → refused_with (number r) s ≡ answers
        go true true y l z = absurd (number_some r z)
        go true false y l z = ap (λ (n : ℕ). refused_with n s) z ∙ none y l
        go false b y l z = ap (λ (n : ℕ). refused_with n s) z ∙ odd y

    pub packet_refused : refused_with (number r) s ≡ packet_taken s bytes
    packet_refused = refused_as (packet_taken s bytes) (packet_unsound sound taken s bytes) (packet_length sound taken s bytes)

    pub message_refused : (at : ℕ) → refused_with (number r) s ≡ taken_at s bytes at
    message_refused at = refused_as (taken_at s bytes at) (message_unsound sound taken s bytes at) (message_length sound taken s bytes at)

  -- both said yes
  module _ (e : 0 ≡ asks (packet_asked s bytes)) where
    both : (sound s ≡ true) × (between 1 max_packet (length bytes) ≡ true)
    both = let y = yes_all (packet_asked s bytes) (λ z. omega (arith, z), (λ z. omega (arith, z), tt)) (sym e) in (y.0, y.1.0)

    pub packet_all : messages_taken s bytes ≡ packet_taken s bytes
    packet_all = packet_taken_lem sound taken s bytes both.0 both.1

    pub message_one : (at from to : ℕ) → from ≡ message_start bytes at → to ≡ message_end bytes from
        → taken s (take (to - from) (drop from bytes)) ≡ taken_at s bytes at
    message_one at from to ef et = message_taken_lem sound taken s bytes at from to ef et both.0 both.1

-- refused before its first message
pub stopped : (s : Server) (r : Refusal) (q : Result ℕ Stopped) → IsErrAnd q (λ x. (x.refusal ≡ r) × (x.taken ≡ 0)) → packet_of q s ≡ refused_with (number r) s
stopped s r (Ok n) h = absurd h
stopped s r (Err x) h = ap₂ (λ (a : Refusal) (n : ℕ). packet_of (Err (record { refusal = a; taken = n })) s) h.0 h.1

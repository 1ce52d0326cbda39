-- A packet of a client: question 2 or 4 said no, or its pending edits are written.
use Prim.Native.Nat.{ℕ, ◌+◌, ◌-◌, ◌≤◌}
use native.Mathlib.Omega.{arith}
use mathlib.Core.Path.{◌≡◌, ap, sym, ◌∙◌}
use mathlib.Core.Bool.{Bool, true, false, cond}
use mathlib.Core.List.{List, [], ◌∷◌, map}
use lib.Dec.{eqb}
use lib.ListN.{length, get_or}
use Rattle.std.specs.Prelude.{Result, Err, IsErrAnd}
use Rattle.refusal.specs.declared.Refusal.{Refusal}
use Rattle.refusal.specs.declared.Refusal.TheVariants as refusal
use Rattle.limits.specs.Limits.{max_pending}
use Rattle.list.specs.Places.{word_of, origin_at}
use Rattle.list.proofs.Places.{origin_at_of}
use Rattle.wire.specs.Bytes.{bytes_of}
use Rattle.model.specs.Questions as model
use Rattle.model.specs.Line.{pending_numbers, line_message}
use Rattle.model.specs.Client.{sound_client, client_message, pack_client}
use Rattle.model.specs.Packets.{packed}
use Rattle.model.proofs.Tests.{Numbered, yes_all}
use Rattle.model.proofs.SoundClient.{ClientFacts, client_facts}
use Rattle.line.specs.declared.Line.{Line}
use Rattle.line.specs.Line.{line_of}
use Rattle.line.specs.Sending.{answered, IsPending}
use Rattle.line.specs.Packet.{Packable, origin_of, messages}
use Rattle.line.proofs.Packets.{messages_are, packed_yes, packed_no, written_small}
use Rattle.client.specs.declared.Client.{Client}
use Rattle.client.specs.View.{slots_in, view, sound, Sound, SaysUnsound}
use Rattle.client.specs.Answers.{guarded_sending}
use Rattle.client.proofs.Messages.{unsound_sent, sound_sending, other_line, own_line}
use Rattle.client.specs.Packets.{packed_edits, OwnOrigins}

-- questions 2 and 4
abbrev questions : Client → ℕ → List model.Question
questions c line = model.ask 2 (sound_client (view c)) ∷ model.ask 4 (eqb line c.counts.line) ∷ []

numbered : (c : Client) (line : ℕ) → Numbered (questions c line)
numbered c line = (λ z. omega (arith, z), (λ z. omega (arith, z), tt))

-- the bytes of its pending edits' messages, in number order
abbrev written : Client → List (List ℕ)
written c = map (λ k. bytes_of (client_message (view c) k)) (pending_numbers (view c).own)

module _ (c : Client) (line : ℕ) (lent : List ℕ) (offset : ℕ) where
  pub pack_unsound : (r : Refusal) → SaysUnsound c r → (q : Result ℕ Refusal) → IsErrAnd q (λ y. y ≡ r) → answered q lent ≡ packed_edits c line lent offset
  pack_unsound r u q h = unsound_sent c (pack_client (view c) line lent offset) lent r u q h

  module _ (s : Sound c) where
    pub pack_other : (line ≡ c.counts.line → ⊥) → answered (Err refusal.WrongLine) lent ≡ packed_edits c line lent offset
    unfolding pack_client
    pack_other n =
        packed_no (questions c line) (written c) offset lent (numbered c line) refusal.WrongLine (other_line c s line [] n)
        ∙ sound_sending c (pack_client (view c) line lent offset) lent s.yes

    -- its own line, and a word for the origin of each pending edit
    module _ (own : line ≡ c.counts.line) (origins : List ℕ) (o : OwnOrigins line c.counts.own.acked c.counts.own.made origins) where
      abbrev f : ClientFacts (view c)
      f = client_facts (view c) s.model

      pub pack_able : max_pending ≤ length origins → Packable c.counts.own (slots_in c.words) origins
      pack_able long =
          record {
            kept = s.kept;
            enough = omega (arith, s.kept.few);
            narrow = λ i h. omega (arith, o.each i h, own, f.line.1, f.lines.1, f.own.edits);
          }

      message_is : (k : ℕ) → IsPending c.counts.own k
          → line_message line 0 (origin_of c.counts.own origins k) (line_of c.counts.own (slots_in c.words)) k ≡ client_message (view c) k
      message_is k p =
          let at : ℕ = k - (c.counts.own.acked + 1) in
          let number : c.counts.own.acked + 1 + at ≡ k = omega (arith, p.0) in
          let word : get_or origins at 0 ≡ word_of (record { line = c.counts.line; number = k }) =
          o.each at (omega (arith, p.0, p.1)) ∙ (λ i. word_of (record { line = own i; number = number i })) in
          let origin : origin_of c.counts.own origins k ≡ record { line = c.counts.line; number = k } =
          ap origin_at word ∙ origin_at_of (record { line = c.counts.line; number = k }) (omega (arith, p.1, f.own.edits)) in
          λ i. line_message (own i) 0 (origin i) (view c).own k

      pub pack_done : (r : Result ℕ Refusal) (out : List ℕ) → answered r out ≡ packed [] (messages line 0 c.counts.own (slots_in c.words) origins) offset lent
          → answered r out ≡ packed_edits c line lent offset
      unfolding pack_client
      pack_done r out er =
          er
          ∙ ap (λ (ms : List (List ℕ)). packed [] ms offset lent)
          (messages_are line 0 c.counts.own (slots_in c.words) origins (client_message (view c)) message_is)
          ∙ packed_yes (questions c line) (written c) offset lent (numbered c line) (sym (own_line c s line [] own))
          ∙ sound_sending c (pack_client (view c) line lent offset) lent s.yes

  -- At most 64 messages of 17 bytes, so that the length of what is written fits 16 bits.
  pub pack_small : (packed_edits c line lent offset).written ≤ 1088
  unfolding guarded_sending pack_client
  pack_small = go (sound c)
    where
      v : Line
      v = c.counts.own

      few : model.asks (questions c line) ≡ 0 → v.made - v.acked ≤ max_pending
      few z = (client_facts (view c) (yes_all (questions c line) (numbered c line) z).0).own.room

      go : (b : Bool) → (cond b (pack_client (view c) line lent offset) (record { refusal = 2; written = 0; buffer = lent })).written ≤ 1088
      go true = written_small (questions c line) (client_message (view c)) (v.acked + 1) (v.made - v.acked) offset lent (numbered c line) few
      go false = omega arith

-- The calls on packets of a client over lent bytes.
use Prim.Native.Nat.{ℕ, ◌%◌, ◌≤◌, ◌<◌}
use native.Mathlib.Omega.{arith}
use mathlib.Core.Path.{◌≡◌, ap, ◌∙◌}
use mathlib.Core.List.{List}
use lib.ListN.{length, drop}
use Rattle.std.specs.Prelude.{Ok}
use Rattle.model.specs.Questions as model
use Rattle.model.specs.Client as client
use Rattle.model.specs.Packets.{next_size}
use Rattle.line.specs.Sending as sent
use Rattle.client.specs.declared.Client.{Client}
use Rattle.client.specs.View.{view, sound}
use Rattle.client.specs.Answers.{refused_with, given, guarded, taken}
use Rattle.client.specs.Packets.{packed_edits}
use Rattle.client.proofs.Packs.{pack_small}
use Rattle.c_packet.proofs.Sizes.{unread_refused, long_unread}

-- the length of a packet fits the answer
pub pack_fits : (c : Client) (line : ℕ) (out : List ℕ) (offset n : ℕ) (after : List ℕ) → sent.answered (Ok n) after ≡ packed_edits c line out offset → n ≤ 1088
pack_fits c line out offset n after e = omega (arith, ap (λ (m : model.Sent). m.written) e, pack_small c line out offset)

-- a message of more than 17 bytes is refused
pub long_message : (c : Client) (m : List ℕ) → 17 < length m → (taken c m).refusal ≡ 0 → ⊥
unfolding guarded client.take_client
long_message c =
    long_unread (λ (a : model.Answer Client). a.refusal) (λ r. given c (client.client_reads (view c) r)) (refused_with 2 c) (unread_refused (view c) (client.sound_client (view c)))
    (λ z. omega (arith, z)) (sound c)

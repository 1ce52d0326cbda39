-- The calls on packets of the server over lent bytes.
use Prim.Native.Nat.{ℕ, ◌%◌, ◌≤◌, ◌<◌}
use native.Mathlib.Omega.{arith}
use mathlib.Core.Path.{◌≡◌, ap, ◌∙◌}
use mathlib.Core.List.{List}
use lib.ListN.{length, drop}
use Rattle.std.specs.Prelude.{Ok}
use Rattle.model.specs.Questions as model
use Rattle.model.specs.Server as server
use Rattle.model.specs.Packets.{next_size}
use Rattle.line.specs.Sending as sent
use Rattle.server.specs.declared.Server.{Server}
use Rattle.server.specs.View.{view, sound}
use Rattle.server.specs.Answers.{refused_with, given, guarded, taken}
use Rattle.server.specs.Packets.{packed_edits}
use Rattle.server.proofs.Packs.{pack_small}
use Rattle.c_packet.proofs.Sizes.{unread_refused, long_unread}

-- the length of a packet fits the answer
pub pack_fits : (c : Server) (line : ℕ) (out : List ℕ) (offset n : ℕ) (after : List ℕ) → sent.answered (Ok n) after ≡ packed_edits c line out offset → n ≤ 1088
pack_fits c line out offset n after e = omega (arith, ap (λ (m : model.Sent). m.written) e, pack_small c line out offset)

-- a message of more than 17 bytes is refused
pub long_message : (c : Server) (m : List ℕ) → 17 < length m → (taken c m).refusal ≡ 0 → ⊥
unfolding guarded server.take_server
long_message c =
    long_unread (λ (a : model.Answer Server). a.refusal) (λ r. given c (server.server_reads (view c) r)) (refused_with 2 c) (unread_refused (view c) (server.sound_server (view c)))
    (λ z. omega (arith, z)) (sound c)

-- A packet of the server: question 2 or 4 said no, or the pending edits of the line are written.
use Prim.Native.Nat.{ℕ, ◌+◌, ◌-◌, ◌≤◌, ◌<◌}
use native.Mathlib.Omega.{arith}
use mathlib.Core.Path.{◌≡◌, refl, ap, sym, ◌∙◌, subst}
use mathlib.Core.Bool.{Bool, true, false, cond}
use mathlib.Core.List.{List, [], ◌∷◌, map}
use lib.ListN.{get_or}
use Rattle.std.specs.Prelude.{Result, Err}
use Rattle.refusal.specs.declared.Refusal.{Refusal}
use Rattle.refusal.specs.declared.Refusal.TheVariants as refusal
use Rattle.refusal.specs.Number.{number}
use Rattle.limits.specs.Limits.{max_lines, max_pending}
use Rattle.list.specs.Places.{origin_at}
use Rattle.wire.specs.Bytes.{bytes_of}
use Rattle.model.specs.Questions as model
use Rattle.model.specs.Line as line
use Rattle.model.specs.Line.{pending_numbers, line_message}
use Rattle.model.specs.Server as server
use Rattle.model.specs.Server.{sound_server, server_message, pack_server}
use Rattle.model.specs.Packets.{packed}
use Rattle.model.proofs.Tests.{Numbered, yes_all, between_true}
use Rattle.model.proofs.SoundServer.{server_facts, line_fact}
use Rattle.line.specs.declared.Line.{Line}
use Rattle.line.specs.Line.{line_of}
use Rattle.line.proofs.Parts.{then_none}
use Rattle.line.specs.Sending.{answered, IsPending}
use Rattle.line.specs.Packet.{Packable, origin_of, messages}
use Rattle.line.proofs.Packets.{messages_are, packed_yes, packed_no, written_small}
use Rattle.server.proofs.Loops.{makers_long}
use Rattle.server.specs.declared.Server.{Server}
use Rattle.server.specs.declared.Counts.{Counts}
use Rattle.server.specs.View.{slots_at, makers_at, counts_at, line_at, server_of, view, sound, Sound}
use Rattle.server.specs.Answers.{guarded_sending}
use Rattle.server.specs.Sending.{line_asked, OnLine, Sendable}
use Rattle.server.proofs.Facts.{sizes, lines_few, at_view}
use Rattle.server.proofs.Sends.{in_parts, maker_low, message_is}
use Rattle.server.specs.Packets.{packed_edits}

-- questions 2 and 4
abbrev questions : Server → ℕ → List model.Question
questions s l = model.ask 2 (sound_server (view s)) ∷ model.ask 4 (model.between 1 (view s).n l) ∷ []

numbered : (s : Server) (l : ℕ) → Numbered (questions s l)
numbered s l = (λ z. omega (arith, z), (λ z. omega (arith, z), tt))

-- the bytes of the messages of a line's pending edits, in number order
abbrev written : Server → ℕ → List (List ℕ)
written s l = map (λ k. bytes_of (server_message (view s) l k)) (pending_numbers (server.line_of (view s) l))

-- at a sound server the two questions say what the code asks
sound_asked : (s : Server) (l : ℕ) → sound s ≡ true → model.asks (questions s l) ≡ model.asks (line_asked s l)
sound_asked s l y = in_parts s l y [] ∙ then_none (model.asks (line_asked s l))

-- a sending of any kind at a server that is sound, or is not
module _ (s : Server) (a : model.Sent) (lent : List ℕ) where
  by_sound : (b : Bool) → sound s ≡ b → cond b a (answered (Err refusal.Unsound) lent) ≡ guarded_sending s a lent
  unfolding guarded_sending
  by_sound b e = ap (λ (x : Bool). cond x a (answered (Err refusal.Unsound) lent)) (sym e)

  sound_sending : sound s ≡ true → a ≡ guarded_sending s a lent
  sound_sending y = by_sound true y

  unsound_sending : sound s ≡ false → answered (Err refusal.Unsound) lent ≡ guarded_sending s a lent
  unsound_sending n = by_sound false n

module _ (k : Counts) (words : List ℕ) (l : ℕ) where
  abbrev s : Server
  s = server_of k words

  abbrev v : Line
  v = counts_at k (l - 1)

  -- ---- question 2 or 4 said no

  pub pack_refused : (lent : List ℕ) (offset : ℕ) (r : Refusal) → number r ≡ model.asks (line_asked (server_of k words) l)
      → answered (Err r) lent ≡ packed_edits (server_of k words) l lent offset
  unfolding pack_server
  pack_refused lent offset r e = go (sound s) refl
    where
      go : (b : Bool) → sound s ≡ b → answered (Err r) lent ≡ packed_edits s l lent offset
      go true y =
          packed_no (questions s l) (written s l) offset lent (numbered s l) r (e ∙ sym (sound_asked s l y))
          ∙ sound_sending s (pack_server (view s) l lent offset) lent y
      go false f =
          let two : number r ≡ 2 = e ∙ ap (λ (b : Bool). cond {A = ℕ} b (cond (model.between 1 k.n l) 0 4) 2) f in
          ap (λ (q : ℕ). record { refusal = q; written = 0; buffer = lent }) two ∙ unsound_sending s (pack_server (view s) l lent offset) lent f

  -- ---- both said yes

  module _ (h : Sound (server_of k words)) (on : OnLine k l) where
    pub place_below : l - 1 < max_lines
    place_below = omega (arith, on.0, on.1, lines_few k words h)

    own_line : server.line_of (view s) l ≡ line_at k words (l - 1)
    own_line = at_view k words h (l - 1) (omega (arith, on.0, on.1))

    abbrev slots : List ℕ
    slots = slots_at (l - 1) words

    abbrev makers : List ℕ
    makers = makers_at (l - 1) words

    sendable : (number : ℕ) → IsPending v number → Sendable k words l number
    sendable number p = record { sound = h; on = on; pending = p }

    -- every pending edit has the word of an origin
    able : Packable v slots makers
    able =
        let kept = h.kept (l - 1) place_below in
        record {
          kept = kept;
          enough = omega (arith, kept.few, makers_long words (sizes k words h).words (l - 1) place_below);
          narrow = λ i below.
              let place : v.acked + 1 + i - 1 - v.acked ≡ i = omega arith in
              subst (λ (j : ℕ). get_or makers j 0 < 16777216) place
              (maker_low k words l (v.acked + 1 + i) (sendable (v.acked + 1 + i) (omega arith, omega (arith, below))) v makers refl refl);
        }

    message_at_lem : (number : ℕ) → IsPending v number → line_message l 1 (origin_of v makers number) (line_of v slots) number ≡ server_message (view s) l number
    message_at_lem number p =
        let place : number - (v.acked + 1) ≡ number - 1 - v.acked = omega arith in
        message_is k words l number (sendable number p) v makers refl refl slots (origin_of v makers number)
        (line_message l 1 (origin_of v makers number) (line_of v slots) number) refl
        (ap (λ (j : ℕ). origin_at (get_or makers j 0)) place) refl

    all_messages : messages l 1 v slots makers ≡ written s l
    all_messages =
        messages_are l 1 v slots makers (server_message (view s) l) message_at_lem
        ∙ ap (λ (w : line.Line). map (λ j. bytes_of (server_message (view s) l j)) (pending_numbers w)) (sym own_line)

    -- what the code has read: the line's counts, the words of its pending edits and those of their origins
    module _ (u : Line) (xs os : List ℕ) (eu : u ≡ counts_at k (l - 1)) (ex : xs ≡ slots_at (l - 1) words) (eo : os ≡ makers_at (l - 1) words) where
      pub pack_able : Packable u xs os
      pack_able = subst (λ (x : Line). Packable x xs os) (sym eu) (subst (λ (x : List ℕ). Packable v x os) (sym ex) (subst (Packable v slots) (sym eo) able))

      pub pack_done : (lent : List ℕ) (offset : ℕ) → 0 ≡ model.asks (line_asked (server_of k words) l) → (t : Result ℕ Refusal) (out : List ℕ)
          → answered t out ≡ packed [] (messages l 1 u xs os) offset lent → answered t out ≡ packed_edits (server_of k words) l lent offset
      unfolding pack_server
      pack_done lent offset z t out et =
          let read : messages l 1 u xs os ≡ messages l 1 v slots makers = λ i. messages l 1 (eu i) (ex i) (eo i) in
          et
          ∙ ap (λ (ms : List (List ℕ)). packed [] ms offset lent) (read ∙ all_messages)
          ∙ packed_yes (questions s l) (written s l) offset lent (numbered s l) (sound_asked s l h.yes ∙ sym z)
          ∙ sound_sending s (pack_server (view s) l lent offset) lent h.yes

-- At most 64 messages of 17 bytes, so that the length of what is written fits 16 bits.
pub pack_small : (s : Server) (l : ℕ) (lent : List ℕ) (offset : ℕ) → (packed_edits s l lent offset).written ≤ 1088
unfolding guarded_sending pack_server
pack_small s l lent offset = go (sound s)
  where
    m : server.Server
    m = view s

    w : line.Line
    w = server.line_of m l

    few : model.asks (questions s l) ≡ 0 → w.made - w.acked ≤ max_pending
    few z =
        let y = yes_all (questions s l) (numbered s l) z in
        let on = between_true 1 m.n l y.1.0 in
        (line_fact m (server_facts m y.0) l on.0 on.1).line.room

    go : (b : Bool) → (cond b (pack_server m l lent offset) (record { refusal = 2; written = 0; buffer = lent })).written ≤ 1088
    go true = written_small (questions s l) (server_message m l) (w.acked + 1) (w.made - w.acked) offset lent (numbered s l) few
    go false = omega arith

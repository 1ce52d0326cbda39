-- The two sendings: their questions in parts, the message of a pending edit, and that what the code answers is what the definition says.
use Prim.Native.Nat.{ℕ, ◌+◌, ◌-◌, ◌<◌}
use native.Mathlib.Nat.{div-add-mod', mod-lt}
use native.Mathlib.Omega.{arith}
use mathlib.Core.Path.{◌≡◌, refl, ap, ap₂, sym, ◌∙◌, subst}
use mathlib.Core.Bool.{Bool, true, false, not, cond}
use mathlib.Core.List.{List, [], ◌∷◌}
use lib.Dec.{leb, eqb, lit<}
use lib.ListN.{length, get_or, take, get_or-map}
use lib.Seq.{get_or-take}
use borrow.Author.Tests.{eqb-true, eqb-false}
use Rattle.std.specs.Prelude.{Result, Ok, Err, OnOk, ⊤}
use Rattle.refusal.specs.declared.Refusal.{Refusal}
use Rattle.refusal.specs.declared.Refusal.TheVariants as refusal
use Rattle.refusal.specs.Number.{number as number_of, refused_by}
use Rattle.refusal.proofs.Some.{number_some}
use Rattle.limits.specs.Limits.{max_edits}
use Rattle.list.specs.declared.Origin.{Origin}
use Rattle.list.specs.Places.{origin_at}
use Rattle.wire.specs.declared.Message.{Message}
use Rattle.wire.specs.declared.Message.TheVariants as message
use Rattle.wire.specs.Bytes.{bytes_of}
use Rattle.model.specs.Questions.{Question, ask, asks, between, sent}
use Rattle.model.specs.Line as line
use Rattle.model.specs.Edits.{no_origin}
use Rattle.model.specs.Server as model
use Rattle.model.proofs.Tests.{and_left, hold, yes_all, between_true}
use Rattle.model.proofs.SoundServer.{maker_at_lem}
use Rattle.line.specs.declared.Line.{Line}
use Rattle.line.specs.Line.{line_of}
use Rattle.line.specs.Keeping.{then_asked}
use Rattle.line.proofs.Parts.{then_yes, then_no, then_none, asks_append}
use Rattle.line.specs.Sending.{answered, number_asked, finished}
use Rattle.line.proofs.Sends.{number_pending, send_asked_lem, refused_sent}
use Rattle.server.specs.declared.Counts.{Counts}
use Rattle.server.specs.declared.Server.{Server}
use Rattle.server.specs.View.{slots_at, makers_at, counts_at, line_at, makers_of, server_of, view, sound, sound_tests, Sound, Sizes}
use Rattle.server.specs.Answers.{guarded_sending, sent_edit, sent_ack}
use Rattle.server.specs.Sending.{line_asked, send_asked, OnLine, Sendable}
use Rattle.server.proofs.Lines.{line_used}
use Rattle.server.proofs.Loops.{makers_long}
use Rattle.server.proofs.Facts.{sizes, lines_few, makers_view, at_makers}

-- ---- questions 2 and 4

module _ (s : Server) (l : ℕ) where
  abbrev on : Bool
  on = between 1 s.counts.n l

  -- both said yes
  pub line_yes : asks (line_asked s l) ≡ 0 → (sound s ≡ true) × (OnLine s.counts l)
  line_yes z =
      let y = yes_all (line_asked s l) (eqb-false 2 0 refl, (eqb-false 4 0 refl, tt)) z in
      (y.0, between_true 1 s.counts.n l y.1.0)

  pub model_sound : sound s ≡ true → model.sound_server (view s) ≡ true
  unfolding sound
  model_sound y = (hold (sound_tests s) y).0

  -- the model's, with others behind them
  pub in_parts : sound s ≡ true → (rest : List Question)
      → asks (ask 2 (model.sound_server (view s)) ∷ ask 4 (between 1 (view s).n l) ∷ rest) ≡ then_asked (asks (line_asked s l)) (asks rest)
  unfolding view
  in_parts y rest =
      ap (λ (b : Bool). asks (ask 2 b ∷ ask 4 on ∷ rest)) (model_sound y ∙ sym y)
      ∙ asks_append (line_asked s l) rest (eqb-false 2 0 refl, (eqb-false 4 0 refl, tt))

-- ---- the answers

module _ (s : Server) (q : ℕ) (bytes lent : List ℕ) where
  sound_sends : sound s ≡ true → sent q bytes lent ≡ guarded_sending s (sent q bytes lent) lent
  unfolding guarded_sending
  sound_sends y = sym (ap (λ (b : Bool). cond b (sent q bytes lent) (answered (Err refusal.Unsound) lent)) y)

  unsound_sends : sound s ≡ false → answered (Err refusal.Unsound) lent ≡ guarded_sending s (sent q bytes lent) lent
  unfolding guarded_sending
  unsound_sends f = sym (ap (λ (b : Bool). cond b (sent q bytes lent) (answered (Err refusal.Unsound) lent)) f)

  -- where the code's questions are the model's first
  refused_sends : (l more last : ℕ) (r : Refusal) → number_of r ≡ then_asked (asks (line_asked s l)) more
      → (sound s ≡ true → q ≡ then_asked (number_of r) last) → answered (Err r) lent ≡ guarded_sending s (sent q bytes lent) lent
  refused_sends l more last r e eq = go (sound s) refl
    where
      go : (b : Bool) → sound s ≡ b → answered (Err r) lent ≡ guarded_sending s (sent q bytes lent) lent
      go true y =
          refused_sent r bytes lent ∙ ap (λ (x : ℕ). sent x bytes lent) (sym (then_no (number_of r) last (number_some r)) ∙ sym (eq y)) ∙ sound_sends y
      go false f =
          ap (λ (x : ℕ). record { refusal = x; written = 0; buffer = lent })
          (e ∙ ap (λ (b : Bool). then_asked (cond b (cond (between 1 s.counts.n l) 0 4) 2) more) f)
          ∙ unsound_sends f

-- ---- questions 2, 4 and 13

module _ (k : Counts) (words : List ℕ) (l number : ℕ) where
  abbrev s : Server
  s = server_of k words

  abbrev v : Line
  v = counts_at k (l - 1)

  pub sendable : (r : Result ⊤ Refusal) (u : Line) → Sound (server_of k words) × OnLine k l → u ≡ counts_at k (l - 1)
      → refused_by r ≡ asks (number_asked u number) → OnOk r (Sendable k words l number)
  sendable (Ok x) u h eu er =
      record {
        sound = h.0;
        on = h.1;
        pending = number_pending v number (ap (λ (w : Line). asks (number_asked w number)) (sym eu) ∙ sym er);
      }
  sendable (Err r) u h eu er = tt

-- ---- the message of a pending edit

module _ (k : Counts) (words : List ℕ) (l : ℕ) where
  abbrev m : model.Server
  m = view (server_of k words)

  own_line : OnLine k l → model.line_of (view (server_of k words)) l ≡ line_at k words (l - 1)
  unfolding view
  own_line o = line_used k words k.n (l - 1) (omega (arith, o.0, o.1))

  module _ (number : ℕ) (h : Sendable k words l number) where
    abbrev place : ℕ
    place = number - 1 - (counts_at k (l - 1)).acked

    pub place_below : l - 1 < 8
    place_below = omega (arith, h.on, lines_few k words h.sound)

    pub all_sizes : Sizes k words
    all_sizes = sizes k words h.sound

    used : l - 1 < k.n
    used = omega (arith, h.on)

    pending_is : place < (counts_at k (l - 1)).made - (counts_at k (l - 1)).acked
    pending_is = omega (arith, h.pending)

    abbrev word : ℕ
    word = get_or (makers_at (l - 1) words) place 0

    word_origin : get_or (makers_of k words (l - 1)) place no_origin ≡ origin_at word
    word_origin =
        let many : ℕ = (counts_at k (l - 1)).made - (counts_at k (l - 1)).acked in
        get_or-map origin_at (take many (makers_at (l - 1) words)) place 0 ∙ ap origin_at (get_or-take many (makers_at (l - 1) words) place 0 pending_is)

    maker_is : model.maker_at m l number ≡ origin_at word
    maker_is =
        let acked : (model.line_of m l).acked ≡ (counts_at k (l - 1)).acked = ap (λ (w : line.Line). w.acked) (own_line h.on) in
        let at : number - ((model.line_of m l).acked + 1) ≡ place = omega (arith, acked) in
        ap₂ (λ (os : List Origin) (j : ℕ). get_or os j no_origin) (makers_view k words h.sound (l - 1) used) at ∙ word_origin

    -- its line is one of 1 to n
    word_low : word < 16777216
    word_low =
        let os = at_makers k words h.sound (l - 1) used in
        let o : Origin = origin_at word in
        let t : model.other_maker k.n (l - 1 + 1) o ≡ true =
        ap (model.other_maker k.n (l - 1 + 1)) (sym word_origin)
        ∙ maker_at_lem k.n (l - 1 + 1) (makers_of k words (l - 1)) place (omega (arith, os.count, pending_is)) os.others in
        let b = between_true 1 k.n o.line
        (and_left (between 1 k.n o.line) (not (eqb o.line (l - 1 + 1)))
        (and_left (line.other k.n (l - 1 + 1) o.line) (between 1 max_edits o.number) t)) in
        let small : o.number < 65536 = mod-lt word (lit< tt) in
        omega (arith, b, lines_few k words h.sound, div-add-mod' word 65536)

    -- the word of the origin as the code reads it
    module _ (u : Line) (ms : List ℕ) (eu : u ≡ counts_at k (l - 1)) (em : ms ≡ makers_at (l - 1) words) where
      at : number - 1 - u.acked ≡ place
      at = ap (λ (x : Line). number - 1 - x.acked) eu

      word_is : get_or ms (number - 1 - u.acked) 0 ≡ word
      word_is = ap₂ (λ (x : List ℕ) (j : ℕ). get_or x j 0) em at

      pub inside : number - 1 - u.acked < length ms
      inside =
          omega (arith, at, h.pending, (h.sound.kept (l - 1) place_below).few, ap length em, makers_long words all_sizes.words (l - 1) place_below)

      pub maker_low : get_or ms (number - 1 - u.acked) 0 < 16777216
      maker_low = subst (λ (w : ℕ). w < 16777216) (sym word_is) word_low

      pub message_is : (ws : List ℕ) (o : Origin) (r : Message) → ws ≡ slots_at (l - 1) words → o ≡ origin_at (get_or ms (number - 1 - u.acked) 0)
          → r ≡ line.line_message l 1 o (line_of u ws) number → r ≡ model.server_message (view (server_of k words)) l number
      message_is ws o r ew eo er =
          er ∙ ap₂ (λ (x : Line) (y : List ℕ). line.line_message l 1 o (line_of x y) number) eu ew
          ∙ ap₂ (λ (x : Origin) (w : line.Line). line.line_message l 1 x w number) (eo ∙ ap origin_at word_is ∙ sym maker_is) (sym (own_line h.on))

-- ---- a sending

then_then : (a b c d : ℕ) → (a ≡ 0 → d ≡ then_asked b c) → then_asked a d ≡ then_asked (then_asked a b) c
then_then a b c d f = go (eqb a 0) refl
  where
    go : (t : Bool) → eqb a 0 ≡ t → then_asked a d ≡ then_asked (then_asked a b) c
    go true t = let z = eqb-true a 0 t in then_yes a d z ∙ f z ∙ sym (ap (λ (x : ℕ). then_asked x c) (then_yes a b z))
    go false t =
        let n = eqb-false a 0 t in
        then_no a d n ∙ sym (then_no a c n) ∙ sym (ap (λ (x : ℕ). then_asked x c) (then_no a b n))

module _ (k : Counts) (words : List ℕ) (l number : ℕ) (lent : List ℕ) where
  abbrev end : Server
  end = server_of k words

  abbrev mine : model.Server
  mine = view (server_of k words)

  abbrev msg : Message
  msg = model.server_message mine l number

  abbrev last : List Question
  last = ask 14 (leb (length (bytes_of msg)) (length lent)) ∷ []

  then_asked_lem : sound end ≡ true → asks (model.send_server_questions mine l number lent) ≡ then_asked (send_asked end l number) (asks last)
  then_asked_lem y =
      in_parts end l y (line.send_questions (model.line_of mine l) number msg lent)
      ∙ then_then (asks (line_asked end l)) (asks (number_asked (counts_at k (l - 1)) number)) (asks last)
      (asks (line.send_questions (model.line_of mine l) number msg lent))
      (λ z.
      ap (λ (w : line.Line). asks (line.send_questions w number msg lent)) (own_line k words l (line_yes end l z).1)
      ∙ send_asked_lem (counts_at k (l - 1)) (slots_at (l - 1) words) number msg lent)

  pub send_refused : (r : Refusal) → number_of r ≡ send_asked (server_of k words) l number
      → answered (Err r) lent ≡ sent_edit (server_of k words) l number lent
  unfolding model.send_server
  send_refused r e =
      refused_sends end (asks (model.send_server_questions mine l number lent)) (bytes_of msg) lent l (asks (number_asked (counts_at k (l - 1)) number)) (asks last) r e
      (λ y. then_asked_lem y ∙ ap (λ (x : ℕ). then_asked x (asks last)) (sym e))

  pub send_done : (t : Result ℕ Refusal) (after : List ℕ) (w : Message) → 0 ≡ send_asked (server_of k words) l number → Sendable k words l number
      → w ≡ model.server_message (view (server_of k words)) l number → answered t after ≡ finished w lent
      → answered t after ≡ sent_edit (server_of k words) l number lent
  unfolding model.send_server
  send_done t after w z h ew et =
      let y = h.sound.yes in
      et ∙ ap (λ (x : Message). finished x lent) ew
      ∙ ap (λ (x : ℕ). sent x (bytes_of msg) lent) (sym (then_asked_lem y ∙ then_yes (send_asked end l number) (asks last) (sym z)))
      ∙ sound_sends end (asks (model.send_server_questions mine l number lent)) (bytes_of msg) lent y

-- ---- an acknowledgement

module _ (k : Counts) (words : List ℕ) (l : ℕ) (lent : List ℕ) where
  abbrev end' : Server
  end' = server_of k words

  abbrev ack : ℕ → Message
  ack taken = message.Ack l 1 taken

  abbrev taken : ℕ
  taken = (model.line_of (view end') l).taken

  abbrev room : List Question
  room = ask 14 (leb 5 (length lent)) ∷ []

  tell_asks : sound end' ≡ true → asks (model.tell_server_questions (view end') l lent) ≡ then_asked (asks (line_asked end' l)) (asks room)
  tell_asks y = in_parts end' l y room

  pub tell_refused : (r : Refusal) → number_of r ≡ asks (line_asked (server_of k words) l) → answered (Err r) lent ≡ sent_ack (server_of k words) l lent
  unfolding model.tell_server
  tell_refused r e =
      refused_sends end' (asks (model.tell_server_questions (view end') l lent)) (bytes_of (ack taken)) lent l 0 (asks room) r
      (e ∙ sym (then_none (asks (line_asked end' l))))
      (λ y. tell_asks y ∙ ap (λ (x : ℕ). then_asked x (asks room)) (sym e))

  pub tell_done : (t : Result ℕ Refusal) (after : List ℕ) (u : Line) → 0 ≡ asks (line_asked (server_of k words) l) → u ≡ counts_at k (l - 1)
      → answered t after ≡ finished (message.Ack l 1 u.taken) lent → answered t after ≡ sent_ack (server_of k words) l lent
  unfolding model.tell_server bytes_of
  tell_done t after u z eu et =
      let y = line_yes end' l (sym z) in
      let same : u.taken ≡ taken = ap (λ (w : Line). w.taken) eu ∙ ap (λ (w : line.Line). w.taken) (sym (own_line k words l y.1)) in
      et ∙ ap (λ (x : ℕ). finished (ack x) lent) same
      ∙ ap (λ (x : ℕ). sent x (bytes_of (ack taken)) lent) (sym (tell_asks y.0 ∙ then_yes (asks (line_asked end' l)) (asks room) (sym z)))
      ∙ sound_sends end' (asks (model.tell_server_questions (view end') l lent)) (bytes_of (ack taken)) lent y.0

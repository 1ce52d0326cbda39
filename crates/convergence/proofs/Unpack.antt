-- An exported call's answer, taken apart, is the answer of the struct's call.
use Prim.Native.Nat.{ℕ, zero, suc, ◌+◌, ◌%◌, ◌≤◌, ◌<◌}
use native.Mathlib.Nat.{le_refl}
use native.Mathlib.Omega.{arith}
use mathlib.Core.Path.{◌≡◌, refl, ap, ap₂, sym, ◌∙◌, subst}
use mathlib.Core.Bool.{Bool, true, false, cond}
use mathlib.Core.List.{List, ◌++◌}
use lib.Dec.{eqb, ltb}
use lib.ListN.{length, take as take-list, drop, length-append}
use lib.Seq.{drop-append_seam}
use borrow.Author.Tests.{eq-eqb, ne_eqb, eqb-true, eqb-false, le-ltb, ltb-false}
use Rattle.model.specs.Limits.{max_packet}
use Rattle.model.specs.Questions.{between, Report, no_report, Answer, Sent}
use Rattle.model.specs.Packets.{next_size, counted, handed_over}
use Rattle.model.specs.Claim.{Back}
use Rattle.model.specs.SheetOf.{ServerCalls}
use Rattle.model.proofs.Tests.{between_true}
use Rattle.model.proofs.Packets.{refused_first}
use Rattle.model.proofs.Alone.{ServerAlone}
use Rattle.c_layout.specs.Called.{Called, called, laid_out, changing, taking_some, opening, sending}
use Rattle.c_layout.specs.Words.{items_of}
use Rattle.c_layout.specs.ItemBytes.{item_bytes}
use Rattle.c_layout.proofs.Called.{unpacks}
use Rattle.c_layout.proofs.ItemBytes.{items_read_back}
use Rattle.convergence.specs.Lent.{answer_of, sent_of}
use Rattle.convergence.proofs.Carry.{Alike, EndFollows}
use Rattle.convergence.proofs.Small.{Narrow, Little}
use Rattle.convergence.proofs.Stored.{Alone, Stretch, unsent_alone, unsent_stretch}

-- the form of an end in bytes; the arrays of a whole end have their lengths
pub record Form (E : Type 0) : Type 1 where
  pub Whole : E → Type 0
  pub size : ℕ
  pub write : E → List ℕ
  pub read : List ℕ → E
  pub read_back : (e : E) (rest : List ℕ) → Whole e → read (write e ++ rest) ≡ e
  pub long : (e : E) → Whole e → length (write e) ≡ size

-- ---- what is asked of the struct's calls

-- an answer is small, and its new end is whole
pub record Fits {E : Type 0} (Whole : E → Type 0) (a : Answer E) : Type 0 where
  pub refusal : a.refusal < 256
  pub report : Narrow a.report
  pub whole : a.refusal ≡ 0 → Whole a.end

module _ {E : Type 0} (form : Form E) where
  pub record Changing (call : E → Answer E) : Type 0 where
    pub fits : (e : E) → Fits form.Whole (call e)
    pub back : (e : E) → Back e (call e)

  -- the bytes are this end
  abbrev pub Are : List ℕ → E → Type 0
  Are b e = (form.read b ≡ e) × (form.size ≤ length b)

  -- ---- calls that may change their end

  abbrev packed_answer : Answer E → List ℕ → Called
  packed_answer a b = changing form.size a.refusal a.report (form.write a.end) b

  -- its bytes, accepted or not
  abbrev after : Bool → E → List ℕ → List ℕ
  after accepted e b = cond accepted (form.write e ++ drop form.size b) b

  module _ (a : Answer E) (b : List ℕ) (f : Fits form.Whole a) where
    same_refusal : (answer_of (packed_answer a b)).refusal ≡ a.refusal
    same_refusal = unpacks.refusal a.refusal a.report f.refusal

    same_report : (answer_of (packed_answer a b)).report ≡ a.report
    same_report =
        let k = a.report in
        let n = f.report in
        let passed = unpacks.count a.refusal k f.refusal n.passed in
        let arrived = unpacks.arrived a.refusal k f.refusal n.passed n.arrived in
        let applied = unpacks.applied a.refusal k f.refusal n.passed n.arrived n.applied in
        λ i. record { passed = passed i; arrived = arrived i; applied = applied i }

    accepted : a.refusal ≡ 0 → Are (packed_answer a b).bytes a.end
    accepted z =
        subst (λ (t : Bool). Are (after t a.end b) a.end) (sym (eq-eqb a.refusal 0 z))
        (form.read_back a.end (drop form.size b) (f.whole z), simp length-append (omega (arith, form.long a.end (f.whole z))))

    same_answer : (e : E) → Back e a → Are b e → Alike Are (answer_of (packed_answer a b)) a
    same_answer e k r = record { refusal = same_refusal; report = same_report; ends = go (eqb a.refusal 0) refl }
      where
        go : (t : Bool) → eqb a.refusal 0 ≡ t → Are (packed_answer a b).bytes a.end
        go true p = accepted (eqb-true a.refusal 0 p)
        go false p = subst (λ (t : Bool). Are (after t a.end b) a.end) (sym p) (subst (Are b) (sym (k (eqb-false a.refusal 0 p)).0) r)

    answer_back : (e : E) → Back e a → Back b (answer_of (packed_answer a b))
    answer_back e k h =
        let n : a.refusal ≡ 0 → ⊥ = λ z. h (same_refusal ∙ z) in
        (ap (λ (t : Bool). after t a.end b) (ne_eqb a.refusal 0 n), same_report ∙ (k n).1)

  -- question 18, then the call of the end that the bytes are
  module _ (call : E → Answer E) (c : Changing call) (b : List ℕ) where
    abbrev answer : Answer E
    answer = call (form.read b)

    abbrev asked : Bool → Called
    asked short = cond short (called 18 0 b) (packed_answer answer b)

    pub call_same : (e : E) → Are b e → Alike Are (answer_of (laid_out form.size b b (packed_answer answer b))) (call e)
    unfolding laid_out
    call_same e r =
        subst (λ (x : E). Alike Are (answer_of (asked (ltb (length b) form.size))) (call x)) r.0
        (subst (λ (t : Bool). Alike Are (answer_of (asked t)) answer) (sym (le-ltb (length b) form.size r.1))
        (same_answer answer b (c.fits (form.read b)) (form.read b) (c.back (form.read b)) (refl, r.1)))

    pub call_back : Back b (answer_of (laid_out form.size b b (packed_answer answer b)))
    unfolding laid_out
    call_back = go (ltb (length b) form.size)
      where
        go : (t : Bool) → Back b (answer_of (asked t))
        go true = λ h. (refl, refl)
        go false = answer_back answer b (c.fits (form.read b)) (form.read b) (c.back (form.read b))

  -- an opening in lent bytes: its items are whole, and those that were meant
  module _ (b : List ℕ) (h : form.size ≤ length b) (opens : List ℕ → Answer E) where
    abbrev asked_opening : Bool → Bool → List ℕ → Called
    asked_opening short whole items = cond short (called 18 0 b) (cond whole (packed_answer (opens items) b) (called 1 0 b))

    open_same : (P : Called → Type 0) (items : List ℕ) → P (packed_answer (opens items) b)
        → P (opening form.size b (item_bytes items) (packed_answer (opens (items_of (item_bytes items))) b))
    unfolding laid_out
    open_same P items p =
        let short = sym (le-ltb (length b) form.size h) in
        let whole = sym (eq-eqb (length (item_bytes items) % 4) 0 (items_read_back.whole items)) in
        let same = sym (items_read_back.read_back items) in
        subst P (λ i. asked_opening (short i) (whole i) (same i)) p

  -- ---- sendings

  same_sent : (s : Sent) → Little s → sent_of (sending s) ≡ s
  same_sent s h =
      let u = unpacks.sent s.refusal s.written h.refusal h.written in
      λ i. record { refusal = u.0 i; written = u.1 i; buffer = s.buffer }

  module _ (call : E → Sent) (little : (e : E) → Little (call e)) (out b : List ℕ) where
    abbrev lent : Bool → Sent
    lent short = sent_of (cond short (called 18 0 out) (sending (call (form.read b))))

    sending_same : (e : E) → Are b e → sent_of (laid_out form.size b out (sending (call (form.read b)))) ≡ call e
    unfolding laid_out
    sending_same e r = ap lent (le-ltb (length b) form.size r.1) ∙ same_sent (call (form.read b)) (little (form.read b)) ∙ ap call r.0

    -- what holds of the struct's sending, and of one that is refused
    sending_either : (P : Sent → Type 0) → P (call (form.read b)) → P (record { refusal = 18; written = 0; buffer = out })
        → P (sent_of (laid_out form.size b out (sending (call (form.read b)))))
    unfolding laid_out
    sending_either P p q = go (ltb (length b) form.size)
      where
        go : (t : Bool) → P (lent t)
        go true = q
        go false = subst P (sym (same_sent (call (form.read b)) (little (form.read b)))) p

-- ---- the calls that both ends have

module _ (v : ServerCalls) (form : Form v.Server) where
  -- what is asked of the struct's calls
  pub record Lendable : Type 0 where
    pub alone : ServerAlone v
    pub opens : (n : ℕ) (ranks xs : List ℕ) → Fits form.Whole (v.opens n ranks xs)
    pub takes : (e : v.Server) (bytes : List ℕ) → Fits form.Whole (v.take e bytes)
    pub packets : (e : v.Server) (bytes : List ℕ) → between 1 max_packet (length bytes) ≡ false → (v.take_packet e bytes).refusal < 256
    pub packs : (e : v.Server) (l : ℕ) (out : List ℕ) (offset : ℕ) → Little (v.pack e l out offset)
    pub sends : (e : v.Server) (l number : ℕ) (out : List ℕ) → Little (v.send e l number out)
    pub tells : (e : v.Server) (l : ℕ) (out : List ℕ) → Little (v.tell e l out)

  abbrev pub lent_take : List ℕ → List ℕ → Answer (List ℕ)
  lent_take b m = answer_of (laid_out form.size b b (packed_answer form (v.take (form.read b) m) b))

  -- The end is written if any message was taken.
  abbrev pub lent_packet : List ℕ → List ℕ → Answer (List ℕ)
  lent_packet b bytes =
      let a = v.take_packet (form.read b) bytes in
      answer_of (laid_out form.size b b (taking_some form.size a.refusal a.report (form.write a.end) b))

  -- the calls in lent bytes: question 18, then the call of the end that the bytes are. An opening is lent b.
  abbrev pub lent_calls : List ℕ → ServerCalls
  lent_calls b =
      record {
        Server = List ℕ;
        opens = λ n ranks xs. answer_of (opening form.size b (item_bytes xs) (packed_answer form (v.opens n ranks (items_of (item_bytes xs))) b));
        send = λ e l number out. sent_of (laid_out form.size e out (sending (v.send (form.read e) l number out)));
        tell = λ e l out. sent_of (laid_out form.size e out (sending (v.tell (form.read e) l out)));
        take = lent_take;
        pack = λ e l out offset. sent_of (laid_out form.size e out (sending (v.pack (form.read e) l out offset)));
        take_packet = lent_packet;
        items = λ e. v.items (form.read e);
        total = λ e. v.total (form.read e);
        made = λ e. v.made (form.read e);
        taken = λ e. v.taken (form.read e);
      }

  module _ (k : Lendable) where
    -- ---- packets

    -- the bytes that a packet leaves which began with so many messages taken
    abbrev left : ℕ → List ℕ → Answer v.Server → List ℕ
    left count b a = cond (eqb a.report.passed count) b (form.write a.end ++ drop form.size b)

    -- what is known of a packet's answer
    record Handed (most count : ℕ) (e : v.Server) (a : Answer v.Server) : Type 0 where
      refusal : a.refusal < 256
      report : a.report ≡ counted a.report.passed
      low : count ≤ a.report.passed
      high : a.report.passed ≤ count + most
      none : a.report.passed ≡ count → a.end ≡ e

    stopped : (most count : ℕ) (e d : v.Server) (r : ℕ) → r < 256 → d ≡ e → Handed most count e (record { refusal = r; end = d; report = counted count })
    stopped most count e d r small same = record { refusal = small; report = refl; low = omega arith; high = omega arith; none = λ z. same }

    handed_facts : (most count : ℕ) (e : v.Server) (bytes : List ℕ) → Handed most count e (handed_over v.take most count e bytes)
    unfolding handed_over
    handed_facts zero count e bytes = stopped 0 count e e 0 (omega arith) refl
    handed_facts (suc most) count e bytes =
        let part = take-list (next_size bytes) bytes in
        go (eqb (length bytes) 0) (eqb (v.take e part).refusal 0) refl (handed_facts most (suc count) (v.take e part).end (drop (next_size bytes) bytes))
      where
        go : (z y : Bool) → eqb (v.take e (take-list (next_size bytes) bytes)).refusal 0 ≡ y
            → Handed most (suc count) (v.take e (take-list (next_size bytes) bytes)).end (handed_over v.take most (suc count) (v.take e (take-list (next_size bytes) bytes)).end (drop (next_size bytes) bytes))
            → Handed (suc most) count e (cond {A = Answer v.Server} z (record { refusal = 0; end = e; report = counted count })
            (cond y (handed_over v.take most (suc count) (v.take e (take-list (next_size bytes) bytes)).end (drop (next_size bytes) bytes))
            (record { refusal = (v.take e (take-list (next_size bytes) bytes)).refusal; end = (v.take e (take-list (next_size bytes) bytes)).end; report = counted count })))
        go true y q more = stopped (suc most) count e e 0 (omega arith) refl
        go false true q more =
            record { refusal = more.refusal; report = more.report; low = omega (arith, more.low); high = omega (arith, more.high); none = λ z. absurd (omega (arith, more.low, z)) }
        go false false q more =
            let part = take-list (next_size bytes) bytes in
            stopped (suc most) count e (v.take e part).end (v.take e part).refusal (k.takes e part).refusal (k.alone.takes e part (eqb-false (v.take e part).refusal 0 q)).0

    -- the bytes of the end, and behind them those of before
    rewritten : (b : List ℕ) (x y : v.Server) → form.Whole x → form.write y ++ drop form.size (form.write x ++ drop form.size b) ≡ form.write y ++ drop form.size b
    rewritten b x y w =
        ap (λ (r : List ℕ). form.write y ++ r)
        (ap (λ (k : ℕ). drop k (form.write x ++ drop form.size b)) (sym (form.long x w)) ∙ drop-append_seam (form.write x) (drop form.size b))

    -- so are those that a packet leaves which took one message first
    left_on : (most count : ℕ) (b : List ℕ) (x : v.Server) (a : Answer v.Server) → form.Whole x → Handed most (suc count) x a
        → left (suc count) (form.write x ++ drop form.size b) a ≡ left count b a
    left_on most count b x a w h =
        go (eqb a.report.passed (suc count)) refl
        ∙ sym (ap (λ (t : Bool). cond t b (form.write a.end ++ drop form.size b)) (ne_eqb a.report.passed count (λ z. omega (arith, h.low, z))))
      where
        go : (t : Bool) → eqb a.report.passed (suc count) ≡ t
            → cond t (form.write x ++ drop form.size b) (form.write a.end ++ drop form.size (form.write x ++ drop form.size b)) ≡ form.write a.end ++ drop form.size b
        go true e = ap (λ (y : v.Server). form.write y ++ drop form.size b) (sym (h.none (eqb-true a.report.passed (suc count) e)))
        go false e = rewritten b x a.end w

    abbrev lent_answer : ℕ → List ℕ → Answer v.Server → Answer (List ℕ)
    lent_answer count b a = record { refusal = a.refusal; end = left count b a; report = a.report }

    -- a packet that took nothing leaves the bytes
    left_none : (count : ℕ) (b : List ℕ) (r : ℕ) (e : v.Server) → record { refusal = r; end = b; report = counted count } ≡ lent_answer count b (record { refusal = r; end = e; report = counted count })
    left_none count b r e = ap (λ (t : Bool). record { refusal = r; end = cond t b (form.write e ++ drop form.size b); report = counted count }) (sym (eq-eqb count count refl))

    -- one message at lent bytes
    lent_one : (b m : List ℕ) → form.size ≤ length b → (x : Answer v.Server) → v.take (form.read b) m ≡ x
        → ((lent_take b m).refusal ≡ x.refusal) × ((lent_take b m).end ≡ after form (eqb x.refusal 0) x.end b)
    unfolding laid_out
    lent_one b m long x is =
        let y = v.take (form.read b) m in
        let short = le-ltb (length b) form.size long in
        subst (λ (z : Answer v.Server). ((lent_take b m).refusal ≡ z.refusal) × ((lent_take b m).end ≡ after form (eqb z.refusal 0) z.end b)) is
        (ap (λ (t : Bool). (answer_of (cond t (called 18 0 b) (packed_answer form y b))).refusal) short ∙ same_refusal form y b (k.takes (form.read b) m), ap (λ (t : Bool). (answer_of (cond t (called 18 0 b) (packed_answer form y b))).end) short)

    -- Handed over to lent bytes, the messages do what they do to the end.
    lent_handed : (most count : ℕ) (b : List ℕ) (e : v.Server) → Are form b e → (bytes : List ℕ) → handed_over lent_take most count b bytes ≡ lent_answer count b (handed_over v.take most count e bytes)
    unfolding handed_over
    lent_handed zero count b e r bytes = left_none count b 0 e
    lent_handed (suc most) count b e r bytes =
        let part = take-list (next_size bytes) bytes in
        let rest = drop (next_size bytes) bytes in
        let x = v.take e part in
        let next = form.write x.end ++ drop form.size b in
        let one = lent_one b part r.1 x (ap (λ (d : v.Server). v.take d part) r.0) in
        ap₂ (λ (k : ℕ) (d : List ℕ). cond {A = Answer (List ℕ)} (eqb (length bytes) 0) (record { refusal = 0; end = b; report = counted count })
        (cond (eqb k 0) (handed_over lent_take most (suc count) d rest) (record { refusal = k; end = d; report = counted count }))) one.0 one.1
        ∙ go (eqb (length bytes) 0) (eqb x.refusal 0) refl
        (λ z. lent_handed most (suc count) next x.end (form.read_back x.end (drop form.size b) ((k.takes e part).whole z), simp length-append (omega (arith, form.long x.end ((k.takes e part).whole z)))) rest)
      where
        go : (z y : Bool) → eqb (v.take e (take-list (next_size bytes) bytes)).refusal 0 ≡ y
            → ((v.take e (take-list (next_size bytes) bytes)).refusal ≡ 0
            → handed_over lent_take most (suc count) (form.write (v.take e (take-list (next_size bytes) bytes)).end ++ drop form.size b) (drop (next_size bytes) bytes)
            ≡ lent_answer (suc count) (form.write (v.take e (take-list (next_size bytes) bytes)).end ++ drop form.size b) (handed_over v.take most (suc count) (v.take e (take-list (next_size bytes) bytes)).end (drop (next_size bytes) bytes)))
            → cond {A = Answer (List ℕ)} z (record { refusal = 0; end = b; report = counted count })
            (cond y (handed_over lent_take most (suc count) (after form y (v.take e (take-list (next_size bytes) bytes)).end b) (drop (next_size bytes) bytes))
            (record { refusal = (v.take e (take-list (next_size bytes) bytes)).refusal; end = after form y (v.take e (take-list (next_size bytes) bytes)).end b; report = counted count }))
            ≡ lent_answer count b (cond {A = Answer v.Server} z (record { refusal = 0; end = e; report = counted count })
            (cond y (handed_over v.take most (suc count) (v.take e (take-list (next_size bytes) bytes)).end (drop (next_size bytes) bytes))
            (record { refusal = (v.take e (take-list (next_size bytes) bytes)).refusal; end = (v.take e (take-list (next_size bytes) bytes)).end; report = counted count })))
        go true y q more = left_none count b 0 e
        go false true q more =
            let part = take-list (next_size bytes) bytes in
            let x = v.take e part in
            let z = eqb-true x.refusal 0 q in
            let a = handed_over v.take most (suc count) x.end (drop (next_size bytes) bytes) in
            more z ∙ ap (λ (d : List ℕ). record { refusal = a.refusal; end = d; report = a.report })
            (left_on most count b x.end a ((k.takes e part).whole z) (handed_facts most (suc count) x.end (drop (next_size bytes) bytes)))
        go false false q more = left_none count b (v.take e (take-list (next_size bytes) bytes)).refusal (v.take e (take-list (next_size bytes) bytes)).end

    module _ (b bytes : List ℕ) where
      abbrev packed : Answer v.Server → Called
      packed a = taking_some form.size a.refusal a.report (form.write a.end) b

      same_packed : (a : Answer v.Server) → a.refusal < 256 → Narrow a.report → answer_of (packed a) ≡ lent_answer 0 b a
      same_packed a small n =
          let k = a.report in
          let refusal = unpacks.refusal a.refusal k small in
          let passed = unpacks.count a.refusal k small n.passed in
          let arrived = unpacks.arrived a.refusal k small n.passed n.arrived in
          let applied = unpacks.applied a.refusal k small n.passed n.arrived n.applied in
          λ i. record { refusal = refusal i; end = left 0 b a; report = record { passed = passed i; arrived = arrived i; applied = applied i } }

      -- fewer than 65,536 messages are counted
      few : (a : Answer v.Server) → between 1 max_packet (length bytes) ≡ true → Handed (length bytes) 0 (form.read b) a → Narrow a.report
      few a ok h =
          let most = (between_true 1 max_packet (length bytes) ok).1 in
          subst Narrow (sym h.report) (record { passed = omega (arith, h.high); arrived = omega arith; applied = omega arith })

      packet_same : between 1 max_packet (length bytes) ≡ true → lent_packet b bytes ≡ handed_over lent_take (length bytes) 0 b bytes
      unfolding laid_out
      packet_same ok = go (ltb (length b) form.size) refl
        where
          e : v.Server
          e = form.read b

          go : (t : Bool) → ltb (length b) form.size ≡ t → answer_of (cond t (called 18 0 b) (packed (v.take_packet e bytes))) ≡ handed_over lent_take (length bytes) 0 b bytes
          go true s =
              sym (refused_first lent_take b 17 (λ m.
              let is = ap (λ (t : Bool). answer_of (cond t (called 18 0 b) (packed_answer form (v.take e m) b))) s in
              (ap (λ (a : Answer (List ℕ)). a.refusal) is, ap (λ (a : Answer (List ℕ)). a.end) is)) (length bytes) bytes (between_true 1 max_packet (length bytes) ok).0 (le_refl (length bytes)))
          go false s =
              let a = handed_over v.take (length bytes) 0 e bytes in
              let h = handed_facts (length bytes) 0 e bytes in
              ap (λ (x : Answer v.Server). answer_of (packed x)) (k.alone.packets e bytes ok) ∙ same_packed a h.refusal (few a ok h) ∙ sym (lent_handed (length bytes) 0 b e (refl, ltb-false (length b) form.size s) bytes)

      -- one that is too short or too long
      packet_at : between 1 max_packet (length bytes) ≡ false → answer_of (packed (v.take_packet (form.read b) bytes)) ≡ record { refusal = (v.take_packet (form.read b) bytes).refusal; end = b; report = no_report }
      packet_at out =
          let a = v.take_packet (form.read b) bytes in
          let quiet = (k.alone.no_packets (form.read b) bytes out).2 in
          same_packed a (k.packets (form.read b) bytes out) (subst Narrow (sym quiet) (record { passed = omega arith; arrived = omega arith; applied = omega arith }))
          ∙ ap (λ (j : Report). record { refusal = a.refusal; end = cond (eqb j.passed 0) b (form.write a.end ++ drop form.size b); report = j }) quiet

      packet_none : between 1 max_packet (length bytes) ≡ false → ((lent_packet b bytes).refusal ≡ 0 → ⊥) × ((lent_packet b bytes).end ≡ b) × ((lent_packet b bytes).report ≡ no_report)
      unfolding laid_out
      packet_none out = go (ltb (length b) form.size)
        where
          Refused : Answer (List ℕ) → Type 0
          Refused a = (a.refusal ≡ 0 → ⊥) × (a.end ≡ b) × (a.report ≡ no_report)

          go : (t : Bool) → Refused (answer_of (cond t (called 18 0 b) (packed (v.take_packet (form.read b) bytes))))
          go true = (λ z. omega (arith, z), refl, refl)
          go false = subst Refused (sym (packet_at out)) ((k.alone.no_packets (form.read b) bytes out).0, refl, refl)

      packet_refusal : (e : v.Server) → Are form b e → between 1 max_packet (length bytes) ≡ false → (lent_packet b bytes).refusal ≡ (v.take_packet e bytes).refusal
      unfolding laid_out
      packet_refusal e r out =
          ap (λ (t : Bool). (answer_of (cond t (called 18 0 b) (packed (v.take_packet (form.read b) bytes)))).refusal) (le-ltb (length b) form.size r.1)
          ∙ ap (λ (a : Answer (List ℕ)). a.refusal) (packet_at out) ∙ ap (λ (d : v.Server). (v.take_packet d bytes).refusal) r.0

    -- ---- all calls

    taking : (bytes : List ℕ) → Changing form (λ e. v.take e bytes)
    taking bytes = record { fits = λ e. k.takes e bytes; back = λ e. k.alone.takes e bytes }

    pub lent_alone : (b : List ℕ) → ServerAlone (lent_calls b)
    lent_alone b =
        record {
          takes = λ e bytes. call_back form (λ d. v.take d bytes) (taking bytes) e;
          packets = packet_same;
          no_packets = packet_none;
          packs = λ e l out offset.
              sending_either form (λ d. v.pack d l out offset) (λ d. k.packs d l out offset) out e (Stretch offset out) (k.alone.packs (form.read e) l out offset) (unsent_stretch offset out 18);
          sends = λ e l number out.
              sending_either form (λ d. v.send d l number out) (λ d. k.sends d l number out) out e (Alone out) (k.alone.sends (form.read e) l number out) (unsent_alone out 18);
          tells = λ e l out. sending_either form (λ d. v.tell d l out) (λ d. k.tells d l out) out e (Alone out) (k.alone.tells (form.read e) l out) (unsent_alone out 18);
        }

    -- lent bytes follow the struct
    pub lent_follows : (b : List ℕ) → form.size ≤ length b → EndFollows (lent_calls b) v (Are form)
    lent_follows b h =
        record {
          items = λ e d r. ap v.items r.0;
          total = λ e d r. ap v.total r.0;
          made = λ e d r l. ap (λ (x : v.Server). v.made x l) r.0;
          taken = λ e d r l. ap (λ (x : v.Server). v.taken x l) r.0;
          opens_refusal = λ n ranks xs.
              let a = v.opens n ranks xs in
              open_same form b h (v.opens n ranks) (λ c. (answer_of c).refusal ≡ a.refusal) xs (same_refusal form a b (k.opens n ranks xs));
          opens = λ n ranks xs z.
              let a = v.opens n ranks xs in
              open_same form b h (v.opens n ranks) (λ c. Are form c.bytes a.end) xs (accepted form a b (k.opens n ranks xs) z);
          takes = λ e d r bytes. call_same form (λ x. v.take x bytes) (taking bytes) e d r;
          packets = λ e d r bytes out. packet_refusal e bytes d r out;
          packs = λ e d r l out offset. sending_same form (λ x. v.pack x l out offset) (λ x. k.packs x l out offset) out e d r;
          sends = λ e d r l number out. sending_same form (λ x. v.send x l number out) (λ x. k.sends x l number out) out e d r;
          tells = λ e d r l out. sending_same form (λ x. v.tell x l out) (λ x. k.tells x l out) out e d r;
        }

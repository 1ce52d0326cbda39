-- Every call keeps a sound server sound.
use mathlib.Core.Path.{◌≡◌, refl, ap, sym, ◌∙◌, subst}
use mathlib.Core.Bool.{true, ◌&&◌, not}
use mathlib.Core.List.{List, [], ◌∷◌, ◌++◌, map}
use Prim.Native.Nat.{ℕ, zero, suc, ◌+◌, ◌-◌, ◌*◌, ◌≤◌, ◌<◌}
use native.Mathlib.Omega.{arith}
use lib.Dec.{leb, eqb}
use lib.ListN.{length, get_or, drop, length-map, length-append, length-drop}
use borrow.Author.Tests.{leb-true, le-leb, ltb-true, eq-eqb, eqb-true, ne_eqb}
use Rattle.ot.specs.Edit.{Edit, Nothing, Delete, Insert}
use Rattle.list.specs.declared.Origin.{Origin}
use Rattle.list.specs.Places.{Place, place_of, numbered}
use Rattle.list.proofs.Places.{numbered_applied}
use Rattle.wire.specs.declared.Header.{Header}
use Rattle.model.specs.Limits.{max_lines, max_inserts, max_edits, max_pending, max_items, max_initial}
use Rattle.model.specs.Questions.{Question, ask, every, between}
use Rattle.model.specs.Cross.{placed, priority, inserts_of}
use Rattle.model.specs.Ranks.{rank_of, ranking}
use Rattle.model.specs.Line.{Line, no_line, other, unacked, carried, line_acked, line_taken, line_keeps, roomy}
use Rattle.model.specs.Edits.{no_origin}
use Rattle.model.specs.Server.{Server, line_of, total, server_line_tests, sound_line, sound_lines, other_maker, other_makers, sound_makers, makers_of, server_tests, sound_server, at_place, unacked_makers, server_acked, server_taken, others_roomy}
use Rattle.model.proofs.Tests.{◌&◌, both, and_left, and_right, hold, held, never, between_true, true_between, all_append, all_drop, all_at}
use Rattle.model.proofs.Ranks.{Ranking, ranking_facts}
use Rattle.model.proofs.Cross.{fits_placed, size_inserts, priority_past, inserts_past}
use Rattle.model.proofs.SoundLine.{LineFacts, line_facts, facts_line, Asked, kept_line, taken_line, acked_line}

-- question 2 of line l as facts
pub record ServerLine (n : ℕ) (ranks : List ℕ) (sum l : ℕ) (v : Line) : Type 0 where
  pub made : v.made ≡ sum - v.taken
  pub line : LineFacts v.taken (other n (rank_of ranks l)) v

pub server_line : (n : ℕ) (ranks : List ℕ) (sum l : ℕ) (v : Line) → sound_line n ranks sum l v ≡ true → ServerLine n ranks sum l v
unfolding sound_line
server_line n ranks sum l v s =
    let h = hold (server_line_tests n ranks sum l v) s in
    record { made = eqb-true v.made (sum - v.taken) h.0; line = line_facts v.taken (other n (rank_of ranks l)) v h.1 }

pub line_server : (n : ℕ) (ranks : List ℕ) (sum l : ℕ) (v : Line) → ServerLine n ranks sum l v → sound_line n ranks sum l v ≡ true
unfolding sound_line
line_server n ranks sum l v f =
    held (server_line_tests n ranks sum l v) (eq-eqb v.made (sum - v.taken) f.made, facts_line v.taken (other n (rank_of ranks l)) v f.line)

-- the facts of each line, from line l on
abbrev pub LinesFacts : ℕ → List ℕ → ℕ → ℕ → List Line → Type 0
LinesFacts n ranks sum l [] = Unit {0}
LinesFacts n ranks sum l (v ∷ vs) = ServerLine n ranks sum l v × LinesFacts n ranks sum (suc l) vs

pub lines_facts : (n : ℕ) (ranks : List ℕ) (sum l : ℕ) (vs : List Line) → sound_lines n ranks sum l vs ≡ true → LinesFacts n ranks sum l vs
unfolding sound_lines
lines_facts n ranks sum l [] s = tt
lines_facts n ranks sum l (v ∷ vs) s = (
  server_line n ranks sum l v (and_left (sound_line n ranks sum l v) (sound_lines n ranks sum (suc l) vs) s),
  lines_facts n ranks sum (suc l) vs (and_right (sound_line n ranks sum l v) (sound_lines n ranks sum (suc l) vs) s),
)

pub facts_lines : (n : ℕ) (ranks : List ℕ) (sum l : ℕ) (vs : List Line) → LinesFacts n ranks sum l vs → sound_lines n ranks sum l vs ≡ true
unfolding sound_lines
facts_lines n ranks sum l [] f = refl
facts_lines n ranks sum l (v ∷ vs) f =
    both (sound_line n ranks sum l v) (sound_lines n ranks sum (suc l) vs) (line_server n ranks sum l v f.0) (facts_lines n ranks sum (suc l) vs f.1)

-- question 2 of the origins of the k edits that are pending for line l
pub record Makers (n l k : ℕ) (os : List Origin) : Type 0 where
  pub count : length os ≡ k
  pub others : other_makers n l os ≡ true

abbrev pub LineMakers : ℕ → ℕ → Line → List Origin → Type 0
LineMakers n l v os = Makers n l (v.made - v.acked) os

-- of each line, from line l on
abbrev pub MakersFacts : ℕ → ℕ → List Line → List (List Origin) → Type 0
MakersFacts n l [] [] = Unit {0}
MakersFacts n l [] (os ∷ oss) = ⊥
MakersFacts n l (v ∷ vs) [] = ⊥
MakersFacts n l (v ∷ vs) (os ∷ oss) = LineMakers n l v os × MakersFacts n (suc l) vs oss

pub makers_facts : (n l : ℕ) (vs : List Line) (oss : List (List Origin)) → sound_makers n l vs oss ≡ true → MakersFacts n l vs oss
unfolding sound_makers
makers_facts n l [] [] e = tt
makers_facts n l [] (os ∷ oss) e = never e
makers_facts n l (v ∷ vs) [] e = never e
makers_facts n l (v ∷ vs) (os ∷ oss) e =
    let counted = eqb (length os) (v.made - v.acked) in
    let rest = and_right counted (other_makers n l os && sound_makers n (suc l) vs oss) e in (
      record {
        count = eqb-true (length os) (v.made - v.acked) (and_left counted (other_makers n l os && sound_makers n (suc l) vs oss) e);
        others = and_left (other_makers n l os) (sound_makers n (suc l) vs oss) rest;
      },
      makers_facts n (suc l) vs oss (and_right (other_makers n l os) (sound_makers n (suc l) vs oss) rest),
    )

pub facts_makers : (n l : ℕ) (vs : List Line) (oss : List (List Origin)) → MakersFacts n l vs oss → sound_makers n l vs oss ≡ true
unfolding sound_makers
facts_makers n l [] [] f = refl
facts_makers n l [] (os ∷ oss) f = absurd f
facts_makers n l (v ∷ vs) [] f = absurd f
facts_makers n l (v ∷ vs) (os ∷ oss) f =
    both (eqb (length os) (v.made - v.acked)) (other_makers n l os && sound_makers n (suc l) vs oss) (eq-eqb (length os) (v.made - v.acked) f.0.count)
    (both (other_makers n l os) (sound_makers n (suc l) vs oss) f.0.others (facts_makers n (suc l) vs oss f.1))

abbrev pub taken_sum : List Line → ℕ
taken_sum vs = total (λ v. v.taken) vs

abbrev pub insert_sum : List Line → ℕ
insert_sum vs = total (λ v. v.inserts) vs

pub record ServerFacts (s : Server) : Type 0 where
  pub n : (1 ≤ s.n) × (s.n ≤ max_lines)
  pub initial : s.initial ≤ max_initial
  pub ranked : ranking s.n s.ranks ≡ true
  pub items : length s.items ≤ max_items
  pub numbers : numbered s.items ≡ true
  pub count : length s.lines ≡ s.n
  pub lines : LinesFacts s.n s.ranks (taken_sum s.lines) 1 s.lines
  pub makers : MakersFacts s.n 1 s.lines s.makers
  pub inserted : length s.items ≤ s.initial + insert_sum s.lines

pub server_facts : (s : Server) → sound_server s ≡ true → ServerFacts s
unfolding sound_server
server_facts s e =
    let h = hold (server_tests s) e in
    record {
      n = between_true 1 max_lines s.n h.0;
      initial = leb-true s.initial max_initial h.1.0;
      ranked = h.1.1.0;
      items = leb-true (length s.items) max_items h.1.1.1.0;
      numbers = h.1.1.1.1.0;
      count = eqb-true (length s.lines) s.n h.1.1.1.1.1.0;
      lines = lines_facts s.n s.ranks (taken_sum s.lines) 1 s.lines h.1.1.1.1.1.1.0;
      makers = makers_facts s.n 1 s.lines s.makers h.1.1.1.1.1.1.1.0;
      inserted = leb-true (length s.items) (s.initial + insert_sum s.lines) h.1.1.1.1.1.1.1.1.0;
    }

pub facts_server : (s : Server) → ServerFacts s → sound_server s ≡ true
unfolding sound_server
facts_server s f =
    held (server_tests s)
    (true_between 1 max_lines s.n f.n.0 f.n.1
    & le-leb s.initial max_initial f.initial
    & f.ranked
    & le-leb (length s.items) max_items f.items
    & f.numbers
    & eq-eqb (length s.lines) s.n f.count
    & facts_lines s.n s.ranks (taken_sum s.lines) 1 s.lines f.lines
    & facts_makers s.n 1 s.lines s.makers f.makers
    & le-leb (length s.items) (s.initial + insert_sum s.lines) f.inserted
    & tt)

pub inserts_one : (e : Edit) → inserts_of e ≤ 1
inserts_one Nothing = omega arith
inserts_one (Delete p) = omega arith
inserts_one (Insert p x r) = omega arith

-- One line of a taking. The line that the edit came on, and any other.
taken_one : (n : ℕ) (ranks : List ℕ) (sum l : ℕ) (v : Line) (items : List Place) (h : Header) (e : Edit) → ServerLine n ranks sum l v → v.taken ≤ sum → Asked v items h e
    → v.taken < max_edits → v.inserts + inserts_of e ≤ max_inserts → ServerLine n ranks (suc sum) l (line_taken (v.inserts + inserts_of e) h.seen e v)
taken_one n ranks sum l v items h e f t q most q10 =
    record {
      made = omega (arith, f.made);
      line =
          taken_line v.taken (v.taken + 1) (other n (rank_of ranks l)) (v.inserts + inserts_of e) v items h e f.line q
          (omega arith) q10 (omega (arith, f.line.inserts_edits, inserts_one e));
    }

kept_one : (n : ℕ) (ranks : List ℕ) (sum l : ℕ) (e : Edit) (v : Line) → ServerLine n ranks sum l v → v.taken ≤ sum → v.made - v.acked < max_pending → placed e ≡ true
    → priority (other n (rank_of ranks l)) e ≡ true → ServerLine n ranks (suc sum) l (line_keeps v.inserts e v)
kept_one n ranks sum l e v f t room p r =
    record {
      made = omega (arith, f.made);
      line =
          kept_line v.taken v.taken (other n (rank_of ranks l)) v.inserts e v f.line
          f.line.edits f.line.inserts f.line.inserts_edits room p r;
    }

-- ---- all lines of a taking

pub length_at_place : {A : Type 0} (i : ℕ) (f g : A → A) (vs : List A) → length (at_place i f g vs) ≡ length vs
unfolding at_place
length_at_place i f g [] = refl
length_at_place zero f g (v ∷ vs) = ap suc (length-map vs g)
length_at_place (suc i) f g (v ∷ vs) = ap suc (length_at_place i f g vs)

-- a number that g leaves as it is, added up
total_map : (h : Line → ℕ) (g : Line → Line) → ((v : Line) → h (g v) ≡ h v) → (vs : List Line) → total h (map g vs) ≡ total h vs
total_map h g same [] = refl
total_map h g same (v ∷ vs) = omega (arith, same v, total_map h g same vs)

-- a number to which f adds k and which g leaves as it is
pub total_at_place : (h : Line → ℕ) (f g : Line → Line) (k : ℕ) → ((v : Line) → h (f v) ≡ h v + k) → ((v : Line) → h (g v) ≡ h v)
    → (i : ℕ) (vs : List Line) → i < length vs → total h (at_place i f g vs) ≡ total h vs + k
unfolding at_place
total_at_place h f g k more same i [] lt = absurd (omega arith)
total_at_place h f g k more same zero (v ∷ vs) lt = omega (arith, more v, total_map h g same vs)
total_at_place h f g k more same (suc i) (v ∷ vs) lt = omega (arith, same v, total_at_place h f g k more same i vs (omega arith))

kept_lines : (n : ℕ) (ranks : List ℕ) (sum l : ℕ) (e : Edit) (vs : List Line) → LinesFacts n ranks sum l vs → taken_sum vs ≤ sum → every (map roomy vs) ≡ true → placed e ≡ true
    → ((j : ℕ) → l ≤ j → j < l + length vs → priority (other n (rank_of ranks j)) e ≡ true) → LinesFacts n ranks (suc sum) l (map (λ v. line_keeps v.inserts e v) vs)
kept_lines n ranks sum l e [] f s r p o = tt
kept_lines n ranks sum l e (v ∷ vs) f s r p o = (
  kept_one n ranks sum l e v f.0 (omega arith) (ltb-true (v.made - v.acked) max_pending (and_left (roomy v) (every (map roomy vs)) r)) p (o l (omega arith) (omega arith)),
  kept_lines n ranks sum (suc l) e vs f.1 (omega arith) (and_right (roomy v) (every (map roomy vs)) r) p (λ j h t. o j (omega arith) (omega arith)),
)

taken_lines : (n : ℕ) (ranks : List ℕ) (sum l i : ℕ) (items : List Place) (h : Header) (e c : Edit) (vs : List Line) → i < length vs → LinesFacts n ranks sum l vs → taken_sum vs ≤ sum → others_roomy i vs ≡ true
    → placed c ≡ true → ((j : ℕ) → l ≤ j → j < l + length vs → (j ≡ l + i → ⊥) → priority (other n (rank_of ranks j)) c ≡ true) → Asked (get_or vs i no_line) items h e
    → (get_or vs i no_line).taken < max_edits → (get_or vs i no_line).inserts + inserts_of e ≤ max_inserts
    → LinesFacts n ranks (suc sum) l (at_place i (λ v. line_taken (v.inserts + inserts_of e) h.seen e v) (λ v. line_keeps v.inserts c v) vs)
unfolding at_place others_roomy
taken_lines n ranks sum l i items h e c [] lt f s r p o q most q10 = absurd (omega arith)
taken_lines n ranks sum l zero items h e c (v ∷ vs) lt f s r p o q most q10 = (
  taken_one n ranks sum l v items h e f.0 (omega arith) q most q10,
  kept_lines n ranks sum (suc l) c vs f.1 (omega arith) r p (λ j a b. o j (omega arith) (omega arith) (λ d. omega arith)),
)
taken_lines n ranks sum l (suc i) items h e c (v ∷ vs) lt f s r p o q most q10 = (
  kept_one n ranks sum l c v f.0 (omega arith) (ltb-true (v.made - v.acked) max_pending (and_left (roomy v) (others_roomy i vs) r)) p (o l (omega arith) (omega arith) (λ d. omega arith)),
  taken_lines n ranks sum (suc l) i items h e c vs (omega arith) f.1 (omega arith) (and_right (roomy v) (others_roomy i vs) r) p (λ j a b t. o j (omega arith) (omega arith) (λ d. t (omega arith))) q most q10,
)

acked_lines : (n : ℕ) (ranks : List ℕ) (sum l i seen : ℕ) (vs : List Line) → LinesFacts n ranks sum l vs → (get_or vs i no_line).acked ≤ seen → seen ≤ (get_or vs i no_line).made
    → LinesFacts n ranks sum l (at_place i (line_acked seen) (λ v. v) vs)
unfolding at_place
acked_lines n ranks sum l i seen [] f q7 q8 = tt
acked_lines n ranks sum l zero seen (v ∷ vs) f q7 q8 = (record { made = f.0.made; line = acked_line v.taken (other n (rank_of ranks l)) seen v f.0.line q7 q8 }, rest (suc l) vs f.1)
  where
    rest : (k : ℕ) (us : List Line) → LinesFacts n ranks sum k us → LinesFacts n ranks sum k (map (λ u. u) us)
    rest k [] g = tt
    rest k (u ∷ us) g = (g.0, rest (suc k) us g.1)
acked_lines n ranks sum l (suc i) seen (v ∷ vs) f q7 q8 = (f.0, acked_lines n ranks sum (suc l) i seen vs f.1 q7 q8)

-- ---- the origins of a taking

-- Where each line is changed by f or g, so are its origins by p or q.
at_makers : (n : ℕ) (ranks : List ℕ) (sum l i : ℕ) (f g : Line → Line) (p q : List Origin → List Origin) (vs : List Line) (oss : List (List Origin))
    → LinesFacts n ranks sum l vs → MakersFacts n l vs oss
    → ((j : ℕ) → j ≡ l + i → LineMakers n j (get_or vs i no_line) (get_or oss i []) → LineMakers n j (f (get_or vs i no_line)) (p (get_or oss i [])))
    → ((j : ℕ) (v : Line) (os : List Origin) → l ≤ j → j < l + length vs → (j ≡ l + i → ⊥) → v.acked ≤ v.made → LineMakers n j v os → LineMakers n j (g v) (q os))
    → MakersFacts n l (at_place i f g vs) (at_place i p q oss)
unfolding at_place
at_makers n ranks sum l i f g p q [] [] k m here there = tt
at_makers n ranks sum l i f g p q [] (os ∷ oss) k m here there = absurd m
at_makers n ranks sum l i f g p q (v ∷ vs) [] k m here there = absurd m
at_makers n ranks sum l zero f g p q (v ∷ vs) (os ∷ oss) k m here there =
    (here l (omega arith) m.0, rest (suc l) vs oss k.1 m.1 (λ j u us a b. there j u us (omega arith) (omega arith) (λ e. omega arith)))
  where
    rest : (d : ℕ) (us : List Line) (pss : List (List Origin)) → LinesFacts n ranks sum d us → MakersFacts n d us pss
        → ((j : ℕ) (u : Line) (ps : List Origin) → d ≤ j → j < d + length us → u.acked ≤ u.made → LineMakers n j u ps → LineMakers n j (g u) (q ps))
        → MakersFacts n d (map g us) (map q pss)
    rest d [] [] k' m' each = tt
    rest d [] (ps ∷ pss) k' m' each = absurd m'
    rest d (u ∷ us) [] k' m' each = absurd m'
    rest d (u ∷ us) (ps ∷ pss) k' m' each = (
      each d u ps (omega arith) (omega arith) k'.0.line.acked m'.0,
      rest (suc d) us pss k'.1 m'.1 (λ j w ws a b. each j w ws (omega arith) (omega arith)),
    )
at_makers n ranks sum l (suc i) f g p q (v ∷ vs) (os ∷ oss) k m here there = (
  there l v os (omega arith) (omega arith) (λ e. omega arith) k.0.line.acked m.0,
  at_makers n ranks sum (suc l) i f g p q vs oss k.1 m.1 (λ j e. here j (omega arith)) (λ j u us a b d. there j u us (omega arith) (omega arith) (λ e. d (omega arith))),
)

-- one more edit is pending, made by another line's client
kept_makers : (n l i : ℕ) (e : Edit) (v : Line) (o : Origin) (os : List Origin) → other_maker n l o ≡ true → v.acked ≤ v.made → LineMakers n l v os
    → LineMakers n l (line_keeps i e v) (os ++ (o ∷ []))
unfolding other_makers
kept_makers n l i e v o os t a f =
    record {
      count = length-append os (o ∷ []) ∙ omega (arith, f.count);
      others = all_append (other_maker n l) (other_makers n l) refl (λ x xs. refl) os o f.others t;
    }

-- edits up to seen are acknowledged
acked_makers : (n l seen : ℕ) (v : Line) (os : List Origin) → v.acked ≤ seen → LineMakers n l v os → LineMakers n l (line_acked seen v) (drop (seen - v.acked) os)
unfolding other_makers
acked_makers n l seen v os q7 f =
    record {
      count = length-drop (seen - v.acked) os ∙ omega (arith, f.count);
      others = all_drop (other_maker n l) (other_makers n l) refl (λ x xs. refl) (seen - v.acked) os f.others;
    }

-- what the server asks of an edit after questions 5 to 9
abbrev pub last_questions : Server → Header → Edit → List Question
last_questions s h e = ask 10 (leb ((line_of s h.line).inserts + inserts_of e) max_inserts) ∷ ask 12 (others_roomy (h.line - 1) s.lines) ∷ []

-- a rank or line of 1 to n that is not the own one
pub other_is : (n own r : ℕ) → 1 ≤ r → r ≤ n → (r ≡ own → ⊥) → other n own r ≡ true
other_is n own r lo hi apart = both (between 1 n r) (not (eqb r own)) (true_between 1 n r lo hi) (rw (ne_eqb r own apart))

-- An edit taken, where no question said no.
pub server_taken_sound : (s : Server) (h : Header) (e : Edit) → ServerFacts s → 1 ≤ h.line → h.line ≤ s.n → priority (eqb (rank_of s.ranks h.line)) e ≡ true
    → h.origin.line ≡ h.line → (1 ≤ h.origin.number) × (h.origin.number ≤ max_edits)
    → Asked (line_of s h.line) s.items h e → (line_of s h.line).taken < max_edits → (line_of s h.line).inserts + inserts_of e ≤ max_inserts
    → others_roomy (h.line - 1) s.lines ≡ true → ServerFacts (server_taken s h.line h.origin h.seen e)
server_taken_sound s h e f l1 ln pr maker made q most q10 q12 =
    let line = h.line in
    let seen = h.seen in
    let vs = s.lines in
    let c = carried (line_of s line) seen e in
    let takes : Line → Line = λ v. line_taken (v.inserts + inserts_of e) seen e v in
    let keeps : Line → Line = λ v. line_keeps v.inserts c v in
    let keeps_maker : List Origin → List Origin = λ os. os ++ (h.origin ∷ []) in
    let here : line - 1 < length vs = omega (arith, f.count) in
    let sum : taken_sum (at_place (line - 1) takes keeps vs) ≡ taken_sum vs + 1 =
    total_at_place (λ v. v.taken) takes keeps 1 (λ v. refl) (λ v. refl) (line - 1) vs here in
    let more : insert_sum (at_place (line - 1) takes keeps vs) ≡ insert_sum vs + inserts_of e =
    total_at_place (λ v. v.inserts) takes keeps (inserts_of e) (λ v. refl) (λ v. refl) (line - 1) vs here in
    record {
      n = f.n;
      initial = f.initial;
      ranked = f.ranked;
      items = q.size;
      numbers = numbered_applied h.origin c s.items (omega arith) f.numbers;
      count = length_at_place (line - 1) takes keeps vs ∙ f.count;
      lines =
          subst (λ (k : ℕ). LinesFacts s.n s.ranks k 1 (at_place (line - 1) takes keeps vs)) (omega (arith, sum))
          (taken_lines s.n s.ranks (taken_sum vs) 1 (line - 1) s.items h e c vs here f.lines (omega arith) q12
          (fits_placed (place_of h.origin) c s.items f.items q.fit q.size)
          (λ j a b d. others j a (omega (arith, f.count)) (λ z. d (omega arith)))
          q most q10);
      makers =
          at_makers s.n s.ranks (taken_sum vs) 1 (line - 1) takes keeps (unacked_makers s line seen) keeps_maker vs s.makers f.lines f.makers
          (λ j a m. acked_makers s.n j seen (line_of s line) (makers_of s line) q.low m)
          (λ j v os a b d w m. kept_makers s.n j v.inserts c v h.origin os (other_maker_lem j (λ z. d (omega arith))) w m);
      inserted = omega (arith, more, f.inserted, size_inserts (place_of h.origin) c s.items, inserts_past e (unacked (line_of s line) seen));
    }
  where
    facts : Ranking s.n s.ranks
    facts = ranking_facts s.n s.ranks f.ranked

    -- the insert bears its own line's rank, which is another line's for all others
    priority_of : (j : ℕ) (d : Edit) → 1 ≤ j → j ≤ s.n → (j ≡ h.line → ⊥) → priority (eqb (rank_of s.ranks h.line)) d ≡ true
        → priority (other s.n (rank_of s.ranks j)) d ≡ true
    priority_of j Nothing lo hi a t = refl
    priority_of j (Delete p) lo hi a t = refl
    priority_of j (Insert p x r) lo hi a t =
        let same : rank_of s.ranks h.line ≡ r = eqb-true (rank_of s.ranks h.line) r t in
        let low = facts.each h.line l1 ln in
        other_is s.n (rank_of s.ranks j) r (omega arith) (omega arith) (λ z. facts.apart h.line j l1 ln lo hi (λ y. a (sym y)) (same ∙ z))

    others : (j : ℕ) → 1 ≤ j → j ≤ s.n → (j ≡ h.line → ⊥) → priority (other s.n (rank_of s.ranks j)) (carried (line_of s h.line) h.seen e) ≡ true
    others j lo hi a =
        priority_past (other s.n (rank_of s.ranks j)) e (unacked (line_of s h.line) h.seen) ∙ priority_of j e lo hi a pr

    other_maker_lem : (j : ℕ) → (j ≡ h.line → ⊥) → other_maker s.n j h.origin ≡ true
    other_maker_lem j a =
        both (other s.n j h.origin.line) (between 1 max_edits h.origin.number)
        (other_is s.n j h.origin.line (omega arith) (omega arith) (λ z. a (omega arith)))
        (true_between 1 max_edits h.origin.number made.0 made.1)

pub server_acked_sound : (s : Server) (line seen : ℕ) → ServerFacts s → 1 ≤ line → line ≤ s.n → (line_of s line).acked ≤ seen → seen ≤ (line_of s line).made
    → ServerFacts (server_acked s line seen)
server_acked_sound s line seen f l1 ln q7 q8 =
    let vs = s.lines in
    let here : line - 1 < length vs = omega (arith, f.count) in
    let sum : taken_sum (at_place (line - 1) (line_acked seen) (λ v. v) vs) ≡ taken_sum vs + 0 =
    total_at_place (λ v. v.taken) (line_acked seen) (λ v. v) 0 (λ v. omega arith) (λ v. refl) (line - 1) vs here in
    let more : insert_sum (at_place (line - 1) (line_acked seen) (λ v. v) vs) ≡ insert_sum vs + 0 =
    total_at_place (λ v. v.inserts) (line_acked seen) (λ v. v) 0 (λ v. omega arith) (λ v. refl) (line - 1) vs here in
    record {
      n = f.n;
      initial = f.initial;
      ranked = f.ranked;
      items = f.items;
      numbers = f.numbers;
      count = length_at_place (line - 1) (line_acked seen) (λ v. v) vs ∙ f.count;
      lines =
          subst (λ (k : ℕ). LinesFacts s.n s.ranks k 1 (at_place (line - 1) (line_acked seen) (λ v. v) vs)) (omega (arith, sum))
          (acked_lines s.n s.ranks (taken_sum vs) 1 (line - 1) seen vs f.lines q7 q8);
      makers =
          at_makers s.n s.ranks (taken_sum vs) 1 (line - 1) (line_acked seen) (λ v. v) (unacked_makers s line seen) (λ os. os) vs s.makers f.lines f.makers
          (λ j a m. acked_makers s.n j seen (line_of s line) (makers_of s line) q7 m)
          (λ j v os a b d w m. m);
      inserted = omega (arith, more, f.inserted);
    }

-- the facts of one line
pub lines_get : (n : ℕ) (ranks : List ℕ) (sum l : ℕ) (vs : List Line) → LinesFacts n ranks sum l vs → (i : ℕ) → i < length vs → ServerLine n ranks sum (l + i) (get_or vs i no_line)
lines_get n ranks sum l [] f i lt = absurd (omega arith)
lines_get n ranks sum l (v ∷ vs) f zero lt = subst (λ (k : ℕ). ServerLine n ranks sum k v) (omega arith) f.0
lines_get n ranks sum l (v ∷ vs) f (suc i) lt = subst (λ (k : ℕ). ServerLine n ranks sum k (get_or vs i no_line)) (omega arith) (lines_get n ranks sum (suc l) vs f.1 i (omega arith))

pub line_fact : (s : Server) → ServerFacts s → (l : ℕ) → 1 ≤ l → l ≤ s.n → ServerLine s.n s.ranks (taken_sum s.lines) l (line_of s l)
line_fact s f l a b =
    subst (λ (k : ℕ). ServerLine s.n s.ranks (taken_sum s.lines) k (line_of s l)) (omega arith)
    (lines_get s.n s.ranks (taken_sum s.lines) 1 s.lines f.lines (l - 1) (omega (arith, f.count)))

-- the origins of one line
pub makers_get : (n l : ℕ) (vs : List Line) (oss : List (List Origin)) → MakersFacts n l vs oss → (i : ℕ) → i < length vs → LineMakers n (l + i) (get_or vs i no_line) (get_or oss i [])
makers_get n l [] oss f i lt = absurd (omega arith)
makers_get n l (v ∷ vs) [] f i lt = absurd f
makers_get n l (v ∷ vs) (os ∷ oss) f zero lt = subst (λ (k : ℕ). LineMakers n k v os) (omega arith) f.0
makers_get n l (v ∷ vs) (os ∷ oss) f (suc i) lt = subst (λ (k : ℕ). LineMakers n k (get_or vs i no_line) (get_or oss i [])) (omega arith) (makers_get n (suc l) vs oss f.1 i (omega arith))

pub maker_at_lem : (n l : ℕ) (os : List Origin) (i : ℕ) → i < length os → other_makers n l os ≡ true → other_maker n l (get_or os i no_origin) ≡ true
unfolding other_makers
maker_at_lem n l os i = all_at (other_maker n l) (other_makers n l) refl (λ x xs. refl) os i no_origin

pub makers_fact : (s : Server) → ServerFacts s → (l : ℕ) → 1 ≤ l → l ≤ s.n → LineMakers s.n l (line_of s l) (makers_of s l)
makers_fact s f l a b =
    subst (λ (k : ℕ). LineMakers s.n k (line_of s l) (makers_of s l)) (omega arith) (makers_get s.n 1 s.lines s.makers f.makers (l - 1) (omega (arith, f.count)))

pub makers_count : (n l : ℕ) (vs : List Line) (oss : List (List Origin)) → MakersFacts n l vs oss → length oss ≡ length vs
makers_count n l [] [] f = refl
makers_count n l [] (os ∷ oss) f = absurd f
makers_count n l (v ∷ vs) [] f = absurd f
makers_count n l (v ∷ vs) (os ∷ oss) f = ap suc (makers_count n (suc l) vs oss f.1)

-- all lines but one took at most 400 edits each
takens_most : (n : ℕ) (ranks : List ℕ) (sum l : ℕ) (vs : List Line) → LinesFacts n ranks sum l vs → taken_sum vs ≤ length vs * 400
takens_most n ranks sum l [] f = omega arith
takens_most n ranks sum l (v ∷ vs) f = omega (arith, f.0.line.edits, takens_most n ranks sum (suc l) vs f.1)

takens_others : (n : ℕ) (ranks : List ℕ) (sum l : ℕ) (vs : List Line) → LinesFacts n ranks sum l vs → (i : ℕ) → i < length vs → taken_sum vs ≤ (get_or vs i no_line).taken + (length vs - 1) * 400
takens_others n ranks sum l [] f i lt = absurd (omega arith)
takens_others n ranks sum l (v ∷ vs) f zero lt = omega (arith, takens_most n ranks sum (suc l) vs f.1)
takens_others n ranks sum l (v ∷ vs) f (suc i) lt = omega (arith, f.0.line.edits, takens_others n ranks sum (suc l) vs f.1 i (omega arith))

pub made_most : (s : Server) → ServerFacts s → (l : ℕ) → 1 ≤ l → l ≤ s.n → (line_of s l).made ≤ 2800
made_most s f l a b =
    omega (arith, (line_fact s f l a b).made, takens_others s.n s.ranks (taken_sum s.lines) 1 s.lines f.lines (l - 1) (omega (arith, f.count)), f.count, f.n.1)

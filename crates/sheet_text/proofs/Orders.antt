-- Laws of orders: a line by its words.
use Prim.Native.Nat.{ℕ, suc, ◌+◌, ◌-◌, ◌*◌, ◌<◌, min}
use mathlib.Core.Path.{◌≡◌, refl, sym, ap, ◌∙◌}
use mathlib.Core.Bool.{Bool, true, false, ◌&&◌, cond}
use mathlib.Core.List.{List, [], ◌∷◌}
use native.Mathlib.Omega.{arith}
use borrow.Author.Tests.{eqb-true, ltb-true, ltb-false, lt-leb, le-ltb}
use lib.Dec.{leb, ltb, eqb}
use lib.ListN.{length, get_or, take, drop}
use Rattle.std.proofs.Common.{Option, None, Some, Bor, Result, Ok, Err}
use Rattle.std.specs.Option.{option_copied}
use Rattle.std.specs.Result.{OkIff, result_ok}
use Rattle.sheet_text.specs.declared.Order.{Order}
use Rattle.sheet_text.specs.declared.Verb.{Verb}
use Rattle.sheet_text.specs.Text.{before, words_of, words_in, lines_of, same}
use Rattle.sheet_print.specs.Decimal.{too_wide, with_digit, number_from, number_of}
use Rattle.sheet_text.specs.Command.{Command, Bad, Insert, ins_word, with_two, after_number, verb_of, spoken, command_of}
use Rattle.sheet_text.specs.Order.{on, coded, Says, Next}
use Rattle.sheet_print.proofs.Sinks.{both}
use Rattle.sheet_text.proofs.Texts.{words_some, words_one, words_cut, and_false, lines_next, line_is}
use Rattle.sheet_print.proofs.Numbers.{number_some, number_on, with_digit_le}

-- A word with a space in it is no number.
wide_digit : (b : ℕ) → with_digit too_wide b ≡ too_wide
wide_digit b = both (λ k. k ≡ too_wide) (leb 48 b && leb b 57) (min too_wide (too_wide * 10 + (b - 48))) too_wide (omega arith) refl

wide_stays : (s : List ℕ) → number_from too_wide s ≡ too_wide
unfolding number_from
wide_stays [] = refl
wide_stays (b ∷ s) = ap (λ n. number_from n s) (wide_digit b) ∙ wide_stays s

-- a word that has come to a byte that is no digit, or to a number too wide, is no number
pub number_stops : (w : List ℕ) (n i : ℕ) → (length w ≡ 0 → ⊥) → i < length w → number_from n (drop i w) ≡ number_from 0 w
    → (with_digit n (get_or w i 0) < too_wide → ⊥) → number_of w < too_wide → ⊥
number_stops w n i some h e wide small =
    let full : with_digit n (get_or w i 0) ≡ too_wide = omega (arith, with_digit_le n (get_or w i 0)) in
    let all = number_some w some ∙ sym e ∙ sym (number_on w n i h) ∙ ap (λ k. number_from k (drop (i + 1) w)) full ∙ wide_stays (drop (i + 1) w) in
    omega arith

spaced : (s : List ℕ) (n : ℕ) → length (before 32 s) < length s → number_from n s ≡ too_wide
unfolding before number_from
spaced [] n h = absurd (omega arith)
spaced (b ∷ s) n h = go (eqb b 32) refl h (λ small. spaced s (with_digit n b) small)
  where
    go : (t : Bool) → eqb b 32 ≡ t → length (cond t [] (b ∷ before 32 s)) < suc (length s)
        → (length (before 32 s) < length s → number_from (with_digit n b) s ≡ too_wide) → number_from (with_digit n b) s ≡ too_wide
    go true e small on = ap (λ x. number_from (with_digit n x) s) (eqb-true b 32 e) ∙ wide_stays s
    go false e small on = on (omega arith)

spaced_number : (s : List ℕ) → length (before 32 s) < length s → number_of s ≡ too_wide
spaced_number s h = number_some s (λ e. omega arith) ∙ spaced s 0 h

-- so a word that is a number is the only one
number_alone : (s : List ℕ) → number_of s < too_wide → words_of s ≡ s ∷ []
number_alone s h = go (ltb (length (before 32 s)) (length s)) refl
  where
    go : (t : Bool) → ltb (length (before 32 s)) (length s) ≡ t → words_of s ≡ s ∷ []
    go true e = let k = spaced_number s (ltb-true (length (before 32 s)) (length s) e) in absurd (omega arith)
    go false e = words_one s (ltb-false (length (before 32 s)) (length s) e)

first_wide : (l : ℕ) (w : List ℕ) (k : ℕ) (ws : List (List ℕ)) → (k < 65536 → ⊥) → after_number l w k ws ≡ Bad
first_wide l w k [] h = rw (le-ltb k 65536 (omega arith))
first_wide l w k (x ∷ []) h = rw (le-ltb k 65536 (omega arith))
first_wide l w k (x ∷ y ∷ ws) h = refl

no_second : (t r : Bool) (c : Command) → cond (t && false && r) c Bad ≡ Bad
no_second true r c = refl
no_second false r c = refl

second_wide : (l : ℕ) (w : List ℕ) (k : ℕ) (s : List ℕ) → (number_of s < too_wide → ⊥) → after_number l w k (words_of s) ≡ Bad
second_wide l w k s h = go (ltb (length (before 32 s)) (length s)) refl
  where
    go : (t : Bool) → ltb (length (before 32 s)) (length s) ≡ t → after_number l w k (words_of s) ≡ Bad
    go true e =
        ap (after_number l w k) (words_cut s (length (before 32 s)) refl (ltb-true (length (before 32 s)) (length s) e))
        ∙ words_some (λ vs. after_number l w k (take (length (before 32 s)) s ∷ vs) ≡ Bad) (λ v vs. refl) _
    go false e =
        ap (after_number l w k) (words_one s (ltb-false (length (before 32 s)) (length s) e))
        ∙ rw (le-ltb (number_of s) too_wide (omega arith)) (no_second (ltb k 65536) (same w ins_word) (Insert l k (number_of s)))

-- a conversion that fails
pub unfit : {E P : Type 0} (v : ℕ) (r : Result ℕ E) → OkIff r P v → ◌≡◌ {A = Option ℕ} None (result_ok r) → P → ⊥
unfit v (Ok x) h e p = cc
unfit v (Err e) h q p = h p

-- What follows a verb, by its first word.
module _ (w s first : List ℕ) (rest : Option (Bor (List ℕ))) (p : words_of s ≡ first ∷ words_in (option_copied rest)) where
  pub says_wide : (number_of first < 65536 → ⊥) → (l : ℕ) → ◌≡◌ {A = Option Order} None (coded (verb_of l (w ∷ words_of s)))
  unfolding coded
  says_wide h l = rw (p, first_wide l w (number_of first) (words_in (option_copied rest)) h)

  module _ (second : Bor (List ℕ)) (q : rest ≡ Some second) where
    pub says_two : number_of second.now < too_wide → (l : ℕ) → with_two l w (number_of first) (number_of second.now) ≡ verb_of l (w ∷ words_of s)
    says_two small l = rw (p, q, number_alone second.now small)

    pub says_two_wide : (number_of second.now < too_wide → ⊥) → (l : ℕ) → ◌≡◌ {A = Option Order} None (coded (verb_of l (w ∷ words_of s)))
    unfolding coded
    says_two_wide wide l = rw (p, q, second_wide l w (number_of first) second.now wide)

-- A line by its first word, the line of a client.
module _ (n : ℕ) (line first : List ℕ) (rest : Option (Bor (List ℕ))) (p : words_of line ≡ first ∷ words_in (option_copied rest)) where
  command_is : command_of n line ≡ cond (leb 1 (number_of first) && leb (number_of first) n) (verb_of (number_of first) (words_in (option_copied rest))) Bad
  unfolding command_of
  command_is = ap (spoken n) p

  out : (leb 1 (number_of first) && leb (number_of first) n) ≡ false → ◌≡◌ {A = Option Order} None (coded (command_of n line))
  unfolding coded
  out h = rw (command_is, h)

  pub command_past : n < number_of first → ◌≡◌ {A = Option Order} None (coded (command_of n line))
  command_past h = out (rw (lt-leb (number_of first) n h, and_false (leb 1 (number_of first))))

  module _ (k : ℕ) (q : k ≡ number_of first) where
    pub command_out : (leb 1 k && leb k n) ≡ false → ◌≡◌ {A = Option Order} None (coded (command_of n line))
    command_out h = out (rw (← q, h))

    module _ (t : (leb 1 k && leb k n) ≡ true) where
      pub command_ends : rest ≡ None → ◌≡◌ {A = Option Order} None (coded (command_of n line))
      unfolding coded
      command_ends e = rw (command_is, ← q, t, e)

      pub command_goes : (r : Bor (List ℕ)) → rest ≡ Some r → (o : Option Verb) → Says o (λ l. verb_of l (words_of r.now)) → on k o ≡ coded (command_of n line)
      command_goes r e o h = rw (command_is, ← q, t, e) (h k)

-- The order of a line at place i, where the search for the line's end answered e.
pub line_next : (s : List ℕ) (i e n : ℕ) (h : i < length s) (p : e ≡ length (before 10 (take (length s - i) (drop i s)))) (o : Option Order)
    → o ≡ coded (command_of n (take (i + e - i) (drop i s))) → Next s i n (record { order = o; after = i + e + 1 })
line_next s i e n h p o q =
    record {
      lines = lines_next s i e h p ∙ ap (λ l. l ∷ lines_of (drop (i + e + 1) s)) (line_is s i e h p);
      order = q ∙ ap (λ l. coded (command_of n l)) (line_is s i e h p);
      later = omega arith;
    }

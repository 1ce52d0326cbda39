use mathlib.Core.Path.{◌≡◌, ap, ◌∙◌}
use mathlib.Core.List.{◌∷◌}
use native.Mathlib.Omega.{arith}
use lib.ListN.{length}
use Rattle.std.specs.Option.{option_copied}
use Rattle.sheet_text.specs.Text.{words_of, words_in}
use Rattle.sheet_text.specs.Opening.{cut}
use Rattle.sheet_text.proofs.Openings.{more, more_stops, more_next, more_past, more_none}
use Rattle.sheet_text.proofs.first.items.Goals as goal
use Rattle.sheet_text.proofs.first.items.Goals.{After-first_word}

-- the next word, and those behind it
next : (c : After-first_word) → words_in (option_copied c.loop-left.left) ≡ c.first_word.result.0.now ∷ words_in (option_copied c.first_word.result.1)
next c = ap (λ o. words_in (option_copied o)) c.in-Some.is ∙ c.first_word.ensures

pub loop-left-init : goal.loop-left-init
loop-left-init c = record {
  few = rw c.new-items.ensures (omega arith);
  rest = ap (λ xs. cut (more c.args.n xs (words_of c.args.s.now))) c.new-items.ensures;
}

pub returns-in_err-x : goal.returns-in_err-x
returns-in_err-x c =
    rw c.from_residual.ensures (more_stops _ _ _ _ _ (next (goal.at.returns-in_err-x c).After-first_word) c.in_err-x.ensures c.loop-left.invariant.rest)

pub loop-left-smaller-then-len-lt129 : goal.loop-left-smaller-then-len-lt129
loop-left-smaller-then-len-lt129 c = let e = ap length (next (goal.at.loop-left-smaller-then-len-lt129 c).After-first_word) in omega arith

pub loop-left-preserved-then-len-lt129 : goal.loop-left-preserved-then-len-lt129
loop-left-preserved-then-len-lt129 c = record {
  few = omega (arith, c.push.ensures.len, c.len.ensures.value);
  rest = more_next _ _ _ _ _ (next (goal.at.loop-left-preserved-then-len-lt129 c).After-first_word) _ c.in_ok-x.ensures _ c.push.ensures.items c.loop-left.invariant.rest;
}

pub loop-left-smaller : goal.loop-left-smaller
loop-left-smaller c = let e = ap length (next (goal.at.loop-left-smaller c).After-first_word) in omega arith

pub loop-left-preserved : goal.loop-left-preserved
loop-left-preserved c = record {
  few = c.loop-left.invariant.few;
  rest = more_past _ _ _ _ _ (next (goal.at.loop-left-preserved c).After-first_word) _ c.in_ok-x.ensures (omega (arith, c.len.ensures.value)) c.loop-left.invariant.rest;
}

pub returns : goal.returns
returns c = more_none _ _ _ (ap (λ o. words_in (option_copied o)) c.in_default.is) c.loop-left.invariant.few c.loop-left.invariant.rest

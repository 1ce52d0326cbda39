use Prim.Native.Nat.{ℕ, ◌≤◌, ◌<◌}
use mathlib.Core.Path.{◌≡◌, sym, ◌∙◌}
use borrow.Author.Rules.{rules}
use borrow.Author.Tests.{eq-eqb, ne_eqb}
use lib.ListN.{length, get_or}
use Rattle.std.proofs.lemmas.List.Sums.{position_or_len_is}
use Rattle.sheet_text.proofs.Texts.{before_is}
use Rattle.sheet_text.proofs.end.Goals as goal

pub returns : goal.returns
returns c =
    let s = c.args.s.now in
    let within : c.unwrap_or.result ≤ length s = search rules in
    let before : (k : ℕ) → k < c.unwrap_or.result → get_or s k 0 ≡ c.args.sep → ⊥ = search rules in
    let here : c.unwrap_or.result < length s → get_or s c.unwrap_or.result 0 ≡ c.args.sep = search rules in
    sym (position_or_len_is _ s _ 0 within (λ k h. ne_eqb (get_or s k 0) c.args.sep (before k h)) (λ h. eq-eqb (get_or s c.unwrap_or.result 0) c.args.sep (here h))) ∙ sym (before_is c.args.sep s)

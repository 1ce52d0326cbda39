use Rattle.sheet_text.proofs.Texts.{words_whole, words_cut}
use Rattle.sheet_text.proofs.first_word.Goals as goal

pub returns-then-s-e : goal.returns-then-s-e
returns-then-s-e c = words_whole _ _ c.end-e.ensures c.if-s-e.true

pub returns : goal.returns
returns c = words_cut _ _ c.end-e.ensures c.if-s-e.false

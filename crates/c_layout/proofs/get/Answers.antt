use mathlib.Core.Path.{◌∙◌}
use lib.ListN.{length}
use Rattle.c_layout.specs.Words.{low_first}
use Rattle.c_layout.proofs.Parts.{words_part}
use Rattle.c_layout.proofs.get.Goals as goal

pub returns : goal.returns
returns c =
    let a = c.args in
    c.decode.ensures ∙ words_part low_first a.from (length a.words.now) a.bytes.now

-- The laws of specs/Laws.antt, proved.
use Rattle.ot.specs.Laws.{Laws}
use Rattle.ot.proofs.Fits as fits
use Rattle.ot.proofs.Keeps as keeps
use Rattle.ot.proofs.Moves as moves
use Rattle.ot.proofs.Square as square

pub laws : Laws
laws =
    record {
      square = square.square;
      form_of_lem = keeps.form_of_lem;
      whole = keeps.whole;
      form_moves = keeps.form_moves;
      item_stays = keeps.item_stays;
      keeps = keeps.keeps;
      shifts = moves.shifts;
      moves = keeps.moves;
      stays = keeps.stays;
      size = fits.size;
      grows = fits.grows;
      looked = fits.looked;
      alike = fits.alike;
    }

-- `pieces::put_hundredths` meets its contract: the whole part, a point and two digits.
use Rattle.text.proofs.Pieces.{◌then◌}
use Rattle.totals_text.proofs.pieces.put_hundredths.Goals as goal

pub returns : goal.returns
returns c = c.put_number.ensures then c.put_labelled.ensures then c.put_number-2.ensures

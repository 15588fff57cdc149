-- `Text::put_labelled` meets its contract: a piece, and then another.
use Rattle.text.proofs.Pieces.{◌then◌}
use Rattle.text.proofs.Text.put_labelled.Goals as goal

pub returns : goal.returns
returns c = c.put.ensures then c.put_number.ensures

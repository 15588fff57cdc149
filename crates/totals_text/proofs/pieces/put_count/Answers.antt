-- `pieces::put_count` meets its contract: the number behind its label, and the line's end.
use Rattle.text.proofs.Pieces.{◌then◌}
use Rattle.totals_text.proofs.pieces.put_count.Goals as goal

pub returns : goal.returns
returns c = c.put_labelled.ensures then c.put.ensures

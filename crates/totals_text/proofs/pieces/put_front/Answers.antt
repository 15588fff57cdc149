-- `pieces::put_front` meets its contract: number, blank, name and colon.
use Rattle.text.proofs.Pieces.{◌then◌}
use Rattle.totals_text.proofs.pieces.put_front.Goals as goal

pub returns : goal.returns
returns c = c.put_number.ensures then c.put.ensures then c.put-2.ensures then c.put-3.ensures

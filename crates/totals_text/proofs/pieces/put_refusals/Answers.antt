-- `pieces::put_refusals` meets its contract: a line for each number.
use Rattle.text.proofs.Pieces.{◌then◌}
use Rattle.totals_text.proofs.pieces.put_refusals.Goals as goal

pub returns : goal.returns
returns c =
    c.put_count.ensures then c.put_count-2.ensures then c.put_count-3.ensures then c.put_count-4.ensures then c.put_count-5.ensures then c.put_count-6.ensures

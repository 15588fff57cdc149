-- `pieces::put_counts` meets its contract: a line for each verdict.
use Rattle.text.proofs.Pieces.{◌then◌}
use Rattle.totals_text.proofs.pieces.put_counts.Goals as goal

pub returns : goal.returns
returns c = c.put_count.ensures then c.put_count-2.ensures then c.put_count-3.ensures then c.put_count-4.ensures

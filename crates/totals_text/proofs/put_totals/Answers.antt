-- `put_totals` meets its contract: the lines one after another.
use Rattle.text.proofs.Pieces.{◌then◌}
use Rattle.totals_text.proofs.put_totals.Goals as goal

pub returns : goal.returns
returns c =
    c.put_count.ensures then c.put_counts.ensures then c.put_refusals.ensures then c.put.ensures then c.put_hundredths.ensures then c.put-2.ensures
    then c.put_longest.ensures

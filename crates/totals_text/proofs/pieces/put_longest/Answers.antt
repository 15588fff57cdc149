-- `pieces::put_longest` meets its contract: the longest curve and where it is.
use Rattle.std.proofs.Common.{sym, ap}
use Rattle.text.proofs.Pieces.{◌then◌, writes_same}
use Rattle.totals_text.specs.Texts.{longest_line}
use Rattle.totals_text.proofs.pieces.put_longest.Goals as goal

pub returns : goal.returns
returns c =
    writes_same (ap longest_line (sym c.in-Some.is)) (c.put-2.ensures then c.put_hundredths.ensures then c.put_labelled.ensures then c.put_count.ensures)

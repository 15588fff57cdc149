-- `put_sheet` meets its contract: the sheet's number and name, and what was said of it.
use Rattle.text.proofs.Pieces.{◌then◌}
use Rattle.totals_text.proofs.put_sheet.Goals as goal

pub returns : goal.returns
returns c = c.put_front.ensures then c.put_said.ensures

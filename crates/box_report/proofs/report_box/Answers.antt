-- `report_box` is safe: there is room for the lines of the totals.
use Rattle.std.proofs.Common.{arith}
use Rattle.box_report.proofs.Filled.{totals_room}
use Rattle.box_report.proofs.report_box.Goals as goal

pub lines_of-end-requires : goal.lines_of-end-requires
lines_of-end-requires c = omega (arith, totals_room c.take_files.new.t c.take_files.ensures)

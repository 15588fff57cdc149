-- The totals are those of some sheets.
use Rattle.box_report.specs.Boxes.{Boxed}
use Rattle.box_report.proofs.take_files.Given as goal

abbrev pub invariant-loop-i : goal.invariant-loop-i
invariant-loop-i l = Boxed l.t

-- What the loops of `lines::put_lines` keep.
use Rattle.sheet.proofs.Ahead.{Ahead}
use Rattle.report_text.specs.Steps.{WritesLines}
use Rattle.report_text.proofs.lines.put_lines.Given as goal

abbrev pub invariant-loop-k : goal.invariant-loop-k
invariant-loop-k l = WritesLines l.initial.text l.sheet l.k l.text × Ahead l.sheet l.count l.k l.next

-- What the loops of `counting::count_curves` keep.
use Rattle.sheet.proofs.Ahead.{Ahead}
use Rattle.totals.specs.Steps.{CountsCurves}
use Rattle.totals.proofs.counting.count_curves.Given as goal

abbrev pub invariant-loop-k : goal.invariant-loop-k
invariant-loop-k l = CountsCurves l.initial.t l.sheet l.k l.t × Ahead l.sheet l.count l.k l.next

-- What the loops of `square_root` keep.
use Rattle.whole.specs.Steps.{Guess}
use Rattle.whole.proofs.square_root.Given as goal

abbrev pub invariant-loop-r : goal.invariant-loop-r
invariant-loop-r l = Guess l.n l.r

abbrev pub decreases-loop-r : goal.decreases-loop-r
decreases-loop-r l = l.r

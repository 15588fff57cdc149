-- What the loop of `points::step` keeps.
use Prim.Native.Nat.{◌+◌}
use lib.IntN.{◌+ℤ◌}
use Rattle.whole.specs.Coefficients.{at}
use Rattle.whole.specs.Number.{wholes}
use Rattle.offset.proofs.Changes.{Changed}
use Rattle.offset.proofs.points.step.Given as goal

abbrev pub invariant-loop-k : goal.invariant-loop-k
invariant-loop-k l = Changed 10 (at wholes l.initial.e) (λ j. at wholes l.initial.e j +ℤ at wholes l.initial.e (j + 1)) l.e l.k

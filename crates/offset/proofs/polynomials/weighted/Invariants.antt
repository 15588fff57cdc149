-- What the loop of `polynomials::weighted` keeps.
use lib.IntN.{◌*ℤ◌}
use Rattle.whole.specs.Coefficients.{at}
use Rattle.whole.specs.Number.{wholes}
use Rattle.offset.proofs.Changes.{Changed}
use Rattle.offset.proofs.polynomials.weighted.Given as goal

abbrev pub invariant-loop-k : goal.invariant-loop-k
invariant-loop-k l = Changed 10 (at wholes l.initial.a) (λ j. at wholes l.initial.a j *ℤ at wholes l.s-items j) l.a l.k

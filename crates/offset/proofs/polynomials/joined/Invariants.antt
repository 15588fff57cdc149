-- What the loop of `polynomials::joined` keeps.
use mathlib.Core.List.{◌∷◌}
use lib.IntN.{◌+ℤ◌, ◌*ℤ◌}
use Rattle.whole.specs.Coefficients.{at}
use Rattle.whole.specs.Number.{wholes}
use Rattle.offset.proofs.Changes.{Changed}
use Rattle.offset.proofs.polynomials.joined.Given as goal

abbrev pub invariant-loop-k : goal.invariant-loop-k
invariant-loop-k l = Changed 10 (at wholes (l.fn.g ∷ l.fn.p)) (λ j. l.fn.f *ℤ at wholes l.x-items j +ℤ at wholes (l.fn.g ∷ l.fn.p) j) l.r l.k

-- Single polynomials: the blunders that the document warns of.
--   start-root, end-root, both_roots      t, 1 − t and t (1 − t): a root at 0 or 1 is not counted
--   root-and-end                   t (1 − 2 t): the other root is
--   double_root, two_roots         (1 − 2 t)² is not counted; 1 − 5 t + 5 t² is counted twice
--   zero_throughout, zero-straight 0: none, and straight
use mathlib.Core.Path.{refl}
use lib.IntN.{ℤ, pos, negsuc}
use Rattle.whole.proofs.Linear.{linear}
use Rattle.measure.specs.declared.Turning.{Turning}
use Rattle.measure.specs.Turns.{Straight, CountIs}
use Rattle.measure.proofs.Counts.{count_level, count_edge, count_deep, count-flat}

abbrev turning : ℤ → ℤ → ℤ → Turning
turning t0 t1 t2 = record { t0 = t0; t1 = t1; t2 = t2 }

start-root : CountIs (turning (pos 0) (pos 1) (pos 0)) 0
start-root = count_level _ (omega linear) (omega linear)

end-root : CountIs (turning (pos 1) (negsuc 0) (pos 0)) 0
end-root = count_level _ (omega linear) (omega linear)

both_roots : CountIs (turning (pos 0) (pos 1) (negsuc 0)) 0
both_roots = count_level _ (omega linear) (omega linear)

double_root : CountIs (turning (pos 1) (negsuc 3) (pos 4)) 0
double_root = count-flat _ (omega linear) (omega linear)

root-and-end : CountIs (turning (pos 0) (pos 1) (negsuc 1)) 1
root-and-end = count_edge _ refl (omega linear)

two_roots : CountIs (turning (pos 1) (negsuc 4) (pos 5)) 2
two_roots = count_deep _ (omega linear) (omega linear) (omega linear)

zero_throughout : CountIs (turning (pos 0) (pos 0) (pos 0)) 0
zero_throughout = count_level _ (omega linear) (omega linear)

zero-straight : Straight (turning (pos 0) (pos 0) (pos 0))
zero-straight = (refl, refl, refl)

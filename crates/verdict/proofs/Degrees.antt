-- How far the w of a pre-image reaches, from its promise alone: w has no power above half of D's.
--   preimage_above     of a curve of at most 2 L + 2 points: w has no power above L
--   cubic-second       so the w of a cubic has b2 = 0
use mathlib.Core.Path.{◌≡◌}
use mathlib.Core.List.{List}
use Prim.Native.Nat.{ℕ, ◌+◌, ◌≤◌}
use native.Mathlib.Omega.{arith}
use lib.ListN.{length}
use Rattle.whole.specs.Coefficients.{at}
use Rattle.poly.specs.Terms.{Above}
use Rattle.poly.proofs.Top.{root_above}
use Rattle.pair.specs.declared.Pair.{Pair}
use Rattle.pair.specs.Pairs.{pairs}
use Rattle.pair.proofs.Laws.{pairs_ring, pairs_domain, pair-zero?}
use Rattle.divisor.proofs.Roots.{first_some}
use Rattle.curve.specs.declared.Cubic.{Cubic}
use Rattle.curve.specs.declared.Curve.TheVariants as curve
use Rattle.curve.specs.Curves.{points_of, leg_polynomial}
use Rattle.curve.proofs.LegPolynomial.{leg_polynomial-above}
use Rattle.verdict.specs.declared.Preimage.{Preimage}
use Rattle.verdict.specs.Verdicts.{PreimageOf, quadratic}

pub preimage_above : (ps : List Pair) (L : ℕ) → length ps ≤ L + L + 2 → (p : Preimage) → PreimageOf (leg_polynomial ps) p → Above pairs (at pairs (quadratic p.w)) L
preimage_above ps L l p h =
    root_above pairs_ring pairs_domain pair-zero? (leg_polynomial ps) (quadratic p.w) p.kappa L (first_some h.factor) h.generated
    (λ k j. leg_polynomial-above ps k (omega arith))

pub cubic-second : (c : Cubic) (p : Preimage) → PreimageOf (leg_polynomial (points_of (curve.Cubic c))) p → p.w.b2 ≡ pairs.none
cubic-second c p h = preimage_above (points_of (curve.Cubic c)) 1 (omega arith) p h 2 (omega arith)

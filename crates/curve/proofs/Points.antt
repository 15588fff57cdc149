-- The points of a curve, and still curves of any number of points.
--   curve_once       a curve is known by its points
--   still-legs       D = 0 exactly when every leg is 0,
--   still-points     exactly when all points are equal
use mathlib.Core.Path.{◌≡◌, refl, sym, ap, ◌∙◌}
use mathlib.Core.List.{List, [], ◌∷◌}
use mathlib.Core.Logic.{◌↔◌}
use Prim.Native.Nat.{ℕ, zero, suc, ◌<◌}
use native.Mathlib.Omega.{arith}
use lib.ListN.{length}
use Rattle.whole.specs.Coefficients.{at}
use Rattle.poly.specs.Polynomials.{Same}
use Rattle.whole.proofs.Ring.{zero-difference}
use Rattle.pair.specs.declared.Pair.{Pair}
use Rattle.pair.specs.Pairs.{pairs, minus}
use Rattle.pair.proofs.Laws.{pairs_ring}
use Rattle.curve.specs.declared.Curve.{Curve}
use Rattle.curve.specs.declared.Curve.TheVariants.{Cubic, Quintic}
use Rattle.bernstein.specs.Powers.{differences}
use Rattle.bernstein.proofs.PowerForms.{power_form-zero}
use Rattle.curve.specs.Curves.{points_of, leg_polynomial}

pub curve_once : (c d : Curve) → points_of c ≡ points_of d → c ≡ d
curve_once (Cubic c) (Cubic d) e = λ i. Cubic (record { p0 = at pairs (e i) 0; p1 = at pairs (e i) 1; p2 = at pairs (e i) 2; p3 = at pairs (e i) 3 })
curve_once (Cubic c) (Quintic d) e = absurd (omega (arith, ap length e))
curve_once (Quintic c) (Cubic d) e = absurd (omega (arith, ap length e))
curve_once (Quintic c) (Quintic d) e =
    λ i. Quintic (record { p0 = at pairs (e i) 0; p1 = at pairs (e i) 1; p2 = at pairs (e i) 2; p3 = at pairs (e i) 3; p4 = at pairs (e i) 4; p5 = at pairs (e i) 5 })

-- ---- the legs
minus-zero : (p q : Pair) → minus q p ≡ pairs.none → q ≡ p
minus-zero p q e = zero-difference pairs_ring q p e

minus_self : (p q : Pair) → q ≡ p → minus q p ≡ pairs.none
minus_self p q e = ap (λ t. minus t p) e ∙ pairs_ring.plus_negative p

pub still-legs : (ps : List Pair) → Same pairs (leg_polynomial ps) [] ↔ Same pairs (differences ps) []
unfolding leg_polynomial
still-legs ps = power_form-zero (differences ps)

-- ---- the points
differences-equal : (p : Pair) (ps : List Pair) → Same pairs (differences (p ∷ ps)) [] → (k : ℕ) → k < length (p ∷ ps) → at pairs (p ∷ ps) k ≡ p
unfolding differences
differences-equal p ps e zero h = refl
differences-equal p [] e (suc k) h = absurd (omega arith)
differences-equal p (q ∷ ps) e (suc k) h = differences-equal q ps (λ j. e (suc j)) k (omega arith) ∙ minus-zero p q (e zero)

equal-differences : (p : Pair) (ps : List Pair) → ((k : ℕ) → k < length (p ∷ ps) → at pairs (p ∷ ps) k ≡ p) → Same pairs (differences (p ∷ ps)) []
unfolding differences
equal-differences p [] h k = refl
equal-differences p (q ∷ ps) h zero = minus_self p q (h 1 (omega arith))
equal-differences p (q ∷ ps) h (suc k) = equal-differences q ps (λ j i. h (suc j) (omega arith) ∙ sym (h 1 (omega arith))) k

pub still-points : (ps : List Pair) → Same pairs (leg_polynomial ps) [] ↔ ((j k : ℕ) → j < length ps → k < length ps → at pairs ps j ≡ at pairs ps k)
unfolding differences
still-points [] = (λ e j k h i. absurd (omega arith), λ h. (still-legs []).1 (λ k. refl))
still-points (p ∷ ps) = (
  λ e j k h i. let d = (still-legs (p ∷ ps)).0 e in differences-equal p ps d j h ∙ sym (differences-equal p ps d k i),
  λ h. (still-legs (p ∷ ps)).1 (equal-differences p ps (λ k i. h k 0 i (omega arith))),
)

-- D from the legs, for any number of points: with n points there are n − 1 legs, and D has degree n − 2.
--   points_of_length           a cubic and a quintic have at most six points
--   leg_polynomial-above       D has no power above that degree,
--   leg_polynomial-fourth      nor above the fourth where there are at most six points
--   leg_polynomial-part        a part of D is that of the legs, from Bernstein to power coefficients
--   legs-within               a leg of a curve in range is at most 40,000 in size, by parts
use mathlib.Core.Path.{◌≡◌, ap, ◌∙◌}
use mathlib.Core.List.{List, [], ◌∷◌}
use Prim.Native.Nat.{ℕ, zero, suc, ◌-◌, ◌≤◌}
use native.Mathlib.Omega.{arith}
use lib.ListN.{length}
use Rattle.whole.specs.Coefficients.{Coefficients, at}
use Rattle.whole.proofs.Ring.{Ring}
use Rattle.poly.specs.Terms.{Above}
use Rattle.pair.specs.declared.Pair.{Pair}
use Rattle.pair.specs.Pairs.{pairs, PartsWithin}
use Rattle.pair.proofs.Parts.{zero-within, minus-within}
use Rattle.bernstein.specs.Powers.{differences}
use Rattle.bernstein.proofs.InPowers.{in_powers}
use Rattle.bernstein.proofs.PowerForms.{differences-length, power_form-above, Linear, power_form-linear}
use Rattle.curve.specs.declared.Curve.{Curve}
use Rattle.curve.specs.declared.Curve.TheVariants.{Cubic, Quintic}
use Rattle.curve.specs.Curves.{points_of, InRange, leg_polynomial}

pub points_of_length : (curve : Curve) → length (points_of curve) ≤ 6
points_of_length (Cubic c) = omega arith
points_of_length (Quintic c) = omega arith

pub leg_polynomial-above : (ps : List Pair) → Above pairs (at pairs (leg_polynomial ps)) (length ps - 2)
unfolding leg_polynomial
leg_polynomial-above ps k l = power_form-above (differences ps) k (omega (arith, differences-length ps))

pub leg_polynomial-fourth : (ps : List Pair) → length ps ≤ 6 → Above pairs (at pairs (leg_polynomial ps)) 4
leg_polynomial-fourth ps l k h = leg_polynomial-above ps k (omega arith)

pub leg_polynomial-part : {A : Type 0} {C : Coefficients A} {R : Ring C} {part : Pair → A} → Linear R part → (ps : List Pair) (k : ℕ)
    → part (at pairs (leg_polynomial ps) k) ≡ in_powers R (length ps - 2) (λ i. part (at pairs (differences ps) i)) k
unfolding leg_polynomial
leg_polynomial-part {R} {part} P ps k =
    power_form-linear P (differences ps) k
    ∙ ap (λ m. in_powers R m (λ i. part (at pairs (differences ps) i)) k) (omega (arith, differences-length ps))

-- ---- sizes
pub legs-within : (ps : List Pair) → InRange ps → (i : ℕ) → PartsWithin 40000 (at pairs (differences ps) i)
unfolding differences
legs-within [] h i = zero-within
legs-within (p ∷ []) h i = zero-within
legs-within (p ∷ q ∷ ps) (hp, (hq, hs)) zero = minus-within hq hp
legs-within (p ∷ q ∷ ps) (hp, hs) (suc i) = legs-within (q ∷ ps) hs i

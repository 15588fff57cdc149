-- The algebra of a curve in the document's words. With points p₀ .. pₙ the curve is r = Σ pₖ Bₖ, by the Bernstein functions of degree n; its power
-- coefficients are `power_form ps`. The legs are dₖ = pₖ₊₁ − pₖ, and D = Σ dₖ Bₖ, by those of degree n − 1.
--   points-at              sⁿ r(e / s) is the sum of C(n, k) eᵏ (s − e)ⁿ⁻ᵏ pₖ, at every fraction e / s
--   leg-is                 dₖ = pₖ₊₁ − pₖ
--   legs-at                sⁿ⁻¹ D(e / s) is the sum of C(n − 1, k) eᵏ (s − e)ⁿ⁻¹⁻ᵏ dₖ, at every fraction e / s
--   value-is               that value is the one of the theorems on N and on the speed (pair_form, of Norms)
--   legs-sum               and D is that sum as a polynomial: Σ C(n − 1, k) tᵏ (1 − t)ⁿ⁻¹⁻ᵏ dₖ
--   derivative             r' = n D (in Derivative)
--   cubic_powers           the power coefficients of D: d0; 2(d1−d0); d2−2d1+d0
--   quintic_powers         d0; 4(d1−d0); 6(d2−2d1+d0); 4(d3−3d2+3d1−d0); d4−4d3+6d2−4d1+d0
--   cubic-curve, quintic-curve      so they are, of the curves themselves
use mathlib.Core.Path.{◌≡◌, ◌∙◌, fun_ext}
use mathlib.Core.List.{List, [], ◌∷◌}
use Prim.Native.Nat.{ℕ, suc, ◌-◌, ◌<◌}
use native.Mathlib.Omega.{arith}
use lib.IntN.{ℤ, pos}
use lib.ListN.{length}
use Rattle.whole.specs.Coefficients.{at}
use Rattle.pair.specs.declared.Pair.{Pair}
use Rattle.pair.specs.Pairs.{pairs, plus, minus, multiple}
use Rattle.pair.proofs.Laws.{pairs_ring}
use Rattle.pair.proofs.PairSolver.{PairEx, the, ◌⊞◌, ◌⊟◌, ◌··◌, solve_pairs}
use Rattle.bernstein.specs.Binomials.{choose}
use Rattle.bernstein.specs.Powers.{differences, kth_differences, power_form}
use Rattle.bernstein.proofs.InPowers.{weighted}
use Rattle.bernstein.proofs.Polynomials.{blended, in_powers-sum}
use Rattle.bernstein.proofs.PowerForms.{differences-length, at-differences, both_parts}
use Rattle.bernstein.proofs.Fractions.{value_at, bernstein_at, value_parts, power_form-at}
use Rattle.curve.specs.declared.Cubic.{Cubic}
use Rattle.curve.specs.declared.Quintic.{Quintic}
use Rattle.curve.specs.declared.Curve.TheVariants as kind
use Rattle.curve.specs.Curves.{points_of, leg_polynomial}
use Rattle.curve.proofs.LegPolynomial.{leg_polynomial-part}
use Rattle.curve.proofs.Norms.{pair_form}

-- ---- as sums of Bernstein functions
module _ (ps : List Pair) where
  pub points-at : (s e : ℤ) → value_at s e (length ps - 1) (at pairs (power_form ps)) ≡ bernstein_at s e (length ps - 1) (at pairs ps)
  points-at s e = power_form-at s e ps

  pub leg-is : (k : ℕ) → suc k < length ps → at pairs (differences ps) k ≡ minus (at pairs ps (suc k)) (at pairs ps k)
  leg-is = at-differences ps

  pub legs-at : (s e : ℤ) → value_at s e (length ps - 2) (at pairs (leg_polynomial ps)) ≡ bernstein_at s e (length ps - 2) (at pairs (differences ps))
  unfolding leg_polynomial
  legs-at s e =
      let m : length (differences ps) - 1 ≡ length ps - 2 = omega (arith, differences-length ps) in
      rw m at (power_form-at s e (differences ps))

  pub legs-sum : at pairs (leg_polynomial ps) ≡ blended pairs_ring (length ps - 2) (weighted pairs_ring (length ps - 2) (at pairs (differences ps)))
  legs-sum = fun_ext (leg_polynomial-part both_parts ps) ∙ in_powers-sum pairs_ring (length ps - 2) (at pairs (differences ps))

pub value-is : (s e : ℤ) (m : ℕ) (D : List Pair) → value_at s e m (at pairs D) ≡ pair_form s e m D
value-is s e m D = value_parts s e m (at pairs D)

-- ---- the document's two lists
-- d2−2d1+d0
abbrev pub second_of : Pair → Pair → Pair → Pair
second_of d0 d1 d2 = plus (minus d2 (multiple (pos 2) d1)) d0

-- d3−3d2+3d1−d0
abbrev pub third_of : Pair → Pair → Pair → Pair → Pair
third_of d0 d1 d2 d3 = minus (plus (minus d3 (multiple (pos 3) d2)) (multiple (pos 3) d1)) d0

-- d4−4d3+6d2−4d1+d0
abbrev pub fourth_of : Pair → Pair → Pair → Pair → Pair → Pair
fourth_of d0 d1 d2 d3 d4 = plus (minus (plus (minus d4 (multiple (pos 4) d3)) (multiple (pos 6) d2)) (multiple (pos 4) d1)) d0

-- the difference of differences, as an expression of the solver
abbrev second : PairEx → PairEx → PairEx → PairEx
second a b c = (c ⊟ b) ⊟ (b ⊟ a)

abbrev third : PairEx
third = second (the 1) (the 2) (the 3) ⊟ second (the 0) (the 1) (the 2)

abbrev fourth : PairEx
fourth = second (second (the 0) (the 1) (the 2)) (second (the 1) (the 2) (the 3)) (second (the 2) (the 3) (the 4))

pub cubic_powers : (d0 d1 d2 : Pair) → power_form (d0 ∷ d1 ∷ d2 ∷ []) ≡ d0 ∷ multiple (pos 2) (minus d1 d0) ∷ second_of d0 d1 d2 ∷ []
unfolding power_form kth_differences differences choose
cubic_powers d0 d1 d2 i =
    let ds = d0 ∷ d1 ∷ d2 ∷ [] in
    solve_pairs ds (1 ·· the 0) (the 0) tt tt i
    ∷ multiple (pos 2) (minus d1 d0)
    ∷ solve_pairs ds (1 ·· second (the 0) (the 1) (the 2)) (the 2 ⊟ 2 ·· the 1 ⊞ the 0) tt tt i
    ∷ []

pub quintic_powers : (d0 d1 d2 d3 d4 : Pair) → power_form (d0 ∷ d1 ∷ d2 ∷ d3 ∷ d4 ∷ [])
    ≡ d0 ∷ multiple (pos 4) (minus d1 d0) ∷ multiple (pos 6) (second_of d0 d1 d2) ∷ multiple (pos 4) (third_of d0 d1 d2 d3) ∷ fourth_of d0 d1 d2 d3 d4 ∷ []
unfolding power_form kth_differences differences choose
quintic_powers d0 d1 d2 d3 d4 i =
    let ds = d0 ∷ d1 ∷ d2 ∷ d3 ∷ d4 ∷ [] in
    solve_pairs ds (1 ·· the 0) (the 0) tt tt i
    ∷ multiple (pos 4) (minus d1 d0)
    ∷ solve_pairs ds (6 ·· second (the 0) (the 1) (the 2)) (6 ·· (the 2 ⊟ 2 ·· the 1 ⊞ the 0)) tt tt i
    ∷ solve_pairs ds (4 ·· third) (4 ·· (the 3 ⊟ 3 ·· the 2 ⊞ 3 ·· the 1 ⊟ the 0)) tt tt i
    ∷ solve_pairs ds (1 ·· fourth) (the 4 ⊟ 4 ·· the 3 ⊞ 6 ·· the 2 ⊟ 4 ·· the 1 ⊞ the 0) tt tt i
    ∷ []

pub cubic-curve : (c : Cubic) → let d0 = minus c.p1 c.p0 in let d1 = minus c.p2 c.p1 in let d2 = minus c.p3 c.p2 in
    leg_polynomial (points_of (kind.Cubic c)) ≡ d0 ∷ multiple (pos 2) (minus d1 d0) ∷ second_of d0 d1 d2 ∷ []
unfolding leg_polynomial differences
cubic-curve c = cubic_powers (minus c.p1 c.p0) (minus c.p2 c.p1) (minus c.p3 c.p2)

pub quintic-curve : (c : Quintic) → let d0 = minus c.p1 c.p0 in let d1 = minus c.p2 c.p1 in let d2 = minus c.p3 c.p2 in
    let d3 = minus c.p4 c.p3 in let d4 = minus c.p5 c.p4 in
    leg_polynomial (points_of (kind.Quintic c))
    ≡ d0 ∷ multiple (pos 4) (minus d1 d0) ∷ multiple (pos 6) (second_of d0 d1 d2) ∷ multiple (pos 4) (third_of d0 d1 d2 d3) ∷ fourth_of d0 d1 d2 d3 d4 ∷ []
unfolding leg_polynomial differences
quintic-curve c = quintic_powers (minus c.p1 c.p0) (minus c.p2 c.p1) (minus c.p3 c.p2) (minus c.p4 c.p3) (minus c.p5 c.p4)

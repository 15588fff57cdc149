-- The numbers of a length: small, and not negative.
--   root_small           q's coefficients are small enough for `length_by`
--   content_small        c has at most 15 digits
--   length_nonneg        A is not negative.      denominator_nonneg   nor is B
--   longest              2 (n B · 40,000)².      longest-most   at most 11,520,000,000,000
--   length-size          c A² is at most that: the length √c A / B is at most n √2 · 40,000,
--   length_small         and A is at most 3,394,113
use mathlib.Core.Path.{◌≡◌, ap, ◌∙◌}
use mathlib.Core.List.{[], ◌∷◌}
use Prim.Native.Nat.{ℕ, ◌*◌, ◌^◌, ◌≤◌, ◌<◌}
use native.Mathlib.Nat.{le_refl, mul-le-mul, mul-le-mul_left}
use native.Mathlib.Omega.{arith}
use lib.IntN.{pos, nat_abs, ◌*ℤ◌}
use lib.Signed.{◌≤ℤ◌}
use Rattle.whole.specs.Coefficients.{at}
use Rattle.whole.specs.Number.{wholes}
use Rattle.whole.proofs.Integers.{abs_times}
use Rattle.whole.proofs.Wholes.{atomsℤ, readℤ, read_pos, ringℤ, equal_by, zero-equal, zero-times, zero-plus}
use Rattle.whole.proofs.Linear.{linear, abs_parts, one-part, times_parts}
use Rattle.pair.proofs.Laws.{root_le}
use Rattle.root.specs.declared.Quartic.{Quartic}
use Rattle.root.specs.Promise.{quartic, Small}
use Rattle.root.specs.Search.{Each}
use Rattle.curve.specs.declared.Cubic.{Cubic as CubicPoints}
use Rattle.curve.specs.declared.Curve.{Curve}
use Rattle.curve.specs.declared.Curve.TheVariants.{Cubic, Quintic}
use Rattle.curve.specs.Curves.{points_of, InRange, leg_polynomial}
use Rattle.curve.specs.Sizes.{leg_reach}
use Rattle.curve.proofs.LegPolynomial.{points_of_length, leg_polynomial-above}
use Rattle.verdict.specs.declared.Square.{Square}
use Rattle.verdict.specs.declared.Preimage.{Preimage}
use Rattle.verdict.specs.Verdicts.{SquareOf, PreimageOf}
use Rattle.verdict.proofs.Multiples.{squared_above}
use Rattle.verdict.proofs.RootSizes.{positive_size, root-value-size, root-size, root-within}
use Rattle.measure.specs.Lengths.{cubic_a, length_a, length_b}
use Rattle.measure.proofs.Arcs.{degree_of, speed_positive}
use Rattle.measure.proofs.Boole.{sixty, boole_nonneg, boole_size}

pub content_small : (curve : Curve) (s : Square) → InRange (points_of curve) → SquareOf (leg_polynomial (points_of curve)) s → nat_abs s.c < 10 ^ 15
content_small curve s range h =
    let q = at wholes (quartic s.q) h.lead.power in
    let some : 1 ≤ nat_abs q = omega (linear, h.lead.positive, abs_parts q, one-part q) in
    omega (
      arith,
      root-size (points_of curve) range (points_of_length curve) s.c (quartic s.q) h.positive h.squared h.lead.power,
      mul-le-mul_left (nat_abs s.c) (mul-le-mul some some),
    )

-- where q3 and q4 are 0, 60 times the integral is ten times A of a cubic
tenth : (q : Quartic) → q.q3 ≡ pos 0 → q.q4 ≡ pos 0 → sixty (at wholes (quartic q)) ≡ cubic_a q *ℤ pos 10
tenth q h k =
    equal_by (zero-plus (zero-times (pos 15) (zero-equal h)) (zero-times (pos 12) (zero-equal k)))
    (atomsℤ (q.q0 ∷ q.q1 ∷ q.q2 ∷ q.q3 ∷ q.q4 ∷ []) (λ ρ e. simp (e 0, e 1, e 2, e 3, e 4, readℤ, read_pos ρ) (ringℤ ρ _ _ tt)))

pub denominator_nonneg : (curve : Curve) → pos 0 ≤ℤ length_b curve
denominator_nonneg (Cubic c) = omega linear
denominator_nonneg (Quintic c) = omega linear

abbrev pub longest : Curve → ℕ
longest curve = let m = nat_abs (degree_of curve *ℤ length_b curve) * leg_reach in 2 * (m * m)

pub longest-most : (curve : Curve) → longest curve ≤ 11520000000000
longest-most (Cubic c) = omega arith
longest-most (Quintic c) = omega arith

module _ (p : Preimage) where
  abbrev q : Quartic
  q = p.square.q

  -- n B is 60 for a quintic and 6 for a cubic
  cubic-is : (c : CubicPoints) → PreimageOf (leg_polynomial (points_of (Cubic c))) p → sixty (at wholes (quartic q)) ≡ cubic_a q *ℤ pos 10
  cubic-is c h =
      let D = leg_polynomial (points_of (Cubic c)) in
      let above = squared_above D 2 p.square.c (quartic q) (leg_polynomial-above (points_of (Cubic c))) h.square_of.positive h.square_of.squared in
      tenth q (above 3 (omega arith)) (above 4 (omega arith))

  module _ (curve : Curve) (h : PreimageOf (leg_polynomial (points_of curve)) p) where
    sixty_nonneg : pos 0 ≤ℤ sixty (at wholes (quartic q))
    sixty_nonneg = boole_nonneg (at wholes (quartic q)) (λ v l. speed_positive curve p h (pos 4) (pos v))

    sixty-size : InRange (points_of curve) → nat_abs p.square.c * (nat_abs (sixty (at wholes (quartic q))) * nat_abs (sixty (at wholes (quartic q)))) ≤ 11520000000000
    sixty-size r =
        let s = h.square_of in
        omega (
          arith,
          boole_size (at wholes (quartic q)) (nat_abs p.square.c) 209715200000000
              (root-value-size (points_of curve) r (points_of_length curve) p.square.c (quartic q) s.positive s.squared),
        )

    pub root_small : InRange (points_of curve) → Each wholes Small (quartic q)
    root_small r = let s = h.square_of in root-within (points_of curve) r (points_of_length curve) p.square.c (quartic q) s.positive s.squared

  pub length_nonneg : (curve : Curve) → PreimageOf (leg_polynomial (points_of curve)) p → pos 0 ≤ℤ length_a curve q
  length_nonneg (Cubic c) h = omega (linear, sixty_nonneg (Cubic c) h, cubic-is c h, times_parts (cubic_a q) (pos 10))
  length_nonneg (Quintic c) h = sixty_nonneg (Quintic c) h

  pub length-size : (curve : Curve) → InRange (points_of curve) → PreimageOf (leg_polynomial (points_of curve)) p
      → nat_abs p.square.c * (nat_abs (length_a curve q) * nat_abs (length_a curve q)) ≤ longest curve
  length-size (Cubic c) r h =
      let a : nat_abs (sixty (at wholes (quartic q))) ≡ nat_abs (cubic_a q) * 10 = ap nat_abs (cubic-is c h) ∙ abs_times (cubic_a q) (pos 10) in
      omega (arith, rw a at (sixty-size (Cubic c) h r))
  length-size (Quintic c) r h = sixty-size (Quintic c) h r

  pub length_small : (curve : Curve) → InRange (points_of curve) → PreimageOf (leg_polynomial (points_of curve)) p → nat_abs (length_a curve q) ≤ 3394113
  length_small curve r h =
      let a = nat_abs (length_a curve q) in
      root_le a 3394113 (omega (arith, length-size curve r h, longest-most curve, mul-le-mul (positive_size h.square_of.positive) (le_refl (a * a))))

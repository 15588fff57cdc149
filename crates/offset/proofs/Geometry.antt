-- What the offset of a curve is, as identities of polynomials, where N = c q² and c = m².
--   offset-squared       W² = N
--   offset-along         X − W x = h Im D and Y − W y = −h Re D: the offset lies along the normal,
--   offset_distance      and |h| away: (X − W x)² + (Y − W y)² = h² N
--   offset-blended       the numbers are the Bernstein coefficients of W, X and Y, times the scale
use mathlib.Core.Path.{◌≡◌, refl, sym, ap, ap₂, ◌∙◌}
use mathlib.Core.List.{List, [], ◌∷◌, map}
use Prim.Native.Nat.{ℕ, ◌+◌, ◌-◌}
use native.Mathlib.Omega.{arith}
use lib.IntN.{ℤ, pos, negsuc, neg_ℤ, ◌+ℤ◌, ◌*ℤ◌}
use lib.ListN.{length}
use Rattle.whole.specs.Coefficients.{at}
use Rattle.poly.specs.Polynomials.{Same, sum, scaled, product, square}
use Rattle.whole.specs.Number.{wholes}
use Rattle.whole.proofs.Wholes.{wholes_ring, atomsℤ, readℤ, read-negsuc, ringℤ}
use Rattle.whole.proofs.Signs.{negative-square}
use Rattle.poly.specs.Terms.{Above}
use Rattle.poly.proofs.Lists.{at_sum, at_scaled, sum_comm, sum_same, square-same, scaled-sum, square-scaled}
use Rattle.poly.proofs.Forms.{form}
use Rattle.poly.proofs.Top.{product_above, scaled_above}
use Rattle.pair.specs.declared.Pair.{Pair}
use Rattle.pair.specs.Pairs.{pairs}
use Rattle.root.specs.Promise.{quartic}
use Rattle.bernstein.specs.Binomials.{choose, bernstein}
use Rattle.bernstein.specs.Powers.{power_form}
use Rattle.bernstein.proofs.PowerForms.{power_form-above, Linear, re-part, im-part, at_linear}
use Rattle.bernstein.proofs.Coefficients.{bernstein-value}
use Rattle.curve.specs.declared.Curve.{Curve}
use Rattle.curve.specs.declared.Curve.TheVariants.{Cubic, Quintic}
use Rattle.curve.specs.Curves.{points_of, leg_polynomial, reals, imaginaries, norm_polynomial}
use Rattle.curve.proofs.LegPolynomial.{leg_polynomial-above}
use Rattle.verdict.proofs.Multiples.{squared_above}
use Rattle.offset.specs.Promise.{Rational, offset_curve, offset_degree, offset_scale, OffsetOf}
use Rattle.offset.proofs.Paths.{whole_weights}

-- p − q
abbrev pub difference : List ℤ → List ℤ → List ℤ
difference p q = sum wholes p (scaled wholes (negsuc 0) q)

left_over : (p q : List ℤ) → Same wholes (difference (sum wholes p q) p) q
left_over p q k =
    at_sum wholes_ring (sum wholes p q) (scaled wholes (negsuc 0) p) k
    ∙ ap₂ ◌+ℤ◌ (at_sum wholes_ring p q k) (at_scaled wholes_ring (negsuc 0) p k)
    ∙ gone (at wholes p k) (at wholes q k)
  where
    gone : (a b : ℤ) → (a +ℤ b) +ℤ negsuc 0 *ℤ a ≡ b
    gone a b = atomsℤ (a ∷ b ∷ []) (λ ρ e. simp (e 0, e 1, readℤ, read-negsuc ρ) (ringℤ ρ _ _ tt))

module _ (ps : List Pair) (W : List ℤ) (h : ℤ) where
  abbrev o : Rational
  o = offset_curve ps W h

  abbrev D : List Pair
  D = leg_polynomial ps

  -- ---- from the curve's point to the offset's, times W
  abbrev pub across : List ℤ
  across = difference o.x (product wholes W (reals (power_form ps)))

  abbrev pub upward : List ℤ
  upward = difference o.y (product wholes W (imaginaries (power_form ps)))

  pub offset-along : Same wholes across (scaled wholes h (imaginaries D)) × Same wholes upward (scaled wholes (neg_ℤ h) (reals D))
  offset-along = (
    left_over (product wholes W (reals (power_form ps))) (scaled wholes h (imaginaries D)),
    left_over (product wholes W (imaginaries (power_form ps))) (scaled wholes (neg_ℤ h) (reals D)),
  )

  pub offset_distance : Same wholes (sum wholes (square wholes across) (square wholes upward)) (scaled wholes (h *ℤ h) (norm_polynomial D))
  unfolding norm_polynomial
  offset_distance k =
      sum_same wholes_ring (square wholes across) (scaled wholes (h *ℤ h) (square wholes (imaginaries D))) (square wholes upward) (scaled wholes (h *ℤ h) (square wholes (reals D))) across-is upward-is k
      ∙ sum_comm wholes_ring (scaled wholes (h *ℤ h) (square wholes (imaginaries D))) (scaled wholes (h *ℤ h) (square wholes (reals D))) k
      ∙ sym (scaled-sum wholes_ring (h *ℤ h) (square wholes (reals D)) (square wholes (imaginaries D)) k)
    where
      across-is : Same wholes (square wholes across) (scaled wholes (h *ℤ h) (square wholes (imaginaries D)))
      across-is j = square-same wholes_ring across (scaled wholes h (imaginaries D)) offset-along.0 j ∙ square-scaled wholes_ring h (imaginaries D) j

      upward-is : Same wholes (square wholes upward) (scaled wholes (h *ℤ h) (square wholes (reals D)))
      upward-is j =
          square-same wholes_ring upward (scaled wholes (neg_ℤ h) (reals D)) offset-along.1 j
          ∙ square-scaled wholes_ring (neg_ℤ h) (reals D) j
          ∙ ap (λ n. at wholes (scaled wholes n (square wholes (reals D))) j) (negative-square h)

-- ---- an offset
degree : (curve : Curve) → length (points_of curve) - 2 + (length (points_of curve) - 1) ≡ offset_degree curve
degree (Cubic c) = refl
degree (Quintic c) = refl

module _ (curve : Curve) (h : ℤ) (ns : List ℤ) (i : OffsetOf curve h ns) where
  abbrev points : List Pair
  points = points_of curve

  abbrev q : List ℤ
  q = quartic i.preimage.square.q

  abbrev weight : List ℤ
  weight = scaled wholes (pos i.has.m) q

  pub offset-squared : Same wholes (square wholes weight) (norm_polynomial (leg_polynomial points))
  offset-squared k =
      square-scaled wholes_ring (pos i.has.m) q k
      ∙ ap (λ c. at wholes (scaled wholes c (square wholes q)) k) (sym i.has.root)
      ∙ sym (i.is_preimage.square_of.squared k)

  -- ---- degrees
  part_above : {part : Pair → ℤ} → Linear wholes_ring part → (L : List Pair) (n : ℕ) → Above pairs (at pairs L) n → Above wholes (at wholes (map part L)) n
  part_above {part} P L n u k l = at_linear P L k ∙ ap part (u k l) ∙ P.of_none

  weight_above : Above wholes (at wholes weight) (length points - 2)
  weight_above =
      scaled_above wholes_ring (pos i.has.m) q (length points - 2)
      (squared_above (leg_polynomial points) (length points - 2) i.preimage.square.c q (leg_polynomial-above points) i.is_preimage.square_of.positive i.is_preimage.square_of.squared)

  -- W times a part of r, and h times a part of D
  row_above : {part part' : Pair → ℤ} → Linear wholes_ring part → Linear wholes_ring part' → (h : ℤ)
      → Above wholes (at wholes (sum wholes (product wholes weight (map part (power_form points))) (scaled wholes h (map part' (leg_polynomial points))))) (offset_degree curve)
  row_above {part} {part'} P P' h k l =
      at_sum wholes_ring (product wholes weight (map part (power_form points))) (scaled wholes h (map part' (leg_polynomial points))) k
      ∙ ap₂ ◌+ℤ◌
      (product_above wholes_ring weight (map part (power_form points)) (length points - 2) (length points - 1) weight_above (part_above P (power_form points) (length points - 1) (power_form-above points)) k (omega (arith, degree curve)))
      (scaled_above wholes_ring h (map part' (leg_polynomial points)) (length points - 2) (part_above P' (leg_polynomial points) (length points - 2) (leg_polynomial-above points)) k (omega (arith, degree curve)))

  -- ---- Bernstein coefficients
  abbrev pub Blended : List ℤ → Type 0
  Blended a =
      (u v : ℤ) → form wholes u v (offset_degree curve) (λ k. pos (choose (offset_degree curve) k) *ℤ bernstein (offset_degree curve) (offset_scale curve) a k)
      ≡ pos (offset_scale curve) *ℤ form wholes (u +ℤ v) v (offset_degree curve) (at wholes a)

  blended : (a : List ℤ) → Above wholes (at wholes a) (offset_degree curve) → Blended a
  blended a u = bernstein-value (offset_degree curve) (offset_scale curve) (whole_weights curve) a u

  pub offset-blended : let o = offset_curve points weight h in Blended o.w × Blended o.x × Blended o.y
  offset-blended = (
    blended weight (λ k l. weight_above k (omega (arith, degree curve))),
    blended (offset_curve points weight h).x (row_above re-part im-part h),
    blended (offset_curve points weight h).y (row_above im-part re-part (neg_ℤ h)),
  )

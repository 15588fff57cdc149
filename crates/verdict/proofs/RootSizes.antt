-- The sizes of q and w, for a curve in range of at most six points, by the values of D at the quarters of the way.
--   positive_size              a positive number is at least 1
--   root-fourth                N = c q²: q has no power above the fourth,
--   root-value-size            √c q is at most √2 · 40,000 at the quarters,
--   root-size                  no coefficient of √c q reaches 20,000,000,
--   root-within                and none of q is larger
--   preimage_second            D = κ w², and not 0: w has no power above the second,
--   preimage_within            and its parts are at most 2,000 in size
use mathlib.Core.Path.{◌≡◌, sym, ap, ◌∙◌, subst, fun_ext}
use mathlib.Core.List.{List}
use mathlib.Core.Logic.{◌≢◌}
use Prim.Native.Nat.{ℕ, ◌+◌, ◌-◌, ◌*◌, ◌<◌, ◌≤◌}
use native.Mathlib.Nat.{le_refl, mul-le-mul, sub-add_cancel}
use native.Mathlib.Omega.{arith}
use lib.IntN.{ℤ, pos, nat_abs, ◌*ℤ◌}
use lib.ListN.{length}
use lib.Signed.{◌<ℤ◌}
use Rattle.whole.specs.Coefficients.{at}
use Rattle.whole.specs.Number.{wholes, Within}
use Rattle.whole.proofs.Integers.{abs_times}
use Rattle.whole.proofs.Linear.{linear, abs_parts}
use Rattle.whole.proofs.Wholes.{wholes_ring}
use Rattle.poly.specs.Terms.{Above}
use Rattle.poly.proofs.Top.{root_above}
use Rattle.pair.specs.declared.Pair.{Pair}
use Rattle.pair.specs.Pairs.{pairs, norm, PartsWithin}
use Rattle.pair.proofs.Laws.{pairs_ring, pairs_domain, root_le, norm-size, norm_some, pair-zero?}
use Rattle.root.specs.Promise.{root_size}
use Rattle.curve.specs.Curves.{InRange, leg_polynomial, norm_polynomial}
use Rattle.bernstein.specs.Powers.{differences}
use Rattle.bernstein.proofs.InPowers.{form-within}
use Rattle.bernstein.proofs.PowerForms.{Linear, re-part, im-part}
use Rattle.curve.proofs.Norms.{re_of, im_of, re_above, im_above, pair_form, norm_polynomial-form}
use Rattle.curve.proofs.LegPolynomial.{leg_polynomial-part, leg_polynomial-fourth, legs-within}
use Rattle.curve.specs.Sizes.{leg_reach}
use Rattle.verdict.specs.Verdicts.{Squared, Generated, Still}
use Rattle.verdict.proofs.Multiples.{generated_some, generated-squared, squared_above, squared-form}
use Rattle.verdict.proofs.Quarters.{quarter, quartic-root-size, quadratic-size}

-- ---- numbers
-- a norm of at most 2 (4⁴ · 40,000)²
norm-most : (c : ℤ) (a : Pair) (z : ℤ) → norm a ≡ c *ℤ (z *ℤ z) → PartsWithin 10240000 a → nat_abs c * (nat_abs z * nat_abs z) ≤ 209715200000000
norm-most c a z e h = omega (
  arith,
  ap nat_abs (sym (norm-size a) ∙ e),
  abs_times c (z *ℤ z) ∙ ap (λ n. nat_abs c * n) (abs_times z z),
  mul-le-mul h.re.size h.re.size,
  mul-le-mul h.im.size h.im.size,
)

pub positive_size : {c : ℤ} → pos 0 <ℤ c → 1 ≤ nat_abs c
positive_size {c} p = omega (linear, abs_parts c)

-- c z² is at most that, and z is a norm
norm-root : (c : ℕ) (z : ℤ) (a : Pair) → 1 ≤ c → c * (nat_abs z * nat_abs z) ≤ 209715200000000 → z ≡ norm a → PartsWithin 3806 a
norm-root c z a p h e = record {
  re = record { size = root_le (nat_abs a.re) 3806 (omega (arith, small, sum)) };
  im = record { size = root_le (nat_abs a.im) 3806 (omega (arith, small, sum)) };
}
  where
    small : nat_abs z ≤ 14481547
    small = root_le (nat_abs z) 14481547 (omega (arith, mul-le-mul p (le_refl (nat_abs z * nat_abs z))))

    sum : nat_abs z ≡ nat_abs a.re * nat_abs a.re + nat_abs a.im * nat_abs a.im
    sum = ap nat_abs (e ∙ norm-size a)

module _ (ps : List Pair) (r : InRange ps) (l : length ps ≤ 6) where
  -- ---- D at the quarters
  module _ {part : Pair → ℤ} (P : Linear wholes_ring part) (h : (i : ℕ) → Within leg_reach (part (at pairs (differences ps) i))) where
    -- 4⁴ D(v / 4) is made of the legs with weights that add up to 4⁴
    part-quarter : (v : ℕ) → v < 5 → Within 10240000 (quarter 4 (λ k. part (at pairs (leg_polynomial ps) k)) v)
    part-quarter v j =
        let e : 4 - v + v ≡ 4 = sub-add_cancel (omega arith) in
        let d : 4 - (length ps - 2) + (length ps - 2) ≡ 4 = sub-add_cancel (omega arith) in
        subst (λ f. Within 10240000 (quarter 4 f v)) (sym (fun_ext (leg_polynomial-part P ps))) (rw (e, d) at (form-within (4 - v) v (length ps - 2) (4 - (length ps - 2)) h))

  leg_polynomial-quarter : (v : ℕ) → v < 5 → PartsWithin 10240000 (pair_form (pos 4) (pos v) 4 (leg_polynomial ps))
  leg_polynomial-quarter v j = record { re = part-quarter re-part (λ i. (legs-within ps r i).re) v j; im = part-quarter im-part (λ i. (legs-within ps r i).im) v j }

  -- ---- q
  module _ (c : ℤ) (q : List ℤ) (p : pos 0 <ℤ c) (h : Squared (leg_polynomial ps) c q) where
    pub root-fourth : Above wholes (at wholes q) 4
    root-fourth = squared_above (leg_polynomial ps) 4 c q (leg_polynomial-fourth ps l) p h

    -- c (4⁴ q)² is at most 2 (4⁴ · 40,000)² at the quarters
    pub root-value-size : (v : ℕ) → v < 5 → nat_abs c * (nat_abs (quarter 4 (at wholes q) v) * nat_abs (quarter 4 (at wholes q) v)) ≤ 209715200000000
    root-value-size v j =
        norm-most c (pair_form (pos 4) (pos v) 4 (leg_polynomial ps)) (quarter 4 (at wholes q) v)
        (squared-form (leg_polynomial ps) 4 c q (leg_polynomial-fourth ps l) p h (pos 4) (pos v))
        (leg_polynomial-quarter v j)

    pub root-size : (k : ℕ) → nat_abs c * (nat_abs (at wholes q k) * nat_abs (at wholes q k)) < 400000000000000
    root-size k = omega (arith, quartic-root-size (at wholes q) (nat_abs c) 209715200000000 root-fourth root-value-size k)

    pub root-within : (k : ℕ) → Within root_size (at wholes q k)
    root-within k =
        let x = nat_abs (at wholes q k) in
        record { size = root_le x root_size (omega (arith, root-size k, mul-le-mul (positive_size p) (le_refl (x * x)))) }

  -- ---- w
  module _ (κ : Pair) (w : List Pair) (some : Still (leg_polynomial ps) → ⊥) (h : Generated (leg_polynomial ps) κ w) where
    squared : Squared (leg_polynomial ps) (norm κ) (norm_polynomial w)
    squared = generated-squared (leg_polynomial ps) κ w h

    κ-some : κ ≢ pairs.none
    κ-some = generated_some (leg_polynomial ps) κ w h some

    positive : pos 0 <ℤ norm κ
    positive = norm_some κ κ-some

    pub preimage_second : Above pairs (at pairs w) 2
    preimage_second = root_above pairs_ring pairs_domain pair-zero? (leg_polynomial ps) w κ 2 κ-some h (leg_polynomial-fourth ps l)

    preimage_quarter : (v : ℕ) → v < 5 → PartsWithin 3806 (pair_form (pos 4) (pos v) 2 w)
    preimage_quarter v j =
        norm-root (nat_abs (norm κ)) (quarter 4 (at wholes (norm_polynomial w)) v) (pair_form (pos 4) (pos v) 2 w)
        (positive_size positive)
        (root-value-size (norm κ) (norm_polynomial w) positive squared v j)
        (norm_polynomial-form (pos 4) (pos v) w 2 preimage_second)

    pub preimage_within : (k : ℕ) → PartsWithin 2000 (at pairs w k)
    preimage_within k = record {
      re = record { size = omega (arith, quadratic-size (re_of (at pairs w)) (re_above preimage_second) (λ v j. (preimage_quarter v j).re) k) };
      im = record { size = omega (arith, quadratic-size (im_of (at pairs w)) (im_above preimage_second) (λ v j. (preimage_quarter v j).im) k) };
    }

-- The sizes of D and N, for a curve in range of at most six points: a leg is at most 40,000 in size, by parts.
--   leg_size                    40,000, 320,000, 960,000, 1,280,000 and 640,000 for the powers 0 to 4, and 0 above
--   leg_polynomial-sizes        D's parts by powers, and
--   leg_polynomial-within       every one of them is at most 1,280,000 in size
--   norm_polynomial-within       every coefficient of N is at most 10¹³ in size
use mathlib.Core.Path.{◌≡◌}
use mathlib.Core.List.{List}
use Prim.Native.Nat.{ℕ, zero, suc, ◌+◌, ◌-◌, ◌*◌, ◌^◌, ◌<◌, ◌≤◌, zero-le}
use native.Mathlib.Nat.{le_refl, le_trans, mul-le-mul, zero-mul}
use native.Mathlib.Omega.{arith}
use lib.IntN.{ℤ, nat_abs, ◌*ℤ◌}
use lib.ListN.{length}
use Rattle.whole.specs.Coefficients.{at}
use Rattle.whole.specs.Number.{wholes, Within}
use Rattle.whole.proofs.Integers.{abs_times}
use Rattle.whole.proofs.Bound.{abs_plus}
use Rattle.whole.proofs.Wholes.{wholes_ring}
use Rattle.poly.proofs.Series.{Series, tail, conv}
use Rattle.pair.specs.declared.Pair.{Pair}
use Rattle.pair.specs.Pairs.{pairs, PartsWithin}
use Rattle.pair.proofs.Parts.{wider}
use Rattle.bernstein.specs.Binomials.{choose}
use Rattle.bernstein.specs.Powers.{differences}
use Rattle.bernstein.proofs.Binomials.{choose_above, choose_le}
use Rattle.bernstein.proofs.InPowers.{in_powers-within}
use Rattle.bernstein.proofs.PowerForms.{Linear, re-part, im-part}
use Rattle.curve.specs.Curves.{InRange, leg_polynomial, norm_polynomial}
use Rattle.curve.proofs.Norms.{re_of, im_of, at-norm_polynomial}
use Rattle.curve.proofs.LegPolynomial.{leg_polynomial-part, legs-within}

abbrev pub leg_size : ℕ → ℕ
leg_size k = choose 4 k * (2 ^ k * 40000)

leg_size-above : (k : ℕ) → 4 < k → leg_size k ≡ 0
leg_size-above k h = rw (choose_above 4 k h) (zero-mul (2 ^ k * 40000))

leg_size-most : (k : ℕ) → leg_size k ≤ 1280000
unfolding choose
leg_size-most zero = omega arith
leg_size-most (suc zero) = omega arith
leg_size-most (suc (suc zero)) = omega arith
leg_size-most (suc (suc (suc zero))) = omega arith
leg_size-most (suc (suc (suc (suc zero)))) = omega arith
leg_size-most (suc (suc (suc (suc (suc k))))) = omega (arith, leg_size-above (suc (suc (suc (suc (suc k))))) (omega arith))

-- ---- N: |f₀ gₖ + f₁ gₖ₋₁ + ..| is at most the sum of the sizes of f times the greatest of g
abbrev total : ℕ → (ℕ → ℕ) → ℕ
total zero s = 0
total (suc n) s = s zero + total n (λ i. s (suc i))

total_le : (m n : ℕ) (s : ℕ → ℕ) → ((i : ℕ) → n ≤ i → s i ≡ 0) → total m s ≤ total n s
total_le zero n s h = zero-le
total_le (suc m) zero s h = omega (arith, h zero zero-le, total_le m zero (λ i. s (suc i)) (λ i l. h (suc i) zero-le))
total_le (suc m) (suc n) s h = omega (arith, total_le m n (λ i. s (suc i)) (λ i l. h (suc i) (omega arith)))

conv-size : {f g : Series ℤ} {B : ℕ} (s : ℕ → ℕ) (k : ℕ) → ((i : ℕ) → Within (s i) (f i)) → ((i : ℕ) → Within B (g i)) → nat_abs (conv wholes f g k) ≤ total (suc k) s * B
unfolding conv
conv-size {f} {g} s zero h j = omega (arith, abs_times (f zero) (g zero), mul-le-mul (h zero).size (j zero).size)
conv-size {f} {g} s (suc k) h j = omega (
  arith,
  abs_plus (f zero *ℤ g (suc k)) (conv wholes (tail f) g k),
  abs_times (f zero) (g (suc k)),
  mul-le-mul (h zero).size (j (suc k)).size,
  conv-size (λ i. s (suc i)) k (λ i. h (suc i)) j,
)

square-most : {f : Series ℤ} (k : ℕ) → ((i : ℕ) → Within (leg_size i) (f i)) → nat_abs (conv wholes f f k) ≤ 3240000 * 1280000
unfolding choose
square-most k h =
    le_trans (conv-size leg_size k h (λ i. record { size = le_trans (h i).size (leg_size-most i) }))
    (mul-le-mul (total_le (suc k) 5 leg_size (λ i l. leg_size-above i l)) (le_refl 1280000))

module _ (ps : List Pair) (r : InRange ps) (l : length ps ≤ 6) where
  -- ---- D
  module _ {part : Pair → ℤ} (P : Linear wholes_ring part) (h : (i : ℕ) → Within 40000 (part (at pairs (differences ps) i))) where
    part-within : (k : ℕ) → Within (leg_size k) (part (at pairs (leg_polynomial ps) k))
    part-within k =
        rw (leg_polynomial-part P ps k)
        (record { size = le_trans (in_powers-within (length ps - 2) h k).size (mul-le-mul (choose_le (length ps - 2) 4 k (omega arith)) (le_refl (2 ^ k * 40000))) })

  pub leg_polynomial-sizes : (k : ℕ) → PartsWithin (leg_size k) (at pairs (leg_polynomial ps) k)
  leg_polynomial-sizes k = record { re = part-within re-part (λ i. (legs-within ps r i).re) k; im = part-within im-part (λ i. (legs-within ps r i).im) k }

  pub leg_polynomial-within : (k : ℕ) → PartsWithin 1280000 (at pairs (leg_polynomial ps) k)
  leg_polynomial-within k = wider (leg_size-most k) (leg_polynomial-sizes k)

  pub norm_polynomial-within : (k : ℕ) → Within 10000000000000 (at wholes (norm_polynomial (leg_polynomial ps)) k)
  norm_polynomial-within k =
      rw (at-norm_polynomial (leg_polynomial ps) k)
      (record {
        size = omega (
          arith,
          abs_plus (conv wholes (re_of (at pairs (leg_polynomial ps))) (re_of (at pairs (leg_polynomial ps))) k) (conv wholes (im_of (at pairs (leg_polynomial ps))) (im_of (at pairs (leg_polynomial ps))) k),
          square-most k (λ i. (leg_polynomial-sizes i).re),
          square-most k (λ i. (leg_polynomial-sizes i).im),
        );
      })

-- Boole's rule, exact up to degree 5: 90 times the integral from 0 to 1 is 7, 32, 12, 32 and 7 times the values at the quarters.
--   sixty           60 times the integral of a polynomial of degree 4
--   boole           the rule, without fractions
--   boole_nonneg    so the integral is not negative where the values are not,
--   boole_size      and where c times the square of each value is at most B, so is c times the square of the integral
use mathlib.Core.Path.{◌≡◌, ap, ◌∙◌}
use mathlib.Core.List.{List, [], ◌∷◌}
use Prim.Native.Nat.{ℕ, ◌*◌, ◌<◌, ◌≤◌}
use native.Mathlib.Nat.{le_refl, mul-le-mul}
use native.Mathlib.Omega.{arith}
use lib.IntN.{ℤ, pos, nat_abs, ◌+ℤ◌, ◌*ℤ◌}
use lib.Signed.{◌≤ℤ◌}
use Rattle.whole.specs.Number.{wholes}
use Rattle.whole.proofs.Integers.{abs_times}
use Rattle.whole.proofs.Solver.{var, lit, ◌:+◌, ◌:*◌, solve}
use Rattle.whole.proofs.Wholes.{wholes_ring}
use Rattle.whole.proofs.Linear.{linear, times_parts}
use Rattle.whole.proofs.Order.{nonneg_plus, nonneg_times}
use Rattle.poly.proofs.Series.{Series}
use Rattle.verdict.proofs.Quarters.{quarter, weighted, weighted-size, sum_of, quarter_of, eval-weighted, greatest}

abbrev pub sixty : Series ℤ → ℤ
sixty f = f 0 *ℤ pos 60 +ℤ f 1 *ℤ pos 30 +ℤ f 2 *ℤ pos 20 +ℤ f 3 *ℤ pos 15 +ℤ f 4 *ℤ pos 12

abbrev weights : List ℤ
weights = pos 7 ∷ pos 32 ∷ pos 12 ∷ pos 32 ∷ pos 7 ∷ []

-- 4⁴ f(v / 4) at the quarters v: 384 is 4⁴ · 90 / 60
pub boole : (f : Series ℤ) → sixty f *ℤ pos 384 ≡ weighted wholes weights (quarter 4 f)
boole f =
    let ρ = f 0 ∷ f 1 ∷ f 2 ∷ f 3 ∷ f 4 ∷ [] in
    solve wholes_ring ρ
    ((var 0 :* lit 60 :+ var 1 :* lit 30 :+ var 2 :* lit 20 :+ var 3 :* lit 15 :+ var 4 :* lit 12) :* lit 384)
    (sum_of weights (quarter_of 4)) tt
    ∙ eval-weighted ρ weights (quarter_of 4)

pub boole_nonneg : (f : Series ℤ) → ((v : ℕ) → v < 5 → pos 0 ≤ℤ quarter 4 f v) → pos 0 ≤ℤ sixty f
boole_nonneg f h =
    part (boole f)
    (more 7 (h 0 (omega arith)) (more 32 (h 1 (omega arith)) (more 12 (h 2 (omega arith)) (more 32 (h 3 (omega arith)) (more 7 (h 4 (omega arith)) (omega linear))))))
  where
    more : (n : ℕ) {x y : ℤ} → pos 0 ≤ℤ x → pos 0 ≤ℤ y → pos 0 ≤ℤ (pos n *ℤ x +ℤ y)
    more n {x} h k = nonneg_plus {s = pos n *ℤ x} (nonneg_times {s = pos n} (omega linear) h) k

    part : {x y : ℤ} → x *ℤ pos 384 ≡ y → pos 0 ≤ℤ y → pos 0 ≤ℤ x
    part {x} {y} e h = omega (linear, times_parts x (pos 384))

-- 90² / 384² of B: c (4⁴ f)² is bounded
pub boole_size : (f : Series ℤ) (c B : ℕ) → ((v : ℕ) → v < 5 → c * (nat_abs (quarter 4 f v) * nat_abs (quarter 4 f v)) ≤ B)
    → 147456 * (c * (nat_abs (sixty f) * nat_abs (sixty f))) ≤ 8100 * B
boole_size f c B h =
    let (M, most, small) = greatest (λ x. c * (x * x) ≤ B) (omega arith) 5 (λ v. nat_abs (quarter 4 f v)) h in
    let x = nat_abs (sixty f) in
    let s : x * 384 ≤ 90 * M = omega (arith, weighted-size {f = quarter 4 f} {M = M} weights (λ v l. record { size = most v l }), ap nat_abs (boole f), abs_times (sixty f) (pos 384)) in
    omega (arith, mul-le-mul (le_refl c) (mul-le-mul s s))

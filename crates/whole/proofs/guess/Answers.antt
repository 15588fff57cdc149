-- `whole::guess` meets its contract. A number of m binary digits is below 2^m, and the guess is the mean of 2^k and n / 2^k, where k is m / 2.
use mathlib.Core.Path.{◌≡◌, ◌∙◌}
use Prim.Native.Nat.{ℕ, ◌-◌, ◌*◌, ◌/◌, ◌%◌, ◌^◌, ◌≤◌, ◌<◌}
use native.Mathlib.Nat.{mod-eq_of_lt, one-mul, lt_of_lt_of_le, lt_of_le_of_lt, le_trans, le_of_eq}
use native.Mathlib.Omega.{arith}
use lib.Dec.{lit<}
use lib.Count.{count_leading_zeros, leading_length}
use lib.Pow.{pow_mono, pow_pos, shr_lt}
use Rattle.whole.proofs.Squares.{newton_above, root_positive}
use Rattle.whole.proofs.guess.Goals as goal

module _ (c : goal.Start) where
  abbrev n : ℕ
  n = c.args.n

  abbrev k : ℕ
  k = (64 - count_leading_zeros 64 n) / 2

  power_le : 2 ^ k ≤ 2 ^ 32
  power_le = pow_mono {j = 32} (omega arith)

  power-is : 1 * 2 ^ k % 2 ^ 64 ≡ 2 ^ k
  power-is = mod-eq_of_lt (lt_of_le_of_lt (le_trans (le_of_eq (one-mul (2 ^ k))) power_le) (lit< tt)) ∙ one-mul (2 ^ k)

  quotient_lt : n / 2 ^ k < 2 ^ 32
  quotient_lt = let digits = leading_length 64 n c.ranges.n.fits in shr_lt 32 k (lt_of_lt_of_le digits.2 (pow_mono (omega arith)))

pub overflow_add-result : goal.overflow_add-result
overflow_add-result c = rw (power-is c) (record { fits = omega (arith, power_le c, quotient_lt c) })

pub returns : goal.returns
returns c =
    let above = newton_above (n c) (2 ^ k c) (pow_pos (k c)) in
    rw (power-is c) (record { positive = root_positive (n c) _ c.requires above; above = above; small = omega (arith, power_le c, quotient_lt c) })

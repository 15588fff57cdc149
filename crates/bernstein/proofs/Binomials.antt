-- Binomial coefficients C(m, k).
--   choose_above        C(m, k) is 0 for m < k,
--   choose_positive     and positive up to there
--   choose_le           it grows with m
--   choose_one          C(m, 1) = m
--   absorbed            (k + 1) C(m, k + 1) = m C(m − 1, k)
use mathlib.Core.Path.{◌≡◌, refl, ap, ◌∙◌}
use Prim.Native.Nat.{ℕ, zero, suc, ◌*◌, ◌-◌, ◌<◌, ◌≤◌, zero-le}
use native.Mathlib.Nat.{le_refl}
use native.Mathlib.Omega.{arith}
use Rattle.bernstein.specs.Binomials.{choose}

pub choose_above : (m k : ℕ) → m < k → choose m k ≡ 0
unfolding choose
choose_above m zero h = absurd (omega arith)
choose_above zero (suc k) h = refl
choose_above (suc m) (suc k) h = omega (arith, choose_above m k (omega arith), choose_above m (suc k) (omega arith))

pub choose_positive : (m k : ℕ) → k ≤ m → 0 < choose m k
unfolding choose
choose_positive m zero h = omega arith
choose_positive zero (suc k) h = absurd (omega arith)
choose_positive (suc m) (suc k) h = omega (arith, choose_positive m k (omega arith))

pub choose_le : (m n k : ℕ) → m ≤ n → choose m k ≤ choose n k
unfolding choose
choose_le m n zero l = le_refl 1
choose_le zero n (suc k) l = zero-le
choose_le (suc m) zero (suc k) l = absurd (omega arith)
choose_le (suc m) (suc n) (suc k) l = omega (arith, choose_le m n k (omega arith), choose_le m n (suc k) (omega arith))

pub choose_one : (n : ℕ) → choose n 1 ≡ n
unfolding choose
choose_one zero = refl
choose_one (suc n) = let e = choose_one n in omega arith

absorbed_suc : (m k : ℕ) → suc k * choose (suc m) (suc k) ≡ suc m * choose m k
unfolding choose
absorbed_suc zero zero = refl
absorbed_suc zero (suc k) = omega arith
absorbed_suc (suc m) zero = omega (arith, absorbed_suc m zero)
absorbed_suc (suc m) (suc k) = omega (arith, absorbed_suc m k, absorbed_suc m (suc k))

pub absorbed : (m k : ℕ) → suc k * choose m (suc k) ≡ m * choose (m - 1) k
unfolding choose
absorbed zero k = omega arith
absorbed (suc m) k = absorbed_suc m k ∙ ap (λ n. suc m * choose n k) (omega arith)

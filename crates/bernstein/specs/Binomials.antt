-- Binomial coefficients, and sums with them.
--   choose n k                 how many ways there are to choose k of n: C(n, k)
--   total k f                  f 0 + f 1 + .. + f k
--   binomial_sum f k            C(k, 0) f 0 + C(k, 1) f 1 + .. + C(k, k) f k
--   bernstein n scale a k      scale times the k-th Bernstein coefficient of the polynomial a at degree n: the sum of C(k, j) / C(n, j) aⱼ, times scale
use Rattle.std.specs.Prelude.{List, ℕ, zero, suc, ◌+◌, ◌/◌, ℤ, pos, ◌*ℤ◌}
use Rattle.whole.specs.Coefficients.{Coefficients, at}
use Rattle.whole.specs.Number.{wholes}

unfoldable pub choose : ℕ → ℕ → ℕ
choose n zero = 1
choose zero (suc k) = 0
choose (suc n) (suc k) = choose n k + choose n (suc k)

module _ {A : Type 0} (C : Coefficients A) where
  unfoldable pub total : ℕ → (ℕ → A) → A
  total zero f = f zero
  total (suc k) f = C.plus (f zero) (total k (λ j. f (suc j)))

abbrev pub binomial_sum : (ℕ → ℤ) → ℕ → ℤ
binomial_sum f k = total wholes k (λ j. pos (choose k j) *ℤ f j)

abbrev pub bernstein : ℕ → ℕ → List ℤ → ℕ → ℤ
bernstein n scale a = binomial_sum (λ j. at wholes a j *ℤ pos (scale / choose n j))

-- What the quotients and the square roots promise.
--   Divisible n d    the machine has an answer: d is not 0, and not the least number by −1
--   IsQuotient       the exact quotient, or that there is none
--   Shares n d       d divides n and is positive, and both are within the size of N
--   Nearest n d q    q is the whole number nearest to n / d; of two that are equally near, the lower
--   IsRoot n r       the whole root of n and what is left over: root² + rest is n, and rest is at most twice the root
--   IsExactRoot n r  the number whose square is n, or that n is no square
--   EndsAsSquare n   the last six binary digits of n, which are its remainder by 64, are those of some square
use Rattle.std.specs.Prelude.{◌≡◌, ◌≢◌, ℕ, ◌-◌, ◌*◌, ◌%◌, ◌^◌, ◌+◌, ◌≤◌, ℤ, pos, negsuc, neg_ℤ, ◌-ℤ◌, ◌*ℤ◌, ◌≤ℤ◌, ◌<ℤ◌, Option, Some, None}
use Rattle.whole.specs.Coefficients.{Divides}
use Rattle.whole.specs.Number.{wholes, Within, norm_size}
use Rattle.whole.specs.declared.Root.{Root}

pub record Divisible (n d : ℤ) : Type 0 where
  pub nonzero : d ≢ pos 0
  pub not_least : n ≡ negsuc (2 ^ 63 - 1) → d ≢ negsuc 0

abbrev pub IsQuotient : ℤ → ℤ → Option ℤ → Type 0
IsQuotient n d (Some q) = d *ℤ q ≡ n
IsQuotient n d None = Divides wholes d n → ⊥

pub record Shares (n d : ℤ) : Type 0 where
  pub whole : Divides wholes d n
  pub positive : pos 0 <ℤ d
  pub n_small : Within norm_size n
  pub d_small : Within norm_size d

-- twice what is left over lies above −d, and not above d
pub record Nearest (n d q : ℤ) : Type 0 where
  pub low : neg_ℤ d <ℤ (pos 2 *ℤ (n -ℤ q *ℤ d))
  pub high : (pos 2 *ℤ (n -ℤ q *ℤ d)) ≤ℤ d

pub record IsRoot (n : ℕ) (r : Root) : Type 0 where
  pub is : r.root * r.root + r.rest ≡ n
  pub small : r.rest ≤ 2 * r.root

abbrev pub IsExactRoot : ℕ → Option ℕ → Type 0
IsExactRoot n (Some r) = r * r ≡ n
IsExactRoot n None = (r : ℕ) → r * r ≢ n

pub record EndsAsSquare (n : ℕ) : Type 0 where
  pub root : ℕ
  pub ends : root * root % 64 ≡ n % 64

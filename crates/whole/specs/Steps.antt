-- What the steps of common divisors and square roots promise one another.
--   OddPart n r      r is what is left of n without its factors of 2
--   Guess n r        r is a first guess for Newton's steps: they come down from it, and it fits
use Rattle.std.specs.Prelude.{◌≡◌, ℕ, ◌*◌, ◌%◌, ◌^◌, ◌+◌, ◌<◌}

pub record OddPart (n r : ℕ) : Type 0 where
  pub odd : r % 2 ≡ 1
  pub power : ℕ
  pub is : r * 2 ^ power ≡ n

pub record Guess (n r : ℕ) : Type 0 where
  pub positive : 0 < r
  pub above : n < (r + 1) * (r + 1)
  pub small : r < 2 ^ 32

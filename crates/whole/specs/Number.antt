-- Whole numbers, as the contracts speak of them.
--   wholes           ℤ as coefficients of polynomials
--   Within b x       x is at most b away from zero
--   norm_size         10¹³, which no coefficient of a curve's N exceeds
--   FirstPositive    the sign rule of two numbers
--   Tells P flag     a flag that says whether P holds
use Rattle.std.specs.Prelude.{◌≡◌, Bool, true, false, ◌⊎◌, ℕ, ◌≤◌, ℤ, pos, nat_abs, ◌+ℤ◌, ◌*ℤ◌, ◌<ℤ◌}
use Rattle.whole.specs.Coefficients.{Coefficients}

abbrev pub wholes : Coefficients ℤ
wholes = record { none = pos 0; plus = ◌+ℤ◌; times = ◌*ℤ◌ }

pub record Within (b : ℕ) (x : ℤ) : Type 0 where
  pub size : nat_abs x ≤ b

abbrev pub norm_size : ℕ
norm_size = 10000000000000

-- the first that is not zero is positive
abbrev pub FirstPositive : ℤ → ℤ → Type 0
FirstPositive x y = (pos 0 <ℤ x) ⊎ ((x ≡ pos 0) × (pos 0 <ℤ y))

abbrev pub Tells : Type 0 → Bool → Type 0
Tells P true = P
Tells P false = P → ⊥

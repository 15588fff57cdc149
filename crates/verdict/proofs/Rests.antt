-- Divisibility by remainders.
--   rest_of_multiple     what is left of a n is what is left of n times what is left of a
--   divides_by_rest      a whole number divides another just where nothing is left of its size
--   square-size          the size of n x²
use mathlib.Core.Path.{◌≡◌, sym, ap, ◌∙◌}
use mathlib.Core.Logic.{◌↔◌}
use Prim.Native.Nat.{ℕ, ◌+◌, ◌*◌, ◌/◌, ◌%◌}
use native.Mathlib.Nat.{div-add-mod, mul-add-mod_self_left, add-mul, mul_assoc}
use lib.IntN.{ℤ, pos, nat_abs, ◌*ℤ◌}
use Rattle.whole.specs.Coefficients.{Divides}
use Rattle.whole.specs.Number.{wholes}
use Rattle.whole.proofs.Integers.{abs_times, abs_zero}
use Rattle.whole.proofs.Division.{abs_rest, rest-zero, zero_rest}

pub rest_of_multiple : (a n d : ℕ) → a * n % d ≡ a % d * n % d
rest_of_multiple a n d =
    ap (λ (x : ℕ). x * n % d) (sym (div-add-mod a d))
    ∙ ap (λ (x : ℕ). x % d) (add-mul (d * (a / d)) (a % d) n ∙ ap (λ (x : ℕ). x + a % d * n) (mul_assoc d (a / d) n))
    ∙ mul-add-mod_self_left d (a / d * n) (a % d * n)

pub divides_by_rest : (d x : ℤ) → (nat_abs x % nat_abs d ≡ 0) ↔ Divides wholes d x
divides_by_rest d x = (
  λ e. record { factor = _; is = zero_rest x d (abs_zero _ (abs_rest x d ∙ e)) },
  λ h. sym (abs_rest x d) ∙ ap nat_abs (rest-zero x d h),
)

pub square-size : (x : ℤ) (n : ℕ) → nat_abs (x *ℤ x *ℤ pos n) ≡ nat_abs x * nat_abs x * n
square-size x n = abs_times (x *ℤ x) (pos n) ∙ ap (λ (k : ℕ). k * n) (abs_times x x)

-- Division toward zero: `quot_z` and `rem_z` of `lib.Signed`, which are the machine's `/` and `%`; and what the two quotients promise.
--   quotient-rest                    x = q d + r
--   abs_quotient, abs_rest           |q| = |x| / |d| and |r| = |x| % |d|
--   rest_below                       |r| < |d|, for d other than 0
--   quotient_fits, rest_fits         both fit where the machine has an answer
--   rest-zero, zero_rest             where d divides x, r is 0; and where r is 0, d q = x
--   share_once, quotient_once, nearest_once      an exact quotient and a nearest one have one answer
--   nearest_close                    the nearest one leaves at most half of d over
use Rattle.std.specs.Prelude.{Option}
use Rattle.std.proofs.lemmas.Int.{quot-rem}
use mathlib.Core.Path.{◌≡◌, refl, sym, ap, ◌∙◌}
use mathlib.Core.List.{[], ◌∷◌}
use mathlib.Core.Logic.{◌≢◌}
use Prim.Native.Nat.{ℕ, zero, suc, ◌*◌, ◌/◌, ◌%◌, ◌^◌, ◌<◌, ◌≤◌}
use native.Mathlib.Nat.{mul-mod_left, div-le_self, div-lt_self, mod-lt, lt_of_le_of_lt, pos_of_ne-zero}
use native.Mathlib.Decide.{dec_lt}
use native.Mathlib.Omega.{arith}
use lib.IntN.{ℤ, pos, negsuc, nat_abs, ◌+ℤ◌, ◌-ℤ◌, ◌*ℤ◌, *ℤ_comm, +ℤ_idr}
use lib.Signed.{quot_z, rem_z, mag_rem}
use mir.Syntax.{w64}
use mir.Val.{SFits}
use Rattle.whole.specs.Coefficients.{Divides}
use Rattle.whole.specs.Number.{wholes}
use Rattle.whole.proofs.Integers.{abs_negative, abs_times, abs_zero}
use Rattle.whole.specs.Promise.{Divisible, IsQuotient, Nearest}
use Rattle.whole.proofs.Wholes.{readℤ, atomsℤ, ringℤ, *ℤ-cancel, wholes_ring}
use Rattle.whole.proofs.Options.{option_once}
use Rattle.whole.proofs.Ring.{zero-difference}
use Rattle.whole.proofs.Linear.{linear, minus_parts, times_parts, negative_parts, abs_parts, one-part}

pub quotient-rest : (x d : ℤ) → quot_z x d *ℤ d +ℤ rem_z x d ≡ x
quotient-rest = quot-rem

pub abs_quotient : (x d : ℤ) → nat_abs (quot_z x d) ≡ nat_abs x / nat_abs d
abs_quotient (pos a) (pos b) = refl
abs_quotient (pos a) (negsuc b) = abs_negative (pos (a / suc b))
abs_quotient (negsuc a) (pos b) = abs_negative (pos (suc a / b))
abs_quotient (negsuc a) (negsuc b) = refl

pub abs_rest : (x d : ℤ) → nat_abs (rem_z x d) ≡ nat_abs x % nat_abs d
abs_rest (pos a) d = refl
abs_rest (negsuc a) d = abs_negative (pos (suc a % nat_abs d))

pub rest_below : (x d : ℤ) → d ≢ pos 0 → nat_abs (rem_z x d) < nat_abs d
rest_below x d h = omega (arith, abs_rest x d, mod-lt (nat_abs x) (pos_of_ne-zero (λ e. h (abs_zero d e))))

pub rest_fits : {x : ℤ} (d : ℤ) → SFits w64 x → SFits w64 (rem_z x d)
rest_fits {x} d f = record { sfits = lt_of_le_of_lt (mag_rem x d) f.sfits }

pub quotient_fits : (x d : ℤ) → SFits w64 x → Divisible x d → SFits w64 (quot_z x d)
quotient_fits (pos a) (pos b) f h = omega (linear, div-le_self a b)
quotient_fits (pos a) (negsuc b) f h = omega (linear, negative_parts (pos (a / suc b)), div-le_self a (suc b))
quotient_fits (negsuc a) (pos b) f h = omega (linear, negative_parts (pos (suc a / b)), div-le_self (suc a) b)
quotient_fits (negsuc a) (negsuc zero) f h = by (dec_lt (suc a) (2 ^ 63))
  where
    by : Dec (suc a < 2 ^ 63) → SFits w64 (pos (suc a / 1))
    by (yes l) = omega linear
    by (no l) = absurd (h.not_least (omega linear) refl)
quotient_fits (negsuc a) (negsuc (suc b)) f h =
    let l : suc a / suc (suc b) < suc a = div-lt_self (omega arith) (omega arith) in
    omega linear

pub rest-zero : (x d : ℤ) → Divides wholes d x → rem_z x d ≡ pos 0
rest-zero x d h =
    let k = h.factor in
    abs_zero (rem_z x d)
    (abs_rest x d ∙ ap (λ (n : ℕ). n % nat_abs d) (sym (ap nat_abs h.is) ∙ ap nat_abs (*ℤ_comm d k) ∙ abs_times k d) ∙ mul-mod_left (nat_abs k) (nat_abs d))

pub zero_rest : (x d : ℤ) → rem_z x d ≡ pos 0 → d *ℤ quot_z x d ≡ x
zero_rest x d e = *ℤ_comm d (quot_z x d) ∙ sym (+ℤ_idr (quot_z x d *ℤ d)) ∙ ap (λ r. quot_z x d *ℤ d +ℤ r) (sym e) ∙ quotient-rest x d

-- ---- one answer
pub share_once : (n d p q : ℤ) → d ≢ pos 0 → d *ℤ p ≡ n → d *ℤ q ≡ n → p ≡ q
share_once n d p q h e f = *ℤ-cancel d h (e ∙ sym f)

pub quotient_once : (n d : ℤ) → d ≢ pos 0 → (r s : Option ℤ) → IsQuotient n d r → IsQuotient n d s → r ≡ s
quotient_once n d h = option_once (IsQuotient n d) (λ p q. share_once n d p q h) (λ q e none. none (record { factor = q; is = e }))

pub nearest_close : {n d q : ℤ} → Nearest n d q → 2 * nat_abs (n -ℤ q *ℤ d) ≤ nat_abs d
nearest_close {n} {d} {q} h =
    let x = n -ℤ q *ℤ d in
    omega (linear, times_parts (pos 2) x, negative_parts d, abs_parts x, abs_parts d, one-part x, one-part d)

apart : (n d p q : ℤ) → (n -ℤ q *ℤ d) -ℤ (n -ℤ p *ℤ d) ≡ (p -ℤ q) *ℤ d
apart n d p q = atomsℤ (n ∷ d ∷ p ∷ q ∷ []) (λ ρ e. simp (e 0, e 1, e 2, e 3, readℤ) (ringℤ ρ _ _ tt))

-- two such rests differ by less than d, and by a multiple of d
pub nearest_once : (n d p q : ℤ) → Nearest n d p → Nearest n d q → p ≡ q
nearest_once n d p q u v = zero-difference wholes_ring p q (abs_zero (p -ℤ q) (by (nat_abs (p -ℤ q)) (sym (abs_times (p -ℤ q) d) ∙ ap nat_abs (sym (apart n d p q)))))
  where
    x : ℤ
    x = n -ℤ p *ℤ d

    y : ℤ
    y = n -ℤ q *ℤ d

    by : (m : ℕ) → m * nat_abs d ≡ nat_abs (y -ℤ x) → m ≡ 0
    by zero e = refl
    by (suc m) e =
        absurd (omega (linear, u.low, u.high, v.low, v.high, times_parts (pos 2) x, times_parts (pos 2) y, negative_parts d, minus_parts y x, abs_parts (y -ℤ x), abs_parts d, one-part (y -ℤ x), one-part d))

-- 2 is no square of a quotient, by descent on parity.
--   square-not-twice     n² = 2 m² only for n = 0
use mathlib.Core.Path.{◌≡◌, refl}
use Prim.Native.Nat.{ℕ, zero, suc, ◌+◌, ◌*◌, ◌/◌, ◌≤◌, ◌<◌}
use native.Mathlib.Nat.{le_refl, mul-le-mul}
use native.Mathlib.Decide.{dec_lt, ℕ_discrete}
use native.Mathlib.Omega.{arith}

-- n is even, n = 2 h, so that m² = 2 h², and m is below n, unless n is 0
even : (n m h : ℕ) → n * n ≡ 2 * (m * m) → Dec (n ≡ 2 * h) → n < 2 * suc h → 2 * h ≤ n → m * m ≡ 2 * (h * h)
even n m h e (yes t) a b = let f : (2 * h) * (2 * h) ≡ 2 * (m * m) = rw t at e in omega arith
even n m h e (no t) a b =
    let odd : n ≡ 2 * h + 1 = omega arith in
    let f : (2 * h + 1) * (2 * h + 1) ≡ 2 * (m * m) = rw odd at e in
    absurd (omega arith)

below : (n m : ℕ) → suc n * suc n ≡ 2 * (m * m) → Dec (m < suc n) → m < suc n
below n m e (yes l) = l
below n m e (no l) = let l' : suc n ≤ m = omega arith in absurd (omega (arith, mul-le-mul l' l'))

not-twice-step : (l n m : ℕ) → n ≤ suc l → n * n ≡ 2 * (m * m) → ((h : ℕ) → m ≤ l → m * m ≡ 2 * (h * h) → m ≡ 0) → n ≡ 0
not-twice-step l zero m b e ih = refl
not-twice-step l (suc n) m b e ih =
    let k = below n m e (dec_lt m (suc n)) in
    let h = suc n / 2 in
    let z = ih h (omega arith) (even (suc n) m h e (ℕ_discrete (suc n) (2 * h)) (omega arith) (omega arith)) in
    let f : suc n * suc n ≡ 2 * (0 * 0) = rw z at e in
    absurd (omega arith)

not-twice : (l n m : ℕ) → n ≤ l → n * n ≡ 2 * (m * m) → n ≡ 0
not-twice zero n m b e = omega arith
not-twice (suc l) n m b e = not-twice-step l n m b e (not-twice l m)

pub square-not-twice : (n m : ℕ) → n * n ≡ 2 * (m * m) → n ≡ 0
square-not-twice n m e = not-twice n n m (le_refl n) e

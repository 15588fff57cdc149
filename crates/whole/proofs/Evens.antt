-- Factors of 2: the zeros at a number's end, and what they do to common divisors.
--   zeros n                how many zeros stand at the end of n's binary digits
--   zeros-end              a number other than 0 is odd without them, and with them again the number
--   odd_part_le            the odd part of a number is no larger
--   odd_part_once          and there is one
--   Both d x y             d divides both; both_turned: in whatever order
--   Shared g x y           g has just the divisors that x and y have in common; shared_greatest, greatest_shared: it is the greatest common divisor
--   shared-turned          the order of the two does not matter
--   with_zero              0 and a number share what divides the number
--   shared_le              a divisor of a number other than 0 is no larger
--   odd_step               the difference of two odd numbers may take the place of one of them, without its factors of 2
--   shared_powers          of powers of 2 in two numbers the smaller is common to both
use mathlib.Core.Path.{◌≡◌, refl, sym, ap, ◌∙◌, subst}
use mathlib.Core.List.{[], ◌∷◌}
use mathlib.Core.Logic.Iff
use mathlib.Core.Logic.{◌≢◌, ◌⊎◌, inl, inr, ⊎_elim, ⊎_map, ◌↔◌}
use Prim.Native.Nat.{ℕ, zero, suc, ◌-◌, ◌*◌, ◌/◌, ◌%◌, ◌^◌, ◌≤◌, ◌<◌}
use native.Mathlib.Nat.{mul-one, mul_assoc, pow-suc, div-lt_iff_lt-mul, zero-lt-suc, suc-ne-zero}
use native.Mathlib.Omega.{arith}
use lib.Arith.{lt-one}
use lib.Count.{count_trailing_zeros, under}
use lib.IntN.{ℤ, pos, negsuc, neg_ℤ, nat_abs, ◌+ℤ◌, ◌*ℤ◌, *ℤ_comm}
use lib.Pow.{pow-add, pow_pos, shl-shr}
use Rattle.whole.specs.Coefficients.{Divides, Greatest}
use Rattle.whole.specs.Number.{wholes}
use Rattle.whole.specs.Steps.{OddPart}
use Rattle.whole.proofs.Wholes.{wholes_ring, atomsℤ, readℤ, read_pos, ringℤ, *ℤ-cancel}
use Rattle.whole.proofs.Divisor.{divides_self, divides_plus, divides_multiple, divides_trans, divides_le, common_two, greatest_says, greatest_is, division_common, divides_none}

-- ---- the zeros at a number's end
-- r is odd, and n is r with t zeros behind it, where t is below k
abbrev Ends : ℕ → ℕ → ℕ → Type 0
Ends t k n = (r : ℕ) × (t < k) × (r % 2 ≡ 1) × (r * 2 ^ t ≡ n)

doubled_power : (t n : ℕ) → n * 2 ^ t * 2 ≡ n * 2 ^ suc t
doubled_power t n = mul_assoc n (2 ^ t) 2 ∙ ap (λ (x : ℕ). n * x) (sym (pow-suc 2 t))

ends : (k n : ℕ) → n ≢ 0 → n < 2 ^ k → Ends (count_trailing_zeros k n) k n
unfolding count_trailing_zeros
ends zero n h l = absurd (h (lt-one l))
ends (suc k) n h l = go (n % 2) refl (λ e. ends k (n / 2) (half_some e) ((div-lt_iff_lt-mul (zero-lt-suc 1)).1 (subst (λ (x : ℕ). n < x) (pow-suc 2 k) l)))
  where
    half_some : n % 2 ≡ 0 → n / 2 ≢ 0
    half_some e z = h (omega arith)

    go : (b : ℕ) → n % 2 ≡ b → (n % 2 ≡ 0 → Ends (count_trailing_zeros k (n / 2)) k (n / 2)) → Ends (under b (count_trailing_zeros k (n / 2))) (suc k) n
    go zero e rest =
        let f = rest e in
        let t = count_trailing_zeros k (n / 2) in
        (f.0, omega (arith, f.1), f.2, sym (doubled_power t f.0) ∙ ap (λ (x : ℕ). x * 2) f.3 ∙ omega arith)
    go (suc b) e rest = (n, omega arith, omega arith, mul-one n)

abbrev pub zeros : ℕ → ℕ
zeros n = count_trailing_zeros 64 n

pub record Zeros (n : ℕ) : Type 0 where
  pub below : zeros n < 64
  pub odd : n / 2 ^ zeros n % 2 ≡ 1
  pub is : n / 2 ^ zeros n * 2 ^ zeros n ≡ n

pub zeros-end : (n : ℕ) → n ≢ 0 → n < 2 ^ 64 → Zeros n
zeros-end n h l =
    let f = ends 64 n h l in
    let e : n / 2 ^ zeros n ≡ f.0 = ap (λ (x : ℕ). x / 2 ^ zeros n) (sym f.3) ∙ shl-shr f.0 (zeros n) in
    record { below = f.1; odd = ap (λ (x : ℕ). x % 2) e ∙ f.2; is = ap (λ (x : ℕ). x * 2 ^ zeros n) e ∙ f.3 }

pub odd_part_le : {n r : ℕ} → OddPart n r → r ≤ n
odd_part_le {n} {r} k = by (2 ^ k.power) (pow_pos k.power) k.is
  where
    by : (q : ℕ) → 0 < q → r * q ≡ n → r ≤ n
    by zero l e = omega arith
    by (suc q) l e = omega arith

pub odd_part_once : {n r s : ℕ} → OddPart n r → OddPart n s → r ≡ s
odd_part_once {n} {r} {s} h k = by h.power k.power (h.is ∙ sym k.is)
  where
    by : (p q : ℕ) → r * 2 ^ p ≡ s * 2 ^ q → r ≡ s
    by zero zero e = sym (mul-one r) ∙ e ∙ mul-one s
    by zero (suc q) e = omega (arith, h.odd, mul-one r, doubled_power q s)
    by (suc p) zero e = omega (arith, k.odd, mul-one s, doubled_power p r)
    by (suc p) (suc q) e = by p q (omega (arith, doubled_power p r, doubled_power q s))

-- ---- 2 and divisors
-- what divides twice x, and an odd number, divides x
odd_half : {d x y : ℤ} (e : ℤ) → e *ℤ pos 2 +ℤ pos 1 ≡ y → Divides wholes d (x *ℤ pos 2) → Divides wholes d y → Divides wholes d x
odd_half {d} {x} {y} e o h k =
    subst (Divides wholes d) (ap (λ y. x *ℤ y +ℤ neg_ℤ e *ℤ (x *ℤ pos 2)) (sym o) ∙ left x e)
    (divides_plus wholes_ring (divides_multiple wholes_ring x k) (divides_multiple wholes_ring (neg_ℤ e) h))
  where
    left : (x e : ℤ) → x *ℤ (e *ℤ pos 2 +ℤ pos 1) +ℤ neg_ℤ e *ℤ (x *ℤ pos 2) ≡ x
    left x e = atomsℤ (x ∷ e ∷ []) (λ ρ a. simp (a 0, a 1, readℤ, read_pos ρ) (ringℤ ρ _ _ tt))

abbrev Even : ℤ → Type 0
Even d = (e : ℤ) × (e *ℤ pos 2 ≡ d)

abbrev Odd : ℤ → Type 0
Odd d = (e : ℤ) × (e *ℤ pos 2 +ℤ pos 1 ≡ d)

odd_number : (n : ℕ) → n % 2 ≡ 1 → Odd (pos n)
odd_number n o = (pos (n / 2), ap pos (omega arith))

number_even_or_odd : (n : ℕ) → Even (pos n) ⊎ Odd (pos n)
number_even_or_odd n = go (n % 2) refl
  where
    go : (b : ℕ) → n % 2 ≡ b → Even (pos n) ⊎ Odd (pos n)
    go zero o = inl (pos (n / 2), ap pos (omega arith))
    go (suc b) o = inr (odd_number n (omega arith))

even_or_odd : (d : ℤ) → Even d ⊎ Odd d
even_or_odd (pos n) = number_even_or_odd n
even_or_odd (negsuc n) =
    ⊎_map (λ h. (neg_ℤ h.0, even h.0 ∙ ap neg_ℤ h.1)) (λ h. (neg_ℤ (h.0 +ℤ pos 1), odd h.0 ∙ ap neg_ℤ h.1)) (number_even_or_odd (suc n))
  where
    even : (e : ℤ) → neg_ℤ e *ℤ pos 2 ≡ neg_ℤ (e *ℤ pos 2)
    even e = atomsℤ (e ∷ []) (λ ρ a. simp (a 0, readℤ, read_pos ρ) (ringℤ ρ _ _ tt))

    odd : (e : ℤ) → neg_ℤ (e +ℤ pos 1) *ℤ pos 2 +ℤ pos 1 ≡ neg_ℤ (e *ℤ pos 2 +ℤ pos 1)
    odd e = atomsℤ (e ∷ []) (λ ρ a. simp (a 0, readℤ, read_pos ρ) (ringℤ ρ _ _ tt))

turn : (a b : ℤ) → a *ℤ pos 2 *ℤ b ≡ a *ℤ b *ℤ pos 2
turn a b = atomsℤ (a ∷ b ∷ []) (λ ρ e. simp (e 0, e 1, readℤ, read_pos ρ) (ringℤ ρ _ _ tt))

twice_both : {d x : ℤ} → Divides wholes d x → Divides wholes (d *ℤ pos 2) (x *ℤ pos 2)
twice_both {d} h = record { factor = h.factor; is = turn d h.factor ∙ ap (λ z. z *ℤ pos 2) h.is }

half_both : {d x : ℤ} → Divides wholes (d *ℤ pos 2) (x *ℤ pos 2) → Divides wholes d x
half_both {d} {x} h = record { factor = h.factor; is = *ℤ-cancel (pos 2) (λ z. suc-ne-zero 1 (ap nat_abs z)) twice }
  where
    twice : pos 2 *ℤ (d *ℤ h.factor) ≡ pos 2 *ℤ x
    twice = *ℤ_comm (pos 2) (d *ℤ h.factor) ∙ sym (turn d h.factor) ∙ h.is ∙ *ℤ_comm x (pos 2)

-- d divides x c where it divides x
divides_times : {d : ℤ} {x : ℕ} (c : ℕ) → Divides wholes d (pos x) → Divides wholes d (pos (x * c))
divides_times c h = divides_trans wholes_ring h (record { factor = pos c; is = refl })

-- what divides 2^k times x, and an odd number, divides x
odd_rest : (k : ℕ) {d : ℤ} {x y : ℕ} → y % 2 ≡ 1 → Divides wholes d (pos (x * 2 ^ k)) → Divides wholes d (pos y) → Divides wholes d (pos x)
odd_rest zero {d} {x} o h l = subst (λ (n : ℕ). Divides wholes d (pos n)) (mul-one x) h
odd_rest (suc k) {d} {x} {y} o h l =
    odd_rest k o (odd_half (odd_number y o).0 (odd_number y o).1 (subst (λ (n : ℕ). Divides wholes d (pos n)) (sym (doubled_power k x)) h) l) l

-- ---- common divisors
abbrev pub Both : ℤ → ℕ → ℕ → Type 0
Both d x y = Divides wholes d (pos x) × Divides wholes d (pos y)

pub both_turned : (d : ℤ) (x y : ℕ) → Both d x y ↔ Both d y x
both_turned d x y = (λ h. (h.1, h.0), λ h. (h.1, h.0))

abbrev pub Shared : ℕ → ℕ → ℕ → Type 0
Shared g x y = (d : ℤ) → Divides wholes d (pos g) ↔ Both d x y

pub shared_greatest : {g x y : ℕ} → Shared g x y → Greatest wholes (pos x ∷ pos y ∷ []) (pos g)
shared_greatest {g} {x} {y} h = greatest_is wholes_ring (λ d. Iff.trans (h d) (Iff.symm (common_two wholes_ring d (pos x) (pos y))))

pub greatest_shared : {g x y : ℕ} → Greatest wholes (pos x ∷ pos y ∷ []) (pos g) → Shared g x y
greatest_shared {g} {x} {y} h d = Iff.trans (greatest_says wholes_ring h d) (common_two wholes_ring d (pos x) (pos y))

pub shared-turned : {g x y : ℕ} → Shared g x y → Shared g y x
shared-turned {g} {x} {y} h d = Iff.trans (h d) (both_turned d x y)

pub shared_le : {g x y : ℕ} → x ≢ 0 → Shared g x y → g ≤ x
shared_le {g} s h = divides_le ((h (pos g)).0 (divides_self wholes_ring (pos g))).0 (λ e. s (ap nat_abs e))

pub odd_step : {x y r : ℕ} → x % 2 ≡ 1 → x ≤ y → OddPart (y - x) r → (d : ℤ) → Both d x r ↔ Both d x y
odd_step {x} {y} {r} o l k d =
    (λ h. (both_turned d y x).0 (sum.0 (h.0, divides_times (2 ^ k.power) h.1)), λ h. (h.0, odd_rest k.power o (sum.1 (h.1, h.0)).1 h.0))
  where
    sum : Both d x (r * 2 ^ k.power) ↔ Both d y x
    sum = division_common wholes_ring {q = pos 1} (ap pos (omega (arith, k.is))) d

-- a divisor of two doubles is a double, of a common divisor, or odd, and then common itself
shared_double : {g x y : ℕ} → Shared g x y → Shared (g * 2) (x * 2) (y * 2)
shared_double {g} {x} {y} h d =
    (λ k. (divides_trans wholes_ring k (twice_both own.0), divides_trans wholes_ring k (twice_both own.1)), λ k. ⊎_elim (even k) (odd k) (even_or_odd d))
  where
    own : Both (pos g) x y
    own = (h (pos g)).0 (divides_self wholes_ring (pos g))

    even : Both d (x * 2) (y * 2) → Even d → Divides wholes d (pos (g * 2))
    even k e =
        let to = subst (λ (z : ℤ). Both z (x * 2) (y * 2)) (sym e.1) k in
        subst (λ z. Divides wholes z (pos (g * 2))) e.1 (twice_both ((h e.0).1 (half_both to.0, half_both to.1)))

    odd : Both d (x * 2) (y * 2) → Odd d → Divides wholes d (pos (g * 2))
    odd k e =
        let self = divides_self wholes_ring d in
        divides_times 2 ((h d).1 (odd_half e.0 e.1 k.0 self, odd_half e.0 e.1 k.1 self))

shared_same : (k : ℕ) {g x y : ℕ} → Shared g x y → Shared (g * 2 ^ k) (x * 2 ^ k) (y * 2 ^ k)
shared_same zero {g} {x} {y} h = subst (λ X. X) (λ i. Shared (sym (mul-one g) i) (sym (mul-one x) i) (sym (mul-one y) i)) h
shared_same (suc k) {g} {x} {y} h =
    subst (λ X. X) (λ i. Shared (doubled_power k g i) (doubled_power k x i) (doubled_power k y i)) (shared_double (shared_same k h))

pub shared_powers : (i j : ℕ) {g x y : ℕ} → x % 2 ≡ 1 → i ≤ j → Shared g x y → Shared (g * 2 ^ i) (x * 2 ^ i) (y * 2 ^ j)
shared_powers i j {g} {x} {y} o l h = subst (λ (n : ℕ). Shared (g * 2 ^ i) (x * 2 ^ i) n) split (shared_same i more)
  where
    more : Shared g x (y * 2 ^ (j - i))
    more d = Iff.trans (h d) (λ u. (u.0, divides_times (2 ^ (j - i)) u.1), λ u. (u.0, odd_rest (j - i) o u.1 u.0))

    split : y * 2 ^ (j - i) * 2 ^ i ≡ y * 2 ^ j
    split = mul_assoc y (2 ^ (j - i)) (2 ^ i) ∙ ap (λ (n : ℕ). y * n) (sym (pow-add 2 (j - i) i) ∙ ap (λ (n : ℕ). 2 ^ n) (omega arith))

pub with_zero : {x y : ℕ} → y ≡ 0 → Shared x x y
with_zero e d = (λ h. (h, subst (λ (n : ℕ). Divides wholes d (pos n)) (sym e) (divides_none wholes_ring d)), λ h. h.0)

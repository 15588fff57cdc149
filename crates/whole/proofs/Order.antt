-- The order of ℤ where it is not linear: certificates. What is linear is `omega linear`'s (Linear).
--   le_by, lt_by      a ≤ b or a < b, from b − a = s and the sign of s; the solver proves the equation
--   nonneg_plus, nonneg_times, nonneg_square, positive_times       signs of sums, products and squares
--   nonneg_is         a number that is not negative is its absolute value
--   compare           a ≤ b or b < a
--   twice-product : (a b : ℤ) → (pos 2 *ℤ (a *ℤ b)) ≤ℤ (a *ℤ a +ℤ b *ℤ b)
--   twice-product a b = le_by (nonneg_square (a -ℤ b)) (atomsℤ (a ∷ b ∷ []) (λ ρ e. simp (e 0, e 1, readℤ, read_pos ρ) (ringℤ ρ _ _ tt)))
use mathlib.Core.Path.{◌≡◌, refl}
use mathlib.Core.Logic.{◌⊎◌, inl, inr}
use Prim.Native.Nat.{zero, suc, ◌+◌, ◌≤◌}
use native.Mathlib.Decide.{dec_le}
use lib.IntN.{ℤ, pos, negsuc, nat_abs, ◌+ℤ◌, ◌-ℤ◌, ◌*ℤ◌}
use lib.Signed.{◌≤ℤ◌, ◌<ℤ◌}
use Rattle.whole.proofs.Linear.{linear, up, dn, plus_parts, minus_parts}

pub le_by : {a b s : ℤ} → pos 0 ≤ℤ s → b -ℤ a ≡ s → a ≤ℤ b
le_by {a} {b} h e = omega (linear, minus_parts b a)

pub lt_by : {a b s : ℤ} → pos 0 <ℤ s → b -ℤ a ≡ s → a <ℤ b
lt_by {a} {b} h e = omega (linear, minus_parts b a)

pub nonneg_plus : {s t : ℤ} → pos 0 ≤ℤ s → pos 0 ≤ℤ t → pos 0 ≤ℤ (s +ℤ t)
nonneg_plus {s} {t} h k = omega (linear, plus_parts s t)

pub nonneg_times : {s t : ℤ} → pos 0 ≤ℤ s → pos 0 ≤ℤ t → pos 0 ≤ℤ (s *ℤ t)
nonneg_times {s = pos m} {t = pos n} h k = omega linear
nonneg_times {s = pos m} {t = negsuc n} h k = absurd k.le
nonneg_times {s = negsuc m} h k = absurd h.le

pub positive_times : {s t : ℤ} → pos 0 <ℤ s → pos 0 <ℤ t → pos 0 <ℤ (s *ℤ t)
positive_times {s = pos (suc m)} {t = pos (suc n)} h k = omega linear
positive_times {s = pos zero} h k = absurd h.lt
positive_times {s = pos (suc m)} {t = pos zero} h k = absurd k.lt
positive_times {s = pos (suc m)} {t = negsuc n} h k = absurd k.lt
positive_times {s = negsuc m} h k = absurd h.lt

pub nonneg_square : (z : ℤ) → pos 0 ≤ℤ (z *ℤ z)
nonneg_square (pos n) = omega linear
nonneg_square (negsuc n) = omega linear

pub nonneg_is : {z : ℤ} → pos 0 ≤ℤ z → z ≡ pos (nat_abs z)
nonneg_is {z = pos n} h = refl
nonneg_is {z = negsuc n} h = absurd h.le

pub compare : (a b : ℤ) → (a ≤ℤ b) ⊎ (b <ℤ a)
compare a b = by (dec_le (up a + dn b) (up b + dn a))
  where
    by : Dec (up a + dn b ≤ up b + dn a) → (a ≤ℤ b) ⊎ (b <ℤ a)
    by (yes h) = inl (omega linear)
    by (no h) = inr (omega linear)

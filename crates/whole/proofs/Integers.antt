-- ℤ of `lib.IntN`: the ring laws that the library leaves out, absolute values, and no zero divisors.
--   *ℤ-plus, *ℤ-assoc, *ℤ-1      products distribute over sums, are associative, and 1 is neutral
--   abs_negative, abs_times      nat_abs of a negative and of a product
--   abs_one                      only 1 and −1 have absolute value 1
--   abs_zero, *ℤ-domain          only 0 has absolute value 0; a product is 0 only where a factor is
-- Everything else of ℤ as a ring is the solver's: see Wholes.
use Rattle.std.proofs.lemmas.Int.{unsigned_abs-mul}
use mathlib.Core.Path.{◌≡◌, refl, sym, ap, ap₂, ◌∙◌}
use mathlib.Core.Logic.{◌⊎◌, inl, inr, ⊎_map}
use Prim.Native.Nat.{ℕ, zero, suc, ◌*◌}
use native.Mathlib.Omega.{arith}
use lib.IntN.{ℤ, pos, negsuc, neg_ℤ, suc_ℤ, pred_ℤ, nat_abs, one, ◌+ℤ◌, ◌-ℤ◌, ◌*ℤ◌, +ℤ_idl, +ℤ_assoc, +ℤ_comm, suc_ℤ-+ℤ, pred_ℤ-+ℤ, suc_ℤ-*ℤ, pred_ℤ-*ℤ, zero-*ℤ, *ℤ-one, *ℤ_comm, neg_ℤ-neg_ℤ}

-- what holds of 0, and with each number of the next one and of the one before, holds of every number
module _ (P : ℤ → Type 0) (none : P (pos 0)) (up : (m : ℤ) → P m → P (suc_ℤ m)) (down : (m : ℤ) → P m → P (pred_ℤ m)) where
  by_steps : (m : ℤ) → P m
  by_steps (pos zero) = none
  by_steps (pos (suc n)) = up (pos n) (by_steps (pos n))
  by_steps (negsuc zero) = down (pos zero) none
  by_steps (negsuc (suc n)) = down (negsuc n) (by_steps (negsuc n))

+ℤ-right_comm : (a b c : ℤ) → a +ℤ b +ℤ c ≡ a +ℤ c +ℤ b
+ℤ-right_comm a b c = +ℤ_assoc a b c ∙ ap (λ x. a +ℤ x) (+ℤ_comm b c) ∙ sym (+ℤ_assoc a c b)

plus-*ℤ : (a b c : ℤ) → (a +ℤ b) *ℤ c ≡ a *ℤ c +ℤ b *ℤ c
plus-*ℤ a b c =
    by_steps (λ m. (m +ℤ b) *ℤ c ≡ m *ℤ c +ℤ b *ℤ c)
    (ap (λ x. x *ℤ c) (+ℤ_idl b) ∙ sym (+ℤ_idl (b *ℤ c)) ∙ ap (λ x. x +ℤ b *ℤ c) (sym (zero-*ℤ c)))
    (λ m e. ap (λ x. x *ℤ c) (suc_ℤ-+ℤ m b) ∙ suc_ℤ-*ℤ (m +ℤ b) c ∙ ap (λ x. x +ℤ c) e ∙ +ℤ-right_comm (m *ℤ c) (b *ℤ c) c ∙ ap (λ x. x +ℤ b *ℤ c) (sym (suc_ℤ-*ℤ m c)))
    (λ m e. ap (λ x. x *ℤ c) (pred_ℤ-+ℤ m b) ∙ pred_ℤ-*ℤ (m +ℤ b) c ∙ ap (λ x. x -ℤ c) e ∙ +ℤ-right_comm (m *ℤ c) (b *ℤ c) (neg_ℤ c) ∙ ap (λ x. x +ℤ b *ℤ c) (sym (pred_ℤ-*ℤ m c)))
    a

pub *ℤ-plus : (a b c : ℤ) → a *ℤ (b +ℤ c) ≡ a *ℤ b +ℤ a *ℤ c
*ℤ-plus a b c = *ℤ_comm a (b +ℤ c) ∙ plus-*ℤ b c a ∙ ap₂ ◌+ℤ◌ (*ℤ_comm b a) (*ℤ_comm c a)

negative-*ℤ : (a b : ℤ) → neg_ℤ a *ℤ b ≡ neg_ℤ (a *ℤ b)
negative-*ℤ (pos zero) b = zero-*ℤ b ∙ ap neg_ℤ (sym (zero-*ℤ b))
negative-*ℤ (pos (suc n)) (pos b) = refl
negative-*ℤ (pos (suc n)) (negsuc b) = sym (neg_ℤ-neg_ℤ (pos (suc n * suc b)))
negative-*ℤ (negsuc n) (pos b) = sym (neg_ℤ-neg_ℤ (pos (suc n * b)))
negative-*ℤ (negsuc n) (negsuc b) = refl

pub *ℤ-assoc : (a b c : ℤ) → a *ℤ b *ℤ c ≡ a *ℤ (b *ℤ c)
*ℤ-assoc a b c =
    by_steps (λ m. m *ℤ b *ℤ c ≡ m *ℤ (b *ℤ c))
    (ap (λ x. x *ℤ c) (zero-*ℤ b) ∙ zero-*ℤ c ∙ sym (zero-*ℤ (b *ℤ c)))
    (λ m e. ap (λ x. x *ℤ c) (suc_ℤ-*ℤ m b) ∙ plus-*ℤ (m *ℤ b) b c ∙ ap (λ x. x +ℤ b *ℤ c) e ∙ sym (suc_ℤ-*ℤ m (b *ℤ c)))
    (λ m e. ap (λ x. x *ℤ c) (pred_ℤ-*ℤ m b) ∙ plus-*ℤ (m *ℤ b) (neg_ℤ b) c ∙ ap₂ ◌+ℤ◌ e (negative-*ℤ b c) ∙ sym (pred_ℤ-*ℤ m (b *ℤ c)))
    a

pub *ℤ-1 : (a : ℤ) → a *ℤ pos 1 ≡ a
unfolding one
*ℤ-1 a = *ℤ-one a

-- ---- absolute values
pub abs_negative : (a : ℤ) → nat_abs (neg_ℤ a) ≡ nat_abs a
abs_negative (pos zero) = refl
abs_negative (pos (suc n)) = refl
abs_negative (negsuc n) = refl

pub abs_times : (a b : ℤ) → nat_abs (a *ℤ b) ≡ nat_abs a * nat_abs b
abs_times = unsigned_abs-mul

pub abs_zero : (a : ℤ) → nat_abs a ≡ 0 → a ≡ pos 0
abs_zero (pos n) e = ap pos e
abs_zero (negsuc n) e = absurd (omega arith)

pub abs_one : (a : ℤ) → nat_abs a ≡ 1 → (a ≡ pos 1) ⊎ (a ≡ negsuc 0)
abs_one (pos n) e = inl (ap pos e)
abs_one (negsuc n) e = inr (ap negsuc (omega arith))

ℕ-domain : (m n : ℕ) → m * n ≡ 0 → (m ≡ 0) ⊎ (n ≡ 0)
ℕ-domain zero n e = inl refl
ℕ-domain (suc m) zero e = inr refl
ℕ-domain (suc m) (suc n) e = absurd (omega arith)

pub *ℤ-domain : (a b : ℤ) → a *ℤ b ≡ pos 0 → (a ≡ pos 0) ⊎ (b ≡ pos 0)
*ℤ-domain a b e = ⊎_map (abs_zero a) (abs_zero b) (ℕ-domain (nat_abs a) (nat_abs b) (sym (abs_times a b) ∙ ap nat_abs e))

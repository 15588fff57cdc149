-- Signs of ℤ, said by products of two numbers, so that no proof splits by the sign of one.
--   times-negative, negative-square       a product with a negative, and the square of one
--   negated_positive                      what is not positive, and not 0, has a positive negative
--   mixed_times                           a product of a positive number and a negative one
--   positive_cancel                       a factor that is not negative is taken off a positive product
--   Like, Unlike                          two numbers have the same sign; opposite signs; so neither is 0
--   like_flip, unlike_flip, like_like, unlike_unlike, like_unlike      what follows of a and c, from a and b, and b and c
--   carried                               two numbers with opposite signs give their signs to two others
--   unlike_some                           where signs are opposite no number is 0
use mathlib.Core.Path.{◌≡◌, refl, ap, subst}
use mathlib.Core.List.{[], ◌∷◌}
use mathlib.Core.Logic.{◌≢◌, ◌⊎◌, inl, inr}
use Prim.Native.Nat.{zero, suc}
use lib.IntN.{ℤ, pos, negsuc, neg_ℤ, ◌*ℤ◌, *ℤ_comm, *ℤ-zero}
use lib.Signed.{◌≤ℤ◌, ◌<ℤ◌}
use Rattle.whole.proofs.Wholes.{atomsℤ, readℤ, ringℤ}
use Rattle.whole.proofs.Linear.{linear, negative_parts}
use Rattle.whole.proofs.Order.{nonneg_times, nonneg_square, positive_times, compare}

pub negated_positive : (x : ℤ) → x ≤ℤ pos 0 → x ≢ pos 0 → pos 0 <ℤ neg_ℤ x
negated_positive (pos zero) h n = absurd (n refl)
negated_positive (pos (suc m)) h n = omega linear
negated_positive (negsuc m) h n = omega linear

pub times-negative : (k z : ℤ) → k *ℤ neg_ℤ z ≡ neg_ℤ (k *ℤ z)
times-negative k z = atomsℤ (k ∷ z ∷ []) (λ ρ e. simp (e 0, e 1, readℤ) (ringℤ ρ _ _ tt))

pub negative-square : (x : ℤ) → neg_ℤ x *ℤ neg_ℤ x ≡ x *ℤ x
negative-square x = atomsℤ (x ∷ []) (λ ρ e. simp (e 0, readℤ) (ringℤ ρ _ _ tt))

pub positive_cancel : {k z : ℤ} → pos 0 ≤ℤ k → pos 0 <ℤ (k *ℤ z) → pos 0 <ℤ z
positive_cancel {k} {z} h p = by (compare z (pos 0))
  where
    by : (z ≤ℤ pos 0) ⊎ (pos 0 <ℤ z) → pos 0 <ℤ z
    by (inl l) =
        let n : pos 0 ≤ℤ (k *ℤ neg_ℤ z) = nonneg_times h (omega (linear, negative_parts z)) in
        absurd (omega (linear, times-negative k z, negative_parts (k *ℤ z)))
    by (inr l) = l

negative_cancel : {k z : ℤ} → pos 0 ≤ℤ k → (k *ℤ z) <ℤ pos 0 → z <ℤ pos 0
negative_cancel {k} {z} h p =
    let n : pos 0 <ℤ neg_ℤ z = positive_cancel h (omega (linear, times-negative k z, negative_parts (k *ℤ z))) in omega (linear, negative_parts z)

abbrev pub Like : ℤ → ℤ → Type 0
Like a b = pos 0 <ℤ (a *ℤ b)

abbrev pub Unlike : ℤ → ℤ → Type 0
Unlike a b = (a *ℤ b) <ℤ pos 0

pub like_flip : (a b : ℤ) → Like a b → Like b a
like_flip a b = subst (λ z. pos 0 <ℤ z) (*ℤ_comm a b)

pub unlike_flip : (a b : ℤ) → Unlike a b → Unlike b a
unlike_flip a b = subst (λ z. z <ℤ pos 0) (*ℤ_comm a b)

through : (a b c : ℤ) → b *ℤ b *ℤ (a *ℤ c) ≡ a *ℤ b *ℤ (b *ℤ c)
through a b c = atomsℤ (a ∷ b ∷ c ∷ []) (λ ρ e. simp (e 0, e 1, e 2, readℤ) (ringℤ ρ _ _ tt))

below-zero : (z : ℤ) → z <ℤ pos 0 → pos 0 <ℤ neg_ℤ z
below-zero z h = omega (linear, negative_parts z)

pub mixed_times : {x y : ℤ} → pos 0 <ℤ x → y <ℤ pos 0 → (x *ℤ y) <ℤ pos 0
mixed_times {x} {y} h k =
    let n : pos 0 <ℤ (x *ℤ neg_ℤ y) = positive_times h (below-zero y k) in omega (linear, times-negative x y, negative_parts (x *ℤ y))

negative-times : {x y : ℤ} → x <ℤ pos 0 → y <ℤ pos 0 → pos 0 <ℤ (x *ℤ y)
negative-times {x} {y} h k =
    let n : (neg_ℤ y *ℤ x) <ℤ pos 0 = mixed_times (below-zero y k) h in
    omega (linear, times-negative x y, *ℤ_comm x (neg_ℤ y), negative_parts (x *ℤ y))

pub like_like : (a b c : ℤ) → Like a b → Like b c → Like a c
like_like a b c h k = positive_cancel (nonneg_square b) (rw (through a b c) (positive_times h k))

pub unlike_unlike : (a b c : ℤ) → Unlike a b → Unlike b c → Like a c
unlike_unlike a b c h k = positive_cancel (nonneg_square b) (rw (through a b c) (negative-times h k))

pub like_unlike : (a b c : ℤ) → Like a b → Unlike b c → Unlike a c
like_unlike a b c h k = negative_cancel (nonneg_square b) (rw (through a b c) (mixed_times h k))

-- u has the sign of p, and v that of q
pub carried : (p q u v : ℤ) → Like p u → Like q v → Unlike p q → Unlike u v
carried p q u v h k l = like_unlike u p v (like_flip p u h) (unlike_flip v p (like_unlike v q p (like_flip q v k) (unlike_flip p q l)))

pub unlike_some : (a b : ℤ) → Unlike a b → b ≢ pos 0
unlike_some a b h z = omega (linear, ap (λ y. a *ℤ y) z, *ℤ-zero a)

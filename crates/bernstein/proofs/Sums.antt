-- Sums, and sums with binomial coefficients.
--   total-plus, total-times     a sum is linear
--   binomial_sum-first     with no term but the first
--   pascal                by Pascal's rule the next sum of f is that of f, and that of f without its first number
--   binomial_sum-next      so it is the sum of the numbers of f, each with the one above it added
use mathlib.Core.Path.{◌≡◌, refl, sym, ap, ◌∙◌, fun_ext}
use mathlib.Core.List.{[], ◌∷◌}
use Prim.Native.Nat.{ℕ, zero, suc}
use native.Mathlib.Omega.{arith}
use lib.IntN.{ℤ, pos, ◌+ℤ◌, ◌*ℤ◌, +ℤ_idr, zero-*ℤ}
use Rattle.whole.specs.Coefficients.{Coefficients}
use Rattle.whole.specs.Number.{wholes}
use Rattle.whole.proofs.Integers.{*ℤ-plus}
use Rattle.whole.proofs.Wholes.{wholes_ring, atomsℤ, readℤ, ringℤ}
use Rattle.whole.proofs.Ring.{Ring, plus_times}
use Rattle.whole.proofs.Solver.{atoms, read, ring}
use Rattle.poly.proofs.Series.{Series, tail}
use Rattle.bernstein.specs.Binomials.{choose, total, binomial_sum}
use Rattle.bernstein.proofs.Binomials.{choose_above}

-- ---- sums
module _ {A : Type 0} {C : Coefficients A} (R : Ring C) where
  open C use {plus as ◌⊕◌, times as ◌⊗◌}

  infixl 60 ◌⊕◌
  infixl 70 ◌⊗◌
  total_last : (k : ℕ) (f : Series A) → total C (suc k) f ≡ total C k f ⊕ f (suc k)
  unfolding total
  total_last zero f = refl
  total_last (suc k) f = ap (λ x. f zero ⊕ x) (total_last k (tail f)) ∙ sym (R.plus_assoc _ _ _)

  exchanged : (a b x y : A) → (a ⊕ b) ⊕ (x ⊕ y) ≡ (a ⊕ x) ⊕ (b ⊕ y)
  exchanged a b x y = atoms R (a ∷ b ∷ x ∷ y ∷ []) (λ ρ e. simp (e 0, e 1, e 2, e 3, read) (ring R ρ _ _ tt))

  pub total-plus : (k : ℕ) (f g : Series A) → total C k (λ j. f j ⊕ g j) ≡ total C k f ⊕ total C k g
  unfolding total
  total-plus zero f g = refl
  total-plus (suc k) f g = ap (λ x. (f zero ⊕ g zero) ⊕ x) (total-plus k (tail f) (tail g)) ∙ exchanged _ _ _ _

  pub total-times : (k : ℕ) (c : A) (f : Series A) → total C k (λ j. c ⊗ f j) ≡ c ⊗ total C k f
  unfolding total
  total-times zero c f = refl
  total-times (suc k) c f = ap (λ x. c ⊗ f zero ⊕ x) (total-times k c (tail f)) ∙ sym (R.times_plus _ _ _)

-- ---- with binomial coefficients
one-times : (a : ℤ) → pos 1 *ℤ a ≡ a
one-times a = wholes_ring.times_comm (pos 1) a ∙ wholes_ring.times_one a

pub binomial_sum-first : (f : Series ℤ) → binomial_sum f zero ≡ f zero
unfolding total choose
binomial_sum-first f = one-times (f zero)

front : (x y z : ℤ) → x +ℤ (y +ℤ z) ≡ (x +ℤ z) +ℤ y
front x y z = atomsℤ (x ∷ y ∷ z ∷ []) (λ ρ e. simp (e 0, e 1, e 2, readℤ) (ringℤ ρ _ _ tt))

pub pascal : (k : ℕ) (f : Series ℤ) → binomial_sum f (suc k) ≡ binomial_sum f k +ℤ binomial_sum (tail f) k
unfolding total choose
pascal k f =
    ap (λ x. pos 1 *ℤ f zero +ℤ x)
    (ap (total wholes k) (fun_ext (λ j. plus_times wholes_ring (pos (choose k j)) (pos (choose k (suc j))) (f (suc j))))
    ∙ total-plus wholes_ring k (λ j. pos (choose k j) *ℤ f (suc j)) (λ j. pos (choose k (suc j)) *ℤ f (suc j)))
    ∙ front (pos 1 *ℤ f zero) (binomial_sum (tail f) k) (total wholes k (λ j. pos (choose k (suc j)) *ℤ f (suc j)))
    ∙ ap (λ x. x +ℤ binomial_sum (tail f) k) (total_last wholes_ring k (λ j. pos (choose k j) *ℤ f j) ∙ ap (λ x. binomial_sum f k +ℤ x) none ∙ +ℤ_idr (binomial_sum f k))
  where
    none : pos (choose k (suc k)) *ℤ f (suc k) ≡ pos 0
    none = ap (λ c. pos c *ℤ f (suc k)) (choose_above k (suc k) (omega arith)) ∙ zero-*ℤ (f (suc k))

pub binomial_sum-next : (f g : Series ℤ) → ((j : ℕ) → g j ≡ f j +ℤ f (suc j)) → (k : ℕ) → binomial_sum f (suc k) ≡ binomial_sum g k
binomial_sum-next f g e k =
    pascal k f
    ∙ sym (total-plus wholes_ring k (λ j. pos (choose k j) *ℤ f j) (λ j. pos (choose k j) *ℤ f (suc j)))
    ∙ ap (total wholes k) (fun_ext (λ j. sym (ap (λ x. pos (choose k j) *ℤ x) (e j) ∙ *ℤ-plus (pos (choose k j)) (f j) (f (suc j)))))

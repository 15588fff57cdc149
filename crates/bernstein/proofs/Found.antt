-- Every polynomial of degree m is a sum of tᵏ (1 − t)ᵐ⁻ᵏ, with coefficients of its own ring.
--   blended-found      x₀ .. xₘ with f = x₀ (1 − t)ᵐ + x₁ t (1 − t)ᵐ⁻¹ + .. + xₘ tᵐ
use mathlib.Core.Path.{◌≡◌, refl, sym, ap, ap₂, ◌∙◌, fun_ext}
use mathlib.Core.List.{List, [], ◌∷◌}
use Prim.Native.Nat.{ℕ, zero, suc}
use native.Mathlib.Omega.{arith}
use Rattle.whole.specs.Coefficients.{Coefficients, at}
use Rattle.whole.proofs.Ring.{Ring}
use Rattle.whole.proofs.Solver.{atoms, read, ring}
use Rattle.poly.specs.Terms.{Above}
use Rattle.poly.proofs.Series.{Series, conv, series, constant}
use Rattle.poly.proofs.Forms.{power}
use Rattle.poly.proofs.Top.{conv_above}
use Rattle.bernstein.proofs.Polynomials.{1−t, t-first, t_later, power-first, through-t, blended}

module _ {A : Type 0} {C : Coefficients A} (R : Ring C) where
  open C use {none as 𝟎, plus as ◌⊕◌, times as ◌⊗◌}

  infixl 60 ◌⊕◌
  infixl 70 ◌⊗◌
  pub record Found (m : ℕ) (f : Series A) : Type 0 where
    pub sum : List A
    pub above : Above C (at C sum) m
    pub is : f ≡ blended R m (at C sum)

  -- f₀ (1 − t)ᵐ⁺¹, of which nothing stands above m + 1
  start : ℕ → A → Series A
  start m a = conv C (power (series C) (1−t R) m) (constant C a)

  one_above : Above C (1−t R) 1
  one_above zero l = absurd (omega arith)
  one_above (suc zero) l = absurd (omega arith)
  one_above (suc (suc k)) l = refl

  power_above : (m : ℕ) → Above C (power (series C) (1−t R) m) (suc m)
  power_above zero k l = one_above k l
  power_above (suc m) k l = conv_above R 1 (suc m) (1−t R) (power (series C) (1−t R) m) one_above (power_above m) k (omega arith)

  constant_above : (a : A) → Above C (constant C a) 0
  constant_above a zero l = absurd (omega arith)
  constant_above a (suc k) l = refl

  start_above : (m : ℕ) (a : A) → Above C (start m a) (suc m)
  unfolding start
  start_above m a k l = conv_above R (suc m) 0 (power (series C) (1−t R) m) (constant C a) (power_above m) (constant_above a) k (omega arith)

  left_over : (x p : A) → p ⊕ (x ⊕ R.negative p) ≡ x
  left_over x p = atoms R (x ∷ p ∷ []) (λ ρ e. simp (e 0, e 1, read) (ring R ρ _ _ tt))

  module _ (m : ℕ) (f : Series A) where
    -- what t is taken out of
    rest : Series A
    rest k = f (suc k) ⊕ R.negative (start m (f zero) (suc k))

    rest_above : Above C f (suc m) → Above C rest m
    unfolding rest
    rest_above u k l = ap₂ (λ x y. x ⊕ R.negative y) (u (suc k) (omega arith)) (start_above m (f zero) (suc k) (omega arith)) ∙ R.plus_negative 𝟎

    joined : (X : List A) → rest ≡ blended R m (at C X) → (k : ℕ) → f k ≡ blended R (suc m) (at C (f zero ∷ X)) k
    unfolding rest start conv
    joined X e zero = sym (ap₂ ◌⊕◌ (ap (λ p. p ⊗ f zero) (power-first R m) ∙ R.times_comm _ _ ∙ R.times_one _) (t-first R (blended R m (at C X))) ∙ R.plus_none _)
    joined X e (suc k) = sym (ap (λ y. start m (f zero) (suc k) ⊕ y) (t_later R (blended R m (at C X)) k ∙ ap (λ g. g k) (sym e)) ∙ left_over (f (suc k)) (start m (f zero) (suc k)))

  pub blended-found : (m : ℕ) (f : Series A) → Above C f m → Found m f
  blended-found zero f u = record { sum = f zero ∷ []; above = constant_above (f zero); is = sym (through-t R zero f u) }
  blended-found (suc m) f u =
      let found = blended-found m (rest m f) (rest_above m f u) in
      record { sum = f zero ∷ found.sum; above = longer found.sum found.above; is = fun_ext (joined m f found.sum found.is) }
    where
      longer : (X : List A) → Above C (at C X) m → Above C (at C (f zero ∷ X)) (suc m)
      longer X u zero l = absurd (omega arith)
      longer X u (suc k) l = u k (omega arith)

-- Bernstein coefficients and polynomials: series of series, whose coefficients are constants.
--   t, 1−t                      these polynomials
--   constants f                 each of a series as a constant polynomial
--   through x m f               f₀ + f₁ x + .. + fₘ xᵐ: the polynomial f with x in the place of t
--   through-plus, through-times, through-product      it keeps sums, multiples and products
--   through-t                   with t it is f
--   t-first, t_later            a product with t is moved up by one power
--   power-first                 (1 − t)ⁿ⁺¹ begins with 1
--   blended m X                 X₀ (1 − t)ᵐ + X₁ t (1 − t)ᵐ⁻¹ + .. + Xₘ tᵐ
--   blended-times, blended-product      a multiple of such a sum, and the product of two
--   blended-lowered             where X₀ is 0 it is t times the sum of X₁ .. Xₘ
--   blended_agree, blended_once the sum is decided by X₀ .. Xₘ, and decides them
--   in_powers-sum                f₀ .. fₘ are the Bernstein coefficients: the polynomial is Σ C(m, k) tᵏ (1 − t)ᵐ⁻ᵏ fₖ
--   in_powers-turned             with 1 − t in the place of t they are fₘ .. f₀
use mathlib.Core.Path.{◌≡◌, refl, sym, ap, ap₂, ◌∙◌, fun_ext}
use mathlib.Core.List.{[], ◌∷◌}
use Prim.Native.Nat.{ℕ, zero, suc, ◌+◌, ◌-◌, ◌≤◌}
use native.Mathlib.Omega.{arith}
use lib.IntN.{pos, negsuc}
use Rattle.whole.specs.Coefficients.{Coefficients, at}
use Rattle.whole.proofs.Ring.{Ring, none-plus, none-times, times_none, plus_cancel}
use Rattle.poly.specs.Terms.{Above}
use Rattle.poly.proofs.Series.{Series, tail, conv, series, constant, series_ring, conv-constant, constant-none, constant-plus, constant-times}
use Rattle.poly.proofs.Forms.{power, form, form_agree, form-plus, form-times, form-product}
use Rattle.bernstein.proofs.Blends.{blend, blends, blends_flip, steps}
use Rattle.bernstein.proofs.InPowers.{weighted, in_powers, in_powers-above, de_casteljau, bernstein-sum}

module _ {A : Type 0} {C : Coefficients A} (R : Ring C) where
  open series C use {none as 𝟎, plus as ◌⊕◌, times as ◌⊗◌}

  infixl 60 ◌⊕◌
  infixl 70 ◌⊗◌
  abbrev S : Ring (series C)
  S = series_ring R

  abbrev unit : Series A
  unit = S.number (pos 1)

  abbrev pub t : Series A
  t = at C (C.none ∷ R.number (pos 1) ∷ [])

  abbrev pub 1−t : Series A
  1−t = at C (R.number (pos 1) ∷ R.number (negsuc 0) ∷ [])

  -- ---- constants
  abbrev pub constants : Series A → Series (Series A)
  constants f k = constant C (f k)

  constants-blend : (a b : A) (f : Series A) (i : ℕ) → constants (blend C a b f) i ≡ blend (series C) (constant C a) (constant C b) (constants f) i
  constants-blend a b f i =
      fun_ext (constant-plus R (C.times a (f i)) (C.times b (f (suc i))) _ refl)
      ∙ ap₂ ◌⊕◌ (fun_ext (constant-times R a (f i) _ refl)) (fun_ext (constant-times R b (f (suc i)) _ refl))

  constants-blends : (a b : A) (n : ℕ) (f : Series A) → constants (blends C a b n f) ≡ blends (series C) (constant C a) (constant C b) n (constants f)
  constants-blends a b zero f = refl
  constants-blends a b (suc n) f = constants-blends a b n (blend C a b f) ∙ ap (blends (series C) (constant C a) (constant C b) n) (fun_ext (constants-blend a b f))

  constants-weighted : (m : ℕ) (f : Series A) → constants (weighted R m f) ≡ weighted S m (constants f)
  constants-weighted m f = fun_ext (λ k. fun_ext (constant-times R (R.number (pos _)) (f k) _ refl))

  constants-in_powers : (m : ℕ) (f : Series A) → constants (in_powers R m f) ≡ in_powers S m (constants f)
  constants-in_powers m f =
      constants-weighted m (λ k. steps R k f zero) ∙ ap (weighted S m) (fun_ext (λ k. ap (λ g. g zero) (constants-blends _ _ k f)))

  constants-conv : (f g : Series A) (k : ℕ) → constants (conv C f g) k ≡ conv (series C) (constants f) (constants g) k
  unfolding conv
  constants-conv f g zero = fun_ext (constant-times R (f zero) (g zero) _ refl)
  constants-conv f g (suc k) =
      fun_ext (constant-plus R (C.times (f zero) (g (suc k))) (conv C (tail f) g k) _ refl)
      ∙ ap₂ ◌⊕◌ (fun_ext (constant-times R (f zero) (g (suc k)) _ refl)) (constants-conv (tail f) g k)

  constants_above : (f : Series A) (m : ℕ) → Above C f m → Above (series C) (constants f) m
  constants_above f m u k l = ap (constant C) (u k l) ∙ fun_ext (constant-none R C.none refl)

  -- ---- another polynomial in the place of t
  abbrev pub through : Series A → ℕ → Series A → Series A
  through x m f = form (series C) unit x m (constants f)

  pub through-plus : (x : Series A) (m : ℕ) (f g : Series A) → through x m (λ k. C.plus (f k) (g k)) ≡ through x m f ⊕ through x m g
  through-plus x m f g =
      ap (form (series C) unit x m) (fun_ext (λ k. fun_ext (constant-plus R (f k) (g k) _ refl))) ∙ form-plus S unit x m (constants f) (constants g)

  pub through-times : (x : Series A) (m : ℕ) (c : A) (f : Series A) → through x m (λ k. C.times c (f k)) ≡ constant C c ⊗ through x m f
  through-times x m c f =
      ap (form (series C) unit x m) (fun_ext (λ k. fun_ext (constant-times R c (f k) _ refl))) ∙ form-times S unit x m (constant C c) (constants f)

  pub through-product : (x : Series A) (m n : ℕ) (f g : Series A) → Above C f m → Above C g n → through x (m + n) (conv C f g) ≡ through x m f ⊗ through x n g
  through-product x m n f g u w =
      ap (form (series C) unit x (m + n)) (fun_ext (constants-conv f g)) ∙ form-product S unit x m n (constants f) (constants g) (constants_above f m u) (constants_above g n w)

  power-unit : (n : ℕ) → power (series C) unit n ≡ unit
  power-unit zero = refl
  power-unit (suc n) = ap (λ p. unit ⊗ p) (power-unit n) ∙ S.times_one unit

  -- a product with t is moved up by one power
  pub t-first : (f : Series A) → conv C t f zero ≡ C.none
  unfolding conv
  t-first f = none-times R (f zero)

  pub t_later : (f : Series A) (k : ℕ) → conv C t f (suc k) ≡ f k
  unfolding conv
  t_later f k = ap₂ C.plus (none-times R _) (conv-constant R _ f k ∙ R.times_comm _ _ ∙ R.times_one _) ∙ none-plus R _

  pub through-t : (m : ℕ) (f : Series A) → Above C f m → through t m f ≡ f
  unfolding conv
  through-t zero f u = fun_ext at_zero
    where
      at_zero : (k : ℕ) → constant C (f zero) k ≡ f k
      at_zero zero = refl
      at_zero (suc k) = sym (u (suc k) (omega arith))
  through-t (suc m) f u = ap₂ (λ p q. p ⊗ constant C (f zero) ⊕ t ⊗ q) (power-unit m) (through-t m (tail f) (λ k l. u (suc k) (omega arith))) ∙ fun_ext at-power
    where
      at-power : (k : ℕ) → C.plus (conv C unit (constant C (f zero)) k) (conv C t (tail f) k) ≡ f k
      at-power zero = ap₂ C.plus (R.times_comm _ _ ∙ R.times_one (f zero)) (t-first (tail f)) ∙ R.plus_none _
      at-power (suc k) = ap₂ C.plus (conv-constant R _ (constant C (f zero)) (suc k) ∙ times_none R _) (t_later (tail f) k) ∙ none-plus R _

  -- ---- sums of tᵏ (1 − t)ᵐ⁻ᵏ
  abbrev pub blended : ℕ → Series A → Series A
  blended m X = form (series C) 1−t t m (constants X)

  pub blended_agree : (m : ℕ) (X Y : Series A) → ((k : ℕ) → k ≤ m → X k ≡ Y k) → blended m X ≡ blended m Y
  blended_agree m X Y e = form_agree (series C) 1−t t m (constants X) (constants Y) (λ k l. ap (constant C) (e k l))

  pub blended-times : (m : ℕ) (c : A) (X : Series A) → blended m (λ k. C.times c (X k)) ≡ constant C c ⊗ blended m X
  blended-times m c X =
      ap (form (series C) 1−t t m) (fun_ext (λ k. fun_ext (constant-times R c (X k) _ refl))) ∙ form-times S 1−t t m (constant C c) (constants X)

  pub blended-product : (m n : ℕ) (X Y : Series A) → Above C X m → Above C Y n → blended (m + n) (conv C X Y) ≡ blended m X ⊗ blended n Y
  blended-product m n X Y u w =
      ap (form (series C) 1−t t (m + n)) (fun_ext (constants-conv X Y)) ∙ form-product S 1−t t m n (constants X) (constants Y) (constants_above X m u) (constants_above Y n w)

  pub power-first : (n : ℕ) → power (series C) 1−t n zero ≡ R.number (pos 1)
  unfolding conv
  power-first zero = refl
  power-first (suc n) = ap (λ x. C.times (R.number (pos 1)) x) (power-first n) ∙ R.times_one _

  blended-first : (n : ℕ) (X : Series A) → blended (suc n) X zero ≡ X zero
  unfolding conv
  blended-first n X =
      ap₂ C.plus (ap (λ p. C.times p (X zero)) (power-first n) ∙ R.times_comm _ _ ∙ R.times_one _) (t-first (blended n (tail X))) ∙ R.plus_none _

  pub blended-lowered : (n : ℕ) (X : Series A) → X zero ≡ C.none → blended (suc n) X ≡ t ⊗ blended n (tail X)
  blended-lowered n X e =
      ap (λ p. p ⊕ t ⊗ blended n (tail X)) (ap (λ x. power (series C) 1−t n ⊗ constant C x) e ∙ ap (λ x. power (series C) 1−t n ⊗ x) (fun_ext (constant-none R C.none refl)) ∙ times_none S _)
      ∙ none-plus S _

  blended-start : (n : ℕ) (X Y : Series A) → blended n X ≡ blended n Y → X zero ≡ Y zero
  blended-start zero X Y e = ap (λ p. p zero) e
  blended-start (suc n) X Y e = sym (blended-first n X) ∙ ap (λ p. p zero) e ∙ blended-first n Y

  pub blended_once : (n : ℕ) (X Y : Series A) → blended n X ≡ blended n Y → (k : ℕ) → k ≤ n → X k ≡ Y k
  blended_once n X Y e zero l = blended-start n X Y e
  blended_once zero X Y e (suc k) l = absurd (omega arith)
  blended_once (suc n) X Y e (suc k) l = blended_once n (tail X) (tail Y) (fun_ext rest) k (omega arith)
    where
      moved : t ⊗ blended n (tail X) ≡ t ⊗ blended n (tail Y)
      moved = plus_cancel S (power (series C) 1−t n ⊗ constant C (X zero)) (e ∙ ap (λ x. power (series C) 1−t n ⊗ constant C x ⊕ t ⊗ blended n (tail Y)) (sym (blended-start (suc n) X Y e)))

      rest : (j : ℕ) → blended n (tail X) j ≡ blended n (tail Y) j
      rest j = sym (t_later (blended n (tail X)) j) ∙ ap (λ p. p (suc j)) moved ∙ t_later (blended n (tail Y)) j

  -- ---- (1 − t) + t = 1
  both : 1−t ⊕ t ≡ unit
  both = fun_ext at-power
    where
      at-power : (k : ℕ) → C.plus (1−t k) (t k) ≡ unit k
      at-power zero = R.plus_none _
      at-power (suc zero) = sym (R.number_plus (negsuc 0) (pos 1)) ∙ R.number_none
      at-power (suc (suc k)) = R.plus_none _

  pub in_powers-sum : (m : ℕ) (f : Series A) → in_powers R m f ≡ blended m (weighted R m f)
  in_powers-sum m f =
      sym (through-t m (in_powers R m f) (in_powers-above R m f))
      ∙ ap₂ (λ s g. form (series C) s t m g) (sym both) (constants-in_powers m f)
      ∙ bernstein-sum S 1−t t m (constants f)
      ∙ ap (form (series C) 1−t t m) (sym (constants-weighted m f))

  pub in_powers-turned : (m : ℕ) (f : Series A) → through 1−t m (in_powers R m f) ≡ in_powers R m (λ k. f (m - k))
  in_powers-turned m f =
      ap₂ (λ s g. form (series C) s 1−t m g) (sym (S.plus_comm t 1−t ∙ both)) (constants-in_powers m f)
      ∙ de_casteljau S t 1−t m (constants f)
      ∙ blends_flip S t 1−t m (constants f)
      ∙ sym (de_casteljau S 1−t t m (constants (λ k. f (m - k))))
      ∙ ap₂ (λ s g. form (series C) s t m g) both (sym (constants-in_powers m (λ k. f (m - k))))
      ∙ through-t m _ (in_powers-above R m (λ k. f (m - k)))

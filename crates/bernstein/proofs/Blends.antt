-- Means of neighbours: de Casteljau's step, and the differences, which are such means too. For a series over any ring.
--   blend, blends               a fᵢ + b fᵢ₊₁ for each i; that n times
--   blends_linear               they are linear
--   blends_agree                the first of n blends depends on f₀ .. fₙ alone
--   blends_flip                 and is that of fₙ .. f₀ with b and a
--   step, steps                 with a = −1 and b = 1: the differences (step-difference)
--   steps_once                  the first differences of each order decide the series
--   blends-within               sizes at ℤ
use mathlib.Core.Path.{◌≡◌, refl, sym, ap, ap₂, ◌∙◌, fun_ext}
use mathlib.Core.List.{[], ◌∷◌}
use Prim.Native.Nat.{ℕ, zero, suc, ◌+◌, ◌*◌, ◌-◌, ◌^◌, ◌≤◌}
use native.Mathlib.Nat.{one-mul, mul_assoc, pow-zero, pow-suc, le_refl, mul-le-mul}
use native.Mathlib.Omega.{arith}
use lib.IntN.{ℤ, pos, negsuc, nat_abs, ◌*ℤ◌}
use Rattle.whole.specs.Coefficients.{Coefficients}
use Rattle.whole.specs.Number.{wholes, Within}
use Rattle.whole.proofs.Integers.{abs_times}
use Rattle.whole.proofs.Bound.{abs_plus}
use Rattle.whole.proofs.Ring.{Ring, minus_one}
use Rattle.whole.proofs.Solver.{atoms, read, read_lit, read-lit⁻, ring}
use Rattle.poly.proofs.Series.{Series}

module _ {A : Type 0} (C : Coefficients A) (a b : A) where
  abbrev pub blend : Series A → Series A
  blend f i = C.plus (C.times a (f i)) (C.times b (f (suc i)))

  abbrev pub blends : ℕ → Series A → Series A
  blends zero f = f
  blends (suc n) f = blends n (blend f)

  pub blends_agree : (n : ℕ) (f g : Series A) → ((i : ℕ) → i ≤ n → f i ≡ g i) → blends n f zero ≡ blends n g zero
  blends_agree zero f g e = e zero (omega arith)
  blends_agree (suc n) f g e =
      blends_agree n (blend f) (blend g) (λ i l. ap₂ (λ x y. C.plus (C.times a x) (C.times b y)) (e i (omega arith)) (e (suc i) (omega arith)))

module _ {A : Type 0} {C : Coefficients A} (R : Ring C) where
  open C use {none as 𝟎, plus as ◌⊕◌, times as ◌⊗◌}

  infixl 60 ◌⊕◌
  infixl 70 ◌⊗◌
  -- ---- blends are linear
  exchanged : (a b x y f f' g g' : A) → a ⊗ (x ⊗ f ⊕ y ⊗ g) ⊕ b ⊗ (x ⊗ f' ⊕ y ⊗ g') ≡ x ⊗ (a ⊗ f ⊕ b ⊗ f') ⊕ y ⊗ (a ⊗ g ⊕ b ⊗ g')
  exchanged a b x y f f' g g' =
      atoms R (a ∷ b ∷ x ∷ y ∷ f ∷ f' ∷ g ∷ g' ∷ []) (λ ρ e. simp (e 0, e 1, e 2, e 3, e 4, e 5, e 6, e 7, read) (ring R ρ _ _ tt))

  pub blends_linear : (a b x y : A) (n : ℕ) (f g : Series A) (i : ℕ) → blends C a b n (λ j. x ⊗ f j ⊕ y ⊗ g j) i ≡ x ⊗ blends C a b n f i ⊕ y ⊗ blends C a b n g i
  blends_linear a b x y zero f g i = refl
  blends_linear a b x y (suc n) f g i =
      ap (λ h. blends C a b n h i) (fun_ext (λ j. exchanged a b x y _ _ _ _)) ∙ blends_linear a b x y n (blend C a b f) (blend C a b g) i

  -- ---- seen from the other end
  pub blends_flip : (a b : A) (n : ℕ) (f : Series A) → blends C a b n f zero ≡ blends C b a n (λ i. f (n - i)) zero
  blends_flip a b zero f = refl
  blends_flip a b (suc n) f =
      blends_flip a b n (blend C a b f)
      ∙ blends_agree C b a n (λ i. blend C a b f (n - i)) (blend C b a (λ i. f (suc n - i)))
      (λ i l. R.plus_comm _ _ ∙ ap₂ (λ j k. b ⊗ f j ⊕ a ⊗ f k) (later i l) (same i))
    where
      later : (i : ℕ) → i ≤ n → suc (n - i) ≡ suc n - i
      later i l = omega arith

      same : (i : ℕ) → n - i ≡ suc n - suc i
      same i = omega arith

  -- ---- differences
  abbrev pub step : Series A → Series A
  step = blend C (R.number (negsuc 0)) (R.number (pos 1))

  pub step-difference : (f : Series A) (i : ℕ) → step f i ≡ f (suc i) ⊕ R.negative (f i)
  step-difference f i = ap₂ ◌⊕◌ (minus_one R (f i)) (R.times_comm _ _ ∙ R.times_one (f (suc i))) ∙ R.plus_comm _ _

  abbrev pub steps : ℕ → Series A → Series A
  steps = blends C (R.number (negsuc 0)) (R.number (pos 1))

  onward : (x y : A) → y ≡ (R.number (negsuc 0) ⊗ x ⊕ R.number (pos 1) ⊗ y) ⊕ x
  onward x y = atoms R (x ∷ y ∷ []) (λ ρ e. simp (e 0, e 1, read, read_lit R ρ, read-lit⁻ R ρ) (ring R ρ _ _ tt))

  pub steps_once : (k : ℕ) (f g : Series A) → ((j : ℕ) → j ≤ k → steps j f zero ≡ steps j g zero) → f k ≡ g k
  steps_once zero f g e = e zero (omega arith)
  steps_once (suc k) f g e =
      onward (f k) (f (suc k))
      ∙ ap₂ ◌⊕◌ (steps_once k (step f) (step g) (λ j l. e (suc j) (omega arith))) (steps_once k f g (λ j l. e j (omega arith)))
      ∙ sym (onward (g k) (g (suc k)))

-- ---- sizes of whole numbers
blend-within : {f : Series ℤ} {B : ℕ} (a b : ℤ) → ((i : ℕ) → Within B (f i)) → (i : ℕ) → Within ((nat_abs a + nat_abs b) * B) (blend wholes a b f i)
blend-within {f} a b h i = record {
  size = omega (
    arith,
    abs_plus (a *ℤ f i) (b *ℤ f (suc i)),
    abs_times a (f i),
    abs_times b (f (suc i)),
    mul-le-mul (le_refl (nat_abs a)) (h i).size,
    mul-le-mul (le_refl (nat_abs b)) (h (suc i)).size,
  );
}

pub blends-within : {f : Series ℤ} {B : ℕ} (a b : ℤ) (n : ℕ) → ((i : ℕ) → Within B (f i)) → (i : ℕ) → Within ((nat_abs a + nat_abs b) ^ n * B) (blends wholes a b n f i)
blends-within {f = f} {B = B} a b zero h i = rw (pow-zero, one-mul) (h i)
blends-within {f = f} {B = B} a b (suc n) h i = rw (pow-suc, mul_assoc) (blends-within {f = blend wholes a b f} {B = (nat_abs a + nat_abs b) * B} a b n (blend-within a b h) i)

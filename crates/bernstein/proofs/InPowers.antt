-- A polynomial of degree m by its Bernstein coefficients f₀ .. fₘ, for a series over any ring.
--   weighted m f                C(m, k) fₖ, for each k
--   in_powers m f                the power coefficients: the k-th is C(m, k) times the first of the k-th differences
--   in_powers-above              no power stands above m
--   in_powers-first, in_powers-second      it begins with f₀ and m (f₁ − f₀)
--   in_powers-once               it decides f₀ .. fₘ, where a number other than 0 is cancelled
--   de_casteljau                (u + v)ᵐ times the value at v / (u + v) is what m blends with u and v leave
--   blends-form                 and is the sum of C(m, k) uᵐ⁻ᵏ vᵏ fₖ
--   bernstein-sum               so (u + v)ᵐ times that value is this sum
--   in_powers-within, form-within      sizes at ℤ: with Bernstein coefficients of at most B in size the k-th power coefficient is at most C(m, k) 2ᵏ B,
--                               and a value is at most B
use mathlib.Core.Path.{◌≡◌, sym, ap, ap₂, ◌∙◌, fun_ext}
use mathlib.Core.List.{[], ◌∷◌}
use Prim.Native.Nat.{ℕ, zero, suc, ◌+◌, ◌*◌, ◌^◌, ◌<◌, ◌≤◌}
use native.Mathlib.Nat.{zero-add, suc-add, mul_assoc, pow-succ'}
use native.Mathlib.Omega.{arith}
use lib.IntN.{ℤ, pos, negsuc}
use Rattle.whole.specs.Coefficients.{Coefficients}
use Rattle.whole.specs.Number.{wholes, Within}
use Rattle.whole.proofs.Wholes.{wholes_ring}
use Rattle.whole.proofs.Bound.{scaled-within}
use Rattle.whole.proofs.Ring.{Ring, none-times, plus_times}
use Rattle.whole.proofs.Solver.{atoms, read, read_lit, read-lit⁻, ring}
use Rattle.poly.specs.Terms.{Above}
use Rattle.poly.proofs.Series.{Series, tail}
use Rattle.poly.proofs.Forms.{power, form, form-plus, form-times, form_shorter}
use Rattle.bernstein.specs.Binomials.{choose}
use Rattle.bernstein.proofs.Binomials.{choose_above, choose_positive, choose_one}
use Rattle.bernstein.proofs.Blends.{blend, blends, blends_linear, step, step-difference, steps, steps_once, blends-within}

module _ {A : Type 0} {C : Coefficients A} (R : Ring C) where
  open C use {none as 𝟎, plus as ◌⊕◌, times as ◌⊗◌}

  infixl 60 ◌⊕◌
  infixl 70 ◌⊗◌
  abbrev pub weighted : ℕ → Series A → Series A
  weighted m f k = R.number (pos (choose m k)) ⊗ f k

  pub weighted_above : (m : ℕ) (f : Series A) → Above C (weighted m f) m
  weighted_above m f k h = ap (λ n. R.number (pos n) ⊗ f k) (choose_above m k h) ∙ ap (λ x. x ⊗ f k) R.number_none ∙ none-times R (f k)

  -- Pascal's rule
  weighted-suc : (m : ℕ) (f : Series A) (k : ℕ) → weighted (suc m) f (suc k) ≡ weighted m (tail f) k ⊕ weighted m f (suc k)
  unfolding choose
  weighted-suc m f k = ap (λ x. x ⊗ f (suc k)) (R.number_plus (pos (choose m k)) (pos (choose m (suc k)))) ∙ plus_times R _ _ _

  -- ---- to powers
  abbrev pub in_powers : ℕ → Series A → Series A
  in_powers m f = weighted m (λ k. steps R k f zero)

  pub in_powers-above : (m : ℕ) (f : Series A) → Above C (in_powers m f) m
  in_powers-above m f = weighted_above m (λ k. steps R k f zero)

  pub in_powers-first : (m : ℕ) (f : Series A) → in_powers m f 0 ≡ f 0
  unfolding choose
  in_powers-first m f = R.times_comm _ _ ∙ R.times_one (f 0)

  pub in_powers-second : (m : ℕ) (f : Series A) → in_powers m f 1 ≡ R.number (pos m) ⊗ (f 1 ⊕ R.negative (f 0))
  in_powers-second m f = ap₂ (λ n x. R.number (pos n) ⊗ x) (choose_one m) (step-difference R f 0)

  pub in_powers-once : (cancel : (n : ℕ) (x y : A) → 0 < n → R.number (pos n) ⊗ x ≡ R.number (pos n) ⊗ y → x ≡ y)
      → (m : ℕ) (f g : Series A) → ((k : ℕ) → in_powers m f k ≡ in_powers m g k) → (i : ℕ) → i ≤ m → f i ≡ g i
  in_powers-once cancel m f g e i l = steps_once R i f g (λ k h. cancel (choose m k) _ _ (choose_positive m k (omega arith)) (e k))

  -- ---- de Casteljau: a blend is u + v times the series, and v times its differences
  parted : (u v f f' : A) → u ⊗ f ⊕ v ⊗ f' ≡ (u ⊕ v) ⊗ f ⊕ v ⊗ (R.number (negsuc 0) ⊗ f ⊕ R.number (pos 1) ⊗ f')
  parted u v f f' = atoms R (u ∷ v ∷ f ∷ f' ∷ []) (λ ρ e. simp (e 0, e 1, e 2, e 3, read, read_lit R ρ, read-lit⁻ R ρ) (ring R ρ _ _ tt))

  inside : (c s v x y : A) → c ⊗ (s ⊗ x ⊕ v ⊗ y) ≡ s ⊗ (c ⊗ x) ⊕ v ⊗ (c ⊗ y)
  inside c s v x y = atoms R (c ∷ s ∷ v ∷ x ∷ y ∷ []) (λ ρ e. simp (e 0, e 1, e 2, e 3, e 4, read) (ring R ρ _ _ tt))

  in_powers-blend : (u v : A) (m : ℕ) (f : Series A) (k : ℕ) → in_powers m (blend C u v f) k ≡ (u ⊕ v) ⊗ in_powers m f k ⊕ v ⊗ in_powers m (step R f) k
  in_powers-blend u v m f k =
      ap (λ x. R.number (pos (choose m k)) ⊗ x)
      (ap (λ h. steps R k h zero) (fun_ext (λ i. parted u v (f i) (f (suc i)))) ∙ blends_linear R _ _ (u ⊕ v) v k f (step R f) zero)
      ∙ inside _ _ _ _ _

  regroup : (p a v x y : A) → p ⊗ a ⊕ v ⊗ (x ⊕ y) ≡ (p ⊗ a ⊕ v ⊗ y) ⊕ v ⊗ x
  regroup p a v x y = atoms R (p ∷ a ∷ v ∷ x ∷ y ∷ []) (λ ρ e. simp (e 0, e 1, e 2, e 3, e 4, read) (ring R ρ _ _ tt))

  pub de_casteljau : (u v : A) (m : ℕ) (f : Series A) → form C (u ⊕ v) v m (in_powers m f) ≡ blends C u v m f zero
  unfolding choose
  de_casteljau u v zero f = R.times_comm _ _ ∙ R.times_one _
  de_casteljau u v (suc m) f =
      ap (λ x. power C (u ⊕ v) m ⊗ in_powers (suc m) f zero ⊕ v ⊗ x)
      (ap (form C (u ⊕ v) v m) (fun_ext (weighted-suc m (λ k. steps R k f zero))) ∙ form-plus R (u ⊕ v) v m (in_powers m (step R f)) (tail (in_powers m f)))
      ∙ regroup _ _ _ _ _
      ∙ ap₂ ◌⊕◌ (form_shorter R (u ⊕ v) v m (in_powers m f) (in_powers-above m f (suc m) (omega arith)) ∙ sym (form-times R (u ⊕ v) v m _ _)) (sym (form-times R (u ⊕ v) v m v _))
      ∙ sym (form-plus R (u ⊕ v) v m _ _)
      ∙ ap (form C (u ⊕ v) v m) (sym (fun_ext (in_powers-blend u v m f)))
      ∙ de_casteljau u v m (blend C u v f)

  -- ---- as a sum
  pub blends-form : (u v : A) (m : ℕ) (f : Series A) → blends C u v m f zero ≡ form C u v m (weighted m f)
  unfolding choose
  blends-form u v zero f = sym (R.times_comm _ _ ∙ R.times_one (f zero))
  blends-form u v (suc m) f =
      blends-form u v m (blend C u v f)
      ∙ ap (form C u v m) (fun_ext (λ k. inside (R.number (pos (choose m k))) u v (f k) (f (suc k))))
      ∙ form-plus R u v m (λ k. u ⊗ weighted m f k) (λ k. v ⊗ weighted m (tail f) k)
      ∙ ap₂ ◌⊕◌ (form-times R u v m u (weighted m f) ∙ sym (form_shorter R u v m (weighted m f) (weighted_above m f (suc m) (omega arith)))) (form-times R u v m v (weighted m (tail f)))
      ∙ sym (regroup _ _ _ _ _)
      ∙ ap (λ x. power C u m ⊗ weighted m f zero ⊕ v ⊗ x)
      (sym (form-plus R u v m (weighted m (tail f)) (tail (weighted m f))) ∙ ap (form C u v m) (fun_ext (λ k. sym (weighted-suc m f k))))

  pub bernstein-sum : (u v : A) (m : ℕ) (f : Series A) → form C (u ⊕ v) v m (in_powers m f) ≡ form C u v m (weighted m f)
  bernstein-sum u v m f = de_casteljau u v m f ∙ blends-form u v m f

-- ---- sizes of whole numbers
pub in_powers-within : {f : Series ℤ} {B : ℕ} (m : ℕ) → ((i : ℕ) → Within B (f i)) → (k : ℕ) → Within (choose m k * (2 ^ k * B)) (in_powers wholes_ring m f k)
in_powers-within m h k = scaled-within (choose m k) (blends-within (negsuc 0) (pos 1) k h zero)

pub form-within : {f : Series ℤ} {B : ℕ} (u v m d : ℕ) → ((i : ℕ) → Within B (f i))
    → Within ((u + v) ^ (d + m) * B) (form wholes (pos (u + v)) (pos v) (d + m) (in_powers wholes_ring m f))
form-within {f} u v m zero h = rw (zero-add, de_casteljau wholes_ring (pos u) (pos v) m f) (blends-within (pos u) (pos v) m h zero)
form-within {f} u v m (suc d) h =
    rw (suc-add, form_shorter wholes_ring (pos (u + v)) (pos v) (d + m) (in_powers wholes_ring m f) (in_powers-above wholes_ring m f (suc (d + m)) (omega arith)), pow-succ', mul_assoc)
    (scaled-within (u + v) (form-within u v m d h))

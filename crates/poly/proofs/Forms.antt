-- Values of a polynomial at fractions, without fractions: sⁿ f(v / s), for a series f over any ring.
--   power s n, form s v n f       sⁿ⁺¹; sⁿ f₀ + sⁿ⁻¹ v f₁ + .. + vⁿ fₙ
--   form_agree                    f₀ .. fₙ alone decide it
--   form-plus, form-times         it is linear
--   form_shorter                  where the last coefficient is 0 it is s times the form of one degree less
--   form-product                  the form of a product, where no factor has a power above its degree
use mathlib.Core.Path.{◌≡◌, refl, sym, ap, ap₂, ◌∙◌, fun_ext}
use mathlib.Core.List.{[], ◌∷◌}
use Prim.Native.Nat.{ℕ, zero, suc, ◌+◌, ◌≤◌}
use native.Mathlib.Nat.{zero-add, suc-add}
use native.Mathlib.Omega.{arith}
use Rattle.whole.specs.Coefficients.{Coefficients}
use Rattle.whole.proofs.Ring.{Ring, times_none}
use Rattle.whole.proofs.Solver.{atoms, read, ring}
use Rattle.poly.specs.Terms.{Above}
use Rattle.poly.proofs.Series.{Series, tail, conv, conv-constant}
use Rattle.poly.proofs.Top.{listed_same}

module _ {A : Type 0} (C : Coefficients A) (s : A) where
  abbrev pub power : ℕ → A
  power zero = s
  power (suc n) = C.times s (power n)

  abbrev pub form : A → ℕ → Series A → A
  form v zero f = f zero
  form v (suc n) f = C.plus (C.times (power n) (f zero)) (C.times v (form v n (tail f)))

  pub form_agree : (v : A) (n : ℕ) (f g : Series A) → ((k : ℕ) → k ≤ n → f k ≡ g k) → form v n f ≡ form v n g
  form_agree v zero f g e = e zero (omega arith)
  form_agree v (suc n) f g e =
      ap₂ (λ x y. C.plus (C.times (power n) x) (C.times v y)) (e zero (omega arith)) (form_agree v n (tail f) (tail g) (λ k l. e (suc k) (omega arith)))

module _ {A : Type 0} {C : Coefficients A} (R : Ring C) (s v : A) where
  open C use {none as 𝟎, plus as ◌⊕◌, times as ◌⊗◌}

  infixl 60 ◌⊕◌
  infixl 70 ◌⊗◌
  sums : (p a b x y : A) → p ⊗ (a ⊕ b) ⊕ v ⊗ (x ⊕ y) ≡ (p ⊗ a ⊕ v ⊗ x) ⊕ (p ⊗ b ⊕ v ⊗ y)
  sums p a b x y = atoms R (v ∷ p ∷ a ∷ b ∷ x ∷ y ∷ []) (λ ρ e. simp (e 0, e 1, e 2, e 3, e 4, e 5, read) (ring R ρ _ _ tt))

  pub form-plus : (n : ℕ) (f g : Series A) → form C s v n (λ k. f k ⊕ g k) ≡ form C s v n f ⊕ form C s v n g
  form-plus zero f g = refl
  form-plus (suc n) f g = ap (λ x. power C s n ⊗ (f zero ⊕ g zero) ⊕ v ⊗ x) (form-plus n (tail f) (tail g)) ∙ sums _ _ _ _ _

  multiples : (c p a x : A) → p ⊗ (c ⊗ a) ⊕ v ⊗ (c ⊗ x) ≡ c ⊗ (p ⊗ a ⊕ v ⊗ x)
  multiples c p a x = atoms R (c ∷ v ∷ p ∷ a ∷ x ∷ []) (λ ρ e. simp (e 0, e 1, e 2, e 3, e 4, read) (ring R ρ _ _ tt))

  pub form-times : (n : ℕ) (c : A) (f : Series A) → form C s v n (λ k. c ⊗ f k) ≡ c ⊗ form C s v n f
  form-times zero c f = refl
  form-times (suc n) c f = ap (λ x. power C s n ⊗ (c ⊗ f zero) ⊕ v ⊗ x) (form-times n c (tail f)) ∙ multiples c _ _ _

  raised : (p a x : A) → s ⊗ p ⊗ a ⊕ v ⊗ (s ⊗ x) ≡ s ⊗ (p ⊗ a ⊕ v ⊗ x)
  raised p a x = atoms R (s ∷ v ∷ p ∷ a ∷ x ∷ []) (λ ρ e. simp (e 0, e 1, e 2, e 3, e 4, read) (ring R ρ _ _ tt))

  pub form_shorter : (n : ℕ) (f : Series A) → f (suc n) ≡ 𝟎 → form C s v (suc n) f ≡ s ⊗ form C s v n f
  form_shorter zero f e = ap (λ x. s ⊗ f zero ⊕ x) (ap (λ x. v ⊗ x) e ∙ times_none R v) ∙ R.plus_none _
  form_shorter (suc n) f e = ap (λ x. power C s (suc n) ⊗ f zero ⊕ v ⊗ x) (form_shorter n (tail f) e) ∙ raised _ _ _

  -- each degree more is a factor s
  form-longer : (m n : ℕ) (f : Series A) → Above C f n → form C s v (suc (m + n)) f ≡ power C s m ⊗ form C s v n f
  form-longer zero n f u = rw zero-add (form_shorter n f (u (suc n) (omega arith)))
  form-longer (suc m) n f u =
      rw suc-add (form_shorter (suc (m + n)) f (u _ (omega arith)) ∙ ap (λ x. s ⊗ x) (form-longer m n f u) ∙ sym (R.times_assoc _ _ _))

  -- the constant coefficient of the first factor, taken out
  first_out : (p a b x y : A) → p ⊗ (a ⊗ b) ⊕ v ⊗ (a ⊗ x ⊕ y) ≡ a ⊗ (p ⊗ b ⊕ v ⊗ x) ⊕ v ⊗ y
  first_out p a b x y = atoms R (v ∷ p ∷ a ∷ b ∷ x ∷ y ∷ []) (λ ρ e. simp (e 0, e 1, e 2, e 3, e 4, e 5, read) (ring R ρ _ _ tt))

  factored : (p a x z : A) → a ⊗ (p ⊗ z) ⊕ v ⊗ (x ⊗ z) ≡ (p ⊗ a ⊕ v ⊗ x) ⊗ z
  factored p a x z = atoms R (v ∷ p ∷ a ∷ x ∷ z ∷ []) (λ ρ e. simp (e 0, e 1, e 2, e 3, e 4, read) (ring R ρ _ _ tt))

  pub form-product : (m n : ℕ) (f g : Series A) → Above C f m → Above C g n → form C s v (m + n) (conv C f g) ≡ form C s v m f ⊗ form C s v n g
  unfolding conv
  form-product zero n f g u w =
      rw zero-add
      (ap (form C s v n) (ap (λ h. conv C h g) (fun_ext (listed_same C zero f u)) ∙ fun_ext (conv-constant R (f zero) g)) ∙ form-times n (f zero) g)
  form-product (suc m) n f g u w =
      rw suc-add
      (ap (λ x. power C s (m + n) ⊗ (f zero ⊗ g zero) ⊕ v ⊗ x)
      (form-plus (m + n) (λ k. f zero ⊗ g (suc k)) (conv C (tail f) g)
      ∙ ap₂ ◌⊕◌ (form-times (m + n) (f zero) (tail g)) (form-product m n (tail f) g (λ k h. u (suc k) (omega arith)) w))
      ∙ first_out _ _ _ _ _
      ∙ ap (λ x. f zero ⊗ x ⊕ v ⊗ (form C s v m (tail f) ⊗ form C s v n g)) (form-longer m n g w)
      ∙ factored _ _ _ _)

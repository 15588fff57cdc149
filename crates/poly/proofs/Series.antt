-- A polynomial as the function from a power to its coefficient, a series. Two lists are the same polynomial where these functions are equal,
-- so an equation of polynomials is a path, polynomials are a ring of the same record as their coefficients, and the solver works on them.
--   Series A, tail f           the functions from powers; all but the constant coefficient
--   conv, constant, series     the product of two series; a number as a series; series as coefficients
--   conv-suc, conv_last        the first and the last term of a coefficient of a product, taken off
--   conv-none, conv-constant, scaled-conv       a product with 0, with a number, and of a multiple
--   conv_comm, conv_assoc, conv-plus, constant-none, constant-plus, constant-times
--   series_ring R              so series over a ring are a ring
-- What this says of lists is in Lists.
use mathlib.Core.Path.{◌≡◌, refl, sym, ap, ap₂, ◌∙◌, fun_ext}
use mathlib.Core.List.{[], ◌∷◌}
use Prim.Native.Nat.{ℕ, zero, suc}
use lib.IntN.{pos}
use Rattle.whole.specs.Coefficients.{Coefficients, at}
use Rattle.whole.proofs.Ring.{Ring, times_none, none-times}
use Rattle.whole.proofs.Solver.{atoms, ring, read}

abbrev pub Series : Type 0 → Type 0
Series A = ℕ → A

abbrev pub tail : {A : Type 0} → Series A → Series A
tail f k = f (suc k)

module _ {A : Type 0} (C : Coefficients A) where
  -- f 0 · g k + f 1 · g (k − 1) + .. + f k · g 0
  unfoldable pub conv : Series A → Series A → Series A
  conv f g zero = C.times (f zero) (g zero)
  conv f g (suc k) = C.plus (C.times (f zero) (g (suc k))) (conv (tail f) g k)

  abbrev pub series : Coefficients (Series A)
  series = record { none = λ k. C.none; plus = λ f g k. C.plus (f k) (g k); times = conv }

  abbrev pub constant : A → Series A
  constant a = at C (a ∷ [])

module _ {A : Type 0} {C : Coefficients A} (R : Ring C) where
  open C use {none as 𝟎, plus as ◌⊕◌, times as ◌⊗◌}

  infixl 60 ◌⊕◌
  infixl 70 ◌⊗◌
  pub conv-suc : (f g : Series A) (k : ℕ) → conv C f g (suc k) ≡ f zero ⊗ g (suc k) ⊕ conv C (tail f) g k
  unfolding conv
  conv-suc f g k = refl

  pub conv_last : (f g : Series A) (k : ℕ) → conv C f g (suc k) ≡ conv C f (tail g) k ⊕ f (suc k) ⊗ g zero
  unfolding conv
  conv_last f g zero = refl
  conv_last f g (suc k) =
      ap (λ x. f zero ⊗ g (suc (suc k)) ⊕ x) (conv_last (tail f) g k) ∙ sym (R.plus_assoc _ _ _)

  pub conv-none : (g : Series A) (k : ℕ) → conv C (λ i. 𝟎) g k ≡ 𝟎
  unfolding conv
  conv-none g zero = none-times R (g zero)
  conv-none g (suc k) = ap₂ ◌⊕◌ (none-times R (g (suc k))) (conv-none g k) ∙ R.plus_none 𝟎

  pub conv_comm : (f g : Series A) (k : ℕ) → conv C f g k ≡ conv C g f k
  unfolding conv
  conv_comm f g zero = R.times_comm _ _
  conv_comm f g (suc k) =
      ap₂ ◌⊕◌ (R.times_comm (f zero) (g (suc k))) (conv_comm (tail f) g k)
      ∙ R.plus_comm _ _
      ∙ sym (conv_last g f k)

  spread : (a b c x y : A) → a ⊗ (b ⊕ c) ⊕ (x ⊕ y) ≡ (a ⊗ b ⊕ x) ⊕ (a ⊗ c ⊕ y)
  spread a b c x y = atoms R (a ∷ b ∷ c ∷ x ∷ y ∷ []) (λ ρ e. simp (e 0, e 1, e 2, e 3, e 4, read) (ring R ρ _ _ tt))

  pub conv-plus : (f g h : Series A) (k : ℕ) → conv C f (λ i. g i ⊕ h i) k ≡ conv C f g k ⊕ conv C f h k
  unfolding conv
  conv-plus f g h zero = R.times_plus _ _ _
  conv-plus f g h (suc k) =
      ap (λ x. f zero ⊗ (g (suc k) ⊕ h (suc k)) ⊕ x) (conv-plus (tail f) g h k) ∙ spread _ _ _ _ _

  plus-conv : (f g h : Series A) (k : ℕ) → conv C (λ i. f i ⊕ g i) h k ≡ conv C f h k ⊕ conv C g h k
  plus-conv f g h k = conv_comm (λ i. f i ⊕ g i) h k ∙ conv-plus h f g k ∙ ap₂ ◌⊕◌ (conv_comm h f k) (conv_comm h g k)

  pub scaled-conv : (a : A) (f g : Series A) (k : ℕ) → conv C (λ i. a ⊗ f i) g k ≡ a ⊗ conv C f g k
  unfolding conv
  scaled-conv a f g zero = R.times_assoc _ _ _
  scaled-conv a f g (suc k) = ap₂ ◌⊕◌ (R.times_assoc _ _ _) (scaled-conv a (tail f) g k) ∙ sym (R.times_plus _ _ _)

  factored : (a b c x y : A) → a ⊗ b ⊗ c ⊕ (a ⊗ x ⊕ y) ≡ a ⊗ (b ⊗ c ⊕ x) ⊕ y
  factored a b c x y = atoms R (a ∷ b ∷ c ∷ x ∷ y ∷ []) (λ ρ e. simp (e 0, e 1, e 2, e 3, e 4, read) (ring R ρ _ _ tt))

  pub conv_assoc : (f g h : Series A) (k : ℕ) → conv C (conv C f g) h k ≡ conv C f (conv C g h) k
  unfolding conv
  conv_assoc f g h zero = R.times_assoc _ _ _
  conv_assoc f g h (suc k) =
      ap (λ x. f zero ⊗ g zero ⊗ h (suc k) ⊕ x)
      (plus-conv (λ i. f zero ⊗ g (suc i)) (conv C (tail f) g) h k ∙ ap₂ ◌⊕◌ (scaled-conv (f zero) (tail g) h k) (conv_assoc (tail f) g h k))
      ∙ factored _ _ _ _ _

  pub conv-constant : (a : A) (g : Series A) (k : ℕ) → conv C (constant C a) g k ≡ a ⊗ g k
  unfolding conv
  conv-constant a g zero = refl
  conv-constant a g (suc k) = ap (λ x. a ⊗ g (suc k) ⊕ x) (conv-none g k) ∙ R.plus_none _

  pub constant-plus : (a b c : A) → c ≡ a ⊕ b → (k : ℕ) → constant C c k ≡ constant C a k ⊕ constant C b k
  constant-plus a b c e zero = e
  constant-plus a b c e (suc k) = sym (R.plus_none 𝟎)

  pub constant-times : (a b c : A) → c ≡ a ⊗ b → (k : ℕ) → constant C c k ≡ conv C (constant C a) (constant C b) k
  constant-times a b c e zero = e ∙ sym (conv-constant a (constant C b) zero)
  constant-times a b c e (suc k) = sym (conv-constant a (constant C b) (suc k) ∙ times_none R a)

  pub constant-none : (a : A) → a ≡ 𝟎 → (k : ℕ) → constant C a k ≡ 𝟎
  constant-none a e zero = e
  constant-none a e (suc k) = refl

  abbrev pub series_ring : Ring (series C)
  series_ring = record {
    negative = λ f k. R.negative (f k);
    number = λ z. constant C (R.number z);
    plus_assoc = λ f g h. fun_ext (λ k. R.plus_assoc (f k) (g k) (h k));
    plus_comm = λ f g. fun_ext (λ k. R.plus_comm (f k) (g k));
    plus_none = λ f. fun_ext (λ k. R.plus_none (f k));
    plus_negative = λ f. fun_ext (λ k. R.plus_negative (f k));
    times_assoc = λ f g h. fun_ext (conv_assoc f g h);
    times_comm = λ f g. fun_ext (conv_comm f g);
    times_one = λ f. fun_ext (λ k. conv_comm f _ k ∙ conv-constant (R.number (pos 1)) f k ∙ R.times_comm _ _ ∙ R.times_one (f k));
    times_plus = λ f g h. fun_ext (conv-plus f g h);
    number_none = fun_ext (constant-none _ R.number_none);
    number_plus = λ m n. fun_ext (constant-plus _ _ _ (R.number_plus m n));
    number_times = λ m n. fun_ext (constant-times _ _ _ (R.number_times m n));
  }

-- The value of a polynomial at a point.
--   value_same                                the same polynomial has the same value
--   value-scaled, value-product               the value of a multiple and of a product
--   values_square                             where p = c q², p(x) p(y) is the square of c q(x) q(y)
use mathlib.Core.Path.{◌≡◌, refl, sym, ap, ap₂, ◌∙◌}
use mathlib.Core.List.{List, [], ◌∷◌}
use Prim.Native.Nat.{zero, suc}
use Rattle.whole.specs.Coefficients.{Coefficients}
use Rattle.poly.specs.Polynomials.{Same, sum, scaled, product, square}
use Rattle.whole.proofs.Ring.{Ring, none-plus, none-times, times_none}
use Rattle.whole.proofs.Solver.{atoms, ring, read}
use Rattle.poly.specs.Terms.{value}

module _ {A : Type 0} {C : Coefficients A} (R : Ring C) (x : A) where
  open C use {none as 𝟎, plus as ◌⊕◌, times as ◌⊗◌}

  infixl 60 ◌⊕◌
  infixl 70 ◌⊗◌
  value_none : (p : List A) → Same C p [] → value C x p ≡ 𝟎
  unfolding value
  value_none [] e = refl
  value_none (a ∷ p) e = ap₂ (λ s t. s ⊕ x ⊗ t) (e zero) (value_none p (λ k. e (suc k))) ∙ ap (λ t. 𝟎 ⊕ t) (times_none R x) ∙ R.plus_none 𝟎

  pub value_same : (p q : List A) → Same C p q → value C x p ≡ value C x q
  unfolding value
  value_same [] q e = sym (value_none q (λ k. sym (e k)))
  value_same (a ∷ p) [] e = value_none (a ∷ p) e
  value_same (a ∷ p) (b ∷ q) e = ap₂ (λ s t. s ⊕ x ⊗ t) (e zero) (value_same p q (λ k. e (suc k)))

  apart : (x a b p q : A) → (a ⊕ b) ⊕ x ⊗ (p ⊕ q) ≡ (a ⊕ x ⊗ p) ⊕ (b ⊕ x ⊗ q)
  apart x a b p q = atoms R (x ∷ a ∷ b ∷ p ∷ q ∷ []) (λ ρ e. simp (e 0, e 1, e 2, e 3, e 4, read) (ring R ρ _ _ tt))

  value-sum : (p q : List A) → value C x (sum C p q) ≡ value C x p ⊕ value C x q
  unfolding value sum
  value-sum [] q = sym (none-plus R _)
  value-sum (a ∷ p) [] = sym (R.plus_none _)
  value-sum (a ∷ p) (b ∷ q) = ap (λ t. (a ⊕ b) ⊕ x ⊗ t) (value-sum p q) ∙ apart x a b _ _

  out : (x c a p : A) → c ⊗ a ⊕ x ⊗ (c ⊗ p) ≡ c ⊗ (a ⊕ x ⊗ p)
  out x c a p = atoms R (x ∷ c ∷ a ∷ p ∷ []) (λ ρ e. simp (e 0, e 1, e 2, e 3, read) (ring R ρ _ _ tt))

  pub value-scaled : (c : A) (p : List A) → value C x (scaled C c p) ≡ c ⊗ value C x p
  unfolding value scaled
  value-scaled c [] = sym (times_none R c)
  value-scaled c (a ∷ p) = ap (λ t. c ⊗ a ⊕ x ⊗ t) (value-scaled c p) ∙ out x c a _

  shifted : (x a p q : A) → a ⊗ q ⊕ x ⊗ (p ⊗ q) ≡ (a ⊕ x ⊗ p) ⊗ q
  shifted x a p q = atoms R (x ∷ a ∷ p ∷ q ∷ []) (λ ρ e. simp (e 0, e 1, e 2, e 3, read) (ring R ρ _ _ tt))

  pub value-product : (p q : List A) → value C x (product C p q) ≡ value C x p ⊗ value C x q
  unfolding value product
  value-product [] q = sym (none-times R _)
  value-product (a ∷ p) q =
      value-sum (scaled C a q) (𝟎 ∷ product C p q)
      ∙ ap₂ ◌⊕◌ (value-scaled a q) (none-plus R _ ∙ ap (λ t. x ⊗ t) (value-product p q))
      ∙ shifted x a _ _

module _ {A : Type 0} {C : Coefficients A} (R : Ring C) where
  open C use {times as ◌⊗◌}

  infixl 70 ◌⊗◌
  regrouped : (c a b : A) → c ⊗ (a ⊗ a) ⊗ (c ⊗ (b ⊗ b)) ≡ c ⊗ (a ⊗ b) ⊗ (c ⊗ (a ⊗ b))
  regrouped c a b = atoms R (c ∷ a ∷ b ∷ []) (λ ρ e. simp (e 0, e 1, e 2, read) (ring R ρ _ _ tt))

  pub values_square : (p q : List A) (c x y : A) → Same C p (scaled C c (square C q))
      → value C x p ⊗ value C y p ≡ c ⊗ (value C x q ⊗ value C y q) ⊗ (c ⊗ (value C x q ⊗ value C y q))
  values_square p q c x y e = ap₂ ◌⊗◌ (at-point x) (at-point y) ∙ regrouped c (value C x q) (value C y q)
    where
      at-point : (z : A) → value C z p ≡ c ⊗ (value C z q ⊗ value C z q)
      at-point z = value_same R z p (scaled C c (square C q)) e ∙ value-scaled R z c (square C q) ∙ ap (λ t. c ⊗ t) (value-product R z q q)

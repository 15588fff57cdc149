-- A root of t² M is t times a root of M, so that a root of one degree serves the lower ones.
--   square-shift     (t r)² = t² r²
--   root-shift       over a domain q² = t² M gives q = t r and r² = M
use mathlib.Core.Path.{◌≡◌, refl, sym, ap, ap₂, ◌∙◌}
use mathlib.Core.List.{List, [], ◌∷◌}
use mathlib.Core.Logic.{⊎_elim}
use Prim.Native.Nat.{ℕ, zero, suc}
use Rattle.whole.specs.Coefficients.{Coefficients, at}
use Rattle.poly.specs.Polynomials.{Same, product, square}
use Rattle.whole.proofs.Ring.{Ring, none-plus, none-times, times_none}
use Rattle.poly.proofs.Series.{Series, tail, conv, conv-suc, conv_last}
use Rattle.poly.proofs.Lists.{at-product, square-same}
use Rattle.poly.proofs.Domain.{Domain}

module _ {A : Type 0} {C : Coefficients A} (R : Ring C) where
  open C use {none as 𝟎, plus as ◌⊕◌, times as ◌⊗◌}

  infixl 60 ◌⊕◌
  infixl 70 ◌⊗◌
  -- a product of two series without a constant coefficient starts at the second power
  conv-shift : (f g : Series A) → f zero ≡ 𝟎 → g zero ≡ 𝟎 → (k : ℕ) → conv C f g (suc (suc k)) ≡ conv C (tail f) (tail g) k
  conv-shift f g y z k =
      conv-suc R f g (suc k)
      ∙ ap₂ (λ a b. a ⊗ g (suc (suc k)) ⊕ b) y (conv_last R (tail f) g k ∙ ap (λ b. conv C (tail f) (tail g) k ⊕ f (suc (suc k)) ⊗ b) z)
      ∙ ap₂ ◌⊕◌ (none-times R _) (ap (λ b. conv C (tail f) (tail g) k ⊕ b) (times_none R _) ∙ R.plus_none _)
      ∙ none-plus R _

  pub square-shift : (r : List A) → Same C (square C (𝟎 ∷ r)) (𝟎 ∷ 𝟎 ∷ square C r)
  unfolding conv
  square-shift r zero = at-product R (𝟎 ∷ r) (𝟎 ∷ r) zero ∙ none-times R 𝟎
  square-shift r (suc zero) = at-product R (𝟎 ∷ r) (𝟎 ∷ r) (suc zero) ∙ ap₂ ◌⊕◌ (none-times R _) (times_none R _) ∙ R.plus_none 𝟎
  square-shift r (suc (suc k)) =
      at-product R (𝟎 ∷ r) (𝟎 ∷ r) (suc (suc k)) ∙ conv-shift (at C (𝟎 ∷ r)) (at C (𝟎 ∷ r)) refl refl k ∙ sym (at-product R r r k)

  pub root-shift : (D : Domain C) (q M : List A) → Same C (square C q) (𝟎 ∷ 𝟎 ∷ M) → (r : List A) × Same C q (𝟎 ∷ r) × Same C (square C r) M
  unfolding conv product
  root-shift D [] M h = ([], nothing, λ k. h (suc (suc k)))
    where
      nothing : Same C [] (𝟎 ∷ [])
      nothing zero = refl
      nothing (suc k) = refl
  root-shift D (a ∷ r) M h = (r, shifted, squared)
    where
      a-none : a ≡ 𝟎
      a-none = ⊎_elim (λ z. z) (λ z. z) (D.splits a a (sym (at-product R (a ∷ r) (a ∷ r) zero) ∙ h zero))

      shifted : Same C (a ∷ r) (𝟎 ∷ r)
      shifted zero = a-none
      shifted (suc k) = refl

      squared : Same C (square C r) M
      squared k = sym (square-shift r (suc (suc k))) ∙ sym (square-same R (a ∷ r) (𝟎 ∷ r) shifted (suc (suc k))) ∙ h (suc (suc k))

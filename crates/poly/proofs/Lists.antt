-- Lists of coefficients as series: what each operation on lists does at a power, and the laws of polynomials up to `Same`.
--   at_sum, at_scaled, at-product          a coefficient of a sum, of a multiple and of a product
--   of_sum, of_product                     the same as paths of series, for rewriting
--   path                                   `Same` as a path of series
--   sum_same, scaled-same, product-same, square-same     each operation keeps `Same`
--   sum_comm, product-none                 the order of a sum does not matter; a product with 0 is 0
--   scaled-one, scaled-scaled, scaled-sum, scaled-product, square-scaled     multiples: (a p)² = a² p²
--   scaled-none, none-scaled               a multiple of 0, and by 0, is 0
--   scaled-is-product                      a multiple is a product with a constant
--   at-opposite, square-opposite           a coefficient of (−1) p is the negative; (−1) p has the square of p
--   of_difference                          p + (−1) q as a series
use mathlib.Core.Path.{◌≡◌, refl, sym, ap, ap₂, ◌∙◌, fun_ext}
use mathlib.Core.List.{List, [], ◌∷◌}
use Prim.Native.Nat.{ℕ, zero, suc}
use lib.IntN.{pos, negsuc}
use Rattle.whole.specs.Coefficients.{Coefficients, at}
use Rattle.poly.specs.Polynomials.{Same, sum, scaled, product, square}
use Rattle.whole.proofs.Ring.{Ring, times_none, none-times, none-plus, minus_one}
use Rattle.poly.proofs.Series.{conv, conv-none, conv_comm, conv-constant, scaled-conv}

module _ {A : Type 0} (C : Coefficients A) where
  pub path : (p q : List A) → Same C p q → at C p ≡ at C q
  path p q e = fun_ext e

module _ {A : Type 0} {C : Coefficients A} (R : Ring C) where
  open C use {none as 𝟎, plus as ◌⊕◌, times as ◌⊗◌}

  infixl 60 ◌⊕◌
  infixl 70 ◌⊗◌
  pub at_sum : (p q : List A) (k : ℕ) → at C (sum C p q) k ≡ at C p k ⊕ at C q k
  unfolding sum
  at_sum [] q k = sym (none-plus R _)
  at_sum (a ∷ p) [] k = sym (R.plus_none _)
  at_sum (a ∷ p) (b ∷ q) zero = refl
  at_sum (a ∷ p) (b ∷ q) (suc k) = at_sum p q k

  pub at_scaled : (a : A) (p : List A) (k : ℕ) → at C (scaled C a p) k ≡ a ⊗ at C p k
  unfolding scaled
  at_scaled a [] k = sym (times_none R a)
  at_scaled a (b ∷ p) zero = refl
  at_scaled a (b ∷ p) (suc k) = at_scaled a p k

  pub at-product : (p q : List A) (k : ℕ) → at C (product C p q) k ≡ conv C (at C p) (at C q) k
  unfolding product conv
  at-product [] q k = sym (conv-none R (at C q) k)
  at-product (a ∷ p) q zero = at_sum (scaled C a q) (𝟎 ∷ product C p q) zero ∙ R.plus_none _ ∙ at_scaled a q zero
  at-product (a ∷ p) q (suc k) =
      at_sum (scaled C a q) (𝟎 ∷ product C p q) (suc k) ∙ ap₂ ◌⊕◌ (at_scaled a q (suc k)) (at-product p q k)

  pub of_sum : (p q : List A) → at C (sum C p q) ≡ (λ k. at C p k ⊕ at C q k)
  of_sum p q = fun_ext (at_sum p q)

  of_scaled : (a : A) (p : List A) → at C (scaled C a p) ≡ (λ k. a ⊗ at C p k)
  of_scaled a p = fun_ext (at_scaled a p)

  pub of_product : (p q : List A) → at C (product C p q) ≡ conv C (at C p) (at C q)
  of_product p q = fun_ext (at-product p q)

  pub at-opposite : (p : List A) (k : ℕ) → at C (scaled C (R.number (negsuc 0)) p) k ≡ R.negative (at C p k)
  at-opposite p k = at_scaled _ p k ∙ minus_one R (at C p k)

  pub of_difference : (p q : List A) → at C (sum C p (scaled C (R.number (negsuc 0)) q)) ≡ (λ k. at C p k ⊕ R.negative (at C q k))
  of_difference p q = fun_ext (λ k. at_sum p _ k ∙ ap (λ x. at C p k ⊕ x) (at-opposite q k))

  -- ---- the operations keep Same
  pub sum_same : (p p' q q' : List A) → Same C p p' → Same C q q' → Same C (sum C p q) (sum C p' q')
  sum_same p p' q q' e f k = at_sum p q k ∙ ap₂ ◌⊕◌ (e k) (f k) ∙ sym (at_sum p' q' k)

  pub scaled-same : (a : A) (p p' : List A) → Same C p p' → Same C (scaled C a p) (scaled C a p')
  scaled-same a p p' e k = at_scaled a p k ∙ ap (λ x. a ⊗ x) (e k) ∙ sym (at_scaled a p' k)

  pub product-same : (p p' q q' : List A) → Same C p p' → Same C q q' → Same C (product C p q) (product C p' q')
  product-same p p' q q' e f k =
      at-product p q k ∙ ap₂ (λ x y. conv C x y k) (path C p p' e) (path C q q' f) ∙ sym (at-product p' q' k)

  pub square-same : (p p' : List A) → Same C p p' → Same C (square C p) (square C p')
  square-same p p' e = product-same p p' p p' e e

  -- ---- sums and products
  pub sum_comm : (p q : List A) → Same C (sum C p q) (sum C q p)
  sum_comm p q k = simp at_sum (R.plus_comm _ _)

  product_comm : (p q : List A) → Same C (product C p q) (product C q p)
  product_comm p q k = simp at-product (conv_comm R _ _ k)

  pub product-none : (p q : List A) → Same C p [] → Same C (product C p q) []
  product-none p q z k = at-product p q k ∙ ap (λ x. conv C x (at C q) k) (path C p [] z) ∙ conv-none R (at C q) k

  -- ---- multiples
  pub scaled-one : (p : List A) → Same C (scaled C (R.number (pos 1)) p) p
  scaled-one p k = at_scaled _ p k ∙ R.times_comm _ _ ∙ R.times_one _

  pub scaled-none : (a : A) (p : List A) → Same C p [] → Same C (scaled C a p) []
  scaled-none a p z k = at_scaled a p k ∙ ap (λ x. a ⊗ x) (z k) ∙ times_none R a

  pub none-scaled : (a : A) (p : List A) → a ≡ 𝟎 → Same C (scaled C a p) []
  none-scaled a p z k = at_scaled a p k ∙ ap (λ x. x ⊗ at C p k) z ∙ none-times R _

  pub scaled-is-product : (a : A) (p : List A) → Same C (scaled C a p) (product C (a ∷ []) p)
  scaled-is-product a p k = at_scaled a p k ∙ sym (at-product (a ∷ []) p k ∙ conv-constant R a (at C p) k)

  pub scaled-scaled : (a b : A) (p : List A) → Same C (scaled C a (scaled C b p)) (scaled C (a ⊗ b) p)
  scaled-scaled a b p k = simp at_scaled (sym (R.times_assoc _ _ _))

  pub scaled-sum : (a : A) (p q : List A) → Same C (scaled C a (sum C p q)) (sum C (scaled C a p) (scaled C a q))
  scaled-sum a p q k = simp (at_scaled, at_sum) (R.times_plus _ _ _)

  pub scaled-product : (a : A) (p q : List A) → Same C (product C (scaled C a p) q) (scaled C a (product C p q))
  scaled-product a p q k = simp (at-product, at_scaled, of_scaled) (scaled-conv R a _ _ k)

  pub square-scaled : (a : A) (p : List A) → Same C (square C (scaled C a p)) (scaled C (a ⊗ a) (square C p))
  square-scaled a p k =
      scaled-product a p (scaled C a p) k
      ∙ scaled-same a (product C p (scaled C a p)) (scaled C a (square C p)) (λ i. product_comm p (scaled C a p) i ∙ scaled-product a p p i) k
      ∙ scaled-scaled a a (square C p) k

  pub square-opposite : (p : List A) → Same C (square C (scaled C (R.number (negsuc 0)) p)) (square C p)
  square-opposite p k =
      square-scaled (R.number (negsuc 0)) p k
      ∙ ap (λ a. at C (scaled C a (square C p)) k) (sym (R.number_times (negsuc 0) (negsuc 0)))
      ∙ scaled-one (square C p) k

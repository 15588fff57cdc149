-- Polynomials, as lists of coefficients from the constant upward. A list may end in zeros: two lists are the same polynomial where they
-- agree at every power.
--   Same                         the same polynomial
--   sum, scaled, product, square
use Rattle.std.specs.Prelude.{◌≡◌, List, [], ◌∷◌, ℕ}
use Rattle.whole.specs.Coefficients.{Coefficients, at}

module _ {A : Type 0} (C : Coefficients A) where
  abbrev pub Same : List A → List A → Type 0
  Same p q = (k : ℕ) → at C p k ≡ at C q k

  unfoldable pub sum : List A → List A → List A
  sum [] q = q
  sum (a ∷ p) [] = a ∷ p
  sum (a ∷ p) (b ∷ q) = C.plus a b ∷ sum p q

  unfoldable pub scaled : A → List A → List A
  scaled a [] = []
  scaled a (b ∷ q) = C.times a b ∷ scaled a q

  unfoldable pub product : List A → List A → List A
  product [] q = []
  product (a ∷ p) q = sum (scaled a q) (C.none ∷ product p q)

  abbrev pub square : List A → List A
  square p = product p p

-- Lists with zeros behind them.
--   at-zeros         every coefficient of a list of zeros is 0
--   same-padded      two lists, one of them with zeros behind it, are the same polynomial
--   above_zeros      nothing stands above a power that has only zeros behind it
use mathlib.Core.Path.{◌≡◌, refl, sym, ap, ◌∙◌}
use mathlib.Core.List.{List, [], ◌∷◌, ◌++◌}
use Prim.Native.Nat.{ℕ, zero, suc}
use native.Mathlib.Omega.{arith}
use lib.ListN.{drop, replicate}
use Rattle.whole.specs.Coefficients.{Coefficients, at}
use Rattle.poly.specs.Polynomials.{Same}
use Rattle.poly.specs.Terms.{Above}

module _ {A : Type 0} (C : Coefficients A) where
  pub at-zeros : (n k : ℕ) → at C (replicate n C.none) k ≡ C.none
  at-zeros zero k = refl
  at-zeros (suc n) zero = refl
  at-zeros (suc n) (suc k) = at-zeros n k

  at-padded : (p : List A) (n k : ℕ) → at C (p ++ replicate n C.none) k ≡ at C p k
  at-padded [] n k = at-zeros n k
  at-padded (a ∷ p) n zero = refl
  at-padded (a ∷ p) n (suc k) = at-padded p n k

  pub same-padded : (n : ℕ) (p q : List A) → p ++ replicate n C.none ≡ q → Same C p q
  same-padded n p q e k = sym (at-padded p n k) ∙ ap (λ r. at C r k) e

  pub above_zeros : (m n : ℕ) (q : List A) → drop (suc m) q ≡ replicate n C.none → Above C (at C q) m
  above_zeros m n [] e k h = refl
  above_zeros m n (a ∷ q) e zero h = absurd (omega arith)
  above_zeros zero n (a ∷ q) e (suc k) h = ap (λ r. at C r k) e ∙ at-zeros n k
  above_zeros (suc m) n (a ∷ q) e (suc k) h = above_zeros m n q e k (omega arith)

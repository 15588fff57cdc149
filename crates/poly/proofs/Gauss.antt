-- Gauss's lemma without primes, where common divisors are combinations.
--   gauss                if d divides every coefficient of p q, and only units divide d and all of p, and only units divide d and all of q,
--                        then d is a unit
--   primitive_product    a product of primitive polynomials is primitive
-- By induction on the two lists, a and b the constants of p and q. The common divisor of d and a divides all of p's tail times q, so it is
-- a unit; the common divisor of d and b is one likewise. Since d ∣ a b, the first gives d ∣ b, and the second that d is a unit.
use mathlib.Core.List.{List, [], ◌∷◌}
use Prim.Native.Nat.{zero, suc}
use Rattle.whole.specs.Coefficients.{Coefficients, at, Divides}
use Rattle.poly.specs.Polynomials.{product}
use Rattle.whole.proofs.Divisor.{divides_none, divides_self, divides_trans, common_cons}
use Rattle.whole.proofs.Ring.{Ring}
use Rattle.poly.specs.Terms.{Throughout, IsUnit, Primitive, CoprimeTo}
use Rattle.poly.proofs.Series.{Series, tail, conv, conv-suc, conv_comm}
use Rattle.poly.proofs.Lists.{at-product}
use Rattle.poly.proofs.Divisibility.{Bezout, divides_times, divides_rest, divides_common, divides_cofactor, unit_divisor}

module _ {A : Type 0} {C : Coefficients A} (R : Ring C) (B : Bezout C) where
  -- e divides d: what is coprime to d is coprime to e; where e divides its constant coefficient too, its tail is
  coprime_part : (d e : A) (p : List A) → Divides C e d → CoprimeTo C d p → CoprimeTo C e p
  coprime_part d e p h c t u v = c t (divides_trans R u h) v

  coprime_tail : (d e a : A) (p : List A) → Divides C e d → Divides C e a → CoprimeTo C d (a ∷ p) → CoprimeTo C e p
  coprime_tail d e a p h k c t u v = c t (divides_trans R u h) ((common_cons R t a p).1 (divides_trans R u k, v))

  conv-tail : (d e : A) (f g : Series A) → Divides C e d → Divides C e (f zero) → Throughout C d (conv C f g) → Throughout C e (conv C (tail f) g)
  conv-tail d e f g h k u i = divides_rest R (rw (conv-suc R) at (divides_trans R h (u (suc i)))) (divides_times R k (g (suc i)))

  swapped : (d : A) (f g : Series A) → Throughout C d (conv C f g) → Throughout C d (conv C g f)
  swapped d f g u k = rw (conv_comm R g f k) (u k)

  abbrev Lemma : List A → List A → A → Type 0
  Lemma p q d = CoprimeTo C d p → CoprimeTo C d q → Throughout C d (conv C (at C p) (at C q)) → IsUnit C d

  lemma_cons : (a : A) (p : List A) → ((q : List A) (d : A) → Lemma p q d) → (q : List A) (d : A) → Lemma (a ∷ p) q d
  unfolding conv
  lemma_cons a p ih [] d u v h = v d (divides_self R d) (λ k. divides_none R d)
  lemma_cons a p ih (b ∷ q) d u v h =
      let e = B.common d a in
      let e' = B.common d b in
      let unit : IsUnit C e =
      ih (b ∷ q) e (coprime_tail d e a p (B.left d a) (B.right d a) u) (coprime_part d e (b ∷ q) (B.left d a) v)
      (conv-tail d e (at C (a ∷ p)) (at C (b ∷ q)) (B.left d a) (B.right d a) h) in
      let unit' : IsUnit C e' =
      lemma_cons a p ih q e' (coprime_part d e' (a ∷ p) (B.left d b) u) (coprime_tail d e' b q (B.left d b) (B.right d b) v)
      (swapped e' (at C q) (at C (a ∷ p)) (conv-tail d e' (at C (b ∷ q)) (at C (a ∷ p)) (B.left d b) (B.right d b) (swapped d _ _ h))) in
      unit_divisor R (divides_common R B (divides_self R d) (divides_cofactor R B unit (h zero))) unit'

  lemma : (p q : List A) (d : A) → Lemma p q d
  lemma [] q d u v h = u d (divides_self R d) (λ k. divides_none R d)
  lemma (a ∷ p) q d u v h = lemma_cons a p (λ q d. lemma p q d) q d u v h

  pub gauss : (p q : List A) (d : A) → CoprimeTo C d p → CoprimeTo C d q → Throughout C d (at C (product C p q)) → IsUnit C d
  gauss p q d u v h = lemma p q d u v (λ k. rw (at-product R p q k) at (h k))

  pub primitive_product : (p q : List A) → Primitive C p → Primitive C q → Primitive C (product C p q)
  primitive_product p q u v d h = gauss p q d (λ e _ i. u e i) (λ e _ i. v e i) h

-- More of divisibility in any ring than the crate `whole` has, and rings where common divisors are combinations.
--   divides_times         d ∣ a gives d ∣ a b
--   divides_rest          d ∣ a + b and d ∣ a give d ∣ b
--   unit_of_one           what divides 1 is a unit
--   unit_divisor          what divides a unit is a unit
--   Bezout C              any two numbers a, b have a common divisor a x + b y
--   divides_common        every common divisor divides it
--   divides_cofactor      Euclid's lemma: d ∣ a b gives d ∣ b, where the common divisor of d and a is a unit
use mathlib.Core.Path.{◌≡◌, sym, ap, ap₂, ◌∙◌}
use mathlib.Core.List.{[], ◌∷◌}
use lib.IntN.{pos}
use Rattle.whole.specs.Coefficients.{Coefficients, Divides}
use Rattle.whole.proofs.Divisor.{divides_self, divides_plus, divides_multiple, divides_trans}
use Rattle.whole.proofs.Ring.{Ring}
use Rattle.whole.proofs.Solver.{var, ◌:+◌, ◌:-◌, ◌:*◌, solve, atoms, ring, read}
use Rattle.poly.specs.Terms.{IsUnit}

pub record Bezout {A : Type 0} (C : Coefficients A) : Type 0 where
  pub common : A → A → A
  pub left : (a b : A) → Divides C (common a b) a
  pub right : (a b : A) → Divides C (common a b) b
  pub combined : (a b : A) → (x : A) × (y : A) × (C.plus (C.times a x) (C.times b y) ≡ common a b)

module _ {A : Type 0} {C : Coefficients A} (R : Ring C) where
  open C use {plus as ◌⊕◌, times as ◌⊗◌}

  infixl 60 ◌⊕◌
  infixl 70 ◌⊗◌
  pub divides_times : {d a : A} → Divides C d a → (b : A) → Divides C d (a ⊗ b)
  divides_times h b = rw (R.times_comm b _) at (divides_multiple R b h)

  pub divides_rest : {d a b : A} → Divides C d (a ⊕ b) → Divides C d a → Divides C d b
  divides_rest {d} {a} {b} h k = record {
    factor = h.factor ⊕ R.negative k.factor;
    is =
        solve R (d ∷ h.factor ∷ k.factor ∷ []) (var 0 :* (var 1 :- var 2)) (var 0 :* var 1 :- var 0 :* var 2) tt
        ∙ ap₂ (λ x y. x ⊕ R.negative y) h.is k.is
        ∙ solve R (a ∷ b ∷ []) (var 0 :+ var 1 :- var 0) (var 1) tt;
  }

  -- ---- units
  pub unit_of_one : {u : A} → Divides C u (R.number (pos 1)) → IsUnit C u
  unit_of_one h x = rw (R.times_comm _ x ∙ R.times_one x) at (divides_times h x)

  pub unit_divisor : {d u : A} → Divides C d u → IsUnit C u → IsUnit C d
  unit_divisor h v x = divides_trans R h (v x)

module _ {A : Type 0} {C : Coefficients A} (R : Ring C) (B : Bezout C) where
  open C use {plus as ◌⊕◌, times as ◌⊗◌}

  infixl 60 ◌⊕◌
  infixl 70 ◌⊗◌
  pub divides_common : {d a b : A} → Divides C d a → Divides C d b → Divides C d (B.common a b)
  divides_common {d} {a} {b} h k =
      let (x, y, e) = B.combined a b in rw e at (divides_plus R (divides_times R h x) (divides_times R k y))

  expanded : (d a b x y v : A) → (d ⊗ x ⊕ a ⊗ y) ⊗ v ⊗ b ≡ d ⊗ (x ⊗ v ⊗ b) ⊕ a ⊗ b ⊗ (y ⊗ v)
  expanded d a b x y v = atoms R (d ∷ a ∷ b ∷ x ∷ y ∷ v ∷ []) (λ ρ e. simp (e 0, e 1, e 2, e 3, e 4, e 5, read) (ring R ρ _ _ tt))

  pub divides_cofactor : {d a b : A} → IsUnit C (B.common d a) → Divides C d (a ⊗ b) → Divides C d b
  divides_cofactor {d} {a} {b} u h =
      let (x, y, e) = B.combined d a in
      let v = u (R.number (pos 1)) in
      rw (sym (expanded d a b x y v.factor) ∙ ap (λ t. t ⊗ v.factor ⊗ b) e ∙ ap (λ t. t ⊗ b) v.is ∙ R.times_comm _ b ∙ R.times_one b)
      at (divides_plus R (divides_times R (divides_self R d) (x ⊗ v.factor ⊗ b)) (divides_times R h (y ⊗ v.factor)))

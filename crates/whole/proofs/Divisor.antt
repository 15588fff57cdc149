-- Divisors in any ring, and greatest common divisors as "the same common divisors".
--   divides_self, divides_none, divides_plus, divides_multiple, divides_negative, divides_trans
--   Common d p             d divides every coefficient of p; common_nil, common_cons, common_two take a list apart
--   greatest_says          a greatest common divisor of p has just the divisors that p has in common
--   greatest_is            and what has just those is one
--   division_common        Euclid's step: x and y have the common divisors of y and r, where x = q y + r
-- At ℤ:
--   divides_abs            a number and its absolute value have the same divisors
--   divides_le             a divisor of a number other than 0 is no larger
--   greatest_once          a list has one greatest common divisor that is not negative
use mathlib.Core.Path.{◌≡◌, sym, ap, ap₂, ◌∙◌, subst}
use mathlib.Core.List.{List, [], ◌∷◌}
use mathlib.Core.Logic.Iff
use mathlib.Core.Logic.{◌≢◌, ◌↔◌}
use Prim.Native.Nat.{ℕ, zero, suc, ◌*◌, ◌≤◌}
use native.Mathlib.Nat.{suc-ne-zero}
use native.Mathlib.Omega.{arith}
use lib.IntN.{ℤ, pos, negsuc, nat_abs, zero-*ℤ}
use Rattle.whole.specs.Coefficients.{Coefficients, at, Divides, Greatest}
use Rattle.whole.specs.Number.{wholes}
use Rattle.whole.proofs.Integers.{abs_times, abs_zero}
use Rattle.whole.proofs.Ring.{Ring, times_none}
use Rattle.whole.proofs.Solver.{atoms, read, ring}
use Rattle.whole.proofs.Wholes.{wholes_ring}

module _ {A : Type 0} {C : Coefficients A} (R : Ring C) where
  open C use {none as 𝟎, plus as ◌⊕◌, times as ◌⊗◌}

  infixl 60 ◌⊕◌
  infixl 70 ◌⊗◌
  pub divides_self : (a : A) → Divides C a a
  divides_self a = record { factor = R.number (pos 1); is = R.times_one a }

  pub divides_none : (d : A) → Divides C d 𝟎
  divides_none d = record { factor = 𝟎; is = times_none R d }

  pub divides_plus : {d a b : A} → Divides C d a → Divides C d b → Divides C d (a ⊕ b)
  divides_plus {d} h k = record { factor = h.factor ⊕ k.factor; is = R.times_plus d h.factor k.factor ∙ ap₂ ◌⊕◌ h.is k.is }

  pub divides_multiple : {d a : A} (b : A) → Divides C d a → Divides C d (b ⊗ a)
  divides_multiple {d} b h = record { factor = b ⊗ h.factor; is = turn d b h.factor ∙ ap (λ x. b ⊗ x) h.is }
    where
      turn : (d b k : A) → d ⊗ (b ⊗ k) ≡ b ⊗ (d ⊗ k)
      turn d b k = atoms R (d ∷ b ∷ k ∷ []) (λ ρ e. simp (e 0, e 1, e 2, read) (ring R ρ _ _ tt))

  pub divides_negative : {d a : A} → Divides C d a → Divides C d (R.negative a)
  divides_negative {d} h = record { factor = R.negative h.factor; is = turn d h.factor ∙ ap R.negative h.is }
    where
      turn : (d k : A) → d ⊗ R.negative k ≡ R.negative (d ⊗ k)
      turn d k = atoms R (d ∷ k ∷ []) (λ ρ e. simp (e 0, e 1, read) (ring R ρ _ _ tt))

  pub divides_trans : {c d a : A} → Divides C c d → Divides C d a → Divides C c a
  divides_trans {c} h k = record { factor = h.factor ⊗ k.factor; is = sym (R.times_assoc c h.factor k.factor) ∙ ap (λ x. x ⊗ k.factor) h.is ∙ k.is }

  abbrev pub Common : A → List A → Type 0
  Common d p = (k : ℕ) → Divides C d (at C p k)

  pub common_nil : (d : A) → Common d []
  common_nil d k = divides_none d

  pub common_cons : (d a : A) (p : List A) → Common d (a ∷ p) ↔ (Divides C d a × Common d p)
  common_cons d a p = (λ h. (h zero, λ k. h (suc k)), λ h. put h.0 h.1)
    where
      put : Divides C d a → Common d p → Common d (a ∷ p)
      put h hs zero = h
      put h hs (suc k) = hs k

  pub common_two : (d a b : A) → Common d (a ∷ b ∷ []) ↔ (Divides C d a × Divides C d b)
  common_two d a b = (λ h. (h 0, h 1), λ h. (common_cons d a (b ∷ [])).1 (h.0, (common_cons d b []).1 (h.1, common_nil d)))

  pub greatest_says : {p : List A} {c : A} → Greatest C p c → (d : A) → Divides C d c ↔ Common d p
  greatest_says g d = (λ h k. divides_trans h (g.divides k), g.greatest d)

  pub greatest_is : {p : List A} {c : A} → ((d : A) → Divides C d c ↔ Common d p) → Greatest C p c
  greatest_is {c} h = record { divides = (h c).0 (divides_self c); greatest = λ d. (h d).1 }

  pub division_common : {x y q r : A} → q ⊗ y ⊕ r ≡ x → (d : A) → (Divides C d y × Divides C d r) ↔ (Divides C d x × Divides C d y)
  division_common {x} {y} {q} {r} e d =
      (λ h. (subst (Divides C d) e (divides_plus (divides_multiple q h.0) h.1), h.0), λ h. (h.1, subst (Divides C d) rest (divides_plus h.0 (divides_multiple (R.negative q) h.1))))
    where
      left : (q y r : A) → (q ⊗ y ⊕ r) ⊕ R.negative q ⊗ y ≡ r
      left q y r = atoms R (q ∷ y ∷ r ∷ []) (λ ρ e. simp (e 0, e 1, e 2, read) (ring R ρ _ _ tt))

      rest : x ⊕ R.negative q ⊗ y ≡ r
      rest = ap (λ z. z ⊕ R.negative q ⊗ y) (sym e) ∙ left q y r

-- ---- at ℤ
pub divides_abs : (d x : ℤ) → Divides wholes d (pos (nat_abs x)) ↔ Divides wholes d x
divides_abs d (pos n) = Iff.rfl
divides_abs d (negsuc n) = (divides_negative wholes_ring, divides_negative wholes_ring)

pub divides_le : {d x : ℤ} → Divides wholes d x → x ≢ pos 0 → nat_abs d ≤ nat_abs x
divides_le {d} {x} k h = by (nat_abs k.factor) (sym (abs_times d k.factor) ∙ ap nat_abs k.is)
  where
    by : (m : ℕ) → nat_abs d * m ≡ nat_abs x → nat_abs d ≤ nat_abs x
    by zero f = absurd (h (abs_zero x (omega arith)))
    by (suc m) f = omega arith

pub greatest_once : {p : List ℤ} {g h : ℕ} → Greatest wholes p (pos g) → Greatest wholes p (pos h) → g ≡ h
greatest_once {g} {h} u v = by g h (v.greatest (pos g) u.divides) (u.greatest (pos h) v.divides)
  where
    none : {n : ℕ} → Divides wholes (pos 0) (pos n) → n ≡ 0
    none k = ap nat_abs (sym k.is ∙ zero-*ℤ k.factor)

    by : (g h : ℕ) → Divides wholes (pos g) (pos h) → Divides wholes (pos h) (pos g) → g ≡ h
    by zero h u v = sym (none u)
    by (suc g) zero u v = none v
    by (suc g) (suc h) u v = omega (arith, divides_le u (λ e. suc-ne-zero h (ap nat_abs e)), divides_le v (λ e. suc-ne-zero g (ap nat_abs e)))

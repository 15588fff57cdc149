-- Euclid's algorithm: where a division leaves a smaller remainder, common divisors are combinations.
--   Euclid C             every a is q b + r, for b other than 0, with r of smaller size than b; and 0 is told from other numbers
--   CommonOf, common_of  then any two numbers a, b have a common divisor a x + b y
--   euclid_bezout        which makes the ring one of Bezout
use mathlib.Core.Path.{◌≡◌, sym, ap, ap₂, ◌∙◌}
use mathlib.Core.List.{[], ◌∷◌}
use mathlib.Core.Logic.{◌≢◌}
use Prim.Native.Nat.{ℕ, zero, suc, ◌<◌}
use native.Mathlib.Nat.{lt-suc_self}
use native.Mathlib.Omega.{arith}
use lib.IntN.{pos}
use Rattle.whole.specs.Coefficients.{Coefficients, Divides}
use Rattle.whole.proofs.Divisor.{divides_none, divides_self, divides_plus, divides_multiple}
use Rattle.whole.proofs.Ring.{Ring, times_none}
use Rattle.whole.proofs.Solver.{atoms, ring, read}
use Rattle.poly.proofs.Divisibility.{Bezout}

pub record Euclid {A : Type 0} (C : Coefficients A) : Type 0 where
  pub zero? : (a : A) → Dec (a ≡ C.none)
  pub size : A → ℕ
  pub divided : (a b : A) → b ≢ C.none → (q : A) × (r : A) × (C.plus (C.times q b) r ≡ a) × (size r < size b)

pub record CommonOf {A : Type 0} (C : Coefficients A) (a b : A) : Type 0 where
  pub common : A
  pub left : Divides C common a
  pub right : Divides C common b
  pub combined : (x : A) × (y : A) × (C.plus (C.times a x) (C.times b y) ≡ common)

module _ {A : Type 0} {C : Coefficients A} (R : Ring C) (E : Euclid C) where
  open C use {none as 𝟎, plus as ◌⊕◌, times as ◌⊗◌}

  infixl 60 ◌⊕◌
  infixl 70 ◌⊗◌
  common_with_none : (a b : A) → b ≡ 𝟎 → CommonOf C a b
  common_with_none a b z = record {
    common = a;
    left = divides_self R a;
    right = rw z (divides_none R a);
    combined = (R.number (pos 1), 𝟎, ap₂ ◌⊕◌ (R.times_one a) (times_none R b) ∙ R.plus_none a);
  }

  -- b x + r y, where r is a less q b
  regrouped : (b q r x y : A) → (q ⊗ b ⊕ r) ⊗ y ⊕ b ⊗ (x ⊕ R.negative (q ⊗ y)) ≡ b ⊗ x ⊕ r ⊗ y
  regrouped b q r x y = atoms R (b ∷ q ∷ r ∷ x ∷ y ∷ []) (λ ρ e. simp (e 0, e 1, e 2, e 3, e 4, read) (ring R ρ _ _ tt))

  common_with_rest : (a b q r : A) → q ⊗ b ⊕ r ≡ a → CommonOf C b r → CommonOf C a b
  common_with_rest a b q r e c =
      let (x, y, f) = c.combined in
      record {
        common = c.common;
        left = rw e at (divides_plus R (divides_multiple R q c.left) c.right);
        right = c.left;
        combined = (y, x ⊕ R.negative (q ⊗ y), ap (λ t. t ⊗ y ⊕ b ⊗ (x ⊕ R.negative (q ⊗ y))) (sym e) ∙ regrouped b q r x y ∙ f);
      }

  -- n is above the size of b, which falls with each division
  common-below : (n : ℕ) (a b : A) → E.size b < n → CommonOf C a b
  common-below zero a b h = absurd (omega arith)
  common-below (suc n) a b h = step (E.zero? b) (λ r k. common-below n b r k)
    where
      step : Dec (b ≡ 𝟎) → ((r : A) → E.size r < n → CommonOf C b r) → CommonOf C a b
      step (yes z) ih = common_with_none a b z
      step (no s) ih = let (q, r, e, k) = E.divided a b s in common_with_rest a b q r e (ih r (omega arith))

  pub common_of : (a b : A) → CommonOf C a b
  common_of a b = common-below (suc (E.size b)) a b (lt-suc_self (E.size b))

  abbrev pub euclid_bezout : Bezout C
  euclid_bezout = record {
    common = λ a b. (common_of a b).common;
    left = λ a b. (common_of a b).left;
    right = λ a b. (common_of a b).right;
    combined = λ a b. (common_of a b).combined;
  }

-- The units among pairs, and that i is no square of a quotient.
--   unit-norm, norm-unit      the units are the pairs of norm 1,
--   FourUnits, unit-is        which are 1, −1, i and −i
--   no_imaginary-square       no s and s' ≠ 0 have s² = i s'², or s² = −i s'²
use mathlib.Core.Path.{◌≡◌, refl, sym, ap, ap₂, ◌∙◌}
use mathlib.Core.List.{[], ◌∷◌}
use mathlib.Core.Logic.{◌≢◌, ◌⊎◌, inl, inr, ⊎_elim}
use Prim.Native.Nat.{ℕ, zero, suc, ◌+◌, ◌*◌}
use native.Mathlib.Nat.{one-mul}
use native.Mathlib.Omega.{arith}
use lib.IntN.{ℤ, pos, nat_abs, ◌+ℤ◌, ◌-ℤ◌, ◌*ℤ◌, +ℤ_idl, *ℤ_comm, *ℤ-zero, zero-*ℤ}
use Rattle.whole.specs.Number.{wholes}
use Rattle.whole.specs.Coefficients.{Coefficients}
use Rattle.whole.proofs.Integers.{abs_times, abs_zero, abs_one}
use Rattle.whole.proofs.Ring.{Ring, zero-difference}
use Rattle.whole.proofs.Linear.{linear, plus_parts, abs_parts, one-part}
use Rattle.whole.proofs.Order.{nonneg_is}
use Rattle.whole.proofs.Wholes.{wholes_ring}
use Rattle.whole.proofs.Solver.{var, ◌:*◌, solve}
use Rattle.poly.specs.Terms.{IsUnit}
use Rattle.poly.proofs.Divisibility.{unit_of_one}
use Rattle.poly.proofs.RootTwo.{square-not-twice}
use Rattle.poly.proofs.Wholes.{whole-unit}
use Rattle.pair.specs.declared.Pair.{Pair}
use Rattle.pair.specs.Pairs.{pair, pairs, negative, times, conjugate, norm, one, imaginary}
use Rattle.pair.proofs.Parts.{pair-equal}
use Rattle.pair.proofs.Laws.{pairs_ring, number_times, norm-times, times-conjugate, square-size, root-equal, norm-size, norm_nonneg, norm-zero}

-- ---- units
pub unit-norm : {u : Pair} → IsUnit pairs u → norm u ≡ pos 1
unit-norm {u} h =
    let v = h one in
    let w : IsUnit wholes (norm u) = unit_of_one wholes_ring (record { factor = norm v.factor; is = sym (norm-times u v.factor) ∙ ap norm v.is }) in
    nonneg_is (norm_nonneg u) ∙ ap pos (whole-unit w)

pub norm-unit : (u : Pair) → norm u ≡ pos 1 → IsUnit pairs u
norm-unit u e = unit_of_one pairs_ring (record { factor = conjugate u; is = times-conjugate u ∙ ap (λ n. pair n (pos 0)) e })

one-square : (m n : ℕ) → m * m + n * n ≡ 1 → ((m ≡ 1) × (n ≡ 0)) ⊎ ((m ≡ 0) × (n ≡ 1))
one-square zero zero e = absurd (omega arith)
one-square zero (suc zero) e = inr (refl, refl)
one-square zero (suc (suc n)) e = absurd (omega arith)
one-square (suc zero) zero e = inl (refl, refl)
one-square (suc zero) (suc n) e = absurd (omega arith)
one-square (suc (suc m)) n e = absurd (omega arith)

pub data FourUnits (u : Pair) : Type 0 where
  plus_one : u ≡ one → FourUnits u
  minus_one : u ≡ negative one → FourUnits u
  plus_i : u ≡ imaginary → FourUnits u
  minus_i : u ≡ negative imaginary → FourUnits u

pub unit-is : {u : Pair} → IsUnit pairs u → FourUnits u
unit-is {u} h = ⊎_elim real unreal (one-square (nat_abs u.re) (nat_abs u.im) (ap nat_abs (sym (norm-size u) ∙ unit-norm h)))
  where
    real : (nat_abs u.re ≡ 1) × (nat_abs u.im ≡ 0) → FourUnits u
    real e = let z = abs_zero u.im e.1 in ⊎_elim (λ f. plus_one (pair-equal f z)) (λ f. minus_one (pair-equal f z)) (abs_one u.re e.0)

    unreal : (nat_abs u.re ≡ 0) × (nat_abs u.im ≡ 1) → FourUnits u
    unreal e = let z = abs_zero u.re e.0 in ⊎_elim (λ f. plus_i (pair-equal z f)) (λ f. minus_i (pair-equal z f)) (abs_one u.im e.1)

-- ---- i is no square of a quotient
module _ {A : Type 0} {C : Coefficients A} (R : Ring C) where
  open C use {times as ◌⊗◌}

  infixl 70 ◌⊗◌
  square-times : (a b c v : A) → a ⊗ a ≡ v ⊗ (b ⊗ b) → a ⊗ c ⊗ (a ⊗ c) ≡ v ⊗ (b ⊗ c ⊗ (b ⊗ c))
  square-times a b c v e =
      solve R (a ∷ c ∷ []) (var 0 :* var 1 :* (var 0 :* var 1)) (var 0 :* var 0 :* (var 1 :* var 1)) tt
      ∙ ap (λ t. t ⊗ (c ⊗ c)) e
      ∙ solve R (b ∷ c ∷ v ∷ []) (var 2 :* (var 0 :* var 0) :* (var 1 :* var 1)) (var 2 :* (var 0 :* var 1 :* (var 0 :* var 1))) tt

-- t = x + iy with t² = v m, where v is i or −i: x² = y², and 2 |x y| = |m|
module _ (t v : Pair) (m : ℤ) (re : v.re ≡ pos 0) (im : nat_abs v.im ≡ 1) (e : times t t ≡ times v (pair m (pos 0))) where
  abbrev X : ℕ
  X = nat_abs t.re

  abbrev Y : ℕ
  Y = nat_abs t.im

  none : (times t t).re ≡ pos 0
  none = ap (λ z. z.re) e ∙ ap₂ ◌-ℤ◌ (ap (λ x. x *ℤ m) re ∙ zero-*ℤ m) (*ℤ-zero v.im)

  same_size : X ≡ Y
  same_size =
      root-equal X Y (ap nat_abs (sym (square-size t.re) ∙ zero-difference wholes_ring (t.re *ℤ t.re) (t.im *ℤ t.im) none ∙ square-size t.im))

  double_size : nat_abs (t.re *ℤ t.im +ℤ t.im *ℤ t.re) ≡ 2 * (X * Y)
  double_size = ap (λ y. nat_abs (t.re *ℤ t.im +ℤ y)) (*ℤ_comm t.im t.re) ∙ twice (t.re *ℤ t.im) ∙ ap (λ k. 2 * k) (abs_times t.re t.im)
    where
      twice : (z : ℤ) → nat_abs (z +ℤ z) ≡ 2 * nat_abs z
      twice z = omega (linear, plus_parts z z, abs_parts z, abs_parts (z +ℤ z), one-part z, one-part (z +ℤ z))

  size : nat_abs m ≡ 2 * (X * X)
  size =
      let f : nat_abs (times v (pair m (pos 0))).im ≡ nat_abs m = ap nat_abs (ap (λ x. x +ℤ v.im *ℤ m) (*ℤ-zero v.re) ∙ +ℤ_idl (v.im *ℤ m)) ∙ abs_times v.im m ∙ ap (λ k. k * nat_abs m) im ∙ one-mul (nat_abs m) in
      sym f ∙ ap (λ z. nat_abs z.im) (sym e) ∙ double_size ∙ ap (λ y. 2 * (X * y)) (sym same_size)

-- s² = v s'² gives t² = v n², where t = s conj(s') and n = |s'|²
denominator_zero : (v s s' : Pair) → v.re ≡ pos 0 → nat_abs v.im ≡ 1 → times s s ≡ times v (times s' s') → s' ≡ pairs.none
denominator_zero v s s' re im e =
    norm-zero s' (abs_zero n (square-not-twice (nat_abs n) (nat_abs t.re) (sym (abs_times n n) ∙ size t v (n *ℤ n) re im squared)))
  where
    n : ℤ
    n = norm s'

    t : Pair
    t = times s (conjugate s')

    squared : times t t ≡ times v (pair (n *ℤ n) (pos 0))
    squared = square-times pairs_ring s s' (conjugate s') v e ∙ ap (λ z. times v (times z z)) (times-conjugate s') ∙ ap (times v) (sym (number_times n n))

pub no_imaginary-square : (s s' : Pair) → s' ≢ pairs.none → (times s s ≢ times imaginary (times s' s')) × (times s s ≢ times (negative imaginary) (times s' s'))
no_imaginary-square s s' h = (λ e. h (denominator_zero imaginary s s' refl refl e), λ e. h (denominator_zero (negative imaginary) s s' refl refl e))

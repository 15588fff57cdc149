-- The points of a curve as powers of t: r' = n D, for any number of points.
--   derivative          the coefficients of r' are n times those of D
--   start-within, power_form-within    sizes: for a curve in range no coefficient of r is larger than 1,600,000, by parts
use mathlib.Core.Path.{◌≡◌, sym, ap, ◌∙◌, subst}
use mathlib.Core.List.{List, [], ◌∷◌}
use Prim.Native.Nat.{ℕ, zero, suc, ◌*◌, ◌-◌, ◌≤◌}
use native.Mathlib.Nat.{mul-le-mul}
use native.Mathlib.Omega.{arith}
use lib.IntN.{ℤ, pos, nat_abs, ◌*ℤ◌}
use lib.ListN.{length}
use Rattle.whole.specs.Coefficients.{at}
use Rattle.whole.specs.Number.{Within}
use Rattle.whole.proofs.Integers.{abs_times}
use Rattle.pair.specs.declared.Pair.{Pair}
use Rattle.pair.specs.Pairs.{pairs, multiple, PartsWithin}
use Rattle.pair.proofs.Parts.{zero-within, wider, re-equal, im-equal}
use Rattle.bernstein.specs.Binomials.{choose}
use Rattle.bernstein.specs.Powers.{power_form}
use Rattle.bernstein.proofs.PowerForms.{power_form-start, power_form-derived}
use Rattle.curve.specs.Curves.{InRange, leg_polynomial}
use Rattle.curve.proofs.Sizes.{leg_size, leg_polynomial-sizes}

pub derivative : (ps : List Pair) (k : ℕ) → multiple (pos (suc k)) (at pairs (power_form ps) (suc k)) ≡ multiple (pos (length ps - 1)) (at pairs (leg_polynomial ps) k)
unfolding leg_polynomial
derivative ps k = power_form-derived ps k

-- ---- sizes
pub start-within : (ps : List Pair) → InRange ps → PartsWithin 20000 (at pairs ps 0)
start-within [] r = zero-within
start-within (p ∷ ps) r = r.0

module _ (ps : List Pair) (r : InRange ps) (l : length ps ≤ 6) where
  -- a part of (k + 1) x = n d, with n at most 5
  quotient-within : (k B : ℕ) (x d : ℤ) → pos (suc k) *ℤ x ≡ pos (length ps - 1) *ℤ d → Within B d → suc k * nat_abs x ≤ 5 * B
  quotient-within k B x d e h =
      let n : length ps - 1 ≤ 5 = omega arith in
      omega (arith, sym (abs_times (pos (suc k)) x) ∙ ap nat_abs e ∙ abs_times (pos (length ps - 1)) d, mul-le-mul n h.size)

  quotient-most : (k : ℕ) (y : ℕ) → suc k * y ≤ 5 * leg_size k → y ≤ 1600000
  unfolding choose
  quotient-most zero y h = omega arith
  quotient-most (suc zero) y h = omega arith
  quotient-most (suc (suc zero)) y h = omega arith
  quotient-most (suc (suc (suc zero))) y h = omega arith
  quotient-most (suc (suc (suc (suc zero)))) y h = omega arith
  quotient-most (suc (suc (suc (suc (suc k))))) y h = omega arith

  pub power_form-within : (k : ℕ) → PartsWithin 1600000 (at pairs (power_form ps) k)
  power_form-within zero = subst (PartsWithin 1600000) (sym (power_form-start ps)) (wider (omega arith) (start-within ps r))
  power_form-within (suc k) =
      let x = at pairs (power_form ps) (suc k) in
      let d = at pairs (leg_polynomial ps) k in
      let s = leg_polynomial-sizes ps r l k in
      let e = derivative ps k in
      record {
        re = record { size = quotient-most k (nat_abs x.re) (quotient-within k (leg_size k) x.re d.re (re-equal e) s.re) };
        im = record { size = quotient-most k (nat_abs x.im) (quotient-within k (leg_size k) x.im d.im (im-equal e) s.im) };
      }

-- `divisor::candidate` meets its contract: the half of n + x is the square of a root's first part; the second is y over twice that, or the root of the half of n − x.
use mathlib.Core.Path.{◌≡◌, refl, sym, ap, ◌∙◌}
use mathlib.Core.Logic.{◌≢◌}
use Prim.Native.Nat.{ℕ, ◌^◌, ◌*◌}
use native.Mathlib.Nat.{le_trans, le_of_eq, div-le_self}
use native.Mathlib.Omega.{arith}
use lib.Dec.{lit<, lit≤}
use lib.IntN.{ℤ, pos, nat_abs, ◌+ℤ◌, ◌-ℤ◌, ◌*ℤ◌}
use lib.Signed.{quot_z, ◌<ℤ◌}
use mir.Facts.{sfits_lit}
use mir.Syntax.{w64}
use mir.Val.{to_z, of_z}
use Rattle.whole.specs.Number.{Within}
use Rattle.whole.proofs.Integers.{abs_zero}
use Rattle.whole.proofs.Wholes.{readℤ, read_pos}
use Rattle.whole.proofs.Linear.{linear, abs_parts, one-part}
use Rattle.whole.proofs.Order.{positive_times}
use Rattle.whole.proofs.Division.{abs_quotient}
use Rattle.whole.proofs.Machine.{same_bits}
use Rattle.whole.proofs.Bound.{done, ◌▸◌, bounds, within, fits_within, read_back}
use Rattle.pair.specs.declared.Pair.{Pair}
use Rattle.pair.specs.Pairs.{times, norm, PartsWithin}
use Rattle.divisor.specs.Steps.{HalfRoot}
use Rattle.divisor.proofs.Halves.{half_small, half_nonneg, half-found, norm-root_small, plus_nonneg, minus_nonneg, half-plus, half-minus, root_of_zero, quotient_nonneg, root_by_quotient}
use Rattle.divisor.proofs.candidate.Goals as goal

-- what the machine reads of a number
abbrev rd : ℤ → ℤ
rd x = to_z w64 (of_z w64 x)

-- n is the size of z
module _ (z : Pair) (n : ℕ) (o : PartsWithin (2 ^ 30) z × (pos (n * n) ≡ norm z)) where
  n_within : Within (2 ^ 31) (pos n)
  n_within = norm-root_small z n o.1 o.0

  n-is : to_z w64 n ≡ pos n
  n-is = read_back tt n_within

  x-is : rd z.re ≡ z.re
  x-is = read_back tt o.0.re

  y-is : rd z.im ≡ z.im
  y-is = read_back tt o.0.im

  plus-within : Within (2 ^ 32) (pos n +ℤ z.re)
  plus-within = bounds (n_within ▸ o.0.re ▸ done) (λ ρ e k. simp (e 0, e 1, readℤ) (within k _ refl))

  minus-within : Within (2 ^ 32) (pos n -ℤ z.re)
  minus-within = bounds (n_within ▸ o.0.re ▸ done) (λ ρ e k. simp (e 0, e 1, readℤ) (within k _ refl))

  -- u is the whole root of the half of n + x
  module _ (u : ℤ) (h : HalfRoot (rd (to_z w64 n +ℤ rd z.re)) u) where
    u-root : HalfRoot (pos n +ℤ z.re) u
    u-root = rw (n-is, x-is, read_back tt plus-within) at h

    u_small : Within (2 ^ 16) u
    u_small = half_small plus-within u-root

    u-is : rd u ≡ u
    u-is = read_back tt u_small

    -- the first part of a root, but for its sign
    u-found : (r : Pair) → times r r ≡ z → u ≡ pos (nat_abs r.re)
    u-found r f = half-found u-root (nat_abs r.re) (sym (half-plus z n o.1 r f))

    -- where it is not 0, y over twice it
    module _ (some : of_z w64 u ≡ of_z w64 (pos 0) → ⊥) where
      abbrev d : ℤ
      d = u *ℤ pos 2

      abbrev v : ℤ
      v = quot_z z.im d

      positive : pos 0 <ℤ u
      positive = let k = half_nonneg u-root in let m : nat_abs u ≢ 0 = (λ e. some (ap (of_z w64) (abs_zero u e))) in omega (linear, abs_parts u, one-part u)

      divisor : pos 0 <ℤ d
      divisor = positive_times positive (omega linear)

      d-within : Within (2 ^ 17) d
      d-within = bounds (u_small ▸ done) (λ ρ e k. simp (e 0, readℤ, read_pos ρ 2) (within k _ refl))

      d-is : rd d ≡ d
      d-is = read_back tt d-within

      v-within : Within (2 ^ 30) v
      v-within = record { size = le_trans (le_of_eq (abs_quotient z.im d)) (le_trans (div-le_self (nat_abs z.im) (nat_abs d)) o.0.im.size) }

pub overflow_add-size : goal.overflow_add-size
overflow_add-size c =
    let z = c.args.z in
    let n = c.args.n in
    let o = c.requires in
    rw (n-is z n o, x-is z n o) (fits_within (lit< tt) (plus-within z n o))

pub half_root-re-requires : goal.half_root-re-requires
half_root-re-requires c =
    let z = c.args.z in
    let n = c.args.n in
    let o = c.requires in
    rw (n-is z n o, x-is z n o, read_back tt (plus-within z n o)) (plus_nonneg z n o.1, plus-within z n o)

pub half_root-im-requires : goal.half_root-im-requires
half_root-im-requires c =
    let z = c.args.z in
    let n = c.args.n in
    let o = c.requires in
    rw (n-is z n o, x-is z n o, read_back tt (minus-within z n o)) (minus_nonneg z n o.1, minus-within z n o)

pub overflow_mul-im : goal.overflow_mul-im
overflow_mul-im c =
    let z = c.args.z in
    let n = c.args.n in
    let o = c.requires in
    let u = c.half_root-re.result in
    let h = c.half_root-re.ensures in
    rw (u-is z n o u h) (fits_within (lit< tt) (d-within z n o u h c.if-re-eq0.false))

pub returns-then-re-eq0 : goal.returns-then-re-eq0
returns-then-re-eq0 c =
    let z = c.args.z in
    let n = c.args.n in
    let o = c.requires in
    let u = c.half_root-re.result in
    let h = c.half_root-re.ensures in
    let v-root : HalfRoot (pos n -ℤ z.re) c.half_root-im.result = rw (n-is z n o, x-is z n o, read_back tt (minus-within z n o)) at c.half_root-im.ensures in
    let v_small = half_small (minus-within z n o) v-root in
    let none : u ≡ pos 0 = same_bits (fits_within (lit< tt) (u_small z n o u h)) (sfits_lit tt) c.if-re-eq0.true in
    rw (u-is z n o u h, none, read_back tt v_small)
    (record {
      small = record { re = record { size = omega arith }; im = record { size = le_trans v_small.size (lit≤ tt) } };
      first = omega linear;
      second = λ k. half_nonneg v-root;
      finds = λ r f. root_of_zero r (abs_zero r.re (ap nat_abs (sym (u-found z n o u h r f) ∙ none))) (half-found v-root (nat_abs r.im) (sym (half-minus z n o.1 r f))) ∙ f;
    })

pub returns-else-re-eq0 : goal.returns-else-re-eq0
returns-else-re-eq0 c =
    let z = c.args.z in
    let n = c.args.n in
    let o = c.requires in
    let u = c.half_root-re.result in
    let h = c.half_root-re.ensures in
    let some = c.if-re-eq0.false in
    rw (u-is z n o u h, y-is z n o, d-is z n o u h some, read_back tt (v-within z n o u h some))
    (record {
      small = record { re = record { size = le_trans (u_small z n o u h).size (lit≤ tt) }; im = v-within z n o u h some };
      first = half_nonneg (u-root z n o u h);
      second = λ k. quotient_nonneg k (divisor z n o u h some);
      finds = λ r f. root_by_quotient r f (u-found z n o u h r f) (positive z n o u h some);
    })

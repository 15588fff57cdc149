-- `divisor::rounded` meets its contract.
use mathlib.Core.Path.{◌≡◌}
use Prim.Native.Nat.{◌^◌, ◌+◌, ◌*◌}
use native.Mathlib.Nat.{div-le_self, lt_of_le_of_lt}
use native.Mathlib.Omega.{arith}
use borrow.Author.Rules.{rules}
use lib.Dec.{lit<}
use lib.IntN.{ℤ, pos, nat_abs, ◌+ℤ◌, ◌*ℤ◌}
use lib.Signed.{quot_z, shr_z, mag_shr, ◌<ℤ◌}
use mir.Syntax.{w64}
use mir.Val.{SFits, to_z, of_z}
use mir.ValLaws.{to_z-of_z}
use Rattle.whole.specs.Number.{Within}
use Rattle.whole.proofs.Bound.{abs_plus, fits_within, read_back}
use Rattle.whole.proofs.Division.{abs_quotient}
use Rattle.pair.proofs.Parts.{pair-equal}
use Rattle.divisor.specs.Steps.{rounded}
use Rattle.divisor.proofs.Rounding.{scaled-within}
use Rattle.divisor.proofs.rounded.Goals as goal

-- d, by which is divided, and a part x of what is divided
module _ (d : ℤ) (p : pos 0 <ℤ d) where
  abbrev r : ℤ
  r = quot_z (pos (2 ^ 42)) d

  r_small : Within (2 ^ 42) r
  r_small = record { size = omega (arith, abs_quotient (pos (2 ^ 42)) d, div-le_self (2 ^ 42) (nat_abs d)) }

  module _ (x : ℤ) (h : Within (2 ^ 20 * nat_abs d) x) where
    product_small : Within (2 ^ 62) (x *ℤ r)
    product_small = scaled-within d p x h

    sum_small : Within (2 ^ 62 + 2 ^ 41) (x *ℤ r +ℤ pos (2 ^ 41))
    sum_small = record { size = omega (arith, product_small.size, abs_plus (x *ℤ r) (pos (2 ^ 41))) }

    shift_fits : SFits w64 (rounded x d)
    shift_fits = record { sfits = lt_of_le_of_lt (mag_shr (x *ℤ r +ℤ pos (2 ^ 41)) (2 ^ 42)) (fits_within {w = w64} (lit< tt) sum_small).sfits }

    -- the same of what the machine reads of x and d
    module _ (e : to_z w64 (of_z w64 x) ≡ x) (f : SFits w64 d) where
      product_fits : SFits w64 (to_z w64 (of_z w64 x) *ℤ to_z w64 (of_z w64 (quot_z (pos (2 ^ 42)) (to_z w64 (of_z w64 d)))))
      product_fits = simp (e, to_z-of_z, f, read_back tt r_small) (fits_within (lit< tt) product_small)

      sum_fits : SFits w64 (to_z w64 (of_z w64 (to_z w64 (of_z w64 x) *ℤ to_z w64 (of_z w64 (quot_z (pos (2 ^ 42)) (to_z w64 (of_z w64 d)))))) +ℤ pos (2 ^ 41))
      sum_fits = simp (e, to_z-of_z, f, read_back tt r_small, read_back tt product_small) (fits_within (lit< tt) sum_small)

      rounded-is : to_z w64 (of_z w64 (shr_z (to_z w64 (of_z w64 (to_z w64 (of_z w64 (to_z w64 (of_z w64 x) *ℤ to_z w64 (of_z w64 (quot_z (pos (2 ^ 42)) (to_z w64 (of_z w64 d)))))) +ℤ pos (2 ^ 41)))) (2 ^ 42)))
          ≡ rounded x d
      rounded-is = simp (e, to_z-of_z, f, read_back tt r_small, read_back tt product_small, read_back tt sum_small, shift_fits)

pub overflow_mul-result : goal.overflow_mul-result
overflow_mul-result c = product_fits c.args.d c.requires.0 c.args.n.re c.requires.1.re (to_z-of_z w64 _ (search rules)) c.ranges.d

pub overflow_add-result : goal.overflow_add-result
overflow_add-result c = sum_fits c.args.d c.requires.0 c.args.n.re c.requires.1.re (to_z-of_z w64 _ (search rules)) c.ranges.d

pub overflow_mul-result-2 : goal.overflow_mul-result-2
overflow_mul-result-2 c = product_fits c.args.d c.requires.0 c.args.n.im c.requires.1.im (to_z-of_z w64 _ (search rules)) c.ranges.d

pub overflow_add-result-2 : goal.overflow_add-result-2
overflow_add-result-2 c = sum_fits c.args.d c.requires.0 c.args.n.im c.requires.1.im (to_z-of_z w64 _ (search rules)) c.ranges.d

pub returns : goal.returns
returns c =
    pair-equal
    (rounded-is c.args.d c.requires.0 c.args.n.re c.requires.1.re (to_z-of_z w64 _ (search rules)) c.ranges.d)
    (rounded-is c.args.d c.requires.0 c.args.n.im c.requires.1.im (to_z-of_z w64 _ (search rules)) c.ranges.d)

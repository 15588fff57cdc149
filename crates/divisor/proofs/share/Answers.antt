-- `divisor::share` meets its contract: |b|² divides both parts of a conj(b), since b divides a.
use mathlib.Core.Path.{◌≡◌, sym, ap, ◌∙◌}
use mathlib.Core.Logic.{◌≢◌}
use Prim.Native.Nat.{◌^◌, ◌+◌, ◌*◌}
use native.Mathlib.Nat.{le_refl, mul-le-mul, div-le_self}
use native.Mathlib.Omega.{arith}
use borrow.Author.Rules.{rules}
use lib.Dec.{lit≤, lit<}
use lib.IntN.{ℤ, pos, nat_abs, ◌+ℤ◌, ◌*ℤ◌}
use lib.Signed.{quot_z}
use mir.Syntax.{w64}
use mir.Val.{SFits, to_z, of_z}
use Rattle.whole.specs.Coefficients.{Divides}
use Rattle.whole.specs.Number.{Within}
use Rattle.whole.proofs.Integers.{abs_times}
use Rattle.whole.proofs.Bound.{abs_plus, fits_within, read_back}
use Rattle.whole.proofs.Machine.{read_as, nonzero_bits}
use Rattle.whole.proofs.Division.{abs_quotient}
use Rattle.pair.specs.declared.Pair.{Pair}
use Rattle.pair.specs.Pairs.{pairs, times, conjugate, norm, PartsWithin}
use Rattle.pair.proofs.Parts.{pair-equal, re-equal, im-equal, wider, conjugate-within, times-within}
use Rattle.pair.proofs.Laws.{norm_some, norm-zero}
use Rattle.divisor.proofs.Division.{divides_over, quotient-within, over-within}
use Rattle.divisor.proofs.Rounding.{scaled-within, cut_exact}
use Rattle.divisor.proofs.share.Goals as goal

-- what the machine reads of a number
abbrev rd : ℤ → ℤ
rd x = to_z w64 (of_z w64 x)

module _ (a b : Pair) (h : PartsWithin (2 ^ 20) a × PartsWithin (2 ^ 20) b × (b ≢ pairs.none) × Divides pairs b a) where
  abbrev top : Pair
  top = times a (conjugate b)

  abbrev r : ℤ
  r = quot_z (pos (2 ^ 42)) (norm b)

  r_small : Within (2 ^ 42) r
  r_small = record { size = omega (arith, abs_quotient (pos (2 ^ 42)) (norm b), div-le_self (2 ^ 42) (nat_abs (norm b))) }

  more_small : Within (2 ^ 43) (r +ℤ pos 1)
  more_small = record { size = omega (arith, r_small.size, abs_plus r (pos 1)) }

  abbrev q : Pair
  q = h.3.factor

  q_small : PartsWithin (2 ^ 20) q
  q_small = quotient-within b q h.0 h.2 h.3.is

  q-is : (norm b *ℤ q.re ≡ top.re) × (norm b *ℤ q.im ≡ top.im)
  q-is = divides_over a b q h.3.is

  top-scaled : PartsWithin (2 ^ 20 * nat_abs (norm b)) top
  top-scaled = over-within b h.0

  top_small : PartsWithin (2 ^ 41) top
  top_small = wider (lit≤ tt) (times-within h.0 (conjugate-within h.1))

  -- x is the same part of a conj(b) as k is of a / b
  module _ (x k : ℤ) (e : norm b *ℤ k ≡ x) (u : Within (2 ^ 20 * nat_abs (norm b)) x) (l : Within (2 ^ 41) x) where
    product_small : Within (2 ^ 62 + 2 ^ 41) (x *ℤ (r +ℤ pos 1))
    product_small =
        let t = scaled-within (norm b) (norm_some b h.2) x u in
        record { size = omega (arith, abs_times x (r +ℤ pos 1), mul-le-mul (le_refl (nat_abs x)) (abs_plus r (pos 1)), abs_times x r, t.size, l.size) }

    exact : quot_z (x *ℤ (r +ℤ pos 1)) (pos (2 ^ 42)) ≡ k
    exact = ap (λ n. quot_z (n *ℤ (r +ℤ pos 1)) (pos (2 ^ 42))) (sym e) ∙ cut_exact (norm b) k (norm_some b h.2) (rw e l)

  -- m and d are what the calls hand back for x and |b|²
  module _ (m d : ℤ) (d-is : rd d ≡ norm b) where
    abbrev scaled : ℤ
    scaled = rd m *ℤ rd (rd (quot_z (pos (2 ^ 42)) (rd d)) +ℤ pos 1)

    part : {x k : ℤ} → rd m ≡ x → norm b *ℤ k ≡ x → Within (2 ^ 20 * nat_abs (norm b)) x → Within (2 ^ 41) x → Within (2 ^ 20) k
        → SFits w64 scaled × (rd (quot_z (rd scaled) (pos (2 ^ 42))) ≡ k)
    part {x} {k} m-is e u l v = (
      rw (d-is, read_back tt r_small, read_back tt more_small, m-is) (fits_within (lit< tt) (product_small x k e u l)),
      rw (d-is, read_back tt r_small, read_back tt more_small, m-is, read_back tt (product_small x k e u l), exact x k e u l) (read_back tt v),
    )

    re-part : rd m ≡ top.re → SFits w64 scaled × (rd (quot_z (rd scaled) (pos (2 ^ 42))) ≡ q.re)
    re-part m-is = part m-is q-is.0 top-scaled.re top_small.re q_small.re

    im-part : rd m ≡ top.im → SFits w64 scaled × (rd (quot_z (rd scaled) (pos (2 ^ 42))) ≡ q.im)
    im-part m-is = part m-is q-is.1 top-scaled.im top_small.im q_small.im

pub nonzero_div-r : goal.nonzero_div-r
nonzero_div-r c = (
  nonzero_bits (search rules) (λ z. c.requires.2 (norm-zero c.args.b (sym c.norm.ensures ∙ z))),
  rw (read_as (search rules) c.norm.ensures) (fits_within (lit< tt) (r_small c.args.a c.args.b c.requires)),
)

pub overflow_mul-result : goal.overflow_mul-result
overflow_mul-result c =
    (re-part c.args.a c.args.b c.requires c.numerator-n.result.re c.norm.result (read_as (search rules) c.norm.ensures)
    (read_as (search rules) (re-equal c.numerator-n.ensures))).0

pub overflow_mul-result-2 : goal.overflow_mul-result-2
overflow_mul-result-2 c =
    (im-part c.args.a c.args.b c.requires c.numerator-n.result.im c.norm.result (read_as (search rules) c.norm.ensures)
    (read_as (search rules) (im-equal c.numerator-n.ensures))).0

pub returns : goal.returns
returns c =
    let d : rd c.norm.result ≡ norm c.args.b = read_as (search rules) c.norm.ensures in
    let n = c.numerator-n.result in
    let e = c.numerator-n.ensures in
    ap (times c.args.b)
    (pair-equal
    (re-part c.args.a c.args.b c.requires n.re c.norm.result d (read_as (search rules) (re-equal e))).1
    (im-part c.args.a c.args.b c.requires n.im c.norm.result d (read_as (search rules) (im-equal e))).1)
    ∙ c.requires.3.is

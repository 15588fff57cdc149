-- `divisor::gcd` meets its contract. The invariant: x and y have the common divisors of a and b, and stay as small. The norm of y falls.
use mathlib.Core.Path.{◌≡◌, sym, ap, ◌∙◌, subst}
use mathlib.Core.Logic.Iff
use mathlib.Core.Logic.{◌↔◌}
use Prim.Native.Nat.{◌^◌}
use mir.Facts.{sfits_lit}
use Rattle.whole.specs.Coefficients.{Divides}
use Rattle.whole.specs.Number.{Tells}
use Rattle.whole.proofs.Divisor.{divides_none, common_two, greatest_is, division_common}
use Rattle.whole.proofs.Machine.{same_bits}
use Rattle.pair.specs.declared.Pair.{Pair}
use Rattle.pair.specs.Pairs.{pairs, plus, times, PartsWithin}
use Rattle.pair.proofs.Laws.{pairs_ring, norm-zero}
use Rattle.divisor.proofs.Division.{back_sum}
use Rattle.divisor.proofs.gcd.Invariants.{Both}
use Rattle.divisor.proofs.gcd.Goals as goal

-- d divides x just where it divides x and 0
with_zero : (d x y : Pair) → y ≡ pairs.none → Divides pairs d x ↔ Both d x y
with_zero d x y e = (λ h. (h, subst (Divides pairs d) (sym e) (divides_none pairs_ring d)), λ h. h.0)

pub returns-then-is_zero : goal.returns-then-is_zero
returns-then-is_zero c =
    let s = c.args in
    let z = subst (Tells (s.a ≡ pairs.none)) c.if-is_zero.true c.is_zero.ensures in
    greatest_is pairs_ring (λ d. Iff.trans (with_zero d s.b s.a z) (Iff.trans (λ h. (h.1, h.0), λ h. (h.1, h.0)) (Iff.symm (common_two pairs_ring d s.a s.b))))

pub loop-y-preserved : goal.loop-y-preserved
loop-y-preserved c =
    let i = c.loop-y.invariant in
    let l = c.loop-y in
    let h = c.rest.ensures in
    let t = times h.quotient l.y in
    (i.1, subst (PartsWithin (2 ^ 20)) h.is h.near.rest_small, λ d. Iff.trans (division_common pairs_ring {q = h.quotient} (ap (plus t) (sym h.is) ∙ back_sum l.x t) d) (i.2 d))

pub returns : goal.returns
returns c =
    let l = c.loop-y in
    let s = c.args in
    let z : l.y ≡ pairs.none = norm-zero l.y (sym c.norm.ensures ∙ same_bits (record { sfits = c.norm.type_inv }) (sfits_lit tt) c.loop-y-test.false) in
    greatest_is pairs_ring (λ d. Iff.trans (with_zero d l.x l.y z) (Iff.trans (l.invariant.2 d) (Iff.symm (common_two pairs_ring d s.a s.b))))

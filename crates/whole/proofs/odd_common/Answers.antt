-- `whole::odd_common` meets its contract. The invariant: x and y are odd, and have the common divisors of a and b.
use mathlib.Core.Path.{subst}
use mathlib.Core.Logic.Iff
use Prim.Native.Nat.{ℕ}
use native.Mathlib.Omega.{arith}
use lib.IntN.{pos}
use Rattle.whole.specs.Coefficients.{Divides}
use Rattle.whole.specs.Number.{wholes}
use Rattle.whole.proofs.Evens.{both_turned, odd_step, shared_greatest}
use Rattle.whole.proofs.odd_common.Goals as goal

pub loop-x-preserved-then-x-y : goal.loop-x-preserved-then-x-y
loop-x-preserved-then-x-y c =
    let l = c.loop-x in
    (l.invariant.0, c.odd_part-y.ensures.odd, λ d. Iff.trans (odd_step l.invariant.0 (omega arith) c.odd_part-y.ensures d) (l.invariant.2 d))

pub loop-x-preserved : goal.loop-x-preserved
loop-x-preserved c =
    let l = c.loop-x in
    let step = odd_step l.invariant.1 (omega arith) c.odd_part-x.ensures in
    (c.odd_part-x.ensures.odd, l.invariant.1, λ d. Iff.trans (both_turned d _ _) (Iff.trans (step d) (Iff.trans (both_turned d _ _) (l.invariant.2 d))))

pub returns : goal.returns
returns c =
    let l = c.loop-x in
    shared_greatest (λ d. Iff.trans (λ h. (h, subst (λ (n : ℕ). Divides wholes d (pos n)) c.loop-x-test.false h), λ h. h.0) (l.invariant.2 d))

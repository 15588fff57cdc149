-- `join::put_half` meets its contract: where the half of n is whole and so are the legs beside it, the area comes back with the six numbers at its start.
use mathlib.Core.Path.{◌≡◌, refl, sym, ◌∙◌, subst}
use native.Mathlib.Omega.{arith}
use lib.IntN.{pos}
use Rattle.pair.specs.declared.Pair.{Pair}
use Rattle.pair.specs.Pairs.{multiple}
use Rattle.pair.proofs.Laws.{multiple_cancel}
use Rattle.divisor.proofs.Division.{undivided_none}
use Rattle.join.specs.Promise.{Triple}
use Rattle.join.specs.Steps.{triple, HalfSteps, Halved}
use Rattle.join.proofs.Order.{triple-equal}
use Rattle.join.proofs.Writing.{writes_none, writes_one}
use Rattle.join.proofs.put_half.Goals as goal

-- any triple with that half is this one
only : {w0 n w2 v : Pair} → multiple (pos 2) v ≡ n → (w : Triple) → Halved w0 n w2 w → w ≡ triple w0 v w2
only half w h = triple-equal h.first (multiple_cancel 2 (omega arith) (h.middle ∙ sym half)) h.last

pub returns : goal.returns
returns c =
    let a = c.args in
    let half = c.in-Some.ensures in
    writes_one (triple a.w0 c.in-Some.v a.w2) (record { first = refl; last = refl; middle = half; steps = c.if-not-has_half_steps.ensures }) (only half) c.put.auto.area c.put.ensures

pub returns-then-not-has_half_steps : goal.returns-then-not-has_half_steps
returns-then-not-has_half_steps c = writes_none (λ w h. c.if-not-has_half_steps.ensures (subst HalfSteps (only c.in-Some.ensures w h) h.steps))

pub returns-in_default : goal.returns-in_default
returns-in_default c = writes_none (λ w h. undivided_none c.args.n (pos 2) w.v c.in_default.ensures h.middle)

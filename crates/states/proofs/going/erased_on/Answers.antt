-- `going::erased_on` meets its contract.
use borrow.Author.Tests.{eq-eqb, ne_eqb}
use mathlib.Core.Path.{ap}
use Prim.Native.Nat.{ℕ, ◌+◌}
use native.Mathlib.Omega.{arith}
use Rattle.refusal.specs.Answers.{when◌then◌else◌}
use Rattle.record.proofs.Front.{erased-within}
use Rattle.states.specs.Steps.{behind_in}
use Rattle.states.proofs.going.erased_on.Goals as goal

pub returns-then-state-left : goal.returns-then-state-left
unfolding when◌then◌else◌
returns-then-state-left c = rw (ne_eqb _ _ c.if-state-left.true)

pub overflow_add-result : goal.overflow_add-result
overflow_add-result c = let s = c in omega (arith, c.erased_bytes.ensures, erased-within s.args.part.now, s.requires.0, s.requires.1)

pub returns : goal.returns
unfolding when◌then◌else◌
returns c =
    rw (eq-eqb _ _ c.if-state-left.false) (ap (λ (n : ℕ). behind_in c.args.state + n) c.erased_bytes.ensures)

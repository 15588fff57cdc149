-- `going::mission_on` meets its contract: by whether there was a record.
use mathlib.Core.Path.{◌∙◌}
use borrow.Author.Tests.{eq-eqb, ne_eqb}
use Rattle.refusal.specs.Answers.{when◌then◌else◌}
use Rattle.states.proofs.going.mission_on.Goals as goal

pub returns-then-state-eq0 : goal.returns-then-state-eq0
unfolding when◌then◌else◌
returns-then-state-eq0 c = rw (eq-eqb _ _ c.if-state-eq0.true) (c.from.ensures ∙ c.mission_in.ensures)

pub returns : goal.returns
unfolding when◌then◌else◌
returns c = rw (ne_eqb _ _ c.if-state-eq0.false)

-- `steps::erased_end` meets its contract.
use borrow.Author.Tests.{lt-ltb, le-ltb}
use Rattle.refusal.specs.Answers.{when◌then◌else◌}
use Rattle.record.specs.Records.{erased_end}
use Rattle.record.proofs.steps.erased_end.Goals as goal

pub returns-then-erased-left : goal.returns-then-erased-left
unfolding erased_end when◌then◌else◌
returns-then-erased-left c = rw (lt-ltb _ _ c.if-erased-left.true)

pub returns : goal.returns
unfolding erased_end when◌then◌else◌
returns c = rw (le-ltb _ _ c.if-erased-left.false)

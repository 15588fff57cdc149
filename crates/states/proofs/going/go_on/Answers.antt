-- `going::go_on` meets its contract: by how many bytes there are.
use Prim.Native.Nat.{◌+◌}
use native.Mathlib.Omega.{arith}
use lib.ListN.{length}
use borrow.Author.Tests.{lt-ltb, le-ltb}
use Rattle.refusal.specs.Answers.{when◌then◌else◌}
use Rattle.record.specs.Records.{longest}
use Rattle.states.specs.Steps.{fed_by}
use Rattle.states.proofs.going.go_on.Goals as goal

pub returns-then-state-part-gt-LONGEST : goal.returns-then-state-part-gt-LONGEST
unfolding fed_by when◌then◌else◌
returns-then-state-part-gt-LONGEST c = rw (lt-ltb longest (c.args.state.count + length c.args.part.now) (omega (arith, c.if-state-part-gt-LONGEST.true))) c.overfull.ensures

pub returns : goal.returns
unfolding fed_by when◌then◌else◌
returns c = rw (le-ltb longest (c.args.state.count + length c.args.part.now) (omega (arith, c.if-state-part-gt-LONGEST.false))) c.onward.ensures

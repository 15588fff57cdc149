-- The state is that of some bytes. Each part has a byte at least, so the bytes become too many or end.
use Rattle.std.proofs.Common.{suc, ◌-◌}
use Rattle.record.specs.Records.{longest}
use Rattle.cable.specs.Cables.{Arriving}
use Rattle.cable.proofs.take_parts.Given as goal

abbrev pub invariant-loop-state : goal.invariant-loop-state
invariant-loop-state g l = Arriving l.state

abbrev pub decreases-loop-state : goal.decreases-loop-state
decreases-loop-state g l = suc longest - l.state.count

-- What the loop of `runs::put_runs` keeps.
use Rattle.std.proofs.Common.{◌≤◌, length}
use Rattle.trials.proofs.runs.put_runs.Given as goal

abbrev pub invariant-loop-run : goal.invariant-loop-run
invariant-loop-run l = l.end ≤ length l.area

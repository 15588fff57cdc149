-- `runs::put_runs` ends inside the area.
use Rattle.trials.proofs.Prefixes.{counted}
use Rattle.trials.proofs.runs.put_runs.Goals as goal

pub returns : goal.returns
returns c = counted c.loop-run.end c.loop-run.area c.loop-run.invariant

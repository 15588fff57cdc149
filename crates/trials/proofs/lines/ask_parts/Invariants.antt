-- What the loop of `lines::ask_parts` keeps: it needs nothing, and ends, for each part begins behind the one before.
use Rattle.std.proofs.Common.{◌+◌, ◌-◌, length}
use Rattle.trials.proofs.lines.ask_parts.Given as goal

abbrev pub decreases-loop-at : goal.decreases-loop-at
decreases-loop-at g l = length l.text + 1 - l.at

-- What the loop of `numbers::arguments` keeps.
use Rattle.std.proofs.Common.{◌≤◌, length}
use Rattle.trials.proofs.numbers.arguments.Given as goal

abbrev pub invariant-loop-word : goal.invariant-loop-word
invariant-loop-word l = l.count ≤ length l.out

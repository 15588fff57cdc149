-- What the loops of `writes::numbers_within` keep.
use mathlib.Core.Path.{◌≡◌}
use lib.ListN.{drop}
use Rattle.record.specs.Records.{all_within}
use Rattle.record.proofs.writes.numbers_within.Given as goal

abbrev pub invariant-loop-x : goal.invariant-loop-x
invariant-loop-x l = all_within (drop l.x-index l.xs) ≡ all_within l.xs

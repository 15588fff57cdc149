-- What the loops of `steps::all_within` keep.
use mathlib.Core.Path.{◌≡◌}
use mathlib.Core.Bool.{◌&&◌}
use Prim.Native.Nat.{◌+◌, ◌*◌, ◌-◌}
use Rattle.record.specs.Numbers.{coordinates}
use Rattle.record.specs.Records.{all_within}
use Rattle.record.proofs.steps.all_within.Given as goal

abbrev pub invariant-loop-i : goal.invariant-loop-i
invariant-loop-i l = l.within && all_within (coordinates (l.words - l.i) l.rest (4 + 4 * l.i)) ≡ all_within (coordinates l.words l.rest 4)

-- What the loop of `put` keeps: the first i values, and then what was there from i on.
use Rattle.std.proofs.Common.{◌≡◌, take, drop}
use Rattle.area.proofs.put.Given as goal

abbrev pub invariant-loop-i : goal.invariant-loop-i
invariant-loop-i g l = (take l.i l.area ≡ take l.i l.values) × (drop l.i l.area ≡ drop l.i l.initial.area)

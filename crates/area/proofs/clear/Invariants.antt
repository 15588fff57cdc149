-- What the loop of `clear` keeps: i zeros, and then what was there from i on.
use Rattle.std.proofs.Common.{◌≡◌, ◌++◌, pos, drop, replicate}
use Rattle.area.proofs.clear.Given as goal

abbrev pub invariant-loop-i : goal.invariant-loop-i
invariant-loop-i l = l.area ≡ replicate l.i (pos 0) ++ drop l.i l.initial.area

-- What the loops of `walks::walk` keep.
use mathlib.Core.Path.{◌≡◌}
use Prim.Native.Nat.{◌-◌}
use lib.ListN.{length}
use Rattle.std.specs.Prelude.{Ok}
use Rattle.sheet.proofs.Passed.{Passed}
use Rattle.sheet.proofs.walks.walk.Given as goal

abbrev pub invariant-loop-w : goal.invariant-loop-w
invariant-loop-w l = Passed l.sheet l.first-2 l.number l.first l.w.end l.w.curves l.w.asked × (l.w.ending ≡ Ok tt)

abbrev pub decreases-loop-w : goal.decreases-loop-w
decreases-loop-w l = length l.sheet - l.w.end

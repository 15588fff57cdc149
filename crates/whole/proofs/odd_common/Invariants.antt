-- What the loops of `odd_common` keep.
use mathlib.Core.Path.{◌≡◌}
use mathlib.Core.Logic.{◌↔◌}
use Prim.Native.Nat.{◌+◌, ◌%◌}
use lib.IntN.{ℤ}
use Rattle.whole.proofs.Evens.{Both}
use Rattle.whole.proofs.odd_common.Given as goal

abbrev pub invariant-loop-x : goal.invariant-loop-x
invariant-loop-x l = (l.x % 2 ≡ 1) × (l.y % 2 ≡ 1) × ((d : ℤ) → Both d l.x l.y ↔ Both d l.a l.b)

abbrev pub decreases-loop-x : goal.decreases-loop-x
decreases-loop-x l = l.x + l.y

-- What the loops of `gcd` keep.
use mathlib.Core.Logic.{◌↔◌}
use Prim.Native.Nat.{◌^◌}
use lib.IntN.{nat_abs}
use Rattle.whole.specs.Coefficients.{Divides}
use Rattle.pair.specs.declared.Pair.{Pair}
use Rattle.pair.specs.Pairs.{pairs, norm, PartsWithin}
use Rattle.divisor.proofs.gcd.Given as goal

abbrev pub Both : Pair → Pair → Pair → Type 0
Both d x y = Divides pairs d x × Divides pairs d y

abbrev pub invariant-loop-y : goal.invariant-loop-y
invariant-loop-y l = PartsWithin (2 ^ 20) l.x × PartsWithin (2 ^ 20) l.y × ((d : Pair) → Both d l.x l.y ↔ Both d l.initial.x l.initial.y)

abbrev pub decreases-loop-y : goal.decreases-loop-y
decreases-loop-y l = nat_abs (norm l.y)

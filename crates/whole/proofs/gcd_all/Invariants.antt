-- What the loops of `gcd_all` keep.
use mathlib.Core.List.{List}
use mathlib.Core.Logic.{◌↔◌}
use Prim.Native.Nat.{ℕ}
use lib.IntN.{ℤ, pos}
use lib.ListN.{drop}
use Rattle.whole.specs.Coefficients.{Divides}
use Rattle.whole.specs.Number.{wholes}
use Rattle.whole.proofs.Wholes.{wholes_ring}
use Rattle.whole.proofs.Divisor.{Common}
use Rattle.whole.proofs.gcd_all.Given as goal

abbrev pub Rest : List ℤ → ℕ → ℕ → Type 0
Rest numbers g i = (d : ℤ) → (Divides wholes d (pos g) × Common wholes_ring d (drop i numbers)) ↔ Common wholes_ring d numbers

abbrev pub invariant-loop-x : goal.invariant-loop-x
invariant-loop-x l = Rest l.numbers l.g l.x-index

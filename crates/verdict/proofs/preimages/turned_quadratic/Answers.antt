-- `preimages::turned_quadratic` meets its contract, pair by pair.
use mathlib.Core.Path.{refl}
use Prim.Native.Nat.{zero, suc}
use lib.Dec.{lit≤}
use Rattle.poly.specs.Polynomials.{scaled}
use Rattle.pair.proofs.Parts.{wider}
use Rattle.verdict.proofs.preimages.turned_quadratic.Goals as goal

pub turned-requires : goal.turned-requires
turned-requires c = wider (lit≤ tt) (c.requires 0)

pub turned-requires-2 : goal.turned-requires-2
turned-requires-2 c = wider (lit≤ tt) (c.requires 1)

pub turned-requires-3 : goal.turned-requires-3
turned-requires-3 c = wider (lit≤ tt) (c.requires 2)

pub returns : goal.returns
unfolding scaled
returns c zero = c.turned.ensures
returns c (suc zero) = c.turned-2.ensures
returns c (suc (suc zero)) = c.turned-3.ensures
returns c (suc (suc (suc k))) = refl

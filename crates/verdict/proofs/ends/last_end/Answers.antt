-- `ends::last_end` meets its contract: the last leg is the first of the legs in the other order.
use Rattle.std.proofs.Common.{zero, suc}
use Rattle.pair.specs.Pairs.{AllWithin}
use Rattle.pair.proofs.Parts.{zero-within}
use Rattle.curve.specs.declared.Legs.{Legs}
use Rattle.curve.specs.declared.Legs.TheVariants.{Cubic, Quintic}
use Rattle.curve.specs.Steps.{legs_of}
use Rattle.curve.specs.Sizes.{leg_reach}
use Rattle.verdict.specs.Steps.{reversed}
use Rattle.verdict.proofs.ends.last_end.Goals as goal

small : (l : Legs) → AllWithin leg_reach (legs_of l) → AllWithin leg_reach (legs_of (reversed l))
small (Cubic d0 d1 d2) h zero = h 2
small (Cubic d0 d1 d2) h (suc zero) = h 1
small (Cubic d0 d1 d2) h (suc (suc zero)) = h 0
small (Cubic d0 d1 d2) h (suc (suc (suc k))) = zero-within
small (Quintic d0 d1 d2 d3 d4) h zero = h 4
small (Quintic d0 d1 d2 d3 d4) h (suc zero) = h 3
small (Quintic d0 d1 d2 d3 d4) h (suc (suc zero)) = h 2
small (Quintic d0 d1 d2 d3 d4) h (suc (suc (suc zero))) = h 1
small (Quintic d0 d1 d2 d3 d4) h (suc (suc (suc (suc zero)))) = h 0
small (Quintic d0 d1 d2 d3 d4) h (suc (suc (suc (suc (suc k))))) = zero-within

pub first_end-requires : goal.first_end-requires
first_end-requires c = rw c.reversed.ensures (small c.args.legs c.requires)

pub returns : goal.returns
returns c = rw c.reversed.ensures at c.first_end.ensures

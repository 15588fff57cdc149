-- The cause of refusal that every call on a curve shares.
--   out_of_range     RANGE: a coordinate is out of range
use Rattle.std.specs.Prelude.{List}
use Rattle.refusal.specs.declared.Refusal.TheVariants as R
use Rattle.refusal.specs.Table.{Cause}
use Rattle.pair.specs.declared.Pair.{Pair}
use Rattle.curve.specs.Curves.{InRange}

abbrev pub out_of_range : List Pair → Cause
out_of_range ps = record { refusal = R.Range; holds = InRange ps → ⊥ }

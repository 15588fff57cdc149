-- What the loops of `writes::put_numbers` keep.
use mathlib.Core.Path.{◌≡◌}
use lib.ListN.{length, take}
use Rattle.record.specs.Numbers.{encoded, written}
use Rattle.record.proofs.writes.put_numbers.Given as goal

abbrev pub invariant-loop-i : goal.invariant-loop-i
invariant-loop-i l = (l.bytes ≡ written l.initial.bytes 4 (encoded (take l.i l.xs))) × (length l.bytes ≡ length l.initial.bytes)

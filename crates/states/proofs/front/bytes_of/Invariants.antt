-- What the loops of `front::bytes_of` keep.
use mathlib.Core.Path.{◌≡◌}
use lib.ListN.{length, take}
use Rattle.record.specs.Numbers.{written}
use Rattle.states.specs.Words.{unpacked}
use Rattle.states.proofs.front.bytes_of.Given as goal

abbrev pub invariant-loop-i : goal.invariant-loop-i
invariant-loop-i l = (l.bytes ≡ written l.initial.bytes 0 (unpacked (take l.i l.words))) × (length l.bytes ≡ 56)

-- `offset` meets its contract: for the distance that was given, and not only for the machine's number of it.
use mir.ValLaws.{to_z-of_z}
use Rattle.record.proofs.Signs.{settled}
use Rattle.hand.proofs.Handing.{right_count}
use Rattle.curve_calls.proofs.offset.Goals as goal

pub returns : goal.returns
returns c =
    right_count c.curve_in.ensures c.in-Some.curve c.in-Some.is
    (c.offset.result, simp (to_z-of_z, c.ranges.h) at c.offset.ensures, settled c.count.type_inv c.count.ensures)

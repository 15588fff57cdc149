-- `drawing::second` meets its contract.
use lib.Dec.{lit≤}
use Rattle.pair.proofs.Parts.{wider, minus-within}
use Rattle.curve.proofs.drawing.second.Goals as goal

pub difference-requires-3 : goal.difference-requires-3
difference-requires-3 c =
    let h = c.requires in
    (rw c.difference.ensures (wider (lit≤ tt) (minus-within h.2 h.1)), rw c.difference-2.ensures (wider (lit≤ tt) (minus-within h.1 h.0)))

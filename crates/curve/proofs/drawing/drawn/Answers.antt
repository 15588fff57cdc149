-- `drawing::drawn` meets its contract, by the kind of curve.
use Rattle.curve.proofs.Differences.{legs_at}
use Rattle.curve.proofs.drawing.drawn.Goals as goal

pub cubic_drawn-requires : goal.cubic_drawn-requires
cubic_drawn-requires c = legs_at _ c.in-Cubic.is c.requires

pub quintic_drawn-requires : goal.quintic_drawn-requires
quintic_drawn-requires c = legs_at _ c.in-Quintic.is c.requires

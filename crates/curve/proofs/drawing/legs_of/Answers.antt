-- `drawing::legs_of` meets its contract: leg by leg.
use Rattle.std.proofs.Common.{rules}
use Rattle.bernstein.specs.Powers.{differences}
use Rattle.curve.proofs.drawing.legs_of.Goals as goal

pub returns-in-Cubic : goal.returns-in-Cubic
unfolding differences
returns-in-Cubic c = search rules

pub returns-in-Quintic : goal.returns-in-Quintic
unfolding differences
returns-in-Quintic c = search rules

-- `whole::quotient` meets its contract: the remainder is 0 just where d divides n.
use mathlib.Core.Path.{ap}
use mir.Syntax.{w64}
use mir.Val.{of_z}
use mir.ValLaws.{to_z-of_z}
use Rattle.whole.proofs.Division.{rest-zero}
use Rattle.whole.proofs.quotient.Goals as goal

pub returns-else-n-d-eq0 : goal.returns-else-n-d-eq0
returns-else-n-d-eq0 c h = c.if-n-d-eq0.false (simp (to_z-of_z, c.ranges.n, c.ranges.d) (ap (of_z w64) (rest-zero c.args.n c.args.d h)))

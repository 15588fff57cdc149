-- `whole::ends_as_a_square` meets its contract.
use Rattle.whole.proofs.Squares.{ends_tell}
use Rattle.whole.proofs.ends_as_a_square.Goals as goal

pub returns : goal.returns
returns c = ends_tell c.args.n

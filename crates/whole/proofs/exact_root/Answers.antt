-- `whole::exact_root` meets its contract.
use Rattle.whole.proofs.Squares.{no_end, no_root}
use Rattle.whole.proofs.exact_root.Goals as goal

pub returns-then-not-ends_as_a_square : goal.returns-then-not-ends_as_a_square
returns-then-not-ends_as_a_square c = no_end c.if-not-ends_as_a_square.ensures

pub returns-else-rest-eq0 : goal.returns-else-rest-eq0
returns-else-rest-eq0 c = no_root c.square_root-root.ensures c.if-rest-eq0.false

-- `divisor::over_whole` meets its contract: where the second part has no quotient, n does not divide it.
use Rattle.std.proofs.Common.{rules}
use Rattle.divisor.proofs.over_whole.Goals as goal

pub returns-in_err-quotient-2 : goal.returns-in_err-quotient-2
returns-in_err-quotient-2 c = rw c.from_residual-in_err-quotient-2.ensures (search rules)

-- `pair::multiple` meets its contract.
use Rattle.whole.proofs.Wholes.{readℤ}
use Rattle.whole.proofs.Bound.{◌▸◌, bounds, kept}
use Rattle.pair.proofs.Parts.{operations, parts}
use Rattle.pair.proofs.multiple.Goals as goal

pub returns : goal.returns
returns c = bounds (c.requires.0 ▸ parts c.requires.1) (λ ρ e k. simp (e 0, e 1, e 2, readℤ, kept k))

pub overflow_mul-result : goal.overflow_mul-result
overflow_mul-result c = search operations

pub overflow_mul-result-2 : goal.overflow_mul-result-2
overflow_mul-result-2 c = search operations

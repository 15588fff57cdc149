-- `pair::cross` meets its contract: the difference of two products fits.
use mathlib.Core.Path.{refl}
use Rattle.whole.proofs.Wholes.{readℤ}
use Rattle.whole.proofs.Bound.{bounds, fits, kept}
use Rattle.pair.proofs.Parts.{operations, parts_two}
use Rattle.pair.proofs.cross.Goals as goal

pub overflow_sub-result : goal.overflow_sub-result
overflow_sub-result c = bounds (parts_two c.requires.0 c.requires.1) (λ ρ e k. simp (e 0, e 1, e 2, e 3, readℤ, kept k) (fits k _ refl))

pub returns : goal.returns
returns c = bounds (parts_two c.requires.0 c.requires.1) (λ ρ e k. simp (e 0, e 1, e 2, e 3, readℤ, kept k))

pub overflow_mul-result : goal.overflow_mul-result
overflow_mul-result c = search operations

pub overflow_mul-result-2 : goal.overflow_mul-result-2
overflow_mul-result-2 c = search operations

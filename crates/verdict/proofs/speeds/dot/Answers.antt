-- `speeds::dot` meets its contract.
use mathlib.Core.Path.{refl}
use Rattle.whole.proofs.Wholes.{readℤ}
use Rattle.whole.proofs.Bound.{bounds, fits, kept}
use Rattle.pair.proofs.Parts.{parts_two}
use Rattle.verdict.proofs.speeds.dot.Goals as goal

pub overflow_add-result : goal.overflow_add-result
overflow_add-result c = bounds (parts_two c.requires.0 c.requires.1) (λ ρ e k. simp (e 0, e 1, e 2, e 3, readℤ, kept k) (fits k _ refl))

pub returns : goal.returns
returns c = bounds (parts_two c.requires.0 c.requires.1) (λ ρ e k. simp (e 0, e 1, e 2, e 3, readℤ, kept k))

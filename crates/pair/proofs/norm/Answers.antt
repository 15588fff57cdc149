-- `pair::norm` meets its contract: the sum of two squares fits.
use mathlib.Core.Path.{refl}
use Rattle.whole.proofs.Wholes.{readℤ}
use Rattle.whole.proofs.Bound.{bounds, fits, kept}
use Rattle.pair.proofs.Parts.{parts}
use Rattle.pair.proofs.norm.Goals as goal

pub overflow_add-result : goal.overflow_add-result
overflow_add-result c = bounds (parts c.requires) (λ ρ e k. simp (e 0, e 1, readℤ, kept k) (fits k _ refl))

pub returns : goal.returns
returns c = bounds (parts c.requires) (λ ρ e k. simp (e 0, e 1, readℤ, kept k))

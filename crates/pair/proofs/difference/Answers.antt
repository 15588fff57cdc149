-- `pair::difference` meets its contract.
use Rattle.whole.proofs.Wholes.{readℤ}
use Rattle.whole.proofs.Bound.{bounds, kept}
use Rattle.pair.proofs.Parts.{parts_two}
use Rattle.pair.proofs.difference.Goals as goal

pub returns : goal.returns
returns c = bounds (parts_two c.requires.0 c.requires.1) (λ ρ e k. simp (e 0, e 1, e 2, e 3, readℤ, kept k))

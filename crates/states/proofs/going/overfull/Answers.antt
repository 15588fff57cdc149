-- `going::overfull` meets its contract.
use mathlib.Core.Path.{refl}
use Rattle.record.specs.Numbers.{words_in}
use Rattle.states.proofs.going.overfull.Goals as goal

pub returns : goal.returns
unfolding words_in
returns c = refl

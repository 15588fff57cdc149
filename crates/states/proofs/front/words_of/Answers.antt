-- `front::words_of` meets its contract: word by word.
use mathlib.Core.List.{[], ◌∷◌}
use Rattle.record.specs.Numbers.{words_in}
use Rattle.states.proofs.front.words_of.Goals as goal

pub returns : goal.returns
unfolding words_in
returns c =
    λ i.
    c.long_at.ensures i
    ∷ c.long_at-2.ensures i
    ∷ c.long_at-3.ensures i
    ∷ c.long_at-4.ensures i
    ∷ c.long_at-5.ensures i
    ∷ c.long_at-6.ensures i
    ∷ c.long_at-7.ensures i
    ∷ []

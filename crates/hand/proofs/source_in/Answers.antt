-- `source_in` meets its contract: the pairs' numbers are those that were given, one by one.
use mathlib.Core.Path.{◌∙◌}
use mathlib.Core.List.{[], ◌∷◌}
use Rattle.hand.proofs.Areas.{spelled-all}
use Rattle.hand.proofs.source_in.Goals as goal

pub returns-in-6 : goal.returns-in-6
returns-in-6 c =
    let w0 = c.pair_at-in-6.ensures in
    let w1 = c.pair_at-in-6-2.ensures in
    let w2 = c.pair_at-in-6-3.ensures in
    (λ i. (w0 i).re ∷ (w0 i).im ∷ (w1 i).re ∷ (w1 i).im ∷ (w2 i).re ∷ (w2 i).im ∷ []) ∙ spelled-all 6 _ c.in-6.is

-- `curve_in` meets its contract: the curve's numbers are those that were given, one by one.
use mathlib.Core.Path.{◌∙◌}
use mathlib.Core.List.{[], ◌∷◌}
use Rattle.hand.proofs.Areas.{spelled-all}
use Rattle.hand.proofs.curve_in.Goals as goal

pub returns-in-8 : goal.returns-in-8
returns-in-8 c =
    let p0 = c.pair_at.ensures in
    let p1 = c.pair_at-in-8.ensures in
    let p2 = c.pair_at-in-8-2.ensures in
    let p3 = c.pair_at-in-8-3.ensures in
    (λ i. (p0 i).re ∷ (p0 i).im ∷ (p1 i).re ∷ (p1 i).im ∷ (p2 i).re ∷ (p2 i).im ∷ (p3 i).re ∷ (p3 i).im ∷ [])
    ∙ spelled-all 8 _ c.in-8.is

pub returns-in-12 : goal.returns-in-12
returns-in-12 c =
    let p0 = c.pair_at-in-12.ensures in
    let p1 = c.pair_at-in-12-2.ensures in
    let p2 = c.pair_at-in-12-3.ensures in
    let p3 = c.pair_at-in-12-4.ensures in
    let p4 = c.pair_at-in-12-5.ensures in
    let p5 = c.pair_at-in-12-6.ensures in
    (λ i. (p0 i).re ∷ (p0 i).im ∷ (p1 i).re ∷ (p1 i).im ∷ (p2 i).re ∷ (p2 i).im ∷ (p3 i).re ∷ (p3 i).im ∷ (p4 i).re ∷ (p4 i).im ∷ (p5 i).re ∷ (p5 i).im ∷ [])
    ∙ spelled-all 12 _ c.in-12.is

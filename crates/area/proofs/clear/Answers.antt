-- `clear` meets its contract: one zero more with each turn.
use mathlib.Core.Path.{ap, ◌∙◌}
use mathlib.Core.List.{List}
use lib.IntN.{ℤ, pos}
use lib.ListN.{set}
use Rattle.whole.proofs.Fill.{fill_more}
use Rattle.area.proofs.clear.Goals as goal

pub loop-i-preserved : goal.loop-i-preserved
loop-i-preserved c = ap (λ (l : List ℤ). set l c.loop-i.i (pos 0)) c.loop-i.invariant ∙ fill_more (pos 0) c.loop-i.i c.args.area.now c.loop-i-test.true

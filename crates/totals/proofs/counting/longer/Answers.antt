-- `counting::longer` meets its contract: the second only where it is longer.
use Rattle.std.proofs.Common.{sym, ap₂, ◌∙◌}
use Rattle.totals.specs.Totals.{longer}
use Rattle.totals.proofs.Lists.{longer-first, longer-second}
use Rattle.totals.proofs.counting.longer.Goals as goal

pub returns-then-a-b : goal.returns-then-a-b
returns-then-a-b c = let x = c.in-Some-Some in x.is-1 ∙ sym (ap₂ longer x.is-0 x.is-1 ∙ longer-second x.a x.b c.if-a-b.true)

pub returns-else-a-b : goal.returns-else-a-b
returns-else-a-b c = let x = c.in-Some-Some in x.is-0 ∙ sym (ap₂ longer x.is-0 x.is-1 ∙ longer-first x.a x.b c.if-a-b.false)

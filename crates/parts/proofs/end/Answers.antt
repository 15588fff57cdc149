-- `end` meets its contract: by whether the state is reached.
use mathlib.Core.Bool.{not}
use mathlib.Core.Path.{sym, subst, ap}
use Rattle.whole.proofs.Flags.{told, untold}
use Rattle.parts.specs.Promise.{EndsSheet, ends, ends_none}
use Rattle.states.proofs.More.{ended_is}
use Rattle.parts.proofs.end.Goals as goal

pub returns-then-not-is_reached : goal.returns-then-not-is_reached
returns-then-not-is_reached c = ends_none (untold c.is_reached.result c.is_reached.ensures (ap not c.if-not-is_reached.true))

pub returns : goal.returns
returns c =
    let st = c.args.state in
    let w = told c.is_reached.result c.is_reached.ensures (ap not c.if-not-is_reached.false) in
    subst (EndsSheet st) (sym (ended_is st w.0 w.1 w.2)) (ends w.0 w.1 w.2)

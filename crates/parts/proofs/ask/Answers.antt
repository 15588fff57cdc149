-- `ask` meets its contract: by whether the state is reached, and has ended.
use mathlib.Core.Path.{sym, subst, ap}
use mathlib.Core.Bool.{true, not}
use native.Mathlib.Omega.{arith}
use Rattle.whole.proofs.Flags.{told, untold}
use Rattle.sheet.specs.Promise.{Checks}
use Rattle.parts.specs.Promise.{checked, not_ended, asks_none}
use Rattle.states.proofs.Outcome.{answer-is}
use Rattle.states.proofs.Possible.{reached_possible, open_of, ended_of}
use Rattle.parts.proofs.ask.Goals as goal

pub returns-then-not-is_reached : goal.returns-then-not-is_reached
returns-then-not-is_reached c = asks_none (untold c.is_reached.result c.is_reached.ensures (ap not c.if-not-is_reached.true))

pub returns-then-state-eq0 : goal.returns-then-state-eq0
returns-then-state-eq0 c =
    let w = open_of c.args.state (told c.is_reached.result c.is_reached.ensures (ap not c.if-not-is_reached.false)) (λ e. omega (arith, c.if-state-eq0.true)) in
    not_ended w.0 w.1

pub answer-requires : goal.answer-requires
answer-requires c =
    reached_possible c.args.state (told c.is_reached.result c.is_reached.ensures (ap not c.if-not-is_reached.false))

pub returns : goal.returns
returns c =
    let st = c.args.state in
    let w = ended_of st (told c.is_reached.result c.is_reached.ensures (ap not c.if-not-is_reached.false)) c.if-state-eq0.false in
    checked w.0 c.answer.result w.1 (subst (Checks w.0) (sym c.answer.ensures) (answer-is st w.0 true w.1))

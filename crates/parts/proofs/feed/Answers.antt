-- `feed` meets its contract: by whether the state is reached, and has ended.
use mathlib.Core.Bool.{not}
use mathlib.Core.Path.{sym, ◌∙◌, subst, ap}
use native.Mathlib.Omega.{arith}
use Rattle.std.specs.Prelude.{Ok, Err}
use Rattle.whole.proofs.Flags.{told, untold}
use Rattle.states.specs.declared.State.{State}
use Rattle.parts.specs.Promise.{Feeds, goes_on, too_late, feeds_none}
use Rattle.states.proofs.More.{fed_is}
use Rattle.states.proofs.Possible.{reached_possible, open_of, ended_of}
use Rattle.parts.proofs.feed.Goals as goal

pub returns-then-not-is_reached : goal.returns-then-not-is_reached
returns-then-not-is_reached c =
    subst (Feeds _ _) (ap Err (sym c.into.ensures)) (feeds_none (untold c.is_reached.result c.is_reached.ensures (ap not c.if-not-is_reached.true)))

pub returns-then-state-eq1 : goal.returns-then-state-eq1
returns-then-state-eq1 c =
    let st = c.args.state in
    let w = ended_of st (told c.is_reached.result c.is_reached.ensures (ap not c.if-not-is_reached.false)) (λ e. omega (arith, c.if-state-eq1.true)) in
    subst (Feeds _ _) (ap Err (sym c.into-then-state-eq1.ensures)) (too_late w.0 w.1)

pub go_on-requires : goal.go_on-requires
go_on-requires c =
    reached_possible c.args.state (told c.is_reached.result c.is_reached.ensures (ap not c.if-not-is_reached.false))

pub returns : goal.returns
returns c =
    let s = c.args in
    let w = open_of s.state (told c.is_reached.result c.is_reached.ensures (ap not c.if-not-is_reached.false)) c.if-state-eq1.false in
    subst (λ (x : State). Feeds s.state s.part.now (Ok x)) (sym (c.go_on.ensures ∙ fed_is s.state w.0 s.part.now w.1)) (goes_on w.0 w.1)

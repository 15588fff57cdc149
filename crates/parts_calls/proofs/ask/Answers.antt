-- `ask` meets its contract: by what the library tells.
use mathlib.Core.Path.{ap, ◌∙◌, subst}
use mathlib.Core.Logic.{inr}
use Rattle.record.proofs.Signs.{settled}
use Rattle.states.specs.declared.State.{State}
use Rattle.parts.specs.Promise.{Asks}
use Rattle.parts_calls.specs.Numbers.{state_in}
use Rattle.parts_calls.proofs.Counts.{countable}
use Rattle.parts_calls.proofs.First.{state-first}
use Rattle.parts_calls.proofs.ask.Goals as goal

pub told_code-requires : goal.told_code-requires
told_code-requires c = countable _ c.ask.result c.ask.ensures

pub returns : goal.returns
returns c =
    let area = c.args.state.now in
    let first = c.in-Some.ensures.cases in
    inr (
      first.enough,
      (c.ask.result, subst (λ (st : State). Asks st c.ask.result) (c.state_in.ensures ∙ ap state_in first.same ∙ state-first area) c.ask.ensures, settled c.told_code.type_inv c.told_code.ensures),
    )

-- `end` meets its contract: by what the library tells of the ended state.
use mathlib.Core.Path.{◌≡◌, sym, ap, ◌∙◌, subst}
use mathlib.Core.Logic.{inr}
use mathlib.Core.List.{List, ◌++◌}
use lib.IntN.{ℤ}
use lib.ListN.{drop}
use Rattle.std.proofs.lemmas.List.{take-append-drop}
use Rattle.record.proofs.Signs.{settled}
use Rattle.states.specs.declared.State.{State}
use Rattle.parts.specs.Promise.{EndsSheet}
use Rattle.parts_calls.specs.Numbers.{state_in}
use Rattle.parts_calls.proofs.Counts.{countable, told-left, told-kept}
use Rattle.parts_calls.proofs.First.{state-first}
use Rattle.parts_calls.proofs.end.Goals as goal
use Rattle.parts_calls.proofs.end.Goals.{then-is_ok, else-is_ok}

-- the state in the area, ended
ended_is : (area : List ℤ) {st r : State} → st ≡ state_in area → EndsSheet st r → EndsSheet (state_in area) r
ended_is area {r = r} e h = subst (λ (st : State). EndsSheet st r) e h

pub told_code-requires : goal.told_code-requires
told_code-requires c = countable _ c.ask-told.result c.ask-told.ensures

pub returns : goal.returns
returns c =
    let area = c.args.state.now in
    let told = c.ask-told.result in
    let first = c.in-Some.ensures.cases in
    inr (
      first.enough,
      (
        c.end-ended.result,
        told,
        ended_is area (c.state_in.ensures ∙ ap state_in first.same ∙ state-first area) c.end-ended.ensures,
        c.ask-told.ensures,
        settled c.told_code.type_inv c.told_code.ensures,
        elim c.if-is_ok.branch [
          | then-is_ok w ↦ w.state-is ∙ ap (λ (ns : List ℤ). ns ++ drop 13 area) w.numbers_in.ensures ∙ sym (told-left area c.end-ended.result told (sym c.is_ok.ensures.value ∙ w.if-is_ok.true))
          | else-is_ok w ↦ w.state-is ∙ ap (λ (ns : List ℤ). ns ++ drop 13 area) first.same ∙ take-append-drop 13 area ∙ sym (told-kept area c.end-ended.result told (sym c.is_ok.ensures.value ∙ w.if-is_ok.false))
        ],
      ),
    )

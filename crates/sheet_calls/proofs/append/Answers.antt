-- `append` meets its contract.
use mathlib.Core.Path.{refl, ap, ◌∙◌}
use Rattle.refusal.specs.declared.Fault.{Fault}
use Rattle.refusal.specs.Answers.{refused}
use Rattle.record.proofs.Signs.{settled}
use Rattle.hand.specs.Promise.{coded as code_of}
use Rattle.hand.proofs.Handing.{wrong-count, right_count}
use Rattle.sheet_calls.proofs.append.Goals as goal

pub returns-in_default : goal.returns-in_default
returns-in_default c =
    wrong-count c.curve_in.ensures c.in_default.is
    (settled c.coded.type_inv (c.coded.ensures ∙ ap (λ (f : Fault). code_of (refused f)) c.into.ensures), refl)

pub returns : goal.returns
returns c =
    right_count c.curve_in.ensures c.in-Some.curve c.in-Some.is
    (c.append.result, c.append.ensures, settled c.changed.type_inv c.changed.ensures)

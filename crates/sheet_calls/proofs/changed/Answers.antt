-- `changed` meets its contract.
use mathlib.Core.Path.{sym, ap, ◌∙◌}
use Rattle.std.specs.Prelude.{Result}
use Rattle.refusal.specs.declared.Fault.{Fault}
use Rattle.record.proofs.Signs.{settled}
use Rattle.hand.specs.Promise.{coded as code_of}
use Rattle.sheet_calls.specs.Promise.{count_of_change}
use Rattle.sheet_calls.proofs.changed.Goals as goal

pub returns-in-Ok : goal.returns-in-Ok
returns-in-Ok c = sym (ap (λ (x : Result (Unit {0}) Fault). code_of (count_of_change x)) c.in-Ok.is)

pub returns-in-Err : goal.returns-in-Err
returns-in-Err c = settled c.coded.type_inv (c.coded.ensures ∙ sym (ap (λ (x : Result (Unit {0}) Fault). code_of (count_of_change x)) c.in-Err.is))

-- `check` meets its contract.
use mathlib.Core.Path.{◌≡◌, ap, ◌∙◌, subst}
use native.Mathlib.Omega.{arith}
use mir.Syntax.{w64}
use mir.ValLaws.{to_z_pos}
use mathlib.Core.List.{List}
use Prim.Native.Nat.{ℕ}
use Rattle.std.specs.Prelude.{Result, Ok, Err}
use Rattle.refusal.specs.declared.Fault.{Fault}
use Rattle.sheet.specs.declared.Checked.{Checked}
use Rattle.record.proofs.Signs.{settled}
use Rattle.sheet.specs.Promise.{Checks}
use Rattle.sheet.proofs.Faults.{check_few}
use Rattle.sheet.proofs.Once.{count_checked}
use Rattle.hand.specs.Promise.{coded as code_of}
use Rattle.sheet_calls.proofs.check.Goals as goal

counted : (s : List ℕ) {r : Result Checked Fault} {x : Checked} → Checks s r → r ≡ Ok x → Checks s (Ok x)
counted s h e = subst (Checks s) e h

pub overflow_cast-result : goal.overflow_cast-result
overflow_cast-result c = record { sfits = omega (arith, check_few _ _ (counted c.args.s.now c.check.ensures c.in-Ok.is)) }

pub returns-in-Ok : goal.returns-in-Ok
returns-in-Ok c = to_z_pos w64 c.in-Ok.checked.curves (omega (arith, check_few _ _ (counted c.args.s.now c.check.ensures c.in-Ok.is))) ∙ ap code_of (count_checked _ (Ok _) (counted c.args.s.now c.check.ensures c.in-Ok.is))

pub returns-in-Err : goal.returns-in-Err
returns-in-Err c =
    settled c.coded.type_inv (c.coded.ensures ∙ ap code_of (count_checked _ (Err _) (subst (Checks c.args.s.now) c.in-Err.is c.check.ensures)))

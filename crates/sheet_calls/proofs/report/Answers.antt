-- `report` meets its contract.
use mathlib.Core.Path.{ap, ◌∙◌, subst}
use Prim.Native.Nat.{◌≤◌}
use native.Mathlib.Omega.{arith}
use mir.Syntax.{w64}
use mir.ValLaws.{to_z_pos}
use Rattle.refusal.specs.declared.Fault.{Fault}
use Rattle.refusal.specs.Answers.{refused}
use Rattle.record.proofs.Signs.{settled}
use Rattle.std.specs.Prelude.{Ok, Err}
use Rattle.report_text.specs.Promise.{Reported}
use Rattle.report_text.proofs.Short.{written_short}
use Rattle.hand.specs.Promise.{coded as code_of}
use Rattle.sheet_calls.proofs.report.Goals as goal

-- what the report says, where it is written
module _ (c : goal.In-Ok) where
  done : Reported c.args.s.now c.args.text.now c.write_report.new.area (Ok c.in-Ok.n)
  done = subst (Reported c.args.s.now c.args.text.now c.write_report.new.area) c.in-Ok.is c.write_report.ensures

  short : c.in-Ok.n ≤ 5335
  short = written_short c.args.s.now c.type_inv.s _ _ _ done

pub overflow_cast-result : goal.overflow_cast-result
overflow_cast-result c = record { sfits = omega (arith, short c) }

pub returns-in-Ok : goal.returns-in-Ok
returns-in-Ok c = (Ok c.in-Ok.n, done c, to_z_pos w64 c.in-Ok.n (omega (arith, short c)))

pub returns-in-Err : goal.returns-in-Err
returns-in-Err c =
    let s = c.args in (
      Err c.in-Err.r,
      subst (Reported s.s.now s.text.now c.write_report.new.area) c.in-Err.is c.write_report.ensures,
      settled c.coded.type_inv (c.coded.ensures ∙ ap (λ (f : Fault). code_of (refused f)) c.into.ensures),
    )

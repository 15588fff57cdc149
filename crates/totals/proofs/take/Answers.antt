-- `take` meets its contract: the curves of a sound sheet, or one refusal more.
use Rattle.std.proofs.Common.{sym, subst, Ok, Err}
use Rattle.sheet.proofs.Once.{count_checked}
use Rattle.totals.specs.declared.Totals.{Totals}
use Rattle.totals.specs.Steps.{Takes}
use Rattle.totals.proofs.Walked.{takes_sound, takes_refused}
use Rattle.totals.proofs.take.Goals as goal

pub count_curves-totals-requires : goal.count_curves-totals-requires
count_curves-totals-requires c = sym (count_checked c.args.sheet.now (Ok c.in-Ok.told) c.in-Ok.ensures)

pub returns-in-Ok : goal.returns-in-Ok
returns-in-Ok c = takes_sound c.args.t c.args.sheet.now c.count_curves-totals.result c.in-Ok.told c.in-Ok.ensures c.count_curves-totals.ensures

pub returns-in-Err : goal.returns-in-Err
returns-in-Err c =
    subst (λ (u : Totals). Takes c.args.t c.args.sheet.now (record { totals = u; answer = Err c.in-Err.f })) (sym c.with_refused-totals.ensures)
    (takes_refused c.args.t c.args.sheet.now c.in-Err.f c.in-Err.ensures)

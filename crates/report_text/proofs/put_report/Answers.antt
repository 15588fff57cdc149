-- `put_report` meets its contract: the lines of a sound sheet, or the refusal.
use Rattle.std.proofs.Common.{refl, sym, subst}
use Rattle.refusal.specs.Answers.{Answer}
use Rattle.sheet.specs.declared.Checked.{Checked}
use Rattle.report_text.specs.Texts.{refused_line}
use Rattle.report_text.specs.Steps.{WritesReport}
use Rattle.report_text.proofs.put_report.Goals as goal

pub put_sound-requires : goal.put_sound-requires
put_sound-requires c = sym c.in-Ok.ensures

pub returns-in-Ok : goal.returns-in-Ok
returns-in-Ok c = subst (λ (a : Answer Checked). WritesReport c.args.text.now c.args.sheet.now a c.put_sound.new.text) c.in-Ok.ensures c.put_sound.ensures

pub returns-in-Err : goal.returns-in-Err
returns-in-Err c =
    subst (λ (a : Answer Checked). WritesReport c.args.text.now c.args.sheet.now a c.put_refused.new.text) c.in-Err.ensures
    (record { text = refused_line c.in-Err.f; of_sheet = refl; writes = c.put_refused.ensures })

-- `put_sound` meets its contract: the first line, and a line for each curve.
use Rattle.std.proofs.Common.{refl, sym, ap, ◌∙◌, ◌++◌}
use Rattle.refusal.specs.Answers.{with_given}
use Rattle.refusal.proofs.Answers.{with_twice}
use Rattle.sheet.specs.declared.Checked.{Checked}
use Rattle.sheet.specs.Survey.{outcome}
use Rattle.sheet.specs.Promise.{told_of}
use Rattle.text.proofs.Pieces.{◌then◌}
use Rattle.report_text.specs.Texts.{first_line}
use Rattle.report_text.proofs.put_sound.Goals as goal

pub put_lines-requires : goal.put_lines-requires
put_lines-requires c =
    sym (with_twice told_of (λ (told : Checked). told.curves) (outcome c.args.sheet.now)) ∙ ap (with_given (λ (told : Checked). told.curves)) c.requires

pub returns : goal.returns
returns c =
    let w = c.put_lines.ensures in
    let text = first_line c.args.told.mission c.args.told.curves ++ w.lines in
    record {
      text = text;
      of_sheet = (w.lines, w.of_curves, refl);
      writes = c.put_first_line.ensures then w.writes;
    }

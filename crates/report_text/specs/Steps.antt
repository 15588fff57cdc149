-- What the functions inside the crate promise one another. No public contract speaks of it.
--   WritesJudged  a piece that a curve's verdict decides was written behind whatever was held before
--   WritesLines   the same, of the lines of the first curves
--   WritesReport  the same, of a sheet's report
use Rattle.std.specs.Prelude.{List, ℕ, Ok}
use Rattle.refusal.specs.Answers.{Answer}
use Rattle.curve.specs.declared.Curve.{Curve}
use Rattle.curve.specs.Curves.{points_of}
use Rattle.verdict.specs.declared.Verdict.{Verdict}
use Rattle.verdict.specs.Promise.{Recognised}
use Rattle.sheet.specs.declared.Checked.{Checked}
use Rattle.text.specs.declared.Text.{Text}
use Rattle.text.specs.Steps.{Writes}
use Rattle.report_text.specs.Promise.{Lines, ReportOf}

pub record WritesJudged (before : Text) (curve : Curve) (piece : Verdict → List ℕ) (after : Text) : Type 0 where
  pub verdict : Verdict
  pub recognised : Recognised (points_of curve) (Ok verdict)
  pub writes : Writes before (piece verdict) after

pub record WritesLines (before : Text) (s : List ℕ) (count : ℕ) (after : Text) : Type 0 where
  pub lines : List ℕ
  pub of_curves : Lines s count lines
  pub writes : Writes before lines after

-- of a sheet whose check answers a
pub record WritesReport (before : Text) (s : List ℕ) (a : Answer Checked) (after : Text) : Type 0 where
  pub text : List ℕ
  pub of_sheet : ReportOf s a text
  pub writes : Writes before text after

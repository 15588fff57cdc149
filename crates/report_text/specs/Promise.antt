-- The report of a sheet, and what `write_report` promises.
--   Line           the line of the curve of a number
--   Lines          the lines of the first curves, in order
--   ReportOf, Report   the report of a sheet: of what its check answers, and of its bytes
--   Reported       the promise
use Rattle.std.specs.Prelude.{◌≡◌, List, [], ◌++◌, ℕ, zero, suc, Result, Ok}
use Rattle.refusal.specs.declared.Refusal.{Refusal}
use Rattle.refusal.specs.Answers.{Answer, refused, given, with_given}
use Rattle.curve.specs.declared.Curve.{Curve}
use Rattle.curve.specs.Curves.{points_of}
use Rattle.verdict.specs.declared.Verdict.{Verdict}
use Rattle.verdict.specs.Promise.{Recognised}
use Rattle.sheet.specs.declared.Checked.{Checked}
use Rattle.sheet.specs.Survey.{outcome}
use Rattle.sheet.specs.Promise.{HasCurve, told_of}
use Rattle.text.specs.Promise.{TextIn}
use Rattle.report_text.specs.Texts.{first_line, line_text, refused_line}

-- the sheet's curve of the number, with the verdict of `recognise`
pub record Line (s : List ℕ) (number : ℕ) (line : List ℕ) : Type 0 where
  pub curve : Curve
  pub verdict : Verdict
  pub has : HasCurve s number curve
  pub recognised : Recognised (points_of curve) (Ok verdict)
  pub is : line ≡ line_text number curve verdict

abbrev pub Lines : List ℕ → ℕ → List ℕ → Type 0
Lines s zero text = text ≡ []
Lines s (suc n) text = (earlier : List ℕ) × (line : List ℕ) × Lines s n earlier × Line s (suc n) line × (text ≡ earlier ++ line)

abbrev pub ReportOf : List ℕ → Answer Checked → List ℕ → Type 0
ReportOf s (refused f) text = text ≡ refused_line f
ReportOf s (given told) text = (lines : List ℕ) × Lines s told.curves lines × (text ≡ first_line told.mission told.curves ++ lines)

abbrev pub Report : List ℕ → List ℕ → Type 0
Report s text = ReportOf s (with_given told_of (outcome s)) text

abbrev pub Reported : List ℕ → List ℕ → List ℕ → Result ℕ Refusal → Type 0
Reported s = TextIn (Report s)

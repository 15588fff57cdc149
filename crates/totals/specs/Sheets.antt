-- What the sheets of a box count for.
--   CountsFor           what a curve with a verdict counts for
--   CurveIs, CurvesAre  the curve of a number, and the first curves of a sheet, as they stand there and `recognise` judges them
--   CheckedAs           a sheet with so many curves, or with that fault
--   SheetIs, SheetsAre  a sheet: its curves in order, or its fault; and each sheet of a list
use Rattle.std.specs.Prelude.{◌≡◌, List, [], ◌∷◌, ◌++◌, ℕ, zero, suc, Ok}
use Rattle.refusal.specs.Answers.{Answer, refused, given, with_given}
use Rattle.curve.specs.declared.Curve.{Curve}
use Rattle.curve.specs.Curves.{points_of}
use Rattle.verdict.specs.declared.Verdict.{Verdict}
use Rattle.verdict.specs.declared.Verdict.TheVariants as verdict
use Rattle.verdict.specs.Promise.{Recognised}
use Rattle.measure.specs.Lengths.{length_of}
use Rattle.sheet.specs.Survey.{outcome}
use Rattle.sheet.specs.Promise.{count_of, HasCurve}
use Rattle.totals.specs.declared.Counted.{Counted}
use Rattle.totals.specs.declared.Counted.TheVariants.{Still, No, Ph, Pre}
use Rattle.totals.specs.Hundredths.{Hundredths}

abbrev pub CountsFor : Curve → Verdict → Counted → Type 0
CountsFor curve verdict.Still x = x ≡ Still
CountsFor curve verdict.No x = x ≡ No
CountsFor curve (verdict.Ph s) x = x ≡ Ph
CountsFor curve (verdict.Pre p) x = (m : ℕ) × Hundredths (length_of curve p.square) m × (x ≡ Pre m)

pub record CurveIs (s : List ℕ) (number : ℕ) (x : Counted) : Type 0 where
  pub curve : Curve
  pub verdict : Verdict
  pub has : HasCurve s number curve
  pub recognised : Recognised (points_of curve) (Ok verdict)
  pub counts : CountsFor curve verdict x

abbrev pub CurvesAre : List ℕ → ℕ → List Counted → Type 0
CurvesAre s zero xs = xs ≡ []
CurvesAre s (suc n) xs = (earlier : List Counted) × (x : Counted) × CurvesAre s n earlier × CurveIs s (suc n) x × (xs ≡ earlier ++ (x ∷ []))

-- of a sheet that has so many curves, or that fault
abbrev pub CheckedAs : List ℕ → Answer ℕ → Answer (List Counted) → Type 0
CheckedAs s (refused f) x = x ≡ refused f
CheckedAs s (given n) x = (xs : List Counted) × CurvesAre s n xs × (x ≡ given xs)

abbrev pub SheetIs : List ℕ → Answer (List Counted) → Type 0
SheetIs s x = CheckedAs s (with_given count_of (outcome s)) x

abbrev pub SheetsAre : List (List ℕ) → List (Answer (List Counted)) → Type 0
SheetsAre [] xs = xs ≡ []
SheetsAre (s ∷ ss) [] = ⊥
SheetsAre (s ∷ ss) (x ∷ xs) = SheetIs s x × SheetsAre ss xs

-- What the one walk over the records promises.
--   asked_for   where the curve of a number stands, or that there is none
--   Walks       what the walk, which all calls share, finds in bytes that begin a sheet, or that stand further on
use Rattle.std.specs.Prelude.{◌≡◌, Bool, List, ℕ, ◌≤◌, length, Option, Some, None}
use Rattle.refusal.specs.declared.Refusal.TheVariants as refusal
use Rattle.refusal.specs.Answers.{Answer, given, refuse, with_given}
use Rattle.sheet.specs.declared.walks.Walked.{Walked}
use Rattle.sheet.specs.declared.Location.{Location}
use Rattle.sheet.specs.Survey.{survey_of, curves, nth}
use Rattle.sheet.specs.Promise.{place_of}

abbrev pub asked_for : Option Location → Answer Location
asked_for None = refuse refusal.Number 0
asked_for (Some at) = given at

pub record Walks (s : List ℕ) (first : Bool) (number : ℕ) (w : Walked) : Type 0 where
  pub curves_is : w.curves ≡ length (curves (survey_of first s).records)
  pub end_is : w.end ≡ (survey_of first s).end
  pub ending_is : w.ending ≡ (survey_of first s).ending
  pub end_fits : w.end ≤ length s
  pub asked : asked_for w.asked ≡ with_given place_of (nth number (curves (survey_of first s).records))

-- The making of a sheet, line by line.
--   afterwards       how far the sheet is behind a change of it: the library's answer decides
--   Begins, Appended, Adds     what `mission N`, a curve that is appended, and a curve do: the library's own promises; what may not stand here changes nothing
--   ending_at, ending          what `erased N` does, behind records that end so, and in an area: so many erased bytes stay behind the records, if the sheet has no more than 4,096 bytes then
--   Takes            what a line does
--   Does             the same of a text that was read as a line, or as wrong: a wrong one changes nothing
--   line_of, stop_of, stop_in   the line of which it is told why there is no sheet, and why: the column is not said
--   TakesText        the line of a number: its reading, and what it does
--   SoFar            the lines that were taken, one by one, from an erased area on
--   size_in           how many bytes of the area the sheet has
--   missions_of, mission_among, curves_of, erased_of    the missions of some lines, the first of them, their curves, and how many bytes stay erased
--   SheetOf          a sheet has the mission, the curves and the erased bytes of some lines
--   MadeOf           a sheet of a text: the first bytes of the area, behind all its lines
--   Stops            the line that made an end of it
--   Makes            what is made
use Rattle.std.specs.Prelude.{◌≡◌, List, [], ◌∷◌, ◌++◌, ℕ, suc, ◌+◌, ltb, length, replicate, Option, Some, None, Result, Ok, Err, IfErr}
use Rattle.pair.specs.declared.Pair.{Pair}
use Rattle.curve.specs.declared.Curve.{Curve}
use Rattle.curve.specs.Curves.{points_of}
use Rattle.refusal.specs.declared.Fault.{Fault}
use Rattle.refusal.specs.declared.Refusal.TheVariants as refusal
use Rattle.refusal.specs.Answers.{given, when◌then◌else◌}
use Rattle.record.specs.Records.{longest, erased}
use Rattle.reading.specs.Texts.{Lines}
use Rattle.sheet.specs.Survey.{survey, mission_of}
use Rattle.sheet.specs.Promise.{curves_in, StartsFor, Appends}
use Rattle.make_sheet.specs.Sayings.{Says, AllSay}
use Rattle.make_sheet.specs.declared.NoSheet.{NoSheet}
use Rattle.make_sheet.specs.declared.NoSheet.TheVariants as none
use Rattle.make_sheet.specs.declared.lines.Line.{Line}
use Rattle.make_sheet.specs.declared.lines.Line.TheVariants as line
use Rattle.make_sheet.specs.declared.lines.Why.TheVariants as why
use Rattle.make_sheet.specs.declared.lines.Wrong.{Wrong}
use Rattle.make_sheet.specs.declared.making.Stage.{Stage}
use Rattle.make_sheet.specs.declared.making.Stage.TheVariants as stage
use Rattle.make_sheet.specs.declared.making.Stop.{Stop}
use Rattle.make_sheet.specs.declared.making.Stop.TheVariants as stop

abbrev pub afterwards : Result (Unit {0}) Fault → Result Stage Stop
afterwards (Ok u) = Ok stage.Started
afterwards (Err f) = Err (stop.Refused f.refusal)

-- the area s is t then, and what comes of it is r
abbrev pub Begins : Stage → ℕ → List ℕ → List ℕ → Result Stage Stop → Type 0
Begins stage.Blank number s t r = (a : Result (Unit {0}) Fault) × StartsFor s number t a × (r ≡ afterwards a)
Begins stage.Started number s t r = (t ≡ s) × (r ≡ Err (stop.Wrong why.MissionAgain))
Begins (stage.Ended size) number s t r = (t ≡ s) × (r ≡ Err (stop.Wrong why.BehindErased))

abbrev pub Appended : Curve → List ℕ → List ℕ → Result Stage Stop → Type 0
Appended c s t r = (a : Result (Unit {0}) Fault) × Appends s c t a × (r ≡ afterwards a)

abbrev pub Adds : Stage → Curve → List ℕ → List ℕ → Result Stage Stop → Type 0
Adds stage.Blank c s t r = Appended c s t r
Adds stage.Started c s t r = Appended c s t r
Adds (stage.Ended size) c s t r = (t ≡ s) × (r ≡ Err (stop.Wrong why.BehindErased))

unfoldable pub ending_at : ℕ → ℕ → Result Stage Stop
ending_at end count = when ltb longest (end + count) then Err (stop.Refused refusal.TooLong) else Ok (stage.Ended (end + count))

abbrev pub ending : Stage → ℕ → List ℕ → Result Stage Stop
ending stage.Blank count s = ending_at (survey s).end count
ending stage.Started count s = ending_at (survey s).end count
ending (stage.Ended size) count s = Err (stop.Wrong why.BehindErased)

abbrev pub Takes : Stage → Line → List ℕ → List ℕ → Result Stage Stop → Type 0
Takes st line.Nothing s t r = (t ≡ s) × (r ≡ Ok st)
Takes st (line.Mission number) s t r = Begins st number s t r
Takes st (line.Curve c) s t r = Adds st c s t r
Takes st (line.Erased count) s t r = (t ≡ s) × (r ≡ ending st count s)

abbrev pub Does : Stage → Result Line Wrong → List ℕ → List ℕ → Result Stage Stop → Type 0
Does st (Ok l) s t r = Takes st l s t r
Does st (Err w) s t r = (t ≡ s) × (r ≡ Err (stop.Wrong w.why))

abbrev pub line_of : NoSheet → ℕ
line_of (none.Refused line r) = line
line_of (none.Wrong line column w) = line

abbrev pub stop_of : NoSheet → Stop
stop_of (none.Refused line r) = stop.Refused r
stop_of (none.Wrong line column w) = stop.Wrong w

abbrev pub stop_in : Result Stage NoSheet → Result Stage Stop
stop_in (Ok st) = Ok st
stop_in (Err n) = Err (stop_of n)

-- the line of this number
pub record TakesText (st : Stage) (text : List ℕ) (number : ℕ) (s t : List ℕ) (r : Result Stage NoSheet) : Type 0 where
  pub read : Result Line Wrong
  pub says : Says text read
  pub does : Does st read s t (stop_in r)
  pub numbered : IfErr r (λ n. line_of n ≡ number)

-- the lines, how far the sheet is, and the area
pub data SoFar : List Line → Stage → List ℕ → Type 0 where
  begun : SoFar [] stage.Blank (replicate longest erased)
  and_then : {ls : List Line} {st next : Stage} {s t : List ℕ} (l : Line) → SoFar ls st s → Takes st l s t (Ok next) → SoFar (ls ++ (l ∷ [])) next t

abbrev pub size_in : Stage → List ℕ → ℕ
size_in stage.Blank s = (survey s).end
size_in stage.Started s = (survey s).end
size_in (stage.Ended size) s = size

abbrev pub missions_of : List Line → List ℕ
missions_of [] = []
missions_of (line.Nothing ∷ ls) = missions_of ls
missions_of (line.Mission number ∷ ls) = number ∷ missions_of ls
missions_of (line.Curve c ∷ ls) = missions_of ls
missions_of (line.Erased count ∷ ls) = missions_of ls

abbrev pub mission_among : List ℕ → Option ℕ
mission_among [] = None
mission_among (number ∷ more) = Some number

abbrev pub curves_of : List Line → List (List Pair)
curves_of [] = []
curves_of (line.Nothing ∷ ls) = curves_of ls
curves_of (line.Mission number ∷ ls) = curves_of ls
curves_of (line.Curve c ∷ ls) = points_of c ∷ curves_of ls
curves_of (line.Erased count ∷ ls) = curves_of ls

abbrev pub erased_of : List Line → ℕ
erased_of [] = 0
erased_of (line.Nothing ∷ ls) = erased_of ls
erased_of (line.Mission number ∷ ls) = erased_of ls
erased_of (line.Curve c ∷ ls) = erased_of ls
erased_of (line.Erased count ∷ ls) = count + erased_of ls

-- a sound sheet: what its lists have are what the lines say
pub record SheetOf (ls : List Line) (sheet : List ℕ) : Type 0 where
  pub lists : curves_in sheet ≡ given (curves_of ls)
  pub mission_is : mission_of (survey sheet).records ≡ mission_among (missions_of ls)
  pub erased_behind : length sheet ≡ (survey sheet).end + erased_of ls

pub record MadeOf (text area : List ℕ) (size : ℕ) : Type 0 where
  pub lines : List (List ℕ)
  pub text_is : Lines text lines
  pub said : List Line
  pub say : AllSay lines said
  pub stage : Stage
  pub made : SoFar said stage area
  pub size_is : size ≡ size_in stage area

-- behind the lines so far the one of this number makes the area t, and this end
pub record Stops (text area : List ℕ) (number : ℕ) (r : Stop) : Type 0 where
  pub lines : List (List ℕ)
  pub here : List ℕ
  pub more : List (List ℕ)
  pub text_is : Lines text (lines ++ (here ∷ more))
  pub number_is : number ≡ suc (length lines)
  pub said : List Line
  pub say : AllSay lines said
  pub read : Result Line Wrong
  pub says : Says here read
  pub stage : Stage
  pub before : List ℕ
  pub made : SoFar said stage before
  pub stops : Does stage read before area (Err r)

abbrev pub Makes : List ℕ → List ℕ → Result ℕ NoSheet → Type 0
Makes text area (Ok size) = MadeOf text area size
Makes text area (Err n) = Stops text area (line_of n) (stop_of n)

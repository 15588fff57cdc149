-- What each call promises. For every answer there is a definition of 01's number and of its values in each case, and the promises speak through it.
--   answer_of_change   an answer of a call that writes, in 01's terms
--   count_of, told_of, points_of_entry, place_of    what check, read and locate say of the records, and of the one that was asked for
--   HasCurve   the sheet has a curve of a number, whatever its mission
--   part, start_of    the bytes of a chosen record, and where they begin: none, at the sheet's start, where it is refused
--   Changes    what a call that writes a sheet says and leaves
--   starting   the sheet that start is to leave
--   erasing    the sheet that erase is to leave
--   appending, appending_to    the sheet that append is to leave, by its mission
--   curves_in   the curves of a sheet, each as its points
--   Checks, Reads, Locates, Finds, FindsIn, StartsFor, Erases, Appends     the promises
use Rattle.std.specs.Prelude.{◌≡◌, List, [], ◌∷◌, ◌++◌, map, ℕ, ◌+◌, ◌-◌, ltb, length, replicate, Option, Some, None, Result, Ok}
use Rattle.std.specs.Borrow.{Bor}
use Rattle.refusal.specs.declared.Fault.{Fault}
use Rattle.refusal.specs.declared.Refusal.TheVariants as refusal
use Rattle.refusal.specs.Answers.{Answer, refused, given, refuse, answer_at, then_given, with_given, when◌then◌else◌}
use Rattle.pair.specs.declared.Pair.{Pair}
use Rattle.curve.specs.declared.Curve.{Curve}
use Rattle.curve.specs.Curves.{points_of}
use Rattle.record.specs.declared.kinds.Kind.TheVariants.{Header}
use Rattle.record.specs.Kinds.{row_of, kind_of, numbers_of, header_of, points_in}
use Rattle.record.specs.Promise.{putting_at, bytes_after}
use Rattle.record.specs.Records.{longest, erased}
use Rattle.sheet.specs.declared.Checked.{Checked}
use Rattle.sheet.specs.declared.Location.{Location}
use Rattle.sheet.specs.Survey.{Entry, survey, outcome, curves, numbered, mission_of, chosen}

-- of a call after which the sheet is t
abbrev pub answer_of_change : List ℕ → Result (Unit {0}) Fault → Answer (List ℕ)
answer_of_change t r = with_given (λ _. t) (answer_at r)

abbrev pub count_of : List Entry → ℕ
count_of es = length (curves es)

abbrev pub told_of : List Entry → Checked
told_of es = record { mission = mission_of es; curves = count_of es }

abbrev pub points_of_entry : Entry → List Pair
points_of_entry e = points_in e.bytes

abbrev pub place_of : Entry → Location
place_of e = record { place = e.place; length = length e.bytes }

abbrev pub part : Answer Entry → List ℕ
part (refused f) = []
part (given e) = e.bytes

abbrev pub start_of : Answer Entry → ℕ
start_of (refused f) = 0
start_of (given e) = e.place

abbrev pub HasCurve : List ℕ → ℕ → Curve → Type 0
HasCurve s number c = given (points_of c) ≡ with_given points_of_entry (numbered number s)

-- check: the sheet's mission, and how many curves it has
abbrev pub Checks : List ℕ → Result Checked Fault → Type 0
Checks s r = answer_at r ≡ with_given told_of (outcome s)

-- read: the points of the curve of a number, on a sheet of the expected mission
abbrev pub Reads : List ℕ → ℕ → ℕ → Result Curve Fault → Type 0
Reads s expected number r = with_given points_of (answer_at r) ≡ with_given points_of_entry (chosen expected number s)

-- locate: where its record stands
abbrev pub Locates : List ℕ → ℕ → ℕ → Result Location Fault → Type 0
Locates s expected number r = answer_at r ≡ with_given place_of (chosen expected number s)

-- the bytes that find gives: the record itself, and nothing where it is refused
abbrev pub Finds : List ℕ → ℕ → ℕ → List ℕ → Type 0
Finds s expected number x = x ≡ part (chosen expected number s)

-- find: a part of the caller's own sheet, with these bytes, that begins where the record does; a reference points into a block of memory
pub record FindsIn (sheet : Bor (List ℕ)) (expected number : ℕ) (x : Bor (List ℕ)) : Type 0 where
  pub bytes : Finds sheet.now expected number x.now
  pub block : x.ref_ptr.0 ≡ sheet.ref_ptr.0
  pub place : x.ref_ptr.1 ≡ sheet.ref_ptr.1 + start_of (chosen expected number sheet.now)

-- a call on a sheet s that writes: afterwards the sheet is t
pub record Changes (s : List ℕ) (asked : Answer (List ℕ)) (t : List ℕ) (r : Result (Unit {0}) Fault) : Type 0 where
  pub says : answer_of_change t r ≡ asked
  pub leaves : t ≡ bytes_after s asked

-- the header comes first, and whatever stood behind it is erased
unfoldable pub starting : List ℕ → ℕ → Answer (List ℕ)
starting s m =
    when ltb longest (length s) then refuse refusal.TooLong 0
    else when ltb (length s) (row_of Header).size then refuse refusal.Room 0
    else given (header_of m ++ replicate (length s - (row_of Header).size) erased)

-- start
abbrev pub StartsFor : List ℕ → ℕ → List ℕ → Result (Unit {0}) Fault → Type 0
StartsFor s m t r = Changes s (starting s m) t r

unfoldable pub erasing : List ℕ → Answer (List ℕ)
erasing s = when ltb longest (length s) then refuse refusal.TooLong 0 else given (replicate (length s) erased)

-- erase
abbrev pub Erases : List ℕ → List ℕ → Result (Unit {0}) Fault → Type 0
Erases s t r = Changes s (erasing s) t r

-- where the records end, the erased tail begins
abbrev pub appending_to : List ℕ → Curve → Option ℕ → Answer (List ℕ)
appending_to s c None = refuse refusal.NoMission 0
appending_to s c (Some m) = putting_at s (survey s).end (kind_of c) (numbers_of (points_of c))

unfoldable pub appending : List ℕ → Curve → Answer (List ℕ)
appending s c = then_given (λ es. appending_to s c (mission_of es)) (outcome s)

unfoldable pub curves_in : List ℕ → Answer (List (List Pair))
curves_in s = with_given (λ es. map points_of_entry (curves es)) (outcome s)

-- append: what is left is asked for byte by byte, and it lists the old curves and then the new one
pub record Appends (s : List ℕ) (c : Curve) (t : List ℕ) (r : Result (Unit {0}) Fault) : Type 0 where
  pub changes : Changes s (appending s c) t r
  pub lists : r ≡ Ok tt → curves_in t ≡ with_given (λ (old : List (List Pair)). old ++ (points_of c ∷ [])) (curves_in s)

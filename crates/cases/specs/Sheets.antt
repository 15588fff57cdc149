-- Sheets of document 01, "The parameter sheet", "The report" and case 10, in the form of 02, P6: a row for each way in which a sheet ends, for
-- what reading, appending and starting say of its mission, and whole reports. `AllHold sheets` is the one statement over them, proved in
-- proofs/Pinned.antt.
--   SheetRow                 a sound sheet with its mission and how many curves it has, a faulty one with 01's number and place; a sheet that
--                            starting leaves; what reading, appending and starting refuse, with the number; or a sheet with its report
--   Refuses                  a refusal with that number and place
--   SheetHolds, AllHold      that a row holds: the promise of the call or the report itself; and all of a list
--   ff, head, header         so many bytes FF; a record's length and its kind; a header with the two bytes of its mission
--   first                    the header of mission 7, and the record of case 2's cubic, 42 bytes: a fault behind it stands at byte 42
--   bent                     a cubic with a coordinate −x
--   straight, minus_ones      the quintic (0,0)…(5,0), and the cubic with four points (−1,−1)
--   sample, sample_text       the sheet of 01, "The report", of mission 7, and its three lines
--   sheets                   the rows
use Rattle.std.specs.Prelude.{◌≡◌, Option, None, Some, Ok, Err, List, [], ◌∷◌, ◌++◌, ℕ, ◌/◌, ◌%◌, pos, replicate, take}
use Prim.Native.String.{String}
use Rattle.refusal.specs.declared.Refusal.{Refusal}
use Rattle.refusal.specs.declared.Fault.{Fault}
use Rattle.refusal.specs.Table.{number_of}
use Rattle.pair.specs.Pairs.{pair}
use Rattle.curve.specs.declared.Curve.{Curve}
use Rattle.record.specs.Kinds.{record_of}
use Rattle.record.specs.Records.{erased}
use Rattle.sheet.specs.Promise.{Checks, Reads, StartsFor, Appends}
use Rattle.text.specs.Texts.{bytes}
use Rattle.report_text.specs.Promise.{Report}
use Rattle.cases.specs.Table.{neg, point, cubic, quintic, bend}

pub data SheetRow : Type 0 where
  has : List ℕ → Option ℕ → (curves : ℕ) → SheetRow
  refused_at : List ℕ → (number place : ℕ) → SheetRow
  started : List ℕ → (mission : ℕ) → List ℕ → SheetRow
  not_started : List ℕ → (mission number : ℕ) → SheetRow
  not_appended : List ℕ → Curve → (number : ℕ) → SheetRow
  not_read : List ℕ → (expected curve number : ℕ) → SheetRow
  reported : List ℕ → String → SheetRow

abbrev pub Refuses : ℕ → ℕ → (Fault → Type 0) → Type 0
Refuses number place P = (r : Refusal) × (number_of r ≡ number) × P (record { refusal = r; place = place })

abbrev pub SheetHolds : SheetRow → Type 0
SheetHolds (has s m n) = Checks s (Ok (record { mission = m; curves = n }))
SheetHolds (refused_at s number place) = Refuses number place (λ f. Checks s (Err f))
SheetHolds (started s m t) = StartsFor s m t (Ok tt)
SheetHolds (not_started s m number) = Refuses number 0 (λ f. StartsFor s m s (Err f))
SheetHolds (not_appended s c number) = Refuses number 0 (λ f. Appends s c s (Err f))
SheetHolds (not_read s expected curve number) = Refuses number 0 (λ f. Reads s expected curve (Err f))
SheetHolds (reported s text) = Report s (bytes text)

abbrev pub AllHold : List SheetRow → Type 0
AllHold [] = Unit {0}
AllHold (row ∷ rows) = SheetHolds row × AllHold rows

abbrev pub ff : ℕ → List ℕ
ff n = replicate n erased

abbrev pub head : ℕ → String → List ℕ
head size kind = size % 256 ∷ size / 256 ∷ bytes kind

abbrev pub header : ℕ → ℕ → List ℕ
header low high = head 6 "MN" ++ (low ∷ high ∷ [])

abbrev pub first : List ℕ
first = header 7 0 ++ record_of bend

abbrev pub bent : ℕ → Curve
bent x = cubic (point 0 0) (point 1 0) (point 1 1) (pair (pos 0) (neg x))

abbrev pub straight : Curve
straight = quintic (point 0 0) (point 1 0) (point 2 0) (point 3 0) (point 4 0) (point 5 0)

abbrev pub minus_ones : Curve
minus_ones = let p = pair (neg 1) (neg 1) in cubic p p p p

abbrev pub sample : List ℕ
sample = header 7 0 ++ record_of straight ++ record_of minus_ones ++ ff 10

abbrev pub sample_text : String
sample_text = "mission 7 sheet 2\n1 C5 pre c=1 len=60/12\n2 C3 still\n"

abbrev pub sheets : List SheetRow
sheets =
    -- an empty sheet has no mission and no curves, nor has an erased one of 4,096 bytes; one more is TOO LONG
    has [] None 0
    ∷ has (ff 4096) None 0
    ∷ refused_at (ff 4097) 1 0
    -- a header begins a sheet; FF in its number, and in coordinates, is no erasure
    ∷ has (header 7 0) (Some 7) 0
    ∷ has (header 255 255 ++ record_of minus_ones ++ ff 10) (Some 65535) 1
    -- KIND: no header, and a second one; an erased length instead of the header wants FF behind it
    ∷ refused_at (record_of bend) 4 0
    ∷ refused_at (first ++ header 7 0) 4 42
    ∷ refused_at (ff 2 ++ first) 3 2
    -- a header too is LENGTH before it is CUT
    ∷ refused_at (head 7 "MN") 5 0
    ∷ refused_at (take 5 first) 2 0
    -- one byte left: FF ends the sheet, any other is CUT; two or three are CUT where they are no erased length, and so is a record that is longer than what is left
    ∷ has (first ++ ff 1) (Some 7) 1
    ∷ refused_at (first ++ (0 ∷ [])) 2 42
    ∷ refused_at (first ++ (36 ∷ 0 ∷ 67 ∷ [])) 2 42
    ∷ refused_at (first ++ take 35 (record_of bend)) 2 42
    -- LEFTOVER: the first byte behind an erased length that is not FF
    ∷ refused_at (first ++ ff 3 ++ (0 ∷ 255 ∷ 7 ∷ [])) 3 45
    -- KIND comes before LENGTH, and LENGTH before CUT
    ∷ refused_at (first ++ head 7 "C4") 4 42
    ∷ refused_at (first ++ head 52 "C3") 5 42
    -- a coordinate 20,000 is accepted, 20,001 is RANGE
    ∷ has (first ++ record_of (bent 20000)) (Some 7) 2
    ∷ refused_at (first ++ record_of (bent 20001)) 6 42
    -- starting leaves nothing of an old sheet; under 6 bytes it is ROOM
    ∷ started first 300 (header 44 1 ++ ff 36)
    ∷ not_started (ff 5) 7 12
    -- NO MISSION comes before RANGE, and RANGE before ROOM
    ∷ not_appended (ff 42) (bent 20001) 15
    ∷ not_appended first (bent 20001) 6
    ∷ not_appended first bend 12
    -- OTHER MISSION comes before NUMBER; an erased sheet is no other mission
    ∷ not_read first 8 2 16
    ∷ not_read first 7 2 7
    ∷ not_read (ff 42) 8 1 7
    -- the report, one of a sheet that is all FF, one of a mission alone, and one of a faulty sheet
    ∷ reported sample sample_text
    ∷ reported (ff 10) "mission none sheet 0\n"
    ∷ reported (header 255 255) "mission 65535 sheet 0\n"
    ∷ reported (first ++ head 7 "C4") "refused 4 at 42\n"
    ∷ []

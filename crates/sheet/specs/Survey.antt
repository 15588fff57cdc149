-- What a walk over a sheet finds: the survey. Every call on a sheet is said by it.
--   Entry            a record of the sheet: its place, its kind and its bytes
--   Ending           how records end: soundly, or with the first fault in sheet order
--   Survey           the records, where they end, and how that is
--   entry_at          the record of a kind at a place, of which `rest` is left
--   nothing, before  no record, and how it ends; a record before what is found behind it
--   found            what a step at a place finds
--   survey_from       what is found from a place on, at the sheet's first byte or behind it
--   survey_of         what is found in bytes that begin a sheet, or that stand further on
--   survey           what is found in a sheet
--   soundly          what a sound sheet gives; a faulty one is refused with its fault
--   outcome          the records of a sound sheet
--   curves           those that are curves
--   nth, numbered    curve `number`, from 1, of some records, and of a sheet, whatever its mission
--   mission_of        the mission of some records: their header's number
--   is_other          a mission is another than the one that is expected
--   chosen           curve `number` of a sheet of the expected mission
use Rattle.std.specs.Prelude.{Bool, true, false, not, List, [], ◌∷◌, ℕ, zero, suc, ◌+◌, ltb, eqb, length, take, drop, Option, Some, None, Result, Ok, Err}
use Rattle.refusal.specs.declared.Fault.{Fault}
use Rattle.refusal.specs.declared.Refusal.TheVariants as refusal
use Rattle.refusal.specs.Answers.{Answer, refused, given, refuse, then_given, when◌then◌else◌}
use Rattle.record.specs.declared.kinds.Kind.{Kind}
use Rattle.record.specs.Numbers.{mission_in}
use Rattle.record.specs.Kinds.{row_of}
use Rattle.record.specs.Records.{longest, Step, step_of}

pub record Entry : Type 0 where
  pub place : ℕ
  pub kind : Kind
  pub bytes : List ℕ

abbrev pub Ending : Type 0
Ending = Result (Unit {0}) Fault

pub record Survey : Type 0 where
  pub records : List Entry
  pub end : ℕ
  pub ending : Ending

abbrev pub entry_at : ℕ → List ℕ → Kind → Entry
entry_at at rest k = record { place = at; kind = k; bytes = take (row_of k).size rest }

abbrev pub nothing : ℕ → Ending → Survey
nothing at how = record { records = []; end = at; ending = how }

abbrev pub before : Entry → Survey → Survey
before e later = record { records = e ∷ later.records; end = later.end; ending = later.ending }

abbrev pub found : ℕ → List ℕ → (ℕ → Survey) → Step → Survey
found at rest later (Ok None) = nothing at (Ok tt)
found at rest later (Err slip) = nothing at (Err (record { refusal = slip.refusal; place = at + slip.offset }))
found at rest later (Ok (Some k)) = before (entry_at at rest k) (later (row_of k).size)

-- the first number bounds how many records are looked at
unfoldable pub survey_from : ℕ → Bool → ℕ → List ℕ → Survey
survey_from zero first at rest = nothing at (Ok tt)
survey_from (suc most) first at rest = found at rest (λ size. survey_from most false (at + size) (drop size rest)) (step_of first rest)

-- there are no more records than bytes
unfoldable pub survey_of : Bool → List ℕ → Survey
survey_of first s =
    when ltb longest (length s) then nothing 0 (Err (record { refusal = refusal.TooLong; place = 0 })) else survey_from (suc (length s)) first 0 s

abbrev pub survey : List ℕ → Survey
survey s = survey_of true s

abbrev pub soundly : {A : Type 0} → Ending → A → Answer A
soundly (Ok done) a = given a
soundly (Err f) a = refused f

abbrev pub outcome : List ℕ → Answer (List Entry)
outcome s = soundly (survey s).ending (survey s).records

abbrev pub curves : List Entry → List Entry
curves [] = []
curves (e ∷ es) = when (row_of e.kind).curve then e ∷ curves es else curves es

abbrev pub nth : ℕ → List Entry → Answer Entry
nth number [] = refuse refusal.Number 0
nth zero (e ∷ es) = refuse refusal.Number 0
nth (suc zero) (e ∷ es) = given e
nth (suc (suc k)) (e ∷ es) = nth (suc k) es

abbrev pub numbered : ℕ → List ℕ → Answer Entry
numbered number s = then_given (λ es. nth number (curves es)) (outcome s)

-- the first record of a sheet is its header
abbrev pub mission_of : List Entry → Option ℕ
mission_of [] = None
mission_of (e ∷ es) = Some (mission_in e.bytes)

-- a sheet without a mission is no other mission
abbrev pub is_other : ℕ → Option ℕ → Bool
is_other expected None = false
is_other expected (Some m) = not (eqb m expected)

abbrev pub chosen : ℕ → ℕ → List ℕ → Answer Entry
chosen expected number s =
    then_given (λ es. when is_other expected (mission_of es) then refuse refusal.OtherMission 0 else nth number (curves es)) (outcome s)

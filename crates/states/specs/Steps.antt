-- What the functions inside the crate promise one another. No public contract speaks of it.
--   first_in       what stands behind the records of a state is at the sheet's first byte
--   behind_in, held_in, front_in     how many bytes stand there, how many of them a state has, and these
--   joined_to, joined    bytes together with a part, as far as the longest record goes; those of a state
--   padded        bytes with zeros behind them
--   erased_on      how many bytes FF come first, with a part more
--   mission_on     the mission's number behind records that stand in some bytes
--   after_records, grown, onward, fed_by    the state behind records that a part completes; where none is completed; by what is found; with a
--                 part more
--   ended_in       the same state, ended
--   mission_kept, sound_in   the mission of a state, and what the check answers of a sound sheet
--   fault_behind, answer_by, answer_with, answer_in   what the check answers: a fault so far behind the records; by a step; by how the front
--                 ends; of a state
--   CurvesEnd, RecordsEnd  the records of so many curves may have so many bytes; with the header they may end at that place
--   MissionFits   the mission of records that end at a place may have that number
--   Fronted, Standing, Overfull, Possible   the numbers that a state of some bytes may have
use Rattle.std.specs.Prelude.{◌≡◌, ◌⊎◌, Bool, false, List, [], ◌++◌, ℕ, suc, ◌+◌, ◌-◌, ◌*◌, ◌≤◌, ◌<◌, min, ltb, eqb, length, take, drop, replicate, Option, Some, None, Result, Ok, Err}
use Rattle.refusal.specs.declared.Fault.{Fault}
use Rattle.refusal.specs.declared.Refusal.{Refusal}
use Rattle.refusal.specs.declared.Refusal.TheVariants as refusal
use Rattle.refusal.specs.Answers.{when◌then◌else◌}
use Rattle.record.specs.declared.kinds.Kind.TheVariants as kinds
use Rattle.record.specs.Numbers.{mission_in}
use Rattle.record.specs.Kinds.{row_of, longest_record}
use Rattle.record.specs.Records.{longest, Step, erased_bytes, erased_end}
use Rattle.sheet.specs.declared.Checked.{Checked}
use Rattle.sheet.specs.Survey.{Ending, survey_of}
use Rattle.sheet.specs.Promise.{count_of}
use Rattle.states.specs.declared.State.{State}
use Rattle.states.specs.Words.{packed, unpacked}
use Rattle.states.specs.States.{keeping}

-- a record is not empty
abbrev pub first_in : State → Bool
first_in st = eqb st.place 0

abbrev pub behind_in : State → ℕ
behind_in st = st.count - st.place

abbrev pub held_in : State → ℕ
held_in st = min (behind_in st) longest_record

abbrev pub front_in : State → List ℕ
front_in st = take (held_in st) (unpacked st.words)

-- so many bytes, and as much of a part as the longest record has room for
abbrev pub joined_to : List ℕ → ℕ → List ℕ → List ℕ
joined_to front held part = front ++ take (longest_record - held) part

abbrev pub joined : State → List ℕ → List ℕ
joined st part = joined_to (front_in st) (held_in st) part

-- as many bytes as seven words have
abbrev pub padded : List ℕ → List ℕ
padded bytes = bytes ++ replicate (56 - length bytes) 0

abbrev pub erased_on : State → List ℕ → ℕ
erased_on st part = when eqb st.erased (behind_in st) then behind_in st + erased_bytes part else st.erased

-- a sheet's first record is its header
abbrev pub mission_on : State → List ℕ → ℕ
mission_on st bytes = when first_in st then mission_in bytes else st.mission

-- of so many curves and bytes; `rest` is what the part has behind them
unfoldable pub after_records : State → ℕ → ℕ → ℕ → ℕ → List ℕ → State
after_records st count mission more size rest =
    let v = survey_of false rest in
    keeping false count mission (st.curves + more + count_of v.records) (st.place + size + v.end) (drop v.end rest)

unfoldable pub grown : State → List ℕ → State
grown st part = record {
  ended = 0;
  count = st.count + length part;
  mission = st.mission;
  curves = st.curves;
  place = st.place;
  erased = erased_on st part;
  words = packed (joined st part);
}

unfoldable pub onward : State → List ℕ → State
onward st part =
    let v = survey_of (first_in st) (joined st part) in
    when eqb v.end 0 then grown st part
    else after_records st (st.count + length part) (mission_on st (joined st part)) (count_of v.records) v.end (drop (v.end - behind_in st) part)

unfoldable pub fed_by : State → List ℕ → State
fed_by st part = when ltb longest (st.count + length part) then keeping false (suc longest) 0 0 0 [] else onward st part

abbrev pub ended_in : State → State
ended_in st = record { ended = 1; count = st.count; mission = st.mission; curves = st.curves; place = st.place; erased = st.erased; words = st.words }

abbrev pub mission_kept : State → Option ℕ
mission_kept st = when first_in st then None else Some st.mission

abbrev pub sound_in : State → Result Checked Fault
sound_in st = Ok (record { mission = mission_kept st; curves = st.curves })

abbrev pub fault_behind : State → Refusal → ℕ → Fault
fault_behind st r offset = record { refusal = r; place = st.place + offset }

-- no record stands behind the records
abbrev pub answer_by : State → Step → Result Checked Fault
answer_by st (Ok record_there) = sound_in st
answer_by st (Err slip) = Err (fault_behind st slip.refusal slip.offset)

-- the front may be erased as far as the state has it
abbrev pub answer_with : State → Ending → Result Checked Fault
answer_with st (Ok done) = answer_by st (erased_end st.erased (behind_in st))
answer_with st (Err f) = Err (fault_behind st f.refusal f.place)

unfoldable pub answer_in : State → Result Checked Fault
answer_in st =
    when ltb longest st.count then Err (record { refusal = refusal.TooLong; place = 0 })
    else answer_with st (survey_of (first_in st) (front_in st)).ending

pub record CurvesEnd (curves long : ℕ) : Type 0 where
  pub cubics : ℕ
  pub quintics : ℕ
  pub all : curves ≡ cubics + quintics
  pub long_is : long ≡ cubics * (row_of kinds.Cubic).size + quintics * (row_of kinds.Quintic).size

-- there is no record, or the header and the curves behind it
abbrev pub RecordsEnd : ℕ → ℕ → Type 0
RecordsEnd curves place = ((place ≡ 0) × (curves ≡ 0)) ⊎ (((row_of kinds.Header).size ≤ place) × CurvesEnd curves (place - (row_of kinds.Header).size))

-- where there is no record there is no mission, and a number has two bytes
pub record MissionFits (mission place : ℕ) : Type 0 where
  pub none : place ≡ 0 → mission ≡ 0
  pub two_bytes : mission < 65536

pub record Fronted (st : State) : Type 0 where
  pub words_are : st.words ≡ packed (front_in st)
  pub erased_inside : st.erased ≤ behind_in st
  pub erased_is : min longest_record st.erased ≡ erased_bytes (front_in st)
  pub no_record : (survey_of (first_in st) (front_in st)).end ≡ 0

pub record Standing (st : State) : Type 0 where
  pub short : st.count ≤ longest
  pub inside : st.place ≤ st.count
  pub mission : MissionFits st.mission st.place
  pub records : RecordsEnd st.curves st.place
  pub front : Fronted st

abbrev pub Overfull : State → Type 0
Overfull st = st ≡ record { ended = st.ended; count = suc longest; mission = 0; curves = 0; place = 0; erased = 0; words = packed [] }

pub record Possible (st : State) : Type 0 where
  pub flag : st.ended ≤ 1
  pub numbers : Overfull st ⊎ Standing st

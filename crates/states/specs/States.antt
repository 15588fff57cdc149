-- What is left of the bytes that were fed.
--   number      a flag as a number
--   mission_number   a mission as a number: that of its header, and 0 where there is none
--   keeping     a state: ended or not, how many bytes, the mission's number, how many curves, where the records end, and what stands there
--   state_of     what is left of these bytes, ended or not
--   IsOf        a state is that of these bytes, ended or not
--   Reached     a state is that of some bytes
use Rattle.std.specs.Prelude.{◌≡◌, Bool, true, false, List, [], ℕ, suc, ltb, length, take, drop, Option, Some, None}
use Rattle.refusal.specs.Answers.{when◌then◌else◌}
use Rattle.record.specs.Numbers.{AllBytes}
use Rattle.record.specs.Kinds.{longest_record}
use Rattle.record.specs.Records.{longest, erased_bytes}
use Rattle.sheet.specs.Survey.{survey, mission_of}
use Rattle.sheet.specs.Promise.{count_of}
use Rattle.states.specs.declared.State.{State}
use Rattle.states.specs.Words.{packed}

abbrev pub number : Bool → ℕ
number false = 0
number true = 1

abbrev pub mission_number : Option ℕ → ℕ
mission_number None = 0
mission_number (Some m) = m

-- of what stands behind the records a state has as many bytes as the longest record, eight to a word, and how many bytes FF come first
abbrev pub keeping : Bool → ℕ → ℕ → ℕ → ℕ → List ℕ → State
keeping ended count mission curves place rest = record {
  ended = number ended;
  count = count;
  mission = mission;
  curves = curves;
  place = place;
  erased = erased_bytes rest;
  words = packed (take longest_record rest);
}

-- what is too long is TOO LONG, whatever stands in it, and is not counted any further
unfoldable pub state_of : List ℕ → Bool → State
state_of s ended =
    let v = survey s in
    when ltb longest (length s) then keeping ended (suc longest) 0 0 0 []
    else keeping ended (length s) (mission_number (mission_of v.records)) (count_of v.records) v.end (drop v.end s)

pub record IsOf (st : State) (s : List ℕ) (ended : Bool) : Type 0 where
  pub bytes : AllBytes s
  pub is : st ≡ state_of s ended

abbrev pub Reached : State → Type 0
Reached st = (s : List ℕ) × (ended : Bool) × IsOf st s ended

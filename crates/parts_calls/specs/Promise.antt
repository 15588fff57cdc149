-- What each call on a sheet by parts promises. r is what it returns; before and after are the lent area with the state, as it was and as it
-- is left.
--   not_ended       what is returned where the sheet has not ended: the least number
--   count_in        how many curves `check` tells of
--   fed_code, told_code    what is returned for an answer of `feed`, and of `ask`
--   left           the area with another state; what stands behind the state stays
--   fed_area, ended_area      the area by the answer: a refusal changes nothing
--   OnState        an area that is too small is refused with ROOM
--   StartCall, FeedCall, EndCall, AskCall    the calls
use Rattle.std.specs.Prelude.{◌≡◌, List, ◌++◌, ◌⊎◌, ℕ, ◌^◌, ◌<◌, ◌≤◌, ℤ, pos, neg_ℤ, length, drop, Option, Some, None, Result, Ok, Err}
use Rattle.refusal.specs.declared.Fault.{Fault}
use Rattle.refusal.specs.declared.Refusal.{Refusal}
use Rattle.refusal.specs.declared.Refusal.TheVariants as refusal
use Rattle.refusal.specs.Answers.{Answer, refused, refuse, answer_at, with_given}
use Rattle.sheet.specs.declared.Checked.{Checked}
use Rattle.states.specs.declared.State.{State}
use Rattle.parts.specs.Promise.{Starts, Feeds, EndsSheet, Asks}
use Rattle.hand.specs.Promise.{coded}
use Rattle.parts_calls.specs.Numbers.{state_numbers, state_in, numbers_in}

abbrev pub not_ended : ℤ
not_ended = neg_ℤ (pos (2 ^ 63))

abbrev pub count_in : Result Checked Fault → Answer ℕ
count_in x = with_given (λ (told : Checked). told.curves) (answer_at x)

abbrev pub fed_code : Result State Fault → ℤ
fed_code (Ok st) = pos 0
fed_code (Err f) = coded (refused f)

abbrev pub told_code : Result (Option (Result Checked Fault)) Refusal → ℤ
told_code (Ok (Some x)) = coded (count_in x)
told_code (Ok None) = not_ended
told_code (Err r) = coded (refuse r 0)

abbrev pub left : List ℤ → State → List ℤ
left before st = numbers_in st ++ drop state_numbers before

abbrev pub fed_area : List ℤ → Result State Fault → List ℤ
fed_area before (Ok st) = left before st
fed_area before (Err f) = before

abbrev pub ended_area : List ℤ → State → Result (Option (Result Checked Fault)) Refusal → List ℤ
ended_area before st (Ok t) = left before st
ended_area before st (Err r) = before

abbrev pub OnState : List ℤ → List ℤ → ℤ → Type 0 → Type 0
OnState before after r Right =
    ((length before < state_numbers) × (r ≡ coded (refuse refusal.Room 0)) × (after ≡ before)) ⊎ ((state_numbers ≤ length before) × Right)

abbrev pub StartCall : List ℤ → List ℤ → ℤ → Type 0
StartCall before after r = OnState before after r ((st : State) × Starts st × (r ≡ pos 0) × (after ≡ left before st))

abbrev pub FeedCall : List ℤ → List ℕ → List ℤ → ℤ → Type 0
FeedCall before part after r =
    OnState before after r ((x : Result State Fault) × Feeds (state_in before) part x × (r ≡ fed_code x) × (after ≡ fed_area before x))

abbrev pub EndCall : List ℤ → List ℤ → ℤ → Type 0
EndCall before after r =
    OnState before after r ((st : State) × (t : Result (Option (Result Checked Fault)) Refusal) × EndsSheet (state_in before) st × Asks st t × (r ≡ told_code t) × (after ≡ ended_area before st t))

abbrev pub AskCall : List ℤ → ℤ → Type 0
AskCall area r = OnState area area r ((t : Result (Option (Result Checked Fault)) Refusal) × Asks (state_in area) t × (r ≡ told_code t))

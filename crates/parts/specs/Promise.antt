-- What each call promises. A state that is not that of any bytes is refused with RANGE.
--   stays       what `feed` answers where the state stays, and why
--   Starts      the state of no bytes
--   Feeds       the state of some bytes becomes that of these bytes and the part; where the sheet has ended, the part is refused
--   EndsSheet   the state of some bytes becomes that of the same bytes, ended
--   Asks        what `check` answers for all bytes that were fed, once the sheet has ended
use Rattle.std.specs.Prelude.{◌≡◌, Bool, true, false, List, [], ◌++◌, ℕ, Option, Some, None, Result, Ok, Err}
use Rattle.refusal.specs.declared.Fault.{Fault}
use Rattle.refusal.specs.declared.Refusal.{Refusal}
use Rattle.refusal.specs.declared.Refusal.TheVariants as refusal
use Rattle.sheet.specs.declared.Checked.{Checked}
use Rattle.sheet.specs.Promise.{Checks}
use Rattle.states.specs.declared.State.{State}
use Rattle.states.specs.States.{state_of, IsOf, Reached}

abbrev pub stays : Refusal → Result State Fault
stays r = Err (record { refusal = r; place = 0 })

abbrev pub Starts : State → Type 0
Starts st = st ≡ state_of [] false

pub data Feeds (st : State) (part : List ℕ) : Result State Fault → Type 0 where
  goes_on : (s : List ℕ) → IsOf st s false → Feeds st part (Ok (state_of (s ++ part) false))
  too_late : (s : List ℕ) → IsOf st s true → Feeds st part (stays refusal.Ended)
  feeds_none : (Reached st → ⊥) → Feeds st part (stays refusal.Range)

pub data EndsSheet (st : State) : State → Type 0 where
  ends : (s : List ℕ) (before : Bool) → IsOf st s before → EndsSheet st (state_of s true)
  ends_none : (Reached st → ⊥) → EndsSheet st st

pub data Asks (st : State) : Result (Option (Result Checked Fault)) Refusal → Type 0 where
  checked : (s : List ℕ) (x : Result Checked Fault) → IsOf st s true → Checks s x → Asks st (Ok (Some x))
  not_ended : (s : List ℕ) → IsOf st s false → Asks st (Ok None)
  asks_none : (Reached st → ⊥) → Asks st (Err refusal.Range)

-- What is told of a state.
--   countable            a count that is told has a code: no sheet has more than 113 curves
--   told-left, told-kept   what is told and not refused leaves the ended state in the area, and a refusal leaves the area as it was
use mathlib.Core.Path.{◌≡◌, refl}
use mathlib.Core.List.{List}
use lib.IntN.{ℤ}
use Rattle.refusal.specs.declared.Refusal.{Refusal}
use Rattle.sheet.specs.declared.Checked.{Checked}
use mathlib.Core.Bool.{true, false, false≢true, true≢false}
use Rattle.std.specs.Prelude.{Option, Some, Result, Ok, Err, is_ok}
use Rattle.refusal.specs.declared.Fault.{Fault}
use Rattle.sheet.specs.Promise.{Checks}
use Rattle.sheet.proofs.Faults.{check_few}
use Rattle.states.specs.declared.State.{State}
use Rattle.parts.specs.Promise.{Asks, checked, not_ended, asks_none}
use Rattle.parts_calls.specs.Promise.{left, ended_area}
use Rattle.parts_calls.specs.Steps.{Countable}

pub countable : (st : State) (t : Result (Option (Result Checked Fault)) Refusal) → Asks st t → Countable t
countable st _ (checked s x h c) = by x c
  where
    by : (x : Result Checked Fault) → Checks s x → Countable (Ok (Some x))
    by (Ok x) c = check_few s x c
    by (Err f) c = tt
countable st _ (not_ended s h) = tt
countable st _ (asks_none h) = tt

pub told-left : (before : List ℤ) (st : State) (t : Result (Option (Result Checked Fault)) Refusal) → is_ok t ≡ true → ended_area before st t ≡ left before st
told-left before st (Ok t) e = refl
told-left before st (Err r) e = absurd (false≢true e)

pub told-kept : (before : List ℤ) (st : State) (t : Result (Option (Result Checked Fault)) Refusal) → is_ok t ≡ false → ended_area before st t ≡ before
told-kept before st (Ok t) e = absurd (true≢false e)
told-kept before st (Err r) e = refl

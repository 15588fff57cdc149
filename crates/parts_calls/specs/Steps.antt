-- What the functions inside the crate ask of one another. No public contract speaks of it.
--   Countable     an answer whose count has a code: no sheet has more curves
use Rattle.std.specs.Prelude.{◌≤◌, Option, Some, None, Result, Ok, Err}
use Rattle.refusal.specs.declared.Fault.{Fault}
use Rattle.refusal.specs.declared.Refusal.{Refusal}
use Rattle.sheet.specs.declared.Checked.{Checked}

abbrev pub Countable : Result (Option (Result Checked Fault)) Refusal → Type 0
Countable (Ok (Some (Ok c))) = c.curves ≤ 113
Countable (Ok (Some (Err f))) = Unit {0}
Countable (Ok None) = Unit {0}
Countable (Err r) = Unit {0}

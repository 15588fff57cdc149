-- `going::mission_of` meets its contract: by whether there is a record.
use mathlib.Core.Path.{◌≡◌, refl, ◌∙◌}
use mathlib.Core.Bool.{Bool, true, false, not}
use Prim.Native.Nat.{ℕ}
use lib.Dec.{eqb}
use Rattle.std.specs.Bool.{then_some}
use Rattle.std.specs.Prelude.{Some, None}
use Rattle.refusal.specs.Answers.{when◌then◌else◌}
use Rattle.states.proofs.going.mission_of.Goals as goal

none_or : (b : Bool) (m : ℕ) → then_some (not b) m ≡ (when b then None else Some m)
unfolding when◌then◌else◌
none_or true m = refl
none_or false m = refl

pub returns : goal.returns
returns c = c.then_some.ensures ∙ none_or (eqb c.args.state.place 0) c.args.state.mission

-- `start` meets its contract: no bytes have no records.
use mathlib.Core.Path.{sym, ap, ◌∙◌}
use mathlib.Core.Bool.{false}
use mathlib.Core.List.{[]}
use native.Mathlib.Omega.{arith}
use lib.ListN.{drop}
use Rattle.record.specs.Numbers.{words_in}
use Rattle.sheet.specs.Survey.{Survey, mission_of}
use Rattle.sheet.specs.Promise.{count_of}
use Rattle.sheet.proofs.Examples.{erased-sheet}
use Rattle.states.specs.States.{mission_number, keeping}
use Rattle.states.proofs.Fronts.{state_short}
use Rattle.parts.proofs.start.Goals as goal

pub returns : goal.returns
unfolding words_in
returns c =
    sym (state_short [] false (omega arith) ∙ ap (λ (v : Survey). keeping false 0 (mission_number (mission_of v.records)) (count_of v.records) v.end (drop v.end [])) (erased-sheet 0 (omega arith)))

-- What the loop of `make` keeps.
use Rattle.std.proofs.Common.{◌≡◌, ◌+◌}
use Rattle.std.specs.Iterator.Adapters.{enumerate_source, enumerate_count}
use Rattle.make_sheet.proofs.Progress.{Progress}
use Rattle.make_sheet.proofs.make.Given as goal

abbrev pub invariant-loop-passed : goal.invariant-loop-passed
invariant-loop-passed l =
    ((enumerate_source l.passed-iterator).text.now ≡ l.text)
    × (l.sheet.area.ghost_name ≡ l.initial.sheet.area.ghost_name)
    × Progress l.text l.sheet.area.now l.sheet.stage (enumerate_source l.passed-iterator).at (enumerate_count l.passed-iterator + 1)

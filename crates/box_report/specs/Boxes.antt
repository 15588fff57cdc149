-- What the parts of the program promise one another.
--   Boxed        totals that are those of some sheets, at most 1,000
use Rattle.std.specs.Prelude.{List, ℕ, ◌≤◌, length}
use Rattle.totals.specs.declared.Totals.{Totals}
use Rattle.totals.specs.Totals.{IsTotals}

abbrev pub Boxed : Totals → Type 0
Boxed t = (sheets : List (List ℕ)) × IsTotals sheets t × (length sheets ≤ 1000)

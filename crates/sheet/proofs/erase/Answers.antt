-- `erase` meets its contract.
use Rattle.sheet.proofs.Changed.{erase-long, erase_short}
use Rattle.sheet.proofs.erase.Goals as goal

pub returns-then-sheet-gt-LONGEST : goal.returns-then-sheet-gt-LONGEST
returns-then-sheet-gt-LONGEST c = erase-long _ c.if-sheet-gt-LONGEST.true c.into.ensures

pub returns : goal.returns
returns c = let erased = c in erase_short _ erased.if-sheet-gt-LONGEST.false erased.erase_all.ensures

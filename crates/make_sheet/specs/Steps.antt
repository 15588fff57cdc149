-- What the steps of the making promise one another.
--   Blank        a sheet of which nothing was said, in an area
--   Next         what a line does: how far the sheet is then, which is not yet written down
--   staged       how far it is where a line was taken
--   TakesIn      a line of a number was taken; the area is the same, and as long as before
use Rattle.std.specs.Prelude.{◌≡◌, List, ℕ, length, Result, Ok, Err}
use Rattle.std.specs.Borrow.{MutBor}
use Rattle.make_sheet.specs.declared.NoSheet.{NoSheet}
use Rattle.make_sheet.specs.declared.lines.Line.{Line}
use Rattle.make_sheet.specs.declared.making.Stage.{Stage}
use Rattle.make_sheet.specs.declared.making.Stage.TheVariants as stage
use Rattle.make_sheet.specs.declared.making.Stop.{Stop}
use Rattle.make_sheet.specs.declared.making.Making.{Making}
use Rattle.make_sheet.specs.Making.{Takes, TakesText}

pub record Blank (area : MutBor (List ℕ)) (m : Making) : Type 0 where
  pub same_area : m.area.ghost_name ≡ area.ghost_name
  pub same_bytes : m.area.now ≡ area.now
  pub blank : m.stage ≡ stage.Blank

pub record Next (before : Making) (l : Line) (after : Making) (r : Result Stage Stop) : Type 0 where
  pub same_area : after.area.ghost_name ≡ before.area.ghost_name
  pub same_length : length after.area.now ≡ length before.area.now
  pub takes : Takes before.stage l before.area.now after.area.now r

abbrev pub staged : Stage → Result (Unit {0}) NoSheet → Result Stage NoSheet
staged st (Ok u) = Ok st
staged st (Err n) = Err n

pub record TakesIn (before : Making) (text : List ℕ) (number : ℕ) (after : Making) (r : Result (Unit {0}) NoSheet) : Type 0 where
  pub same_area : after.area.ghost_name ≡ before.area.ghost_name
  pub same_length : length after.area.now ≡ length before.area.now
  pub takes : TakesText before.stage text number before.area.now after.area.now (staged after.stage r)

-- The stages of the making, and its lines, by cases.
--   next_once, not-stopped    a line behind which it goes on leads to one stage, and makes no end of it
--   ends_long, ends_short    the end, by its test
use mathlib.Core.Path.{◌≡◌}
use Rattle.std.specs.Prelude.{Result, Ok, Err}
use Prim.Native.Nat.{ℕ, ◌+◌, ◌≤◌, ◌<◌}
use borrow.Author.Tests.{lt-ltb, le-ltb}
use Rattle.refusal.specs.declared.Refusal.TheVariants as refusal
use Rattle.refusal.specs.Answers.{when◌then◌else◌}
use Rattle.record.specs.Records.{longest}
use Rattle.make_sheet.specs.declared.making.Stage.{Stage}
use Rattle.make_sheet.specs.declared.making.Stage.TheVariants as stage
use Rattle.make_sheet.specs.declared.making.Stop.{Stop}
use Rattle.make_sheet.specs.declared.making.Stop.TheVariants as stop
use Rattle.make_sheet.specs.Making.{ending_at}

pub next_once : {r : Result Stage Stop} {a b : Stage} → r ≡ Ok a → r ≡ Ok b → a ≡ b
next_once e f = cc

pub not-stopped : {A : Type 0} {r : Result Stage Stop} {a : Stage} {w : Stop} → r ≡ Ok a → r ≡ Err w → A
not-stopped e f = cc

pub ends_long : (end count : ℕ) → longest < end + count → ending_at end count ≡ Err (stop.Refused refusal.TooLong)
unfolding ending_at when◌then◌else◌
ends_long end count l = rw (lt-ltb _ _ l)

pub ends_short : (end count : ℕ) → end + count ≤ longest → ending_at end count ≡ Ok (stage.Ended (end + count))
unfolding ending_at when◌then◌else◌
ends_short end count l = rw (le-ltb _ _ l)

-- `locate` meets its contract: the walk remembers where the curve stands, and the mission is asked first.
use mathlib.Core.Path.{◌≡◌, refl, sym, ap, ◌∙◌}
use mathlib.Core.Bool.{Bool}
use Prim.Native.Nat.{ℕ}
use Rattle.std.specs.Prelude.{Option, Some, None, ok_or}
use Rattle.refusal.specs.declared.Refusal.TheVariants as refusal
use Rattle.refusal.specs.Answers.{answer_at}
use Rattle.sheet.specs.declared.Location.{Location}
use Rattle.sheet.specs.Walks.{asked_for}
use Rattle.sheet.specs.Survey.{is_other}
use Rattle.sheet.proofs.Told.{other_located, asked_located}
use Rattle.sheet.proofs.locate.Goals as goal

-- whether the sheet's mission is another
other_is : (expected : ℕ) {own m : Option ℕ} {b d : Bool} → m ≡ own → b ≡ is_other expected m → b ≡ d → is_other expected own ≡ d
other_is expected m b e = ap (is_other expected) (sym m) ∙ sym b ∙ e

pub returns-then-is_other : goal.returns-then-is_other
returns-then-is_other c =
    other_located c.walk-w.ensures _ c.in_ok-w.was (other_is c.args.mission c.mission_of.ensures c.is_other.ensures c.if-is_other.true) c.into.ensures

-- where the curve stands, or NUMBER
asked_or : (a : Option Location) → answer_at (ok_or a (record { refusal = refusal.Number; place = 0 })) ≡ asked_for a
asked_or None = refl
asked_or (Some at) = refl

pub returns : goal.returns
returns c =
    rw (c.ok_or.ensures.value, c.into-2.ensures)
    (asked_or c.walk-w.result.asked ∙ asked_located c.walk-w.ensures _ c.in_ok-w.was (other_is c.args.mission c.mission_of.ensures c.is_other.ensures c.if-is_other.false))

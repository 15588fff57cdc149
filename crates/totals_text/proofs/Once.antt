-- One answer: what meets a promise twice is equal.
--   line_once, totals_text_once     the line of a sheet, and the lines of the totals: one answer and one area
use mathlib.Core.Path.{◌≡◌, sym, ◌∙◌}
use mathlib.Core.List.{List}
use Prim.Native.Nat.{ℕ}
use Rattle.std.specs.Prelude.{Result}
use Rattle.refusal.specs.declared.Refusal.{Refusal}
use Rattle.refusal.specs.declared.Fault.{Fault}
use Rattle.sheet.specs.declared.Checked.{Checked}
use Rattle.text.proofs.Held.{text_in_once}
use Rattle.totals.specs.declared.Totals.{Totals}
use Rattle.totals_text.specs.Promise.{LineIn, TotalsIn}

pub line_once : (number : ℕ) (name : List ℕ) (answer : Result Checked Fault) (before x y : List ℕ) (r q : Result ℕ Refusal)
    → LineIn number name answer before x r → LineIn number name answer before y q → (r ≡ q) × (x ≡ y)
line_once number name answer = text_in_once (λ t u h k. h ∙ sym k)

pub totals_text_once : (t : Totals) (before x y : List ℕ) (r q : Result ℕ Refusal) → TotalsIn t before x r → TotalsIn t before y q → (r ≡ q) × (x ≡ y)
totals_text_once t = text_in_once (λ x y h k. h ∙ sym k)

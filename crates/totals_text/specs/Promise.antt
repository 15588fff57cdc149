-- What `write_line` and `write_totals` promise.
--   LineIn, TotalsIn     the area holds that text from its start, and zeros behind it; where it is too short, zeros alone
use Rattle.std.specs.Prelude.{◌≡◌, List, ℕ, Result}
use Rattle.refusal.specs.declared.Refusal.{Refusal}
use Rattle.refusal.specs.declared.Fault.{Fault}
use Rattle.refusal.specs.Answers.{answer_at}
use Rattle.sheet.specs.declared.Checked.{Checked}
use Rattle.text.specs.Promise.{TextIn}
use Rattle.totals.specs.declared.Totals.{Totals}
use Rattle.totals_text.specs.Texts.{totals_text, sheet_line}

abbrev pub LineIn : ℕ → List ℕ → Result Checked Fault → List ℕ → List ℕ → Result ℕ Refusal → Type 0
LineIn number name answer = TextIn (λ text. text ≡ sheet_line number name (answer_at answer))

abbrev pub TotalsIn : Totals → List ℕ → List ℕ → Result ℕ Refusal → Type 0
TotalsIn t = TextIn (λ text. text ≡ totals_text t)

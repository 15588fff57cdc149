-- `kinds::words` meets its contract.
use mathlib.Core.Path.{sym, ap, ◌∙◌}
use Prim.Native.Nat.{◌-◌, ◌/◌}
use Rattle.refusal.specs.Answers.{when◌then◌else◌}
use Rattle.record.specs.declared.kinds.Row.{Row}
use Rattle.record.specs.Kinds.{words}
use Rattle.record.proofs.kinds.words.Goals as goal

pub returns-then-row : goal.returns-then-row
unfolding words when◌then◌else◌
returns-then-row c = rw (sym (ap (λ (r : Row). r.coordinates) c.row_of-row.ensures) ∙ c.if-row.true) (ap (λ (r : Row). (r.size - 4) / 4) c.row_of-row.ensures)

pub returns-else-row : goal.returns-else-row
unfolding words when◌then◌else◌
returns-else-row c = rw (sym (ap (λ (r : Row). r.coordinates) c.row_of-row.ensures) ∙ c.if-row.false)

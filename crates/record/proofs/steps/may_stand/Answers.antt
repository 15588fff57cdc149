-- `steps::may_stand` meets its contract: the table's flag and the place's are the same.
use mathlib.Core.Path.{◌≡◌, refl, ap, ◌∙◌}
use mathlib.Core.Bool.{Bool, true, false, not, beq}
use Rattle.refusal.specs.Answers.{when◌then◌else◌}
use Rattle.record.specs.declared.kinds.Row.{Row}
use Rattle.record.specs.Kinds.{row_of}
use Rattle.record.specs.Records.{may_stand}
use Rattle.record.proofs.steps.may_stand.Goals as goal

same : (b first : Bool) → beq b first ≡ (when first then b else not b)
unfolding when◌then◌else◌
same true true = refl
same true false = refl
same false true = refl
same false false = refl

pub returns : goal.returns
unfolding may_stand
returns c = ap (λ (r : Row). beq r.first c.args.first) c.row_of.ensures ∙ same (row_of c.args.kind).first c.args.first

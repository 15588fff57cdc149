-- `counting::inflections_by` meets its contract: the polynomial, its count and its mark.
use mathlib.Core.Path.{sym, subst}
use Rattle.measure.specs.Steps.{Moderate}
use Rattle.measure.proofs.Sizes.{turning_moderate}
use Rattle.measure.proofs.counting.inflections_by.Goals as goal

pub count-requires : goal.count-requires
count-requires c = subst Moderate (sym c.turning-turning.ensures) (turning_moderate c.args.w c.requires)

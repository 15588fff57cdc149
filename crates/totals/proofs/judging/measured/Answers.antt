-- `judging::measured` meets its contract: the hundredths of the length by the pre-image.
use Rattle.std.proofs.Common.{sym, subst}
use Rattle.measure.specs.declared.lengths.Length.{Length}
use Rattle.measure.proofs.LengthSizes.{root_small}
use Rattle.totals.specs.Hundredths.{Hundredths}
use Rattle.totals.specs.Steps.{Measurable}
use Rattle.totals.proofs.Reached.{measurable}
use Rattle.totals.proofs.judging.measured.Goals as goal

pub length_by-requires : goal.length_by-requires
length_by-requires c = root_small c.args.p c.args.curve c.requires.1 c.requires.0

pub hundredths-requires : goal.hundredths-requires
hundredths-requires c = subst Measurable (sym c.length_by.ensures) (measurable c.args.curve c.args.p c.requires.0 c.requires.1)

pub returns : goal.returns
returns c = subst (λ (l : Length). Hundredths l c.hundredths.result) c.length_by.ensures c.hundredths.ensures

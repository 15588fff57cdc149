-- `recognise` meets its contract.
use mathlib.Core.Path.{subst}
use mathlib.Core.List.{List}
use Rattle.pair.specs.declared.Pair.{Pair}
use Rattle.bernstein.specs.Powers.{power_form}
use Rattle.curve.specs.Curves.{points_of, leg_polynomial}
use Rattle.curve.proofs.LegPolynomial.{points_of_length}
use Rattle.verdict.specs.Verdicts.{Holds}
use Rattle.verdict.proofs.Refusals.{recognised_by}
use Rattle.verdict.proofs.recognise.Goals as goal

pub decide-requires : goal.decide-requires
decide-requires c = record {
  points = points_of c.args.curve;
  range = c.if-not-in_range.ensures;
  short = points_of_length c.args.curve;
  legs = c.legs_of.ensures;
}

pub returns : goal.returns
unfolding leg_polynomial
returns c =
    recognised_by (points_of c.args.curve) c.if-not-in_range.ensures c.decide.result (subst (λ (l : List Pair). Holds (power_form l) c.decide.result) c.legs_of.ensures c.decide.ensures)

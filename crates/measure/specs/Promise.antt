-- What `length` and `inflections` promise.
--   LengthOf, InflectionsOf     that they are those of the curve's pre-image
--   Measured, Inflected         the promises
use Rattle.std.specs.Prelude.{◌≡◌, Result}
use Rattle.refusal.specs.declared.Refusal.{Refusal}
use Rattle.refusal.specs.Answers.{answer_of, FirstOr}
use Rattle.curve.specs.declared.Curve.{Curve}
use Rattle.curve.specs.Curves.{points_of, leg_polynomial}
use Rattle.verdict.specs.Verdicts.{WithPreimage}
use Rattle.verdict.specs.Promise.{preimage_causes}
use Rattle.measure.specs.declared.lengths.Length.{Length}
use Rattle.measure.specs.declared.counting.Inflections.{Inflections}
use Rattle.measure.specs.Lengths.{length_of}
use Rattle.measure.specs.Turns.{Inflects}

abbrev pub LengthOf : Curve → Length → Type 0
LengthOf curve l = WithPreimage (leg_polynomial (points_of curve)) (λ p. l ≡ length_of curve p.square)

abbrev pub InflectionsOf : Curve → Inflections → Type 0
InflectionsOf curve i = WithPreimage (leg_polynomial (points_of curve)) (λ p. Inflects p.w i)

abbrev pub Measured : Curve → Result Length Refusal → Type 0
Measured curve r = FirstOr (preimage_causes (points_of curve)) (LengthOf curve) (answer_of r)

abbrev pub Inflected : Curve → Result Inflections Refusal → Type 0
Inflected curve r = FirstOr (preimage_causes (points_of curve)) (InflectionsOf curve) (answer_of r)

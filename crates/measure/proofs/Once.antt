-- One answer of each promise.
--   measured_once       what `length` promises
--   inflected_once      what `inflections` promises
use mathlib.Core.Path.{◌≡◌, sym, ◌∙◌, subst}
use Rattle.std.specs.Prelude.{Result}
use Rattle.refusal.specs.declared.Refusal.{Refusal}
use Rattle.refusal.specs.Answers.{answer_of}
use Rattle.refusal.proofs.Answers.{answer_once, first_or_once}
use Rattle.whole.specs.Number.{Tells}
use Rattle.whole.proofs.Flags.{told_once}
use Rattle.verdict.specs.declared.Quadratic.{Quadratic}
use Rattle.curve.specs.declared.Curve.{Curve}
use Rattle.curve.specs.Curves.{points_of, leg_polynomial}
use Rattle.verdict.specs.Promise.{preimage_causes}
use Rattle.verdict.proofs.Once.{one_preimage}
use Rattle.measure.specs.declared.lengths.Length.{Length}
use Rattle.measure.specs.declared.counting.Inflections.{Inflections}
use Rattle.measure.specs.declared.Turning.{Turning}
use Rattle.measure.specs.Turns.{Straight, CountIs, Inflects}
use Rattle.measure.specs.Promise.{LengthOf, InflectionsOf, Measured, Inflected}
use Rattle.measure.proofs.Most.{count_once}

inflects_once : (w : Quadratic) (i j : Inflections) → Inflects w i → Inflects w j → i ≡ j
inflects_once w i j h k =
    let e : j.turning ≡ i.turning = k.turning ∙ sym h.turning in
    let count = count_once i.turning i.count j.count h.count (subst (λ (x : Turning). CountIs x j.count) e k.count) in
    let mark = told_once (Straight i.turning) i.straight j.straight h.straight (subst (λ (x : Turning). Tells (Straight x) j.straight) e k.straight) in
    λ t. record { turning = sym e t; count = count t; straight = mark t }

module _ (curve : Curve) where
  lengths_once : (l m : Length) → LengthOf curve l → LengthOf curve m → l ≡ m
  lengths_once l m h k = let (p, e, f) = one_preimage (leg_polynomial (points_of curve)) h k in e ∙ sym f

  pub measured_once : (r s : Result Length Refusal) → Measured curve r → Measured curve s → r ≡ s
  measured_once r s h k =
      answer_once r s (first_or_once (preimage_causes (points_of curve)) (LengthOf curve) lengths_once (answer_of r) (answer_of s) h k)

  inflections_once : (i j : Inflections) → InflectionsOf curve i → InflectionsOf curve j → i ≡ j
  inflections_once i j h k = let (p, e, f) = one_preimage (leg_polynomial (points_of curve)) h k in inflects_once p.w i j e f

  pub inflected_once : (r s : Result Inflections Refusal) → Inflected curve r → Inflected curve s → r ≡ s
  inflected_once r s h k =
      answer_once r s
      (first_or_once (preimage_causes (points_of curve)) (InflectionsOf curve) inflections_once (answer_of r) (answer_of s) h k)

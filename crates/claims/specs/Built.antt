-- What is claimed of a built curve.
--   PreOf r W            the answer r is the verdict *pre*, and its κ w² is the square of W
--   BuiltRecognised      so is what `recognise` answers on a built curve, with the polynomial that it was built from
use Rattle.std.specs.Prelude.{◌≡◌, Result, Ok, List}
use Rattle.refusal.specs.declared.Refusal.{Refusal}
use Rattle.poly.specs.Polynomials.{Same, scaled, square}
use Rattle.pair.specs.declared.Pair.{Pair}
use Rattle.pair.specs.Pairs.{pairs}
use Rattle.bernstein.specs.Powers.{power_form}
use Rattle.verdict.specs.Verdicts.{quadratic}
use Rattle.curve.specs.declared.Curve.{Curve}
use Rattle.curve.specs.Curves.{points_of}
use Rattle.verdict.specs.declared.Preimage.{Preimage}
use Rattle.verdict.specs.declared.Verdict.{Verdict}
use Rattle.verdict.specs.declared.Verdict.TheVariants as verdict
use Rattle.verdict.specs.Promise.{Recognised}
use Rattle.build.specs.Promise.{Source, pairs_of, Built}

pub record PreOf (r : Result Verdict Refusal) (W : List Pair) : Type 0 where
  pub preimage : Preimage
  pub pre : r ≡ Ok (verdict.Pre preimage)
  pub square_is : Same pairs (scaled pairs preimage.kappa (square pairs (quadratic preimage.w))) (square pairs W)

abbrev pub BuiltRecognised : Type 0
BuiltRecognised =
    (p0 : Pair) (s : Source) (c : Curve) → Built p0 s (Ok c) → (r : Result Verdict Refusal) → Recognised (points_of c) r → PreOf r (power_form (pairs_of s))

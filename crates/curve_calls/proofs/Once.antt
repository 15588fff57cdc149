-- One answer of each call on a curve: what is promised leaves one number to return, and one area.
--   on_source                two calls on the same numbers, which give one pre-image to build from, or none
--   recognise_once, length_once, inflections_once, offset_once, build_once, joins_once   the calls
use mathlib.Core.Path.{◌≡◌, refl, ap}
use mathlib.Core.List.{List}
use native.Mathlib.Omega.{arith}
use lib.IntN.{ℤ}
use lib.ListN.{length}
use Rattle.refusal.specs.declared.Refusal.TheVariants as refusal
use Rattle.refusal.specs.Answers.{answer_of, refuse}
use Rattle.whole.specs.Coefficients.{at}
use Rattle.pair.specs.declared.Pair.{Pair}
use Rattle.pair.specs.Pairs.{pairs}
use Rattle.curve.specs.Curves.{points_of}
use Rattle.verdict.proofs.Once.{recognised_once}
use Rattle.measure.proofs.Once.{measured_once, inflected_once}
use Rattle.offset.proofs.Once.{offset_once as offset_by_once}
use Rattle.build.specs.Promise.{Source, cubic, quintic, pairs_of as built_from}
use Rattle.build.proofs.Once.{built_once}
use Rattle.join.proofs.Once.{joined_once}
use Rattle.record.specs.Kinds.{numbers_of}
use Rattle.hand.specs.Promise.{NoSource}
use Rattle.hand.proofs.Handing.{by_numbers, on_curve_lem, hands_once, handed_once, counted_once}
use Rattle.curve_calls.specs.Promise.{OnSource, RecogniseCall, LengthCall, InflectionCall, OffsetCall, BuildCall, JoinCall}

source_once : (s t : Source) → built_from s ≡ built_from t → s ≡ t
source_once (cubic w0 w1) (cubic v0 v1) e = λ i. cubic (at pairs (e i) 0) (at pairs (e i) 1)
source_once (cubic w0 w1) (quintic v0 v1 v2) e = absurd (omega (arith, ap length e))
source_once (quintic w0 w1 w2) (cubic v0 v1) e = absurd (omega (arith, ap length e))
source_once (quintic w0 w1 w2) (quintic v0 v1 v2) e = λ i. quintic (at pairs (e i) 0) (at pairs (e i) 1) (at pairs (e i) 2)

source_fits : (s : Source) → NoSource (numbers_of (built_from s)) → ⊥
source_fits (cubic w0 w1) m = m.0 refl
source_fits (quintic w0 w1 w2) m = m.1 refl

on_source : {w : List ℤ} {Wrong Wrong' Goal : Type 0} {Right Right' : Source → Type 0} → (Wrong → Wrong' → Goal) → ((s : Source) → Right s → Right' s → Goal)
    → OnSource w Wrong Right → OnSource w Wrong' Right' → Goal
on_source = by_numbers built_from source_once NoSource source_fits

module _ (before : List ℤ) {x y : List ℤ} {r s : ℤ} where
  pub recognise_once : (p : List ℤ) → RecogniseCall p before x r → RecogniseCall p before y s → (r ≡ s) × (x ≡ y)
  recognise_once p = on_curve_lem (hands_once before (refuse refusal.Length 0)) (λ c. handed_once before (recognised_once (points_of c)))

  pub length_once : (p : List ℤ) → LengthCall p before x r → LengthCall p before y s → (r ≡ s) × (x ≡ y)
  length_once p = on_curve_lem (hands_once before (refuse refusal.Length 0)) (λ c. handed_once before (measured_once c))

  pub inflections_once : (p : List ℤ) → InflectionCall p before x r → InflectionCall p before y s → (r ≡ s) × (x ≡ y)
  inflections_once p = on_curve_lem (hands_once before (refuse refusal.Length 0)) (λ c. handed_once before (inflected_once c))

  pub offset_once : (p : List ℤ) (h : ℤ) → OffsetCall p h before x r → OffsetCall p h before y s → (r ≡ s) × (x ≡ y)
  offset_once p h = on_curve_lem (hands_once before (refuse refusal.Length 0)) (λ c. counted_once answer_of (offset_by_once c h before x y))

  pub build_once : (p0 : Pair) (w : List ℤ) → BuildCall p0 w before x r → BuildCall p0 w before y s → (r ≡ s) × (x ≡ y)
  build_once p0 w = on_source (hands_once before (refuse refusal.Length 0)) (λ t. handed_once before (built_once p0 t))

  pub joins_once : (a z T : Pair) → JoinCall a z T before x r → JoinCall a z T before y s → (r ≡ s) × (x ≡ y)
  joins_once a z T = counted_once answer_of (joined_once a z T before x y)

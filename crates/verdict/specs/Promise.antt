-- What `recognise` and `preimage_of` promise, and the causes of refusal that the calls on a pre-image share.
--   still, not_ph, no_preimage            the causes
--   preimage_causes                       their order: 6, 8, 9, 10
--   Recognised                            the verdict on a curve in range
--   Preimaged                             the pre-image of a curve, or the first cause why it has none
use Rattle.std.specs.Prelude.{List, [], ◌∷◌, Result}
use Rattle.refusal.specs.declared.Refusal.{Refusal}
use Rattle.refusal.specs.declared.Refusal.TheVariants as R
use Rattle.refusal.specs.Table.{Cause}
use Rattle.refusal.specs.Answers.{answer_of, FirstOr}
use Rattle.pair.specs.declared.Pair.{Pair}
use Rattle.curve.specs.Curves.{leg_polynomial}
use Rattle.curve.specs.Promise.{out_of_range}
use Rattle.verdict.specs.declared.Preimage.{Preimage}
use Rattle.verdict.specs.declared.Verdict.{Verdict}
use Rattle.verdict.specs.Verdicts.{Still, NotSquared, NotGenerated, PreimageOf, Holds}

-- ---- causes
abbrev pub still : List Pair → Cause
still ps = record { refusal = R.Still; holds = Still (leg_polynomial ps) }

abbrev pub not_ph : List Pair → Cause
not_ph ps = record { refusal = R.NotPh; holds = NotSquared (leg_polynomial ps) }

abbrev pub no_preimage : List Pair → Cause
no_preimage ps = record { refusal = R.NoPreimage; holds = NotGenerated (leg_polynomial ps) }

abbrev pub preimage_causes : List Pair → List Cause
preimage_causes ps = out_of_range ps ∷ still ps ∷ not_ph ps ∷ no_preimage ps ∷ []

-- ---- promises
abbrev pub Recognised : List Pair → Result Verdict Refusal → Type 0
Recognised ps r = FirstOr (out_of_range ps ∷ []) (Holds (leg_polynomial ps)) (answer_of r)

abbrev pub Preimaged : List Pair → Result Preimage Refusal → Type 0
Preimaged ps r = FirstOr (preimage_causes ps) (PreimageOf (leg_polynomial ps)) (answer_of r)

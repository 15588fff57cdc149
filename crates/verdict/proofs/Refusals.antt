-- The promises from what holds of D, and from the verdict on a curve to its pre-image, or to the refusal where it has none.
--   recognised_by       in range, the verdict that holds is what `recognise` promises,
--   recognised_holds    and what it promises is a verdict that holds
--   preimage_answer     the answer that a verdict, or the refusal of one, gives
--   recognised_preimage what `recognise` promises of a verdict gives what `preimage_of` promises
use mathlib.Core.Path.{◌≡◌, refl}
use mathlib.Core.List.{List, [], ◌∷◌}
use mathlib.Core.Logic.{inl, inr}
use Rattle.std.specs.Prelude.{Result, Ok, Err}
use Rattle.refusal.specs.declared.Refusal.{Refusal}
use Rattle.refusal.specs.declared.Refusal.TheVariants as R
use Rattle.refusal.specs.Table.{First, number_of}
use Rattle.refusal.proofs.Laws.{number_some, first-none, first-kept}
use Rattle.pair.specs.declared.Pair.{Pair}
use Rattle.root.specs.Promise.{quartic}
use Rattle.curve.specs.Curves.{InRange, leg_polynomial}
use Rattle.curve.specs.Promise.{out_of_range}
use Rattle.verdict.specs.declared.Preimage.{Preimage}
use Rattle.verdict.specs.declared.Verdict.{Verdict}
use Rattle.verdict.specs.declared.Verdict.TheVariants as verdict
use Rattle.verdict.specs.Verdicts.{Holds, quadratic}
use Rattle.verdict.specs.Promise.{still, not_ph, no_preimage, Recognised, Preimaged}

abbrev pub preimage_answer : Result Verdict Refusal → Result Preimage Refusal
preimage_answer (Ok verdict.Still) = Err R.Still
preimage_answer (Ok verdict.No) = Err R.NotPh
preimage_answer (Ok (verdict.Ph s)) = Err R.NoPreimage
preimage_answer (Ok (verdict.Pre p)) = Ok p
preimage_answer (Err r) = Err r

module _ (ps : List Pair) where
  pub recognised_by : InRange ps → (v : Verdict) → Holds (leg_polynomial ps) v → Recognised ps (Ok v)
  recognised_by i v h = (inr (λ out. out i, refl), h)

  pub recognised_holds : InRange ps → (r : Result Verdict Refusal) → Recognised ps r → (v : Verdict) × (r ≡ Ok v) × Holds (leg_polynomial ps) v
  recognised_holds i (Ok v) h = (v, refl, h.1)
  recognised_holds i (Err r) (inl (out, e), z) = absurd (out i)
  recognised_holds i (Err r) (inr (inside, e), z) = absurd (number_some r e)

  inside : First (out_of_range ps ∷ []) 0 → (InRange ps → ⊥) → ⊥
  inside f = (first-none (out_of_range ps ∷ []) f).0

  pub recognised_preimage : (r : Result Verdict Refusal) → Recognised ps r → Preimaged ps (preimage_answer r)
  recognised_preimage (Ok verdict.Still) (f, z) = (inr (inside f, inl (z, refl)), refl)
  recognised_preimage (Ok verdict.No) (f, (some, none)) = (inr (inside f, inr (some, inl (none, refl))), refl)
  recognised_preimage (Ok (verdict.Ph s)) (f, (some, square, none)) =
      (inr (inside f, inr (some, inr (λ n. n s.c (quartic s.q) square.positive square.squared, inl (none, refl)))), refl)
  recognised_preimage (Ok (verdict.Pre p)) (f, (some, is)) =
      let square = is.square_of in (
        inr (
          inside f,
          inr (
            some,
            inr (
              λ n. n p.square.c (quartic p.square.q) square.positive square.squared,
              inr (λ n. n p.kappa (quadratic p.w) is.generated, refl),
            ),
          ),
        ),
        is,
      )
  recognised_preimage (Err r) (f, z) = (first-kept (out_of_range ps ∷ []) (still ps ∷ not_ph ps ∷ no_preimage ps ∷ []) (number_of r) f (number_some r), z)

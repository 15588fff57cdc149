-- A built curve is recognised.
--   built_recognised     the claim
use mathlib.Core.Path.{◌≡◌, sym, ◌∙◌, subst}
use mathlib.Core.List.{List, []}
use mathlib.Core.Logic.{⊎_elim}
use Rattle.std.specs.Prelude.{Result, Ok}
use Rattle.refusal.specs.declared.Refusal.{Refusal}
use Rattle.refusal.proofs.Laws.{NoneHolds, first-none}
use Rattle.poly.specs.Polynomials.{Same, square}
use Rattle.whole.proofs.Linear.{linear}
use Rattle.poly.proofs.Lists.{scaled-one}
use Rattle.poly.proofs.Domain.{product-zero}
use Rattle.pair.specs.declared.Pair.{Pair}
use Rattle.pair.specs.Pairs.{pairs, norm, one}
use Rattle.pair.proofs.Laws.{pairs_ring, pairs_domain}
use Rattle.bernstein.specs.Powers.{power_form}
use Rattle.bernstein.proofs.PowerForms.{power_form-zero}
use Rattle.curve.specs.declared.Curve.{Curve}
use Rattle.curve.specs.Curves.{points_of, InRange, leg_polynomial, norm_polynomial}
use Rattle.verdict.specs.declared.Verdict.{Verdict}
use Rattle.verdict.specs.declared.Verdict.TheVariants as verdict
use Rattle.verdict.specs.Verdicts.{Generated, Still, Holds}
use Rattle.verdict.proofs.Multiples.{generated-squared}
use Rattle.verdict.proofs.Refusals.{recognised_holds}
use Rattle.verdict.proofs.FoundSizes.{range_stable}
use Rattle.build.specs.Promise.{Source, pairs_of, causes, Built}
use Rattle.build.proofs.Legs.{outside, points-squared}
use Rattle.claims.specs.Built.{PreOf, BuiltRecognised}

module _ (p0 : Pair) (s : Source) (c : Curve) (h : Built p0 s (Ok c)) where
  abbrev W : List Pair
  W = power_form (pairs_of s)

  D-squared : Same pairs (leg_polynomial (points_of c)) (square pairs W)
  D-squared = let b = h.1 in rw b.by_legs (points-squared p0 s b.legs b.are_legs)

  generated : Generated (leg_polynomial (points_of c)) one W
  generated k = D-squared k ∙ sym (scaled-one pairs_ring (square pairs W) k)

  none_holds : NoneHolds (causes p0 s)
  none_holds = first-none (causes p0 s) h.0

  in_range_lem : InRange (points_of c)
  in_range_lem =
      let b = h.1 in
      range_stable (points_of c) (λ n. none_holds.1.1.1.0 (outside p0 s b.legs b.are_legs (λ i. n (subst InRange (sym b.by_legs) i))))

  moves : Still (leg_polynomial (points_of c)) → ⊥
  moves z = ⊎_elim zero zero (product-zero pairs_ring pairs_domain W W (λ k. sym (D-squared k) ∙ z k))
    where
      zero : Same pairs W [] → ⊥
      zero y = none_holds.1.0 ((power_form-zero (pairs_of s)).0 y)

  held : (r : Result Verdict Refusal) (v : Verdict) → r ≡ Ok v → Holds (leg_polynomial (points_of c)) v → PreOf r W
  held r verdict.Still e z = absurd (moves z)
  held r verdict.No e (m, n) = absurd (n (norm one) (norm_polynomial W) (omega linear) (generated-squared (leg_polynomial (points_of c)) one W generated))
  held r (verdict.Ph q) e (m, t, n) = absurd (n one W generated)
  held r (verdict.Pre p) e (m, k) = record { preimage = p; pre = e; square_is = λ i. sym (k.generated i) ∙ D-squared i }

pub built_recognised : BuiltRecognised
built_recognised p0 s c h r k = let (v, e, holds) = recognised_holds (points_of c) (in_range_lem p0 s c h) r k in held p0 s c h r v e holds

-- Pairs and polynomials turned by a unit, and the signs of κ and w.
--   imaginary_some                     i is not 0
--   turned-all                         i w is no larger than w
--   turned-twice                       i (i w) is −w
--   lead_of_lem                            where w keeps its sign, so does its highest coefficient
--   coprime_some                       a coprime w is not 0
--   pre_holds                          D = κ w² with the signs of the rules: the verdict is pre
use mathlib.Core.Path.{◌≡◌, sym, ap, ◌∙◌, subst}
use mathlib.Core.List.{List, []}
use mathlib.Core.Logic.{◌≢◌}
use Prim.Native.Nat.{ℕ}
use lib.IntN.{pos, negsuc}
use Rattle.whole.specs.Coefficients.{at}
use Rattle.poly.specs.Polynomials.{Same, scaled, square}
use Rattle.whole.specs.Number.{FirstPositive}
use Rattle.whole.proofs.Linear.{linear}
use Rattle.poly.specs.Terms.{Top}
use Rattle.poly.proofs.Lists.{at_scaled, scaled-same, scaled-scaled, square-same}
use Rattle.poly.proofs.Content.{primitive_same}
use Rattle.poly.proofs.Top.{top_unique}
use Rattle.pair.specs.declared.Pair.{Pair}
use Rattle.pair.specs.Pairs.{pair, pairs, imaginary, AllWithin}
use Rattle.pair.proofs.Laws.{pairs_ring}
use Rattle.pair.proofs.Parts.{turned-within}
use Rattle.verdict.specs.declared.Preimage.{Preimage}
use Rattle.verdict.specs.declared.Verdict.TheVariants as verdict
use Rattle.verdict.specs.Verdicts.{Still, Coprime, Generated, SquareOf, Holds, quadratic, LeadKept}
use Rattle.verdict.specs.Steps.{Normalised}
use Rattle.verdict.proofs.Coprime.{coprime_primitive, primitive_coprime, unit_coprime}
use Rattle.verdict.proofs.Generators.{generated-scaled}
use Rattle.verdict.proofs.Signs.{first-top}

pub imaginary_some : imaginary ≢ pairs.none
imaginary_some z = let t : pos 1 ≡ pos 0 = ap (λ a. a.im) z in omega linear

pub turned-all : {B : ℕ} (w v : List Pair) → Same pairs v (scaled pairs imaginary w) → AllWithin B w → AllWithin B v
turned-all w v e h k = rw (e k ∙ at_scaled pairs_ring imaginary w k) (turned-within (h k))

pub turned-twice : (w v x : List Pair) → Same pairs v (scaled pairs imaginary w) → Same pairs x (scaled pairs imaginary v)
    → Same pairs x (scaled pairs (pair (negsuc 0) (pos 0)) w)
turned-twice w v x e f k = f k ∙ scaled-same pairs_ring imaginary v (scaled pairs imaginary w) e k ∙ scaled-scaled pairs_ring imaginary imaginary w k

pub lead_of_lem : {w : List Pair} {m : ℕ} → Top pairs w m → LeadKept w → FirstPositive (at pairs w m).re (at pairs w m).im
lead_of_lem {w} t h = subst (λ (k : ℕ). FirstPositive (at pairs w k).re (at pairs w k).im) (top_unique (first-top h) t) h.positive

pub pre_holds : (D w : List Pair) (κ : Pair) (p : Preimage) → (Still D → ⊥) → Generated D κ w → Coprime w → SquareOf D p.square → Normalised κ w p
    → Holds D (verdict.Pre p)
pre_holds D w κ p n e c s h = (
  n,
  record {
    generated = λ k. generated-scaled D κ p.kappa h.unit w h.kept e k ∙ scaled-same pairs_ring p.kappa (square pairs (scaled pairs h.unit w)) (square pairs (quadratic p.w)) (λ j. sym (square-same pairs_ring (quadratic p.w) (scaled pairs h.unit w) h.turned j)) k;
    coprime = primitive_coprime (quadratic p.w) (primitive_same (scaled pairs h.unit w) (quadratic p.w) (λ k. sym (h.turned k)) (coprime_primitive (scaled pairs h.unit w) (unit_coprime h.unit w h.is_unit c)));
    factor = h.factor;
    lead = h.lead;
    square_of = s;
  },
)

pub coprime_some : (w : List Pair) → Coprime w → Same pairs w [] → ⊥
coprime_some w h z = let e : pos 0 ≡ pos 1 = h pairs.none (λ k. record { factor = pairs.none; is = sym (z k) }) in omega linear

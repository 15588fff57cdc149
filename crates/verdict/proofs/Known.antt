-- What is known of D on the way to its verdict, where D is that of a curve in range.
--   five_none           five legs that are all 0
--   scaled-three        a multiple of three coefficients
--   generates_same      D = κ w² with a coprime w, however w is written
--   holds_same          a verdict holds of a polynomial, however it is written
--   of_legs             the power form of a curve's legs is its D
--   pairs_slight, length-sized                   D and N are within their bounds
--   roots_small, generators_small                so is every q with N = c q², and every w with D = κ w²
--   factor_small                                 and κ, where w is coprime
--   legs_small                                   a leg is at most 40,000 in size, by parts
use mathlib.Core.Path.{◌≡◌, refl, sym, ap, ◌∙◌, subst}
use mathlib.Core.List.{List, [], ◌∷◌}
use Prim.Native.Nat.{ℕ, zero, suc}
use native.Mathlib.Omega.{arith}
use lib.IntN.{ℤ, pos}
use lib.Signed.{◌<ℤ◌}
use Rattle.whole.specs.Coefficients.{at, Divides}
use Rattle.poly.specs.Polynomials.{Same, scaled, square}
use Rattle.whole.specs.Number.{wholes}
use Rattle.poly.proofs.Lists.{scaled-same, square-same as squares_same}
use Rattle.poly.proofs.Content.{greatest_same, primitive_greatest}
use Rattle.poly.proofs.Gauss.{primitive_product}
use Rattle.pair.specs.declared.Pair.{Pair}
use Rattle.pair.specs.Pairs.{pairs, times, PartsWithin, AllWithin}
use Rattle.pair.proofs.Laws.{pairs_ring, pairs_domain}
use Rattle.divisor.proofs.Divisors.{greatest_within}
use Rattle.divisor.proofs.Euclid.{pairs_bezout}
use Rattle.root.specs.Promise.{Sized, Small}
use Rattle.root.specs.Search.{Each}
use Rattle.bernstein.specs.Powers.{power_form}
use Rattle.curve.specs.Curves.{leg_polynomial, norm_polynomial}
use Rattle.curve.proofs.LegPolynomial.{legs-within}
use Rattle.curve.proofs.Norms.{norm_polynomial-same}
use Rattle.curve.proofs.Sizes.{leg_polynomial-within, norm_polynomial-within}
use Rattle.curve.specs.Sizes.{leg_reach}
use Rattle.verdict.specs.declared.Square.{Square}
use Rattle.verdict.specs.declared.Verdict.{Verdict}
use Rattle.verdict.specs.declared.Verdict.TheVariants as verdict
use Rattle.verdict.specs.Verdicts.{Squared, Generated, Still, Coprime, SquareOf, Holds}
use Rattle.verdict.specs.Steps.{OfCurve, OfLegs}
use Rattle.verdict.proofs.Multiples.{generated_some}
use Rattle.verdict.proofs.Coprime.{coprime_primitive}
use Rattle.verdict.proofs.RootSizes.{root-within, preimage_within}

pub five_none : {a b c d e : Pair} → Same pairs (a ∷ b ∷ c ∷ []) [] → d ≡ pairs.none → e ≡ pairs.none → Same pairs (a ∷ b ∷ c ∷ d ∷ e ∷ []) []
five_none h y z zero = h 0
five_none h y z (suc zero) = h 1
five_none h y z (suc (suc zero)) = h 2
five_none h y z (suc (suc (suc zero))) = y
five_none h y z (suc (suc (suc (suc zero)))) = z
five_none h y z (suc (suc (suc (suc (suc k))))) = refl

pub scaled-three : (e b0 b1 b2 : Pair) {d v1 v2 : Pair} → times e b0 ≡ d → times e b1 ≡ v1 → times e b2 ≡ v2 → Same pairs (scaled pairs e (b0 ∷ b1 ∷ b2 ∷ [])) (d ∷ v1 ∷ v2 ∷ [])
unfolding scaled
scaled-three e b0 b1 b2 x y z zero = x
scaled-three e b0 b1 b2 x y z (suc zero) = y
scaled-three e b0 b1 b2 x y z (suc (suc zero)) = z
scaled-three e b0 b1 b2 x y z (suc (suc (suc k))) = refl

pub generates_same : (D : List Pair) (κ : Pair) (w v : List Pair) → Same pairs w v → Generated D κ w → Coprime w → Generated D κ v × Coprime v
generates_same D κ w v e h c = (
  λ k. h k ∙ scaled-same pairs_ring κ (square pairs w) (square pairs v) (squares_same pairs_ring w v e) k,
  λ d i. c d (λ k. subst (Divides pairs d) (sym (e k)) (i k)),
)

module _ (D E : List Pair) (e : Same pairs D E) where
  square-same : (s : Square) → SquareOf D s → SquareOf E s
  square-same s h = record {
    positive = h.positive;
    squared = λ k. sym (norm_polynomial-same D E e k) ∙ h.squared k;
    content = greatest_same (norm_polynomial-same D E e) h.content;
    lead = h.lead;
  }

  still_back : Still E → Still D
  still_back z k = e k ∙ z k

  pub holds_same : (v : Verdict) → Holds D v → Holds E v
  holds_same verdict.Still h = λ k. sym (e k) ∙ h k
  holds_same verdict.No h = (λ z. h.0 (still_back z), λ c q p s. h.1 c q p (λ k. norm_polynomial-same D E e k ∙ s k))
  holds_same (verdict.Ph s) h = (λ z. h.0 (still_back z), square-same s h.1, λ κ w g. h.2 κ w (λ k. e k ∙ g k))
  holds_same (verdict.Pre p) h = (
    λ z. h.0 (still_back z),
    record {
      generated = λ k. sym (e k) ∙ h.1.generated k;
      coprime = h.1.coprime;
      factor = h.1.factor;
      lead = h.1.lead;
      square_of = square-same p.square h.1.square_of;
    },
  )

module _ (D : List Pair) (o : OfCurve D) where
  pub pairs_slight : (k : ℕ) → PartsWithin 1280000 (at pairs D k)
  pairs_slight k = rw (o.same k) (leg_polynomial-within o.points o.range o.short k)

  pub length-sized : Each wholes Sized (norm_polynomial D)
  length-sized k = rw (norm_polynomial-same D (leg_polynomial o.points) o.same k) (norm_polynomial-within o.points o.range o.short k)

  pub roots_small : (c : ℤ) (q : List ℤ) → pos 0 <ℤ c → Squared D c q → Each wholes Small q
  roots_small c q p h = root-within o.points o.range o.short c q p (λ k. sym (norm_polynomial-same D (leg_polynomial o.points) o.same k) ∙ h k)

  pub generators_small : (Still D → ⊥) → (κ : Pair) (w : List Pair) → Generated D κ w → AllWithin 20000 w
  generators_small n κ w h k =
      let s = preimage_within o.points o.range o.short κ w (λ z. n (λ j. o.same j ∙ z j)) (λ j. sym (o.same j) ∙ h j) k in
      record { re = record { size = omega (arith, s.re.size) }; im = record { size = omega (arith, s.im.size) } }

  pub factor_small : (κ : Pair) (w : List Pair) → (Still D → ⊥) → Generated D κ w → Coprime w → PartsWithin 1280000 κ
  factor_small κ w n h p =
      let primitive = coprime_primitive w p in
      greatest_within pairs_slight
      (primitive_greatest pairs_ring pairs_bezout pairs_domain D (square pairs w) κ (generated_some D κ w h n)
      (primitive_product pairs_ring pairs_bezout w w primitive primitive) (λ k. sym (h k)))

pub of_legs : (ds : List Pair) → OfLegs ds → OfCurve (power_form ds)
unfolding leg_polynomial
of_legs ds o = record { points = o.points; range = o.range; short = o.short; same = λ k. ap (λ (p : List Pair). at pairs (power_form p) k) o.legs }

pub legs_small : (ds : List Pair) → OfLegs ds → AllWithin leg_reach ds
legs_small ds o k = subst (λ (p : List Pair). PartsWithin leg_reach (at pairs p k)) (sym o.legs) (legs-within o.points o.range k)

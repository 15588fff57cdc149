-- One answer: the rules leave one c and q, one κ and w, and one verdict.
--   quadratic-same         a struct is decided by its polynomial
--   square_once            the c and q of N
--   generators_agree       κ w² = κ' w'², all normalised, gives κ = κ' and w = w'
--   preimage_norms         of a pre-image c = |κ|² and q = |w|²
--   preimage_once          the κ, w, c and q of D
--   one_preimage           what is said twice of D's pre-image is said of one
--   verdict_once           the verdict on D
--   recognised_once, preimaged_once     what `recognise` and `preimage_of` promise
use mathlib.Core.Path.{◌≡◌, refl, sym, ap, ◌∙◌, subst}
use mathlib.Core.List.{List, [], ◌∷◌}
use mathlib.Core.Logic.{◌≢◌}
use lib.IntN.{ℤ, pos, negsuc}
use lib.Signed.{◌<ℤ◌}
use Rattle.std.specs.Prelude.{Result}
use Rattle.refusal.specs.declared.Refusal.{Refusal}
use Rattle.refusal.specs.Answers.{answer_of}
use Rattle.refusal.proofs.Answers.{answer_once, first_or_once}
use Rattle.whole.specs.Coefficients.{at}
use Rattle.poly.specs.Polynomials.{Same, scaled, square}
use Rattle.whole.specs.Number.{wholes, FirstPositive}
use Rattle.whole.proofs.Linear.{linear}
use Rattle.whole.proofs.Ring.{minus_one}
use Rattle.whole.proofs.Wholes.{wholes_ring}
use Rattle.poly.proofs.Lists.{scaled-one}
use Rattle.poly.proofs.Domain.{squares_agree, scaled_squares_agree}
use Rattle.poly.proofs.Top.{leads_agree}
use Rattle.poly.proofs.Content.{Associates}
use Rattle.poly.proofs.Squares.{primitive_squares}
use Rattle.poly.proofs.Wholes.{wholes_domain, content_once}
use Rattle.pair.specs.declared.Pair.{Pair}
use Rattle.pair.specs.Pairs.{pair, pairs, times, negative, norm, imaginary}
use Rattle.pair.proofs.Laws.{pairs_ring, pairs_domain, norm_nonneg}
use Rattle.divisor.proofs.Euclid.{pairs_bezout}
use Rattle.divisor.proofs.Roots.{not_both, first_some}
use Rattle.divisor.proofs.Units.{no_imaginary-square}
use Rattle.root.specs.Promise.{quartic}
use Rattle.root.proofs.Once.{quartic-same}
use Rattle.root.proofs.Leads.{positive_lead_once}
use Rattle.curve.specs.Curves.{norm_polynomial, leg_polynomial}
use Rattle.curve.specs.Promise.{out_of_range}
use Rattle.verdict.specs.declared.Quadratic.{Quadratic}
use Rattle.verdict.specs.declared.Square.{Square}
use Rattle.verdict.specs.declared.Preimage.{Preimage}
use Rattle.verdict.specs.declared.Verdict.{Verdict}
use Rattle.verdict.specs.declared.Verdict.TheVariants as verdict
use Rattle.verdict.specs.Verdicts.{Generated, Coprime, SquareOf, PreimageOf, WithPreimage, Holds, quadratic, LeadKept}
use Rattle.verdict.specs.Promise.{preimage_causes, Recognised, Preimaged}
use Rattle.verdict.proofs.Coprime.{by_unit, coprime_primitive}
use Rattle.verdict.proofs.Multiples.{generated-squared}
use Rattle.verdict.proofs.Norms.{generated-content}
use Rattle.verdict.proofs.Signs.{first-top, norm_polynomial-lead_positive, kept_lead_once}

-- ---- c and q
positive_some : {c : ℤ} → pos 0 <ℤ c → c ≢ pos 0
positive_some h z = omega linear

pub quadratic-same : (u w : Quadratic) → Same pairs (quadratic u) (quadratic w) → u ≡ w
quadratic-same u w e i = record { b0 = e 0 i; b1 = e 1 i; b2 = e 2 i }

pub square_once : (D : List Pair) (s t : Square) → SquareOf D s → SquareOf D t → s ≡ t
square_once D s t h k = λ i. record { c = c i; q = q i }
  where
    c : s.c ≡ t.c
    c = content_once (omega (linear, h.positive)) (omega (linear, k.positive)) h.content k.content

    q : s.q ≡ t.q
    q =
        quartic-same s.q t.q
        (positive_lead_once (quartic s.q) (quartic t.q) h.lead k.lead
        (scaled_squares_agree wholes_ring wholes_domain s.c (quartic s.q) (quartic t.q) (positive_some h.positive)
        (λ j. sym (h.squared j) ∙ k.squared j ∙ ap (λ x. at wholes (scaled wholes x (square wholes (quartic t.q))) j) (sym c))))

-- ---- κ and w
pub generators_agree : (D : List Pair) (κ κ' : Pair) (w w' : List Pair) → Generated D κ w → Generated D κ' w' → Coprime w → Coprime w'
    → FirstPositive κ.re κ.im → FirstPositive κ'.re κ'.im → LeadKept w → LeadKept w' → (κ ≡ κ') × Same pairs w w'
generators_agree D κ κ' w w' e e' h h' f f' l l' =
    by_unit (λ u. Same pairs (square pairs w) (scaled pairs u (square pairs w')) → times κ u ≡ κ' → (κ ≡ κ') × Same pairs w w')
    (λ p q. (
      sym (pairs_ring.times_one κ) ∙ q,
      kept_lead_once w w' l l' (squares_agree pairs_ring pairs_domain w w' (λ k. p k ∙ scaled-one pairs_ring (square pairs w') k)),
    ))
    (λ p q. absurd (not_both κ' κ f' f (sym q ∙ pairs_ring.times_comm κ (pair (negsuc 0) (pos 0)) ∙ minus_one pairs_ring κ)))
    (λ p q. absurd ((no_imaginary-square s t t_some).0 (leads imaginary (λ z. omega (linear, ap (λ a. a.im) z)) p)))
    (λ p q. absurd ((no_imaginary-square s t t_some).1 (leads (negative imaginary) (λ z. omega (linear, ap (λ a. a.im) z)) p)))
    a.is_unit a.polynomials a.factors
  where
    a : Associates pairs κ κ' (square pairs w) (square pairs w')
    a =
        primitive_squares pairs_ring pairs_bezout pairs_domain κ κ' w w' (first_some f) (coprime_primitive w h) (coprime_primitive w' h')
        (λ k. sym (e k) ∙ e' k)

    s : Pair
    s = at pairs w l.power

    t : Pair
    t = at pairs w' l'.power

    t_some : t ≢ pairs.none
    t_some = (first-top l').lead

    leads : (u : Pair) → u ≢ pairs.none → Same pairs (square pairs w) (scaled pairs u (square pairs w')) → times s s ≡ times u (times t t)
    leads u some = leads_agree pairs_ring pairs_domain w w' u some (first-top l) (first-top l')

pub preimage_norms : (D : List Pair) (p : Preimage) → PreimageOf D p
    → (p.square.c ≡ norm p.kappa) × Same wholes (quartic p.square.q) (norm_polynomial (quadratic p.w))
preimage_norms D p h = (c, q)
  where
    s : SquareOf D p.square
    s = h.square_of

    w : List Pair
    w = quadratic p.w

    c : p.square.c ≡ norm p.kappa
    c =
        content_once (omega (linear, s.positive)) (norm_nonneg p.kappa) s.content
        (generated-content D p.kappa w (first_some h.factor) (coprime_primitive w h.coprime) h.generated)

    q : Same wholes (quartic p.square.q) (norm_polynomial w)
    q =
        positive_lead_once (quartic p.square.q) (norm_polynomial w) s.lead (norm_polynomial-lead_positive (first-top h.lead))
        (scaled_squares_agree wholes_ring wholes_domain p.square.c (quartic p.square.q) (norm_polynomial w) (positive_some s.positive)
        (λ j.
        sym (s.squared j)
        ∙ generated-squared D p.kappa w h.generated j
        ∙ ap (λ x. at wholes (scaled wholes x (square wholes (norm_polynomial w))) j) (sym c)))

pub preimage_once : (D : List Pair) (p p' : Preimage) → PreimageOf D p → PreimageOf D p' → p ≡ p'
preimage_once D p p' h k =
    let (κ, w) =
    generators_agree D p.kappa p'.kappa (quadratic p.w) (quadratic p'.w) h.generated k.generated h.coprime k.coprime
    h.factor k.factor h.lead k.lead in
    λ i. record { kappa = κ i; w = quadratic-same p.w p'.w w i; square = square_once D p.square p'.square h.square_of k.square_of i }

pub one_preimage : (D : List Pair) {P Q : Preimage → Type 0} → WithPreimage D P → WithPreimage D Q → (p : Preimage) × P p × Q p
one_preimage D {Q = Q} h k =
    (h.preimage, h.has, subst Q (preimage_once D k.preimage h.preimage k.is_preimage h.is_preimage) k.has)

-- ---- verdicts
pub verdict_once : (D : List Pair) (v v' : Verdict) → Holds D v → Holds D v' → v ≡ v'
verdict_once D verdict.Still verdict.Still h k = refl
verdict_once D verdict.Still verdict.No h k = absurd (k.0 h)
verdict_once D verdict.Still (verdict.Ph s) h k = absurd (k.0 h)
verdict_once D verdict.Still (verdict.Pre p) h k = absurd (k.0 h)
verdict_once D verdict.No verdict.Still h k = absurd (h.0 k)
verdict_once D verdict.No verdict.No h k = refl
verdict_once D verdict.No (verdict.Ph s) h k = absurd (h.1 s.c (quartic s.q) k.1.positive k.1.squared)
verdict_once D verdict.No (verdict.Pre p) h k =
    absurd (h.1 p.square.c (quartic p.square.q) k.1.square_of.positive k.1.square_of.squared)
verdict_once D (verdict.Ph s) verdict.Still h k = absurd (h.0 k)
verdict_once D (verdict.Ph s) verdict.No h k = absurd (k.1 s.c (quartic s.q) h.1.positive h.1.squared)
verdict_once D (verdict.Ph s) (verdict.Ph t) h k = ap verdict.Ph (square_once D s t h.1 k.1)
verdict_once D (verdict.Ph s) (verdict.Pre p) h k = absurd (h.2 p.kappa (quadratic p.w) k.1.generated)
verdict_once D (verdict.Pre p) verdict.Still h k = absurd (h.0 k)
verdict_once D (verdict.Pre p) verdict.No h k =
    absurd (k.1 p.square.c (quartic p.square.q) h.1.square_of.positive h.1.square_of.squared)
verdict_once D (verdict.Pre p) (verdict.Ph s) h k = absurd (k.2 p.kappa (quadratic p.w) h.1.generated)
verdict_once D (verdict.Pre p) (verdict.Pre p') h k = ap verdict.Pre (preimage_once D p p' h.1 k.1)

-- ---- promises
pub recognised_once : (ps : List Pair) (r s : Result Verdict Refusal) → Recognised ps r → Recognised ps s → r ≡ s
recognised_once ps r s h k =
    answer_once r s (first_or_once (out_of_range ps ∷ []) (Holds (leg_polynomial ps)) (verdict_once (leg_polynomial ps)) (answer_of r) (answer_of s) h k)

pub preimaged_once : (ps : List Pair) (r s : Result Preimage Refusal) → Preimaged ps r → Preimaged ps s → r ≡ s
preimaged_once ps r s h k =
    answer_once r s (first_or_once (preimage_causes ps) (PreimageOf (leg_polynomial ps)) (preimage_once (leg_polynomial ps)) (answer_of r) (answer_of s) h k)

-- What is squared, or generated, is so in the one way that the rules leave.
--   square-found         N = c q² gives the normalised c and q
--   preimage_found       D = κ w² gives the normalised κ and w
use mathlib.Core.Path.{refl, sym, ◌∙◌, subst}
use mathlib.Core.List.{List, []}
use mathlib.Core.Logic.{◌⊎◌, inl, inr, ⊎_elim}
use lib.IntN.{ℤ, pos, negsuc, neg_ℤ}
use lib.Signed.{◌<ℤ◌}
use Rattle.whole.specs.Coefficients.{at, Greatest}
use Rattle.poly.specs.Polynomials.{Same, scaled, square}
use Rattle.whole.specs.Number.{wholes, FirstPositive}
use Rattle.whole.proofs.Wholes.{wholes_ring}
use Rattle.poly.specs.Terms.{Above}
use Rattle.poly.proofs.Lists.{scaled-same, square-opposite}
use Rattle.poly.proofs.Top.{listed_same, root_above, root_some}
use Rattle.poly.proofs.Content.{content, quotients}
use Rattle.poly.proofs.Squares.{root-same}
use Rattle.poly.proofs.Wholes.{whole-zero?, positive_content, whole-square}
use Rattle.pair.specs.declared.Pair.{Pair}
use Rattle.pair.specs.Pairs.{pair, pairs, negative, imaginary}
use Rattle.pair.proofs.Laws.{pairs_ring, pairs_domain, pair-zero?}
use Rattle.divisor.proofs.Euclid.{pairs_bezout}
use Rattle.divisor.proofs.Roots.{first_some, first_found}
use Rattle.root.specs.declared.Quartic.{Quartic}
use Rattle.verdict.specs.declared.Quadratic.{Quadratic}
use Rattle.root.specs.Promise.{quartic, LeadPositive}
use Rattle.root.proofs.Leads.{lead_same}
use Rattle.curve.specs.Curves.{norm_polynomial}
use Rattle.curve.proofs.Norms.{norm_polynomial-zero}
use Rattle.verdict.specs.declared.Square.{Square}
use Rattle.verdict.specs.declared.Preimage.{Preimage}
use Rattle.verdict.specs.Verdicts.{Still, Squared, Generated, Coprime, SquareOf, PreimageOf, quadratic, LeadKept}
use Rattle.verdict.proofs.Coprime.{primitive_coprime, unit_coprime}
use Rattle.verdict.proofs.Multiples.{squared_above}
use Rattle.verdict.proofs.Generators.{generated-turned, generated-opposite}
use Rattle.verdict.proofs.Norms.{Reduced, reduced}
use Rattle.verdict.proofs.Signs.{lead_found, lead_first-found}

-- the five coefficients of a polynomial of degree at most 4, and the three of one of degree at most 2
abbrev as_quartic : List ℤ → Quartic
as_quartic q = record { q0 = at wholes q 0; q1 = at wholes q 1; q2 = at wholes q 2; q3 = at wholes q 3; q4 = at wholes q 4 }

quartic-same : (q : List ℤ) → Above wholes (at wholes q) 4 → Same wholes q (quartic (as_quartic q))
quartic-same q = listed_same wholes 4 (at wholes q)

abbrev as_quadratic : List Pair → Quadratic
as_quadratic w = record { b0 = at pairs w 0; b1 = at pairs w 1; b2 = at pairs w 2 }

quadratic-same : (w : List Pair) → Above pairs (at pairs w) 2 → Same pairs w (quadratic (as_quadratic w))
quadratic-same w = listed_same pairs 2 (at pairs w)

-- ---- c and q
squared-opposite : (D : List Pair) (c : ℤ) (q : List ℤ) → Squared D c q → Squared D c (scaled wholes (negsuc 0) q)
squared-opposite D c q h k =
    h k
    ∙ scaled-same wholes_ring c (square wholes q) (square wholes (scaled wholes (negsuc 0) q))
    (λ j. sym (square-opposite wholes_ring q j)) k

-- c, and q with the sign of its lead, make the normalised square
square_made : (D : List Pair) (c : ℤ) (q : List ℤ) → Above pairs (at pairs D) 4 → pos 0 <ℤ c → Greatest wholes (norm_polynomial D) c → Squared D c q
    → LeadPositive q → (s : Square) × SquareOf D s
square_made D c q a h g e l =
    let same = quartic-same q (squared_above D 4 c q a h e) in (
      record { c = c; q = as_quartic q },
      record {
        positive = h;
        squared = root-same wholes_ring (norm_polynomial D) q (quartic (as_quartic q)) c same e;
        content = g;
        lead = lead_same same l;
      },
    )

pub square-found : (D : List Pair) (c : ℤ) (q : List ℤ) → Above pairs (at pairs D) 4 → (Still D → ⊥) → pos 0 <ℤ c → Squared D c q
    → (s : Square) × SquareOf D s
square-found D c q a n h e = made (positive_content N N_some)
  where
    N : List ℤ
    N = norm_polynomial D

    N_some : Same wholes N [] → ⊥
    N_some z = n ((norm_polynomial-zero D).1 z)

    signed : (d : ℤ) (r : List ℤ) → pos 0 <ℤ d → Greatest wholes N d → Squared D d r → (s : Square) × SquareOf D s
    signed d r i g f =
        let (m, t) = root_some wholes_ring whole-zero? N r d f N_some in
        ⊎_elim (square_made D d r a i g f)
        (square_made D d (scaled wholes (negsuc 0) r) a i g (squared-opposite D d r f))
        (lead_found r m t)

    made : (d : ℤ) × (pos 0 <ℤ d) × Greatest wholes N d → (s : Square) × SquareOf D s
    made (d, i, g) =
        let (M, f) = quotients wholes_ring d N g.divides in
        let r = whole-square c M q i h g f e in
        signed d r.root i g (λ k. sym (f k) ∙ scaled-same wholes_ring d M (square wholes r.root) r.squared k)

-- ---- κ and w
lead_first-same : (w v : List Pair) → Same pairs w v → LeadKept w → LeadKept v
lead_first-same w v e h = record {
  power = h.power;
  positive = subst (λ z. FirstPositive z.re z.im) (e h.power) h.positive;
  above = λ k l. sym (e k) ∙ h.above k l;
}

-- κ with its sign, and coprime w with the sign of its lead, make the normalised pre-image
preimage_made : (D : List Pair) (s : Square) (κ : Pair) (w : List Pair) → Above pairs (at pairs D) 4 → SquareOf D s → Generated D κ w → Coprime w
    → FirstPositive κ.re κ.im → LeadKept w → (p : Preimage) × PreimageOf D p
preimage_made D s κ w a h e c f l =
    let same = quadratic-same w (root_above pairs_ring pairs_domain pair-zero? D w κ 2 (first_some f) e a) in (
      record { kappa = κ; w = as_quadratic w; square = s },
      record {
        generated = root-same pairs_ring D w (quadratic (as_quadratic w)) κ same e;
        coprime = λ d u. c d (λ k. rw (same k) (u k));
        factor = f;
        lead = lead_first-same w (quadratic (as_quadratic w)) same l;
        square_of = h;
      },
    )

pub preimage_found : (D : List Pair) (s : Square) (κ : Pair) (w : List Pair) → Above pairs (at pairs D) 4 → (Still D → ⊥) → SquareOf D s → Generated D κ w
    → (p : Preimage) × PreimageOf D p
preimage_found D s κ w a n h e = by (first_found r.factor r.factor_some)
  where
    G : (g : Pair) × Greatest pairs D g
    G = content pairs_ring pairs_bezout D

    r : Reduced D
    r = reduced D G.0 κ w G.1 n e

    signed : (κ : Pair) (w : List Pair) → Generated D κ w → Coprime w → FirstPositive κ.re κ.im → (p : Preimage) × PreimageOf D p
    signed κ w e c f =
        let (m, t) = root_some pairs_ring pair-zero? D w κ e n in
        ⊎_elim (preimage_made D s κ w a h e c f)
        (preimage_made D s κ (scaled pairs (pair (negsuc 0) (pos 0)) w) a h (generated-opposite D κ w e)
        (unit_coprime (pair (negsuc 0) (pos 0)) w refl c) f)
        (lead_first-found w m t)

    coprime : Coprime r.root
    coprime = primitive_coprime r.root r.root_primitive

    by : FirstPositive r.factor.re r.factor.im ⊎ FirstPositive (neg_ℤ r.factor.re) (neg_ℤ r.factor.im) → (p : Preimage) × PreimageOf D p
    by (inl f) = signed r.factor r.root r.generated coprime f
    by (inr f) =
        signed (negative r.factor) (scaled pairs imaginary r.root) (generated-turned D r.factor r.root r.generated)
        (unit_coprime imaginary r.root refl coprime) f

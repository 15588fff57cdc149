-- What is enough for a verdict on one curve, so that each part of it is a few numbers and a computation.
--   not-squared            N is no c q²: N(x) N(y) is between two squares
--   not-generated          D is no κ w²: |D(x) D(y)|² is between two squares
--   lead_at                the lead of a list that has only zeros behind a power
--   square_by              c and q, from N = c q² where c is itself a coefficient of N
--   combined_coprime       two coefficients of w whose combination is 1 have no common divisor
--   preimage_with          κ and w, from D = κ w² where w has no common divisor; c = |κ|² and q = |w|²
--   preimage_by            the same where w has a unit for a coefficient
-- An equation of polynomials is one of lists here, with zeros behind the shorter one.
use mathlib.Core.Path.{◌≡◌, sym, ap, ◌∙◌, subst}
use mathlib.Core.List.{List, ◌++◌}
use Prim.Native.Nat.{ℕ, suc}
use lib.IntN.{ℤ, pos, ◌*ℤ◌}
use lib.ListN.{drop, replicate}
use lib.Signed.{◌<ℤ◌}
use Rattle.whole.specs.Coefficients.{Coefficients, at, Divides, Greatest}
use Rattle.poly.specs.Polynomials.{scaled, square}
use Rattle.whole.specs.Number.{wholes, FirstPositive}
use Rattle.whole.proofs.Divisor.{divides_plus}
use Rattle.whole.proofs.Wholes.{wholes_ring}
use Rattle.whole.proofs.Squares.{Between, between_no_square}
use Rattle.poly.specs.Terms.{value}
use Rattle.poly.proofs.Lists.{at_scaled}
use Rattle.poly.proofs.Zeros.{same-padded, above_zeros}
use Rattle.poly.proofs.Value.{values_square}
use Rattle.poly.proofs.Divisibility.{divides_times, unit_of_one, unit_divisor}
use Rattle.pair.specs.declared.Pair.{Pair}
use Rattle.pair.specs.Pairs.{pairs, one, plus, times, norm}
use Rattle.pair.proofs.Laws.{pairs_ring, norm-times, norm_some}
use Rattle.divisor.proofs.Units.{norm-unit}
use Rattle.divisor.proofs.Roots.{first_some}
use Rattle.root.specs.Search.{Lead}
use Rattle.root.specs.Promise.{quartic, LeadPositive}
use Rattle.curve.specs.Curves.{norm_polynomial}
use Rattle.verdict.specs.declared.Square.{Square}
use Rattle.verdict.specs.declared.Preimage.{Preimage}
use Rattle.verdict.specs.Verdicts.{Squared, Generated, NotSquared, NotGenerated, Coprime, SquareOf, PreimageOf, quadratic, LeadKept}
use Rattle.verdict.proofs.Coprime.{coprime_primitive, primitive_coprime}
use Rattle.verdict.proofs.Multiples.{generated-squared}
use Rattle.verdict.proofs.Norms.{generated-content}
use Rattle.verdict.proofs.Signs.{first-top, norm_polynomial-lead_positive}

pub not-squared : (D : List Pair) (x y : ℤ) → Between (value wholes x (norm_polynomial D) *ℤ value wholes y (norm_polynomial D)) → NotSquared D
not-squared D x y b c q h s = between_no_square b (c *ℤ (value wholes x q *ℤ value wholes y q)) (values_square wholes_ring (norm_polynomial D) q c x y s)

pub not-generated : (D : List Pair) (x y : Pair) → Between (norm (times (value pairs x D) (value pairs y D))) → NotGenerated D
not-generated D x y b κ w g =
    let s = times κ (times (value pairs x w) (value pairs y w)) in
    between_no_square b (norm s) (ap norm (values_square pairs_ring D w κ x y g) ∙ norm-times s s)

-- ---- the data of a verdict
pub lead_at : {A : Type 0} (C : Coefficients A) {Positive : A → Type 0} {q : List A} (m n : ℕ) → drop (suc m) q ≡ replicate n C.none → Positive (at C q m)
    → Lead C Positive q
lead_at C {q} m n e h = record { power = m; positive = h; above = above_zeros C m n q e }

pub square_by : {D : List Pair} {s : Square} (n k : ℕ) → norm_polynomial D ++ replicate n (pos 0) ≡ scaled wholes s.c (square wholes (quartic s.q))
    → at wholes (norm_polynomial D) k ≡ s.c → pos 0 <ℤ s.c → LeadPositive (quartic s.q) → SquareOf D s
square_by {D} {s} n k e c h l = record {
  positive = h;
  squared = squared;
  content = record {
    divides = λ j. record { factor = at wholes (square wholes (quartic s.q)) j; is = sym (squared j ∙ at_scaled wholes_ring s.c (square wholes (quartic s.q)) j) };
    greatest = λ d f. subst (Divides wholes d) c (f k);
  };
  lead = l;
}
  where
    squared : Squared D s.c (quartic s.q)
    squared = same-padded wholes n (norm_polynomial D) (scaled wholes s.c (square wholes (quartic s.q))) e

pub combined_coprime : (w : List Pair) (j k : ℕ) (x y : Pair) → plus (times (at pairs w j) x) (times (at pairs w k) y) ≡ one → Coprime w
combined_coprime w j k x y e =
    primitive_coprime w (λ d h. unit_of_one pairs_ring (subst (Divides pairs d) e (divides_plus pairs_ring (divides_times pairs_ring (h j) x) (divides_times pairs_ring (h k) y))))

pub preimage_with : {D : List Pair} {p : Preimage} (n : ℕ) → D ++ replicate n pairs.none ≡ scaled pairs p.kappa (square pairs (quadratic p.w))
    → Coprime (quadratic p.w) → FirstPositive p.kappa.re p.kappa.im → LeadKept (quadratic p.w)
    → norm p.kappa ≡ p.square.c → norm_polynomial (quadratic p.w) ≡ quartic p.square.q → PreimageOf D p
preimage_with {D} {p} n e coprime f l c q = record {
  generated = generated;
  coprime = coprime;
  factor = f;
  lead = l;
  square_of = record {
    positive = subst (λ x. pos 0 <ℤ x) c (norm_some p.kappa (first_some f));
    squared = subst (λ x. Squared D x (quartic p.square.q)) c (subst (Squared D (norm p.kappa)) q (generated-squared D p.kappa w generated));
    content = subst (Greatest wholes (norm_polynomial D)) c (generated-content D p.kappa w (first_some f) (coprime_primitive w coprime) generated);
    lead = subst LeadPositive q (norm_polynomial-lead_positive (first-top l));
  };
}
  where
    w : List Pair
    w = quadratic p.w

    generated : Generated D p.kappa w
    generated = same-padded pairs n D (scaled pairs p.kappa (square pairs w)) e

pub preimage_by : {D : List Pair} {p : Preimage} (n k : ℕ) → D ++ replicate n pairs.none ≡ scaled pairs p.kappa (square pairs (quadratic p.w))
    → norm (at pairs (quadratic p.w) k) ≡ pos 1 → FirstPositive p.kappa.re p.kappa.im → LeadKept (quadratic p.w)
    → norm p.kappa ≡ p.square.c → norm_polynomial (quadratic p.w) ≡ quartic p.square.q → PreimageOf D p
preimage_by {p} n k e u = let w = quadratic p.w in preimage_with n e (primitive_coprime w (λ d h. unit_divisor pairs_ring (h k) (norm-unit (at pairs w k) u)))

-- The content of N from a generator of D.
--   generated-content      D = κ w² with w primitive and κ not 0: |κ|² is the greatest common divisor of N
--   generated-square_of    and |κ|² and |w|² are the c and q that the rules leave
--   Reduced, reduced       D = κ w², not 0: it is so with a primitive w
use mathlib.Core.Path.{◌≡◌, sym, ap, ◌∙◌}
use mathlib.Core.List.{List}
use mathlib.Core.Logic.{◌≢◌}
use Prim.Native.Nat.{ℕ}
use lib.IntN.{◌*ℤ◌}
use Rattle.poly.specs.Polynomials.{Same, square}
use Rattle.whole.specs.Coefficients.{Greatest}
use Rattle.whole.specs.Number.{wholes}
use Rattle.whole.proofs.Integers.{*ℤ-1}
use Rattle.whole.proofs.Wholes.{wholes_ring}
use Rattle.poly.specs.Terms.{Primitive, Top}
use Rattle.poly.proofs.Lists.{scaled-same, square-same}
use Rattle.poly.proofs.Gauss.{primitive_product}
use Rattle.poly.proofs.Content.{quotients, greatest_some, primitive_greatest}
use Rattle.poly.proofs.Squares.{square-quotient, square-multiple}
use Rattle.poly.proofs.Wholes.{wholes_domain, wholes_bezout}
use Rattle.pair.specs.declared.Pair.{Pair}
use Rattle.pair.specs.Pairs.{pairs, times, norm}
use Rattle.pair.proofs.Laws.{pairs_ring, pairs_domain, norm-times, norm-zero, norm_some}
use Rattle.divisor.proofs.Euclid.{pairs_bezout}
use Rattle.divisor.proofs.Units.{unit-norm}
use Rattle.root.specs.declared.Quartic.{Quartic}
use Rattle.root.specs.Promise.{quartic}
use Rattle.root.proofs.Leads.{lead_same}
use Rattle.curve.specs.Curves.{norm_polynomial}
use Rattle.verdict.specs.Verdicts.{Still, Generated, SquareOf}
use Rattle.verdict.proofs.Multiples.{generated-squared}
use Rattle.verdict.proofs.Conjugates.{norm_polynomial-primitive}
use Rattle.verdict.proofs.Signs.{norm_polynomial-lead_positive}

pub generated-content : (D : List Pair) (κ : Pair) (w : List Pair) → κ ≢ pairs.none → Primitive pairs w → Generated D κ w
    → Greatest wholes (norm_polynomial D) (norm κ)
generated-content D κ w n h e =
    primitive_greatest wholes_ring wholes_bezout wholes_domain (norm_polynomial D) (square wholes (norm_polynomial w)) (norm κ) (λ z. n (norm-zero κ z))
    (primitive_product wholes_ring wholes_bezout (norm_polynomial w) (norm_polynomial w) (norm_polynomial-primitive w h) (norm_polynomial-primitive w h))
    (λ k. sym (generated-squared D κ w e k))

pub generated-square_of : (D : List Pair) (κ : Pair) (w : List Pair) (q : Quartic) {L : ℕ} → κ ≢ pairs.none → Primitive pairs w → Top pairs w L → Generated D κ w
    → Same wholes (quartic q) (norm_polynomial w) → SquareOf D (record { c = norm κ; q = q })
generated-square_of D κ w q n h l e s = record {
  positive = norm_some κ n;
  squared = λ k. generated-squared D κ w e k ∙ sym (scaled-same wholes_ring (norm κ) (square wholes (quartic q)) (square wholes (norm_polynomial w)) (square-same wholes_ring (quartic q) (norm_polynomial w) s) k);
  content = generated-content D κ w n h e;
  lead = lead_same (λ k. sym (s k)) (norm_polynomial-lead_positive l);
}

-- D = κ w² with w primitive
pub record Reduced (D : List Pair) : Type 0 where
  pub factor : Pair
  pub factor_some : factor ≢ pairs.none
  pub root : List Pair
  pub root_primitive : Primitive pairs root
  pub generated : Generated D factor root

pub reduced : (D : List Pair) (g κ : Pair) (w : List Pair) → Greatest pairs D g → (Still D → ⊥) → Generated D κ w → Reduced D
reduced D g κ w h n e =
    let (E, j) = quotients pairs_ring g D h.divides in
    let g_some : g ≢ pairs.none = greatest_some pairs_ring h n in
    let r = square-quotient pairs_ring pairs_bezout pairs_domain κ E w g_some h j e in
    let same : norm (times g r.unit) ≡ norm g = norm-times g r.unit ∙ ap (λ t. norm g *ℤ t) (unit-norm r.is_unit) ∙ *ℤ-1 (norm g) in
    record {
      factor = times g r.unit;
      factor_some = λ z. g_some (norm-zero g (sym same ∙ ap norm z));
      root = r.root;
      root_primitive = r.root_primitive;
      generated = λ k. sym (j k) ∙ square-multiple pairs_ring g r.unit E r.root r.squared k;
    }

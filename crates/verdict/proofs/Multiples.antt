-- N = c q² and D = κ w², for D of any degree.
--   not-squared_moves     where N is no c q², D is not 0
--   generated_some        D = κ w², and not 0: κ is not 0
--   generated-squared     D = κ w² gives N = |κ|² (|w|²)²
--   squared_above         N = c q²: q has no power above those of D,
--   squared-form          and |sⁿ D(v / s)|² is c (sⁿ q(v / s))²
use mathlib.Core.Path.{◌≡◌, sym, ap, ◌∙◌, fun_ext}
use mathlib.Core.List.{List, []}
use mathlib.Core.Logic.{◌≢◌}
use Prim.Native.Nat.{ℕ, ◌+◌}
use lib.IntN.{ℤ, pos, ◌*ℤ◌}
use lib.Signed.{◌<ℤ◌}
use Rattle.whole.specs.Coefficients.{at}
use Rattle.poly.specs.Polynomials.{scaled, product, square}
use Rattle.whole.specs.Number.{wholes}
use Rattle.whole.proofs.Linear.{linear}
use Rattle.whole.proofs.Wholes.{wholes_ring}
use Rattle.poly.specs.Terms.{Above}
use Rattle.poly.proofs.Lists.{at_scaled, at-product, scaled-same, none-scaled}
use Rattle.poly.proofs.Top.{root_above}
use Rattle.poly.proofs.Forms.{form, form-times, form-product}
use Rattle.poly.proofs.Wholes.{whole-zero?, wholes_domain}
use Rattle.pair.specs.declared.Pair.{Pair}
use Rattle.pair.specs.Pairs.{pairs, norm}
use Rattle.pair.proofs.Laws.{pairs_ring}
use Rattle.curve.specs.Curves.{norm_polynomial}
use Rattle.curve.proofs.Norms.{norm_polynomial-same, norm_polynomial-product, norm_polynomial-above, norm_polynomial-zero, norm_polynomial-scaled, pair_form, norm_polynomial-form}
use Rattle.verdict.specs.Verdicts.{Squared, NotSquared, Generated, Still}

pub not-squared_moves : (D : List Pair) → NotSquared D → Still D → ⊥
unfolding scaled product
not-squared_moves D h z = h (pos 1) [] (omega linear) ((norm_polynomial-zero D).0 z)

-- ---- D = κ w²
pub generated_some : (D : List Pair) (κ : Pair) (w : List Pair) → Generated D κ w → (Still D → ⊥) → κ ≢ pairs.none
generated_some D κ w h n e = n (λ k. h k ∙ none-scaled pairs_ring κ (square pairs w) e k)

pub generated-squared : (D : List Pair) (κ : Pair) (w : List Pair) → Generated D κ w → Squared D (norm κ) (norm_polynomial w)
generated-squared D κ w h k =
    norm_polynomial-same D (scaled pairs κ (square pairs w)) h k
    ∙ norm_polynomial-scaled κ (square pairs w) k
    ∙ scaled-same wholes_ring (norm κ) (norm_polynomial (square pairs w)) (square wholes (norm_polynomial w)) (norm_polynomial-product w w) k

-- ---- values
module _ (D : List Pair) (n : ℕ) (c : ℤ) (q : List ℤ) (u : Above pairs (at pairs D) n) (p : pos 0 <ℤ c) (h : Squared D c q) where
  pub squared_above : Above wholes (at wholes q) n
  squared_above = root_above wholes_ring wholes_domain whole-zero? (norm_polynomial D) q c n (λ z. omega linear) h (norm_polynomial-above D n u)

  pub squared-form : (s v : ℤ) → norm (pair_form s v n D) ≡ c *ℤ (form wholes s v n (at wholes q) *ℤ form wholes s v n (at wholes q))
  squared-form s v =
      sym (norm_polynomial-form s v D n u)
      ∙ ap (form wholes s v (n + n)) (fun_ext (λ k. h k ∙ at_scaled wholes_ring c (square wholes q) k ∙ ap (λ x. c *ℤ x) (at-product wholes_ring q q k)))
      ∙ form-times wholes_ring s v (n + n) c _
      ∙ ap (λ x. c *ℤ x) (form-product wholes_ring s v n n (at wholes q) (at wholes q) squared_above squared_above)

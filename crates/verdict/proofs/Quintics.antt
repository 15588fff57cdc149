-- D = κ w² of five legs, with w = x (1 − t)² + y t (1 − t) + z t²: d0, 4 d1, 6 d2, 4 d3, d4 are κ times x², 2 x y, 2 x z + y², 2 y z, z².
--   quintic_rule         they meet the rule with m = κ x z
--   quintic_rule_end     where d0 is 0, so is d1, and 6 d2, 2 d3, d4 meet the rule of a cubic
use mathlib.Core.Path.{◌≡◌, refl, sym, ap, ap₂, ◌∙◌}
use mathlib.Core.List.{List, [], ◌∷◌}
use mathlib.Core.Logic.{⊎_elim}
use Prim.Native.Nat.{ℕ}
use native.Mathlib.Omega.{arith}
use lib.IntN.{pos}
use Rattle.whole.specs.Coefficients.{at}
use Rattle.whole.proofs.Ring.{times_none}
use Rattle.poly.proofs.Series.{conv}
use Rattle.pair.specs.declared.Pair.{Pair}
use Rattle.pair.specs.Pairs.{pairs, plus, minus, times, multiple}
use Rattle.pair.proofs.Laws.{pairs_ring, pairs_domain, multiple_cancel}
use Rattle.pair.proofs.PairSolver.{PairEx, the, ◌⊞◌, ◌⊟◌, ◌⊠◌, ◌··◌, nought, solve_pairs}
use Rattle.bernstein.specs.Binomials.{choose}
use Rattle.bernstein.specs.Powers.{power_form}
use Rattle.bernstein.proofs.Products.{times_choose}
use Rattle.curve.proofs.SquaredLegs.{crossed_legs}
use Rattle.verdict.specs.Verdicts.{Generated}
use Rattle.verdict.specs.Rules.{CubicRule, QuinticRule}
use Rattle.verdict.proofs.GeneratedLegs.{IsGenerated, generated-legs}

-- ---- expressions of the solver over κ, x, y and z: C(4, k) times each leg, and m
abbrev K : PairEx
K = the 0

abbrev X : PairEx
X = the 1

abbrev Y : PairEx
Y = the 2

abbrev Z : PairEx
Z = the 3

abbrev L : ℕ → PairEx
L k = K ⊠ crossed_legs (X ∷ Y ∷ Z ∷ []) k

abbrev M : PairEx
M = K ⊠ (X ⊠ Z)

module _ (d0 d1 d2 d3 d4 : Pair) where
  abbrev legs : List Pair
  legs = d0 ∷ d1 ∷ d2 ∷ d3 ∷ d4 ∷ []

  module _ (κ x y z : Pair) (e : IsGenerated legs κ (x ∷ y ∷ z ∷ [])) where
    abbrev xyz : List Pair
    xyz = κ ∷ x ∷ y ∷ z ∷ []

    abbrev m : Pair
    m = times κ (times x z)

    abbrev leg : ℕ → Pair
    leg k = times κ (conv pairs (at pairs (x ∷ y ∷ z ∷ [])) (at pairs (x ∷ y ∷ z ∷ [])) k)

    e0 : times_choose legs 0 ≡ leg 0
    e0 = e 0 (omega arith)

    e1 : times_choose legs 1 ≡ leg 1
    e1 = e 1 (omega arith)

    e2 : times_choose legs 2 ≡ leg 2
    e2 = e 2 (omega arith)

    e3 : times_choose legs 3 ≡ leg 3
    e3 = e 3 (omega arith)

    e4 : times_choose legs 4 ≡ leg 4
    e4 = e 4 (omega arith)

    legs_rule : QuinticRule d0 d1 d2 d3 d4 m
    unfolding choose conv
    legs_rule = record {
      second =
          multiple_cancel 16 (omega arith)
          (solve_pairs (d0 ∷ m ∷ []) (16 ·· (the 0 ⊠ the 1)) (16 ·· (1 ·· the 0 ⊠ the 1)) tt tt
          ∙ ap (λ t. multiple (pos 16) (times t m)) e0
          ∙ solve_pairs xyz (16 ·· (L 0 ⊠ M)) (8 ·· (L 0 ⊠ L 2) ⊟ 2 ·· (L 1 ⊠ L 1)) tt tt
          ∙ ap₂ (λ p q. minus (multiple (pos 8) p) (multiple (pos 2) q)) (ap₂ times (sym e0) (sym e2)) (ap₂ times (sym e1) (sym e1))
          ∙ solve_pairs legs (8 ·· (1 ·· the 0 ⊠ 6 ·· the 2) ⊟ 2 ·· (4 ·· the 1 ⊠ 4 ·· the 1)) (16 ·· (3 ·· (the 0 ⊠ the 2) ⊟ 2 ·· (the 1 ⊠ the 1))) tt tt);
      third =
          multiple_cancel 4 (omega arith)
          (solve_pairs (d1 ∷ m ∷ []) (4 ·· (the 0 ⊠ the 1)) (4 ·· the 0 ⊠ the 1) tt tt
          ∙ ap (λ t. times t m) e1
          ∙ solve_pairs xyz (L 1 ⊠ M) (L 0 ⊠ L 3) tt tt
          ∙ ap₂ times (sym e0) (sym e3)
          ∙ solve_pairs legs (1 ·· the 0 ⊠ 4 ·· the 3) (4 ·· (the 0 ⊠ the 3)) tt tt);
      fourth = solve_pairs xyz (M ⊠ M) (L 0 ⊠ L 4) tt tt ∙ ap₂ times (sym e0) (sym e4) ∙ solve_pairs legs (1 ·· the 0 ⊠ 1 ·· the 4) (the 0 ⊠ the 4) tt tt;
    }

    -- ---- d0 = κ x² = 0, and so κ x = 0
    module _ (n : d0 ≡ pairs.none) where
      first-none : times κ x ≡ pairs.none
      unfolding choose conv
      first-none =
          ⊎_elim (λ i. i) (λ i. i)
          (pairs_domain.splits (times κ x) (times κ x)
          (solve_pairs (κ ∷ x ∷ []) ((K ⊠ X) ⊠ (K ⊠ X)) (K ⊠ (K ⊠ (X ⊠ X))) tt tt
          ∙ ap (times κ) (sym e0 ∙ ap (multiple (pos 1)) n)
          ∙ times_none pairs_ring κ))

      second_none : d1 ≡ pairs.none
      unfolding choose conv
      second_none =
          multiple_cancel 4 (omega arith)
          (e1
          ∙ solve_pairs xyz (L 1) (2 ·· ((K ⊠ X) ⊠ Y)) tt tt
          ∙ ap (λ t. multiple (pos 2) (times t y)) first-none
          ∙ solve_pairs xyz (2 ·· (nought ⊠ Y)) nought tt tt)

      sixfold : multiple (pos 6) d2 ≡ times κ (times y y)
      unfolding choose conv
      sixfold =
          e2
          ∙ solve_pairs xyz (L 2) (K ⊠ (Y ⊠ Y) ⊞ 2 ·· ((K ⊠ X) ⊠ Z)) tt tt
          ∙ ap (λ t. plus (times κ (times y y)) (multiple (pos 2) (times t z))) first-none
          ∙ solve_pairs xyz (K ⊠ (Y ⊠ Y) ⊞ 2 ·· (nought ⊠ Z)) (K ⊠ (Y ⊠ Y)) tt tt

      twofold : multiple (pos 2) d3 ≡ times κ (times y z)
      unfolding choose conv
      twofold = multiple_cancel 2 (omega arith) (solve_pairs (d3 ∷ []) (2 ·· (2 ·· the 0)) (4 ·· the 0) tt tt ∙ e3 ∙ solve_pairs xyz (L 3) (2 ·· (K ⊠ (Y ⊠ Z))) tt tt)

      onefold : d4 ≡ times κ (times z z)
      unfolding choose conv
      onefold = solve_pairs (d4 ∷ []) (the 0) (1 ·· the 0) tt tt ∙ e4 ∙ solve_pairs xyz (L 4) (K ⊠ (Z ⊠ Z)) tt tt

      legs_rule_end : CubicRule (multiple (pos 6) d2) (multiple (pos 2) d3) d4
      legs_rule_end =
          ap₂ times twofold twofold
          ∙ solve_pairs xyz ((K ⊠ (Y ⊠ Z)) ⊠ (K ⊠ (Y ⊠ Z))) ((K ⊠ (Y ⊠ Y)) ⊠ (K ⊠ (Z ⊠ Z))) tt tt
          ∙ ap₂ times (sym sixfold) (sym onefold)

  module _ (κ : Pair) (w : List Pair) (h : Generated (power_form legs) κ w) where
    abbrev x : ℕ → Pair
    x = (generated-legs legs 2 refl κ w h).0

    are : IsGenerated legs κ (x 0 ∷ x 1 ∷ x 2 ∷ [])
    are = (generated-legs legs 2 refl κ w h).1

    pub quintic_rule : QuinticRule d0 d1 d2 d3 d4 (times κ (times (x 0) (x 2)))
    quintic_rule = legs_rule κ (x 0) (x 1) (x 2) are

    pub quintic_rule_end : d0 ≡ pairs.none → (d1 ≡ pairs.none) × CubicRule (multiple (pos 6) d2) (multiple (pos 2) d3) d4
    quintic_rule_end n = (second_none κ (x 0) (x 1) (x 2) are n, legs_rule_end κ (x 0) (x 1) (x 2) are n)

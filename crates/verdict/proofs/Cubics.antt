-- D = κ w² of three legs: with w = x (1 − t) + y t they are κ x², κ x y and κ y².
--   cubic_rule      so they meet the rule
use mathlib.Core.Path.{refl, sym, ap₂, ◌∙◌}
use mathlib.Core.List.{List, [], ◌∷◌}
use Prim.Native.Nat.{ℕ}
use native.Mathlib.Omega.{arith}
use lib.IntN.{pos}
use Rattle.poly.proofs.Series.{conv}
use Rattle.pair.specs.declared.Pair.{Pair}
use Rattle.pair.specs.Pairs.{times, multiple}
use Rattle.pair.proofs.Laws.{multiple_cancel}
use Rattle.pair.proofs.PairSolver.{PairEx, the, ◌⊠◌, ◌··◌, solve_pairs}
use Rattle.bernstein.specs.Binomials.{choose}
use Rattle.bernstein.specs.Powers.{power_form}
use Rattle.curve.proofs.SquaredLegs.{crossed_legs}
use Rattle.verdict.specs.Verdicts.{Generated}
use Rattle.verdict.specs.Rules.{CubicRule}
use Rattle.verdict.proofs.GeneratedLegs.{IsGenerated, generated-legs}

-- over κ, x and y: C(2, k) times each leg
abbrev L : ℕ → PairEx
L k = the 0 ⊠ crossed_legs (the 1 ∷ the 2 ∷ []) k

module _ (e0 e1 e2 : Pair) where
  abbrev legs : List Pair
  legs = e0 ∷ e1 ∷ e2 ∷ []

  legs_rule : (κ x y : Pair) → IsGenerated legs κ (x ∷ y ∷ []) → CubicRule e0 e1 e2
  unfolding choose conv
  legs_rule κ x y e = multiple_cancel 4 (omega arith)
      (solve_pairs (e1 ∷ []) (4 ·· (the 0 ⊠ the 0)) (2 ·· the 0 ⊠ 2 ·· the 0) tt tt
      ∙ ap₂ times (e 1 (omega arith)) (e 1 (omega arith))
      ∙ solve_pairs (κ ∷ x ∷ y ∷ []) (L 1 ⊠ L 1) (4 ·· (L 0 ⊠ L 2)) tt tt
      ∙ ap₂ (λ p q. multiple (pos 4) (times p q)) (sym (e 0 (omega arith))) (sym (e 2 (omega arith)))
      ∙ solve_pairs (e0 ∷ e2 ∷ []) (4 ·· (1 ·· the 0 ⊠ 1 ·· the 1)) (4 ·· (the 0 ⊠ the 1)) tt tt)

  pub cubic_rule : (κ : Pair) (w : List Pair) → Generated (power_form legs) κ w → CubicRule e0 e1 e2
  cubic_rule κ w h = let (x, e) = generated-legs legs 1 refl κ w h in legs_rule κ (x 0) (x 1) e

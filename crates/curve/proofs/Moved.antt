-- D does not change when the curve is moved.
--   leg_polynomial-moved     the points that are each shifted by one pair have the same D
use mathlib.Core.Path.{◌≡◌, refl, ap, ap₂}
use mathlib.Core.List.{List, [], ◌∷◌, map}
use lib.IntN.{ℤ, ◌+ℤ◌, ◌-ℤ◌}
use Rattle.whole.proofs.Wholes.{readℤ, atomsℤ, ringℤ}
use Rattle.pair.specs.declared.Pair.{Pair}
use Rattle.pair.specs.Pairs.{plus, minus}
use Rattle.pair.proofs.Parts.{pair-equal}
use Rattle.bernstein.specs.Powers.{differences, power_form}
use Rattle.curve.specs.Curves.{leg_polynomial}

minus-moved : (a p q : Pair) → minus (plus a q) (plus a p) ≡ minus q p
minus-moved a p q = pair-equal (part a.re p.re q.re) (part a.im p.im q.im)
  where
    part : (a p q : ℤ) → a +ℤ q -ℤ (a +ℤ p) ≡ q -ℤ p
    part a p q = atomsℤ (a ∷ p ∷ q ∷ []) (λ ρ e. simp (e 0, e 1, e 2, readℤ) (ringℤ ρ _ _ tt))

differences-moved : (a : Pair) (ps : List Pair) → differences (map (plus a) ps) ≡ differences ps
unfolding differences
differences-moved a [] = refl
differences-moved a (p ∷ []) = refl
differences-moved a (p ∷ q ∷ ps) = ap₂ ◌∷◌ (minus-moved a p q) (differences-moved a (q ∷ ps))

pub leg_polynomial-moved : (a : Pair) (ps : List Pair) → leg_polynomial (map (plus a) ps) ≡ leg_polynomial ps
unfolding leg_polynomial
leg_polynomial-moved a ps = ap power_form (differences-moved a ps)

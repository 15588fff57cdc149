-- The proof tools in use: the example of each file's header, checked.
use mathlib.Core.Path.{◌≡◌, refl}
use mathlib.Core.List.{[], ◌∷◌}
use lib.IntN.{ℤ, pos, ◌+ℤ◌, ◌-ℤ◌, ◌*ℤ◌}
use lib.Signed.{◌≤ℤ◌, ◌<ℤ◌}
use mir.Syntax.{w64}
use mir.Val.{SFits, to_z, of_z}
use Rattle.whole.specs.Coefficients.{Coefficients}
use Rattle.whole.specs.Number.{Within}
use Rattle.whole.proofs.Ring.{Ring}
use Rattle.whole.proofs.Solver.{atoms, read, ring}
use Rattle.whole.proofs.Wholes.{atomsℤ, readℤ, read_pos, ringℤ, equal_by, zero-equal, zero-times, zero-plus}
use Rattle.whole.proofs.Linear.{linear, plus_parts, minus_parts}
use Rattle.whole.proofs.Order.{le_by, nonneg_square}
use Rattle.whole.proofs.Bound.{done, ◌▸◌, bounds, fits, kept}

-- Solver
swapped : {A : Type 0} {C : Coefficients A} (R : Ring C) (a b : A) → C.times a (C.plus b b) ≡ C.times (C.plus b b) a
swapped R a b = atoms R (a ∷ b ∷ []) (λ ρ e. simp (e 0, e 1, read) (ring R ρ _ _ tt))

-- Wholes: an identity, and x² = 2 y² with z = x y give z² = 2 y⁴
squares : (a b : ℤ) → (a +ℤ b) *ℤ (a -ℤ b) ≡ a *ℤ a -ℤ b *ℤ b
squares a b = atomsℤ (a ∷ b ∷ []) (λ ρ e. simp (e 0, e 1, readℤ) (ringℤ ρ _ _ tt))

from-others : (x y z : ℤ) → x *ℤ x ≡ pos 2 *ℤ (y *ℤ y) → z ≡ x *ℤ y → z *ℤ z ≡ pos 2 *ℤ (y *ℤ y *ℤ (y *ℤ y))
from-others x y z h k =
    equal_by (zero-plus (zero-times (y *ℤ y) (zero-equal h)) (zero-times (z +ℤ x *ℤ y) (zero-equal k)))
    (atomsℤ (x ∷ y ∷ z ∷ []) (λ ρ e. simp (e 0, e 1, e 2, readℤ, read_pos ρ) (ringℤ ρ _ _ tt)))

-- Linear
between : (x y z : ℤ) → (x +ℤ y) ≤ℤ pos 10 → z <ℤ (x -ℤ y) → y ≡ z +ℤ pos 1 → z ≤ℤ pos 2
between x y z h k l = omega (linear, plus_parts x y, minus_parts x y, plus_parts z (pos 1))

-- Order
twice-product : (a b : ℤ) → (pos 2 *ℤ (a *ℤ b)) ≤ℤ (a *ℤ a +ℤ b *ℤ b)
twice-product a b = le_by (nonneg_square (a -ℤ b)) (atomsℤ (a ∷ b ∷ []) (λ ρ e. simp (e 0, e 1, readℤ, read_pos ρ) (ringℤ ρ _ _ tt)))

-- Bound: the need of the difference in `x * y - 3 * z`, and what the product returns
difference_fits : (x y z : ℤ) → Within 1000000000 x → Within 2000000000 y → Within 1000000000000000000 z
    → SFits w64 (to_z w64 (of_z w64 (to_z w64 (of_z w64 x) *ℤ to_z w64 (of_z w64 y))) -ℤ to_z w64 (of_z w64 (pos 3 *ℤ to_z w64 (of_z w64 z))))
difference_fits x y z hx hy hz = bounds (hx ▸ hy ▸ hz ▸ done) (λ ρ e k. simp (e 0, e 1, e 2, readℤ, read_pos ρ 3, kept k) (fits k _ refl))

product_is : (x y : ℤ) → Within 1000000000 x → Within 2000000000 y → to_z w64 (of_z w64 (to_z w64 (of_z w64 x) *ℤ to_z w64 (of_z w64 y))) ≡ x *ℤ y
product_is x y hx hy = bounds (hx ▸ hy ▸ done) (λ ρ e k. simp (e 0, e 1, readℤ, kept k))

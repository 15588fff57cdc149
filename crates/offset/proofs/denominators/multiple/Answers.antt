-- `denominators::multiple` meets its contract.
use mathlib.Core.Path.{◌≡◌, refl}
use mathlib.Core.List.{[], ◌∷◌}
use Prim.Native.Nat.{◌^◌}
use lib.IntN.{ℤ, ◌*ℤ◌}
use mir.Syntax.{w64}
use mir.Val.{SFits, to_z, of_z}
use Rattle.poly.specs.Polynomials.{scaled}
use Rattle.whole.specs.Number.{Within}
use Rattle.whole.proofs.Wholes.{readℤ}
use Rattle.whole.proofs.Bound.{done, ◌▸◌, bounds, fits, kept}
use Rattle.root.specs.Promise.{Small}
use Rattle.offset.proofs.denominators.multiple.Goals as goal

-- one coefficient
module _ {m z : ℤ} (h : Within (2 ^ 32) m) (k : Small z) where
  product_fits : SFits w64 (to_z w64 (of_z w64 m) *ℤ to_z w64 (of_z w64 z))
  product_fits = bounds (h ▸ k ▸ done) (λ ρ e k. simp (e 0, e 1, readℤ, kept k) (fits k _ refl))

  product_is : to_z w64 (of_z w64 (to_z w64 (of_z w64 m) *ℤ to_z w64 (of_z w64 z))) ≡ m *ℤ z
  product_is = bounds (h ▸ k ▸ done) (λ ρ e k. simp (e 0, e 1, readℤ, kept k))

pub overflow_mul-result : goal.overflow_mul-result
overflow_mul-result c = product_fits c.requires.0 (c.requires.1 0)

pub overflow_mul-result-2 : goal.overflow_mul-result-2
overflow_mul-result-2 c = product_fits c.requires.0 (c.requires.1 1)

pub overflow_mul-result-3 : goal.overflow_mul-result-3
overflow_mul-result-3 c = product_fits c.requires.0 (c.requires.1 2)

pub overflow_mul-result-4 : goal.overflow_mul-result-4
overflow_mul-result-4 c = product_fits c.requires.0 (c.requires.1 3)

pub overflow_mul-result-5 : goal.overflow_mul-result-5
overflow_mul-result-5 c = product_fits c.requires.0 (c.requires.1 4)

pub returns : goal.returns
unfolding scaled
returns c =
    let h = c.requires.0 in
    let k = c.requires.1 in
    λ i. product_is h (k 0) i ∷ product_is h (k 1) i ∷ product_is h (k 2) i ∷ product_is h (k 3) i ∷ product_is h (k 4) i ∷ []

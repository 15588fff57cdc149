-- `roots::added` meets its contract.
use mathlib.Core.Path.{◌≡◌, refl}
use mathlib.Core.List.{[], ◌∷◌}
use Prim.Native.Nat.{ℕ}
use lib.IntN.{ℤ, ◌+ℤ◌}
use mir.Syntax.{w64}
use mir.Val.{SFits, to_z, of_z}
use Rattle.whole.specs.Coefficients.{at}
use Rattle.poly.specs.Polynomials.{sum}
use Rattle.whole.specs.Number.{wholes, Within, norm_size}
use Rattle.whole.proofs.Wholes.{readℤ}
use Rattle.whole.proofs.Bound.{done, ◌▸◌, bounds, fits, kept}
use Rattle.root.specs.Promise.{octic}
use Rattle.verdict.proofs.roots.added.Goals as goal

-- one coefficient
module _ {x y : ℤ} (h : Within norm_size x) (k : Within norm_size y) where
  sum_fits : SFits w64 (to_z w64 (of_z w64 x) +ℤ to_z w64 (of_z w64 y))
  sum_fits = bounds (h ▸ k ▸ done) (λ ρ e k. simp (e 0, e 1, readℤ, kept k) (fits k _ refl))

  sum_is : to_z w64 (of_z w64 (to_z w64 (of_z w64 x) +ℤ to_z w64 (of_z w64 y))) ≡ x +ℤ y
  sum_is = bounds (h ▸ k ▸ done) (λ ρ e k. simp (e 0, e 1, readℤ, kept k))

pub overflow_add-result : goal.overflow_add-result
overflow_add-result c = sum_fits (c.requires.0 0) (c.requires.1 0)

pub overflow_add-result-2 : goal.overflow_add-result-2
overflow_add-result-2 c = sum_fits (c.requires.0 1) (c.requires.1 1)

pub overflow_add-result-3 : goal.overflow_add-result-3
overflow_add-result-3 c = sum_fits (c.requires.0 2) (c.requires.1 2)

pub overflow_add-result-4 : goal.overflow_add-result-4
overflow_add-result-4 c = sum_fits (c.requires.0 3) (c.requires.1 3)

pub overflow_add-result-5 : goal.overflow_add-result-5
overflow_add-result-5 c = sum_fits (c.requires.0 4) (c.requires.1 4)

pub overflow_add-result-6 : goal.overflow_add-result-6
overflow_add-result-6 c = sum_fits (c.requires.0 5) (c.requires.1 5)

pub overflow_add-result-7 : goal.overflow_add-result-7
overflow_add-result-7 c = sum_fits (c.requires.0 6) (c.requires.1 6)

pub overflow_add-result-8 : goal.overflow_add-result-8
overflow_add-result-8 c = sum_fits (c.requires.0 7) (c.requires.1 7)

pub overflow_add-result-9 : goal.overflow_add-result-9
overflow_add-result-9 c = sum_fits (c.requires.0 8) (c.requires.1 8)

pub returns : goal.returns
unfolding sum
returns c =
    let a = octic c.args.a in
    let b = octic c.args.b in
    let e : (k : ℕ) → to_z w64 (of_z w64 (to_z w64 (of_z w64 (at wholes a k)) +ℤ to_z w64 (of_z w64 (at wholes b k)))) ≡ at wholes a k +ℤ at wholes b k =
    λ k. sum_is (c.requires.0 k) (c.requires.1 k) in
    λ i. e 0 i ∷ e 1 i ∷ e 2 i ∷ e 3 i ∷ e 4 i ∷ e 5 i ∷ e 6 i ∷ e 7 i ∷ e 8 i ∷ []

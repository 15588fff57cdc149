-- `polynomials::weighted` meets its contract.
use mathlib.Core.Path.{◌≡◌, sym, ap, ◌∙◌, subst}
use native.Mathlib.Omega.{arith}
use lib.IntN.{ℤ, ◌*ℤ◌}
use mir.Syntax.{w64}
use mir.Val.{to_z, of_z}
use Rattle.whole.specs.Coefficients.{at}
use Rattle.whole.specs.Number.{wholes, Within}
use Rattle.whole.proofs.Wholes.{readℤ}
use Rattle.whole.proofs.Bound.{done, ◌▸◌, bounds, kept}
use Rattle.offset.proofs.Changes.{changed_more}
use Rattle.offset.proofs.polynomials.weighted.Goals as goal

-- one coefficient
module _ {x y : ℤ} (h : Within 170000000000000 x) (k : Within 252 y) where
  product_is : to_z w64 (of_z w64 (to_z w64 (of_z w64 x) *ℤ to_z w64 (of_z w64 y))) ≡ x *ℤ y
  product_is = bounds (h ▸ k ▸ done) (λ ρ e k. simp (e 0, e 1, readℤ, kept k))

pub loop-k-preserved : goal.loop-k-preserved
loop-k-preserved c =
    let l = c.loop-k in
    let e = l.invariant.from l.k (omega arith) (omega (arith, c.loop-k-test.true)) in
    changed_more l.invariant (omega (arith, c.loop-k-test.true))
    (product_is (subst (Within 170000000000000) (sym e) (c.requires.0 l.k)) (c.requires.1 l.k) ∙ ap (λ (x : ℤ). x *ℤ at wholes c.args.s l.k) e)

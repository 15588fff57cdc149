-- `points::step` meets its contract.
use mathlib.Core.Path.{◌≡◌, sym, ap, ap₂, ◌∙◌, subst}
use Prim.Native.Nat.{ℕ, ◌+◌, ◌<◌, ◌≤◌}
use Rattle.std.proofs.Common.{add-one}
use native.Mathlib.Omega.{arith}
use lib.IntN.{ℤ, pos, ◌+ℤ◌, +ℤ_idr}
use lib.ListN.{get_or-eq_default}
use mir.Syntax.{w64}
use mir.Val.{to_z, of_z}
use Rattle.whole.specs.Coefficients.{at}
use Rattle.whole.specs.Number.{wholes, Within}
use Rattle.whole.proofs.Wholes.{readℤ}
use Rattle.whole.proofs.Bound.{done, ◌▸◌, bounds, kept}
use Rattle.offset.proofs.Changes.{changed_more, changed_all}
use Rattle.offset.proofs.points.step.Goals as goal

-- one coefficient
module _ {x y : ℤ} (h : Within 4500000000000000000 x) (k : Within 4500000000000000000 y) where
  sum_is : to_z w64 (of_z w64 (to_z w64 (of_z w64 x) +ℤ to_z w64 (of_z w64 y))) ≡ x +ℤ y
  sum_is = bounds (h ▸ k ▸ done) (λ ρ e k. simp (e 0, e 1, readℤ, kept k))

pub loop-k-preserved : goal.loop-k-preserved
loop-k-preserved c =
    let l = c.loop-k in
    let as_was : (j : ℕ) → l.k ≤ j → j < 10 → at wholes l.e j ≡ at wholes c.args.e.now j = l.invariant.from in
    let here = as_was l.k (omega arith) (omega (arith, c.loop-k-test.true)) in
    let next = as_was (l.k + 1) (omega arith) (omega (arith, c.loop-k-test.true)) in
    changed_more l.invariant (omega (arith, c.loop-k-test.true))
    (sum_is (subst (Within 4500000000000000000) (sym here) (c.requires l.k)) (subst (Within 4500000000000000000) (sym next) (c.requires (l.k + 1))) ∙ ap₂ ◌+ℤ◌ here next)

pub returns : goal.returns
returns c k =
    let e = c.args.e.now in
    let none : (j : ℕ) → 10 ≤ j → at wholes e j ≡ pos 0 = (λ j m. get_or-eq_default e (pos 0) {n = j} (omega (arith, c.told-e))) in
    changed_all c.loop-k.invariant
    (λ j m l. ap (λ (x : ℤ). at wholes e j +ℤ x) (none (j + 1) (omega (arith, c.loop-k-test.false))) ∙ +ℤ_idr (at wholes e j))
    (λ j m. ap₂ ◌+ℤ◌ (none j m) (none (j + 1) (omega arith))) k
    ∙ ap (λ (n : ℕ). at wholes e k +ℤ at wholes e n) (add-one k)

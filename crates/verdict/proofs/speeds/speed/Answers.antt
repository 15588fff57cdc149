-- `speeds::speed` meets its contract: its numbers fit, and they are the coefficients of |w|².
use mathlib.Core.Path.{◌≡◌, refl, ◌∙◌}
use mathlib.Core.List.{[], ◌∷◌}
use Prim.Native.Nat.{zero, suc}
use lib.Dec.{lit≤}
use lib.IntN.{ℤ, pos, ◌+ℤ◌, ◌*ℤ◌}
use mir.Syntax.{w64}
use mir.Val.{to_z, of_z}
use Rattle.whole.specs.Coefficients.{at}
use Rattle.poly.specs.Polynomials.{sum, scaled, product}
use Rattle.whole.specs.Number.{wholes}
use Rattle.whole.proofs.Wholes.{readℤ, read_pos, atomsℤ, ringℤ}
use Rattle.whole.proofs.Bound.{Bounded, done, ◌▸◌, bounds, fits, kept}
use Rattle.pair.specs.Pairs.{pair, AllWithin}
use Rattle.verdict.specs.Verdicts.{quadratic}
use Rattle.pair.proofs.Parts.{wider}
use Rattle.verdict.specs.declared.Quadratic.{Quadratic}
use Rattle.curve.specs.Curves.{norm_polynomial}
use Rattle.verdict.proofs.speeds.speed.Goals as goal

abbrev Six : Quadratic → Type 0
Six w = Bounded (20000 ∷ 20000 ∷ 20000 ∷ 20000 ∷ 20000 ∷ 20000 ∷ []) (w.b0.re ∷ w.b0.im ∷ w.b1.re ∷ w.b1.im ∷ w.b2.re ∷ w.b2.im ∷ [])

sizes : (w : Quadratic) → AllWithin 20000 (quadratic w) → Six w
sizes w h = (h 0).re ▸ (h 0).im ▸ (h 1).re ▸ (h 1).im ▸ (h 2).re ▸ (h 2).im ▸ done

pub norm-requires : goal.norm-requires
norm-requires c = wider (lit≤ tt) (c.requires 0)

pub dot-requires : goal.dot-requires
dot-requires c = (c.requires 0, c.requires 1)

pub overflow_mul-result : goal.overflow_mul-result
overflow_mul-result c = bounds (sizes c.args.w c.requires) (λ ρ e k. simp (c.dot.ensures, e 0, e 1, e 2, e 3, readℤ, read_pos ρ 2, kept k) (fits k _ refl))

pub dot-requires-2 : goal.dot-requires-2
dot-requires-2 c = (c.requires 0, c.requires 2)

pub overflow_mul-result-2 : goal.overflow_mul-result-2
overflow_mul-result-2 c = bounds (sizes c.args.w c.requires) (λ ρ e k. simp (c.dot-2.ensures, e 0, e 1, e 4, e 5, readℤ, read_pos ρ 2, kept k) (fits k _ refl))

pub norm-requires-2 : goal.norm-requires-2
norm-requires-2 c = wider (lit≤ tt) (c.requires 1)

pub overflow_add-result : goal.overflow_add-result
overflow_add-result c =
    bounds (sizes c.args.w c.requires)
    (λ ρ e k. simp (c.dot-2.ensures, c.norm-2.ensures, e 0, e 1, e 2, e 3, e 4, e 5, readℤ, read_pos ρ 2, kept k) (fits k _ refl))

pub dot-requires-3 : goal.dot-requires-3
dot-requires-3 c = (c.requires 1, c.requires 2)

pub overflow_mul-result-3 : goal.overflow_mul-result-3
overflow_mul-result-3 c =
    bounds (sizes c.args.w c.requires)
    (λ ρ e k. simp (c.dot-3.ensures, e 2, e 3, e 4, e 5, readℤ, read_pos ρ 2, kept k) (fits k _ refl))

pub norm-requires-3 : goal.norm-requires-3
norm-requires-3 c = wider (lit≤ tt) (c.requires 2)

-- the middle coefficient, as it is stored and as it is in |w|²
add_is : (c : goal.After-norm-3) → let v = c.args.w in
    to_z w64 (of_z w64 (to_z w64 (of_z w64 (pos 2 *ℤ to_z w64 (of_z w64 c.dot-2.result))) +ℤ to_z w64 (of_z w64 c.norm-2.result)))
    ≡ pos 2 *ℤ (v.b0.re *ℤ v.b2.re +ℤ v.b0.im *ℤ v.b2.im) +ℤ (v.b1.re *ℤ v.b1.re +ℤ v.b1.im *ℤ v.b1.im)
add_is c =
    bounds (sizes c.args.w c.requires)
    (λ ρ e k. simp (c.dot-2.ensures, c.norm-2.ensures, e 0, e 1, e 2, e 3, e 4, e 5, readℤ, read_pos ρ 2, kept k))

middle : (a b x y u v : ℤ) → pos 2 *ℤ (a *ℤ u +ℤ b *ℤ v) +ℤ (x *ℤ x +ℤ y *ℤ y) ≡ at wholes (norm_polynomial (pair a b ∷ pair x y ∷ pair u v ∷ [])) 2
unfolding norm_polynomial sum scaled product
middle a b x y u v =
    atomsℤ (a ∷ b ∷ x ∷ y ∷ u ∷ v ∷ []) (λ ρ e. simp (e 0, e 1, e 2, e 3, e 4, e 5, readℤ, read_pos ρ 0, read_pos ρ 2) (ringℤ ρ _ _ tt))

pub returns : goal.returns
unfolding norm_polynomial sum scaled product
returns c zero =
    bounds (sizes c.args.w c.requires)
    (λ ρ e k. simp (c.norm.ensures, e 0, e 1, readℤ, read_pos ρ 0, kept k) (ringℤ ρ _ _ tt))
returns c (suc zero) =
    bounds (sizes c.args.w c.requires)
    (λ ρ e k. simp (c.dot.ensures, e 0, e 1, e 2, e 3, readℤ, read_pos ρ 0, read_pos ρ 2, kept k) (ringℤ ρ _ _ tt))
returns c (suc (suc zero)) =
    let v = c.args.w in
    add_is c ∙ middle v.b0.re v.b0.im v.b1.re v.b1.im v.b2.re v.b2.im
returns c (suc (suc (suc zero))) =
    bounds (sizes c.args.w c.requires)
    (λ ρ e k. simp (c.dot-3.ensures, e 2, e 3, e 4, e 5, readℤ, read_pos ρ 0, read_pos ρ 2, kept k) (ringℤ ρ _ _ tt))
returns c (suc (suc (suc (suc zero)))) =
    bounds (sizes c.args.w c.requires)
    (λ ρ e k. simp (c.norm-3.ensures, e 4, e 5, readℤ, read_pos ρ 0, kept k) (ringℤ ρ _ _ tt))
returns c (suc (suc (suc (suc (suc k))))) = refl

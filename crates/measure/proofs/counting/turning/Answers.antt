-- `counting::turning` meets its contract: three cross products, each within its bound.
use mathlib.Core.Path.{◌≡◌, refl, sym, ap, ◌∙◌, subst}
use Prim.Native.Nat.{◌^◌}
use lib.Dec.{lit≤}
use lib.IntN.{ℤ, pos, ◌*ℤ◌}
use mir.Syntax.{w64}
use mir.Val.{to_z, of_z}
use Rattle.whole.specs.Number.{Within}
use Rattle.whole.proofs.Wholes.{readℤ, read_pos}
use Rattle.whole.proofs.Bound.{done, ◌▸◌, bounds, fits, kept, read_back}
use Rattle.pair.specs.declared.Pair.{Pair}
use Rattle.pair.specs.Pairs.{cross, PartsWithin}
use Rattle.pair.proofs.Parts.{wider}
use Rattle.measure.proofs.Sizes.{cross-within}
use Rattle.measure.proofs.counting.turning.Goals as goal

small : {a b : Pair} → PartsWithin 2000 a → PartsWithin 2000 b → PartsWithin (2 ^ 30) a × PartsWithin (2 ^ 30) b
small h k = (wider (lit≤ tt) h, wider (lit≤ tt) k)

pub cross-requires : goal.cross-requires
cross-requires c = small (c.requires 0) (c.requires 1)

pub cross-requires-2 : goal.cross-requires-2
cross-requires-2 c = small (c.requires 0) (c.requires 2)

pub cross-requires-3 : goal.cross-requires-3
cross-requires-3 c = small (c.requires 1) (c.requires 2)

-- a cross product, as it is computed
crossed : (a b : Pair) {z : ℤ} → z ≡ cross a b → PartsWithin 2000 a → PartsWithin 2000 b → Within 8000000 z
crossed a b e h k = subst (Within 8000000) (sym e) (cross-within a b h k)

twice : {z : ℤ} → Within 8000000 z → to_z w64 (of_z w64 (to_z w64 (of_z w64 z) *ℤ pos 2)) ≡ z *ℤ pos 2
twice h = bounds (h ▸ done) (λ ρ e k. simp (e 0, readℤ, read_pos ρ 2, kept k))

pub overflow_mul-result : goal.overflow_mul-result
overflow_mul-result c =
    let w = c.args.w in
    bounds (crossed w.b0 w.b2 c.cross-2.ensures (c.requires 0) (c.requires 2) ▸ done) (λ ρ e k. simp (e 0, readℤ, read_pos ρ 2, kept k) (fits k _ refl))

pub returns : goal.returns
returns c =
    let w = c.args.w in
    let first = crossed w.b0 w.b1 c.cross.ensures (c.requires 0) (c.requires 1) in
    let second = crossed w.b0 w.b2 c.cross-2.ensures (c.requires 0) (c.requires 2) in
    let third = crossed w.b1 w.b2 c.cross-3.ensures (c.requires 1) (c.requires 2) in
    λ i. record {
      t0 = (read_back tt first ∙ c.cross.ensures) i;
      t1 = (twice second ∙ ap (λ z. z *ℤ pos 2) c.cross-2.ensures) i;
      t2 = (read_back tt third ∙ c.cross-3.ensures) i;
    }

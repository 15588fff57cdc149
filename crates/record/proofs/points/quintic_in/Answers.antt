-- `points::quintic_in` meets its contract: the points are those of the record, one by one.
use mathlib.Core.Path.{◌≡◌}
use mathlib.Core.List.{[], ◌∷◌}
use Prim.Native.Nat.{◌-◌, ◌/◌}
use native.Mathlib.Omega.{arith}
use lib.ListN.{length}
use Rattle.record.specs.Numbers.{coordinates}
use Rattle.record.specs.Kinds.{points_in}
use Rattle.record.proofs.points.quintic_in.Goals as goal

pub returns : goal.returns
unfolding points_in coordinates
returns c =
    let words : (length c.args.bytes.now - 4) / 4 ≡ 12 = omega (arith, c.requires) in
    let p0 = c.point_at.ensures in
    let p1 = c.point_at-2.ensures in
    let p2 = c.point_at-3.ensures in
    let p3 = c.point_at-4.ensures in
    let p4 = c.point_at-5.ensures in
    let p5 = c.point_at-6.ensures in
    rw words (λ i. p0 i ∷ p1 i ∷ p2 i ∷ p3 i ∷ p4 i ∷ p5 i ∷ [])

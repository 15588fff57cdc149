-- `build::quintic_points` meets its contract.
use native.Mathlib.Omega.{arith}
use borrow.Author.Rules.{rules}
use Rattle.pair.specs.Pairs.{PartsWithin}
use Rattle.pair.proofs.Parts.{wider, plus-within}
use Rattle.curve.specs.Sizes.{coordinate_reach}
use Rattle.build.proofs.Legs.{points_on, points-end}
use Rattle.build.proofs.quintic_points.Goals as goal

p1_within : (c : goal.After-next-p1) → PartsWithin 100000 c.next-p1.result
p1_within c = c.next-p1.ensures.near coordinate_reach (search rules)

p2_within : (c : goal.After-next-p2) → PartsWithin 180000 c.next-p2.result
p2_within c = c.next-p2.ensures.near 100000 (p1_within c.before)

p3_within : (c : goal.After-sum-p3) → PartsWithin 420000 c.sum-p3.result
p3_within c = rw c.sum-p3.ensures (plus-within (p2_within c.before) c.requires.4)

p4_within : (c : goal.After-next-p4) → PartsWithin 500000 c.next-p4.result
p4_within c = c.next-p4.ensures.near 420000 (p3_within c.before)

pub next-p2-requires : goal.next-p2-requires
next-p2-requires c = (wider (omega arith) (p1_within c), search rules, search rules)

pub sum-p3-requires : goal.sum-p3-requires
sum-p3-requires c = (wider (omega arith) (p2_within c), search rules)

pub next-p4-requires : goal.next-p4-requires
next-p4-requires c = (wider (omega arith) (p3_within c), search rules, search rules)

pub next-p5-requires : goal.next-p5-requires
next-p5-requires c = (wider (omega arith) (p4_within c), search rules, search rules)

pub returns : goal.returns
returns c =
    points_on _ _ c.next-p1.ensures.is
    (points_on _ _ c.next-p2.ensures.is (points_on _ _ c.sum-p3.ensures (points_on _ _ c.next-p4.ensures.is (points_on _ _ c.next-p5.ensures.is points-end))))

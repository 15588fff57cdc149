-- `build::cubic_points` meets its contract.
use native.Mathlib.Omega.{arith}
use borrow.Author.Rules.{rules}
use Rattle.pair.specs.Pairs.{PartsWithin}
use Rattle.pair.proofs.Parts.{wider}
use Rattle.curve.specs.Sizes.{coordinate_reach}
use Rattle.build.proofs.Legs.{points_on, points-end}
use Rattle.build.proofs.cubic_points.Goals as goal

p1_within : (c : goal.After-next-p1) → PartsWithin 100000 c.next-p1.result
p1_within c = c.next-p1.ensures.near coordinate_reach (search rules)

p2_within : (c : goal.After-next-p2) → PartsWithin 180000 c.next-p2.result
p2_within c = c.next-p2.ensures.near 100000 (p1_within c.before)

pub next-p2-requires : goal.next-p2-requires
next-p2-requires c = (wider (omega arith) (p1_within c), search rules, search rules)

pub next-p3-requires : goal.next-p3-requires
next-p3-requires c = (wider (omega arith) (p2_within c), search rules, search rules)

pub returns : goal.returns
returns c = points_on _ _ c.next-p1.ensures.is (points_on _ _ c.next-p2.ensures.is (points_on _ _ c.next-p3.ensures.is points-end))

-- What the loop of `points::put_points` keeps.
use Rattle.offset.proofs.Turns.{Turn, numbers}
use Rattle.offset.proofs.points.put_points.Given as goal

abbrev pub invariant-loop-k : goal.invariant-loop-k
invariant-loop-k l = Turn l.count (numbers l.count l.initial.w l.initial.x l.initial.y) l.initial.area l.area l.w l.x l.y l.k

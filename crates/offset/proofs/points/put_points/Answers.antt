-- `points::put_points` meets its contract. The invariant is Turn: what is written, and what the rows still give, are all numbers.
use mathlib.Core.Path.{◌∙◌}
use mathlib.Core.List.{[], ◌∷◌}
use Prim.Native.Nat.{◌<◌}
use native.Mathlib.Omega.{arith}
use Rattle.whole.proofs.Bound.{read_back}
use Rattle.offset.proofs.Turns.{doubled_fits, turn-start, turn_more, turn_end}
use Rattle.offset.proofs.points.put_points.Goals as goal

pub loop-k-init : goal.loop-k-init
loop-k-init c = let r = c.args.rows in turn-start c.args.area.now c.args.count r.w r.x r.y c.requires.w c.requires.x c.requires.y

pub step-requires : goal.step-requires
step-requires c = let l = c.loop-k in doubled_fits l.k l.w (omega (arith, c.loop-k-test.true)) l.invariant.w_small

pub step-requires-in-loop-k : goal.step-requires-in-loop-k
step-requires-in-loop-k c = let l = c.loop-k in doubled_fits l.k l.x (omega (arith, c.loop-k-test.true)) l.invariant.x_small

pub step-requires-in-loop-k-2 : goal.step-requires-in-loop-k-2
step-requires-in-loop-k-2 c = let l = c.loop-k in doubled_fits l.k l.y (omega (arith, c.loop-k-test.true)) l.invariant.y_small

pub loop-k-preserved : goal.loop-k-preserved
loop-k-preserved c =
    let l = c.loop-k in
    let few : l.k < 10 = omega (arith, c.loop-k-test.true) in
    turn_more l.invariant _ (omega (arith, c.loop-k-test.true)) (omega arith)
    (c.copy_from_slice.ensures.after
    ∙ (λ i. read_back tt (doubled_fits l.k l.w few l.invariant.w_small 0) i ∷ read_back tt (doubled_fits l.k l.x few l.invariant.x_small 0) i ∷ read_back tt (doubled_fits l.k l.y few l.invariant.y_small 0) i ∷ []))
    c.step.ensures c.step-in-loop-k.ensures c.step-in-loop-k-2.ensures

pub returns : goal.returns
returns c = turn_end c.loop-k.invariant (omega (arith, c.loop-k-test.false)) c.requires.room_is

-- `take_parts` meets its contract: each part has a byte at least.
use Rattle.std.proofs.Common.{arith}
use Rattle.cable.proofs.Arrivals.{count_grows}
use Rattle.cable.proofs.take_parts.Goals as goal

pub loop-state-smaller : goal.loop-state-smaller
loop-state-smaller g c =
    let arriving = c.loop-state.invariant in
    count_grows c.loop-state.state c.take_part-state.result arriving.0 _ arriving.1 (c.take_part-state.ensures arriving.0 arriving.1)
    (omega (arith, c.in-Ok.ensures.bound.1, c.in-Ok.n-test)) (omega (arith, c.loop-state-test.true))

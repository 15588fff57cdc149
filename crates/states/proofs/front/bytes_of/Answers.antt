-- `front::bytes_of` meets its contract. Invariant: the bytes of the first i words are written.
use mathlib.Core.Path.{◌∙◌}
use native.Mathlib.Omega.{arith}
use lib.ListN.{replicate}
use Rattle.states.proofs.Pieces.{unpacked-more}
use Rattle.states.proofs.front.bytes_of.Goals as goal

pub loop-i-preserved : goal.loop-i-preserved
loop-i-preserved c =
    let words = c.args.words.now in
    let put = c.put_long in (
      unpacked-more (replicate 56 0) words c.loop-i.i (omega arith) (omega (arith, c.loop-i-test.true)) c.loop-i.invariant.0 put.ensures,
      put.auto.bytes ∙ c.loop-i.invariant.1,
    )

-- `join::fixed_part` meets its contract.
use native.Mathlib.Omega.{arith}
use Rattle.pair.proofs.Parts.{wider, plus-within, multiple-within}
use Rattle.join.proofs.fixed_part.Goals as goal

pub difference-requires : goal.difference-requires
difference-requires c =
    let p = c.requires in (
      rw c.multiple.ensures (wider (omega arith) (multiple-within 24 p.travel)),
      rw (c.multiple-2.ensures, c.sum.ensures) (wider (omega arith) (multiple-within 15 (plus-within p.first p.last))),
    )

-- `build::thrice_middle` meets its contract.
use native.Mathlib.Omega.{arith}
use Rattle.pair.proofs.Parts.{wider, times-within, multiple-within}
use Rattle.build.proofs.thrice_middle.Goals as goal

pub sum-requires : goal.sum-requires
sum-requires c =
    let h = c.requires in (
      rw (c.multiple.ensures, c.product.ensures) (wider (omega arith) (multiple-within 2 (times-within h.1 h.1))),
      rw c.product-2.ensures (wider (omega arith) (times-within h.0 h.2)),
    )

-- `joins` meets its contract.
use mir.ValLaws.{to_z-of_z}
use Rattle.record.proofs.Signs.{settled}
use Rattle.curve_calls.proofs.joins.Goals as goal

pub returns : goal.returns
returns c =
    let s = c.ranges in
    let r = c.joins in (
      r.result,
      simp (to_z-of_z, s.ax, s.ay, s.zx, s.zy, s.tx, s.ty) at r.ensures,
      settled c.count.type_inv c.count.ensures,
    )

-- `yard_joins` meets its contract.
use mir.Syntax.{w64}
use mir.ValLaws.{to_z-of_z}
use Rattle.yard.proofs.yard_joins.Goals as goal

pub returns : goal.returns
returns c =
    let s = c.ranges in
    let r = c.joins in
    rw (to_z-of_z w64 r.result (record { sfits = r.type_inv })) (simp (to_z-of_z, s.ax, s.ay, s.zx, s.zy, s.tx, s.ty) at r.ensures)

-- `yard_offset` meets its contract.
use mir.Syntax.{w64}
use mir.ValLaws.{to_z-of_z}
use Rattle.yard.proofs.yard_offset.Goals as goal

pub returns : goal.returns
returns c =
    let s = c.ranges in
    let r = c.offset in
    rw (to_z-of_z w64 r.result (record { sfits = r.type_inv })) (simp (to_z-of_z, s.h) at r.ensures)

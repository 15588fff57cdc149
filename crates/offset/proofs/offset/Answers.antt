-- `offset::offset` meets its contract: for the distance that was given, and not only for the machine's number of it.
use mir.Syntax.{w64}
use mir.ValLaws.{to_z-of_z}
use Rattle.offset.proofs.Answers.{offset-refused, offset-put}
use Rattle.offset.proofs.offset.Goals as goal

pub returns-in-Ok : goal.returns-in-Ok
returns-in-Ok c =
    let s = c.args in
    let kept = to_z-of_z w64 s.h c.ranges.h in
    offset-put s.curve s.h c.in-Ok.w s.area.now c.put_offset.new.area c.put_offset.result (rw kept at c.in-Ok.ensures) (rw kept at c.put_offset.ensures)

pub returns-in-Err : goal.returns-in-Err
returns-in-Err c =
    let s = c.args in
    offset-refused s.curve s.h c.in-Err.r s.area.now c.refuse.new.area c.refuse.result (rw (to_z-of_z w64 s.h c.ranges.h) at c.in-Err.ensures) c.refuse.ensures

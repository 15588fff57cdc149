-- `offset::put_offset` meets its contract: the start of the area is lent to the writer, and the rest to the clearing routine.
use mathlib.Core.Path.{◌≡◌, refl, sym, ap, ◌∙◌}
use mathlib.Core.List.{List, ◌++◌}
use mathlib.Core.Logic.{inl, inr}
use Prim.Native.Nat.{◌*◌, ◌≤◌}
use native.Mathlib.Omega.{arith}
use borrow.Author.Rules.{rules}
use lib.IntN.{ℤ}
use lib.ListN.{length, drop}
use lib.Seq.{length-take-le}
use mir.Syntax.{w64}
use mir.ValLaws.{to_z-of_z}
use Rattle.refusal.specs.declared.Refusal.TheVariants as R
use Rattle.refusal.specs.Answers.{given}
use Rattle.area.proofs.Areas.{fills_rest}
use Rattle.area.proofs.Promises.{refuse_in}
use Rattle.root.specs.Promise.{quartic}
use Rattle.curve.specs.Curves.{points_of}
use Rattle.offset.specs.Promise.{offset_curve, offset_numbers}
use Rattle.offset.proofs.Turns.{rows-numbers}
use Rattle.offset.proofs.put_offset.Goals as goal

pub returns-then-area-size : goal.returns-then-area-size
returns-then-area-size c =
    refuse_in R.Room (inl (omega (arith, c.if-area-size.true, c.points_of-points.ensures), refl)) c.refuse.ensures

pub shape_of-area : goal.shape_of-area
shape_of-area c = search rules

pub returns : goal.returns
returns c =
    let s = c.args in
    let points = c.points_of-points.result in
    let o = offset_curve (points_of s.curve) (quartic s.w) s.h in
    let vs = offset_numbers s.curve o in
    let rest = drop (3 * points) s.area.now in
    let room : 3 * points ≤ length s.area.now = omega (arith, c.if-area-size.false) in
    let made = rw (to_z-of_z w64 s.h c.ranges.h) at c.rows-r.ensures in
    let is : c.put_points.new.area ≡ vs = c.put_points.ensures ∙ rows-numbers s.curve c.rows-r.result made c.points_of-points.ensures in
    let many : 3 * points ≡ length vs = sym (c.put_points.auto.area ∙ length-take-le (3 * points) s.area.now room) ∙ ap length is in
    record {
      answer = given vs;
      first_or = (inr (λ l. omega (arith, room, c.points_of-points.ensures), refl), refl);
      counts = ap given many;
      same_room = shape_of-area c;
      fills = fills_rest (3 * points) vs rest (c.put_points.new.area ++ rest) c.clear.new.area many (ap (λ (us : List ℤ). us ++ rest) is) c.clear.ensures;
    }

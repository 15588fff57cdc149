-- `build` meets its contract: from the point that was given, and not only from the machine's numbers of it.
use mathlib.Core.Path.{refl, subst}
use mathlib.Core.Logic.{inr}
use mir.ValLaws.{to_z-of_z}
use Rattle.build.specs.Promise.{cubic, quintic}
use Rattle.std.specs.Prelude.{Some}
use Rattle.hand.specs.declared.Source.{Source}
use Rattle.hand.specs.Promise.{IsSource}
use Rattle.hand.proofs.Handing.{handed}
use Rattle.curve_calls.proofs.build.Goals as goal

pub returns-in-Some-Cubic : goal.returns-in-Some-Cubic
returns-in-Some-Cubic c =
    let w = c.in-Some-Cubic in
    let r = c.build_cubic in
    inr (cubic w.w0 w.w1, subst (λ (s : Source). IsSource c.args.w.now (Some s)) w.field-0-is w.ensures, handed r.result (simp (to_z-of_z, c.ranges.x, c.ranges.y) at r.ensures) refl c.hand_answer.type_inv c.hand_answer.ensures)

pub returns-in-Some-Quintic : goal.returns-in-Some-Quintic
returns-in-Some-Quintic c =
    let w = c.in-Some-Quintic in
    let r = c.build_quintic in
    inr (
      quintic w.w0 w.w1 w.w2,
      subst (λ (s : Source). IsSource c.args.w.now (Some s)) w.field-0-is w.ensures,
      handed r.result (simp (to_z-of_z, c.ranges.x, c.ranges.y) at r.ensures) refl c.hand_answer-in-Some-Quintic.type_inv c.hand_answer-in-Some-Quintic.ensures,
    )

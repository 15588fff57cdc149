-- `Text::put_signed` meets its contract: a label, a sign and the digits.
use Rattle.std.proofs.Common.{rules, ap, sym, subst, ◌∙◌, nat_abs, w64}
use Rattle.std.proofs.lemmas.Int.{to_z-of_z}
use Rattle.text.specs.Texts.{decimal, sign}
use Rattle.text.specs.Steps.{Writes}
use Rattle.text.proofs.Pieces.{◌then◌, writes_none, writes_same, sign_below, sign_above}
use Rattle.text.proofs.Text.put_signed.Goals as goal
use Rattle.text.proofs.Text.put_signed.Goals.{then-x-lt0, else-x-lt0}

pub returns : goal.returns
returns c =
    let kept = to_z-of_z w64 c.args.x (search rules) in
    let minus : Writes c.put.new.self (sign c.args.x) c.if-x-lt0.self =
    elim c.if-x-lt0.branch [
      | then-x-lt0 w ↦ subst (Writes c.put.new.self (sign c.args.x)) (sym w.self-is) (writes_same (sign_below c.args.x (rw kept at w.if-x-lt0.true)) w.put-then-x-lt0.ensures)
      | else-x-lt0 w ↦ subst (Writes c.put.new.self (sign c.args.x)) (sym w.self-is) (writes_same (sign_above c.args.x (rw kept at w.if-x-lt0.false)) (writes_none _))
    ]
    in
    c.put.ensures then (minus then writes_same (ap decimal (c.unsigned_abs.ensures.value ∙ ap nat_abs kept)) c.put_number.ensures)

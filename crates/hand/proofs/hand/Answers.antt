-- `hand` meets its contract.
use borrow.Author.Rules.{rules}
use mathlib.Core.Path.{refl, ◌∙◌}
use native.Mathlib.Omega.{arith}
use lib.ListN.{length, drop}
use mir.Syntax.{w64}
use mir.ValLaws.{to_z_pos}
use Rattle.area.proofs.Areas.{fills_rest, put_all}
use Rattle.hand.proofs.Areas.{hands_same, hands_short, hands_given}
use Rattle.hand.proofs.hand.Goals as goal

pub returns-then-area-n : goal.returns-then-area-n
returns-then-area-n c =
    hands_short c.args.values.now c.if-area-n.true (hands_same refl c.refused.type_inv c.refused.ensures)

pub shape_of-area : goal.shape_of-area
shape_of-area c = search rules

pub returns : goal.returns
returns c =
    let vs = c.args.values.now in
    let rest = drop (length vs) c.args.area.now in
    hands_given vs (omega (arith, c.if-area-n.false)) (shape_of-area c)
    (fills_rest (length vs) vs rest c.put.new.area c.clear.new.area refl (c.put.ensures ∙ put_all c.args.area.now vs (omega (arith, c.if-area-n.false))) c.clear.ensures)
    (to_z_pos w64 (length vs) (omega (arith, c.well_formed)))

-- `roots::norm_polynomial` meets its contract.
use mathlib.Core.Path.{sym, ap, ap₂, ◌∙◌, subst}
use mathlib.Core.List.{List}
use lib.IntN.{ℤ, ◌+ℤ◌}
use Rattle.whole.specs.Coefficients.{at}
use Rattle.poly.specs.Polynomials.{square}
use Rattle.whole.specs.Number.{wholes, Within, norm_size}
use Rattle.whole.proofs.Wholes.{wholes_ring}
use Rattle.poly.proofs.Lists.{at_sum}
use Rattle.root.specs.Promise.{octic, quartic}
use Rattle.curve.specs.Curves.{reals, imaginaries, norm_polynomial}
use Rattle.curve.specs.Steps.{leg_powers}
use Rattle.verdict.proofs.Lengthening.{Slight, parts_slight, slight_small, square-sized}
use Rattle.verdict.proofs.roots.norm_polynomial.Goals as goal

pub square-requires : goal.square-requires
square-requires c = slight_small (quartic c.reals.result) (subst Slight (sym c.reals.ensures) (parts_slight c.args.e c.requires).0)

pub square-requires-2 : goal.square-requires-2
square-requires-2 c = slight_small (quartic c.imaginaries.result) (subst Slight (sym c.imaginaries.ensures) (parts_slight c.args.e c.requires).1)

pub added-requires : goal.added-requires
added-requires c =
    let (re, im) = parts_slight c.args.e c.requires in (
      λ k. subst (Within norm_size) (c.square.ensures k) (square-sized c.reals.result (subst Slight (sym c.reals.ensures) re) k),
      λ k. subst (Within norm_size) (c.square-2.ensures k) (square-sized c.imaginaries.result (subst Slight (sym c.imaginaries.ensures) im) k),
    )

pub returns : goal.returns
unfolding norm_polynomial
returns c k =
    let e = leg_powers c.args.e in
    let m = c.square.result in
    let n = c.square-2.result in
    ap (λ (l : List ℤ). at wholes l k) c.added.ensures
    ∙ at_sum wholes_ring (octic m) (octic n) k
    ∙ ap₂ ◌+ℤ◌
    (sym (c.square.ensures k) ∙ ap (λ (l : List ℤ). at wholes (square wholes l) k) c.reals.ensures)
    (sym (c.square-2.ensures k) ∙ ap (λ (l : List ℤ). at wholes (square wholes l) k) c.imaginaries.ensures)
    ∙ sym (at_sum wholes_ring (square wholes (reals e)) (square wholes (imaginaries e)) k)

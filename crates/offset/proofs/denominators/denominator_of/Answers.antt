-- `denominators::denominator_of` meets its contract: the tests in their order.
use mathlib.Core.Path.{subst}
use mir.Syntax.{w64}
use mir.ValLaws.{to_z-of_z}
use Rattle.std.proofs.lemmas.Result.{err_from_is_err_and}
use Rattle.whole.specs.Number.{Within}
use Rattle.curve.specs.Sizes.{coordinate_reach}
use Rattle.offset.proofs.Answers.{root-asked, denominated_refused, denominated_found}
use Rattle.offset.proofs.denominators.denominator_of.Goals as goal

pub returns-in_err-preimage_of : goal.returns-in_err-preimage_of
returns-in_err-preimage_of c =
    let s = c.args in
    let p = err_from_is_err_and c.from_residual.result c.from_residual.ensures.1 in
    rw (p.1, p.2) (denominated_refused s.curve s.h (subst (Within coordinate_reach) (to_z-of_z w64 s.h c.ranges.h) c.if-not-within.ensures) _ c.in_err-preimage_of.ensures)

pub rooted-requires : goal.rooted-requires
rooted-requires c = root-asked c.args.curve c.in_ok-preimage_of.field-0 c.in_ok-preimage_of.ensures

pub returns : goal.returns
returns c =
    let s = c.args in
    denominated_found s.curve s.h (subst (Within coordinate_reach) (to_z-of_z w64 s.h c.ranges.h) c.if-not-within.ensures) c.in_ok-preimage_of.field-0 c.in_ok-preimage_of.ensures c.rooted.result c.rooted.ensures

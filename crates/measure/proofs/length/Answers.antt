-- `length` meets its contract: by the pre-image, or its refusal.
use Rattle.std.proofs.lemmas.Result.{err_from_is_err_and}
use Rattle.curve.specs.Curves.{points_of}
use Rattle.curve.proofs.LegPolynomial.{points_of_length}
use Rattle.verdict.proofs.FoundSizes.{root_small}
use Rattle.measure.proofs.length.Goals as goal

pub returns-in_err-preimage_of : goal.returns-in_err-preimage_of
returns-in_err-preimage_of c =
    let p = err_from_is_err_and c.from_residual.result c.from_residual.ensures.1 in
    rw (p.1, p.2) c.in_err-preimage_of.ensures

pub length_by-requires : goal.length_by-requires
length_by-requires c =
    let curve = c.args.curve in
    root_small (points_of curve) c.in_ok-preimage_of.field-0 c.in_ok-preimage_of.ensures (points_of_length curve)

pub returns : goal.returns
returns c =
    let said = c.in_ok-preimage_of.ensures in
    (said.0, record { preimage = c.in_ok-preimage_of.field-0; is_preimage = said.1; has = c.length_by.ensures })

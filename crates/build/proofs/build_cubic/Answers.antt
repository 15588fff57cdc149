-- `build::build_cubic` meets its contract.
use mathlib.Core.Bool.{true, false}
use mathlib.Core.Path.{refl}
use Rattle.build.specs.Promise.{cubic}
use Rattle.build.proofs.Triples.{allowed_two, none_two}
use Rattle.build.proofs.Answers.{refused_range, refused-still, answered}
use Rattle.build.proofs.build_cubic.Goals as goal

pub returns-then-not-allowed : goal.returns-then-not-allowed
returns-then-not-allowed c =
    let a = c.args in
    refused_range a.p0 (cubic a.w0 a.w1) (allowed_two a.w0 a.w1 a.p0 false c.if-not-allowed.ensures)

pub returns-then-three_are_zero : goal.returns-then-three_are_zero
returns-then-three_are_zero c =
    let a = c.args in
    refused-still a.p0 (cubic a.w0 a.w1) (allowed_two a.w0 a.w1 a.p0 true c.if-not-allowed.ensures) (none_two a.w0 a.w1 true c.if-three_are_zero.ensures)

pub cubic_points-requires : goal.cubic_points-requires
cubic_points-requires c =
    let a = c.args in
    let h = allowed_two a.w0 a.w1 a.p0 true c.if-not-allowed.ensures in
    (h.0, h.1 0, h.1 1)

pub returns : goal.returns
returns c =
    let a = c.args in
    answered a.p0 (cubic a.w0 a.w1) (allowed_two a.w0 a.w1 a.p0 true c.if-not-allowed.ensures) (none_two a.w0 a.w1 false c.if-three_are_zero.ensures)
    (λ n. n) _ refl _ c.cubic_points.ensures c.ranged.result c.ranged.ensures

-- `build::build_quintic` meets its contract.
use mathlib.Core.Path.{◌≡◌, refl, subst}
use lib.IntN.{pos}
use native.Mathlib.Omega.{arith}
use Rattle.std.specs.Prelude.{Option, Some, None}
use Rattle.std.proofs.lemmas.Result.{err_from_is_err_and}
use Rattle.refusal.specs.declared.Refusal.TheVariants.{Thirds}
use Rattle.pair.specs.Pairs.{multiple}
use Rattle.pair.specs.declared.Pair.{Pair}
use Rattle.divisor.specs.Promise.{IsOverWhole}
use Rattle.build.specs.Promise.{quintic, thrice}
use Rattle.build.proofs.Sizes.{thrice-within, third-within}
use Rattle.build.proofs.Legs.{third-found}
use Rattle.build.proofs.Answers.{refused_thirds, answered}
use Rattle.build.proofs.build_quintic.Goals as goal

-- a third of what was called by another name
third-of : {x t : Pair} → x ≡ t → (r : Option Pair) → IsOverWhole x (pos 3) r → IsOverWhole t (pos 3) r
third-of e r h = subst (λ (x : Pair). IsOverWhole x (pos 3) r) e h

pub thrice_middle-requires : goal.thrice_middle-requires
thrice_middle-requires c = let h = c.if-not-allowed.ensures in (h.1 0, h.1 1, h.1 2)

pub returns-in_err-d2 : goal.returns-in_err-d2
returns-in_err-d2 c =
    let a = c.args in
    let p = err_from_is_err_and c.from_residual.result c.from_residual.ensures.1 in
    let none : c.over_whole.result ≡ None = grind arith in
    let thirds : c.in_err-d2.field-0.0 ≡ Thirds = grind arith in
    let no_third = third-of c.thrice_middle.ensures None (subst (IsOverWhole c.thrice_middle.result (pos 3)) none c.over_whole.ensures) in
    rw (p.1, p.2, thirds) (refused_thirds a.p0 (quintic a.w0 a.w1 a.w2) c.if-not-allowed.ensures c.if-three_are_zero.ensures no_third)

-- the middle leg is a third
middle : (c : goal.In_ok-d2) → let a = c.args in multiple (pos 3) c.in_ok-d2.d2 ≡ thrice a.w0 a.w1 a.w2
middle c =
    let some : c.over_whole.result ≡ Some c.in_ok-d2.d2 = grind arith in
    third-of c.thrice_middle.ensures (Some c.in_ok-d2.d2) (subst (IsOverWhole c.thrice_middle.result (pos 3)) some c.over_whole.ensures)

pub quintic_points-requires : goal.quintic_points-requires
quintic_points-requires c =
    let h = c.if-not-allowed.ensures in
    (h.0, h.1 0, h.1 1, h.1 2, third-within (middle c) (thrice-within (h.1 0) (h.1 1) (h.1 2)))

pub returns : goal.returns
returns c =
    let a = c.args in
    let d2 = c.in_ok-d2.d2 in
    let is = middle c.before.before in
    answered a.p0 (quintic a.w0 a.w1 a.w2) c.if-not-allowed.ensures c.if-three_are_zero.ensures (third-found d2 is) _ (d2, is, refl) _
    c.quintic_points.ensures c.ranged.result c.ranged.ensures

-- `reached::curves_end` meets its contract: what is left of the bytes beyond cubics is a number of sixteens, one for each quintic.
use mathlib.Core.Path.{◌≡◌, ap}
use Prim.Native.Nat.{ℕ, ◌-◌, ◌*◌, ◌/◌, ◌%◌, ◌≤◌}
use native.Mathlib.Omega.{arith}
use lib.Dec.{leb}
use Rattle.whole.proofs.Flags.{told-map, order_tells}
use Rattle.record.specs.declared.kinds.Row.{Row}
use Rattle.states.specs.Steps.{CurvesEnd}
use Rattle.states.proofs.reached.curves_end.Goals as goal

by_quintics : (curves long : ℕ) → curves * 36 ≤ long → (long - curves * 36) % 16 ≡ 0 → (long - curves * 36) / 16 ≤ curves → CurvesEnd curves long
by_quintics curves long l e m =
    record { cubics = curves - (long - curves * 36) / 16; quintics = (long - curves * 36) / 16; all = omega arith; long_is = omega arith }

pub returns-then-left-more-eq0 : goal.returns-then-left-more-eq0
returns-then-left-more-eq0 c =
    let a = c.args in
    let left = (a.long - a.curves * 36) / 16 in
    let cubic : c.row_of-cubic.result.size ≡ 36 = ap (λ (r : Row). r.size) c.row_of-cubic.ensures in
    let quintic : c.row_of.result.size ≡ 52 = ap (λ (r : Row). r.size) c.row_of.ensures in
    let t = rw cubic at c.if-curves-long.false in
    let e = rw (cubic, quintic) at c.if-left-more-eq0.true in
    rw (cubic, quintic)
    (told-map (by_quintics a.curves a.long (omega (arith, t)) e) (λ h. omega (arith, h.all, h.long_is)) (leb left a.curves) (order_tells left a.curves))

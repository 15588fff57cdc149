-- `whole::common_with` meets its contract, by one step of Euclid's.
use mathlib.Core.Path.{ap}
use Prim.Native.Nat.{◌/◌, ◌%◌}
use native.Mathlib.Nat.{div-add-mod'}
use lib.IntN.{pos}
use Rattle.whole.proofs.Wholes.{wholes_ring}
use Rattle.whole.proofs.Divisor.{division_common}
use Rattle.whole.proofs.Evens.{shared_greatest, greatest_shared, with_zero}
use Rattle.whole.proofs.common_with.Goals as goal

pub returns-then-b-eq0 : goal.returns-then-b-eq0
returns-then-b-eq0 c = shared_greatest (with_zero c.if-b-eq0.true)

pub returns : goal.returns
returns c =
    let s = c.args in
    let h = greatest_shared c.common.ensures in
    let step = division_common wholes_ring {x = pos s.a} {y = pos s.b} {q = pos (s.a / s.b)} {r = pos (s.a % s.b)} (ap pos (div-add-mod' s.a s.b)) in
    shared_greatest (λ d. (λ e. (step d).0 (((h d).0 e).1, ((h d).0 e).0), λ e. let f = (step d).1 e in (h d).1 (f.1, f.0)))

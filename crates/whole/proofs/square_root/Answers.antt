-- `whole::square_root` meets its contract. The invariant: r is at or above the root.
use mathlib.Core.Logic.{◌≢◌}
use Prim.Native.Nat.{ℕ, ◌+◌, ◌/◌, ◌<◌}
use native.Mathlib.Nat.{div-lt_iff_lt-mul}
use native.Mathlib.Omega.{arith}
use Rattle.whole.specs.Steps.{Guess}
use Rattle.whole.proofs.Squares.{root_positive, newton_above}
use Rattle.whole.proofs.square_root.Goals as goal

-- one step of Newton's
step : (n r : ℕ) → n ≢ 0 → Guess n r → n / r < r → Guess n ((r + n / r) / 2)
step n r h inv l =
    let a = newton_above n r inv.positive in
    record { positive = root_positive n ((r + n / r) / 2) h a; above = a; small = omega (arith, inv.small) }

-- while r is above the root, n / r is below it
below : (c : goal.In-loop-r) → c.args.n / c.loop-r.r < c.loop-r.r
below c = (div-lt_iff_lt-mul c.loop-r.invariant.positive).1 c.loop-r-test.true

pub loop-r-preserved : goal.loop-r-preserved
loop-r-preserved c = step _ c.loop-r.r c.if-n-eq0.false c.loop-r.invariant (below c)

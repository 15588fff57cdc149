-- `writes::numbers_within` meets its contract. Invariant: what is left of the numbers decides the whole.
use mathlib.Core.Path.{◌≡◌, subst, ◌∙◌}
use mathlib.Core.Bool.{Bool}
use Prim.Native.Nat.{◌<◌}
use native.Mathlib.Omega.{arith}
use lib.Dec.{leb}
use lib.IntN.{ℤ, pos, nat_abs}
use lib.ListN.{get_or}
use lib.Signed.{mag}
use mir.Syntax.{w64}
use mir.Val.{to_z, of_z}
use mir.ValLaws.{to_z-of_z}
use Rattle.whole.specs.Number.{Tells, Within}
use Rattle.whole.proofs.Flags.{told_once, told-map, order_tells}
use Rattle.curve.specs.Sizes.{coordinate_reach}
use Rattle.record.proofs.Loops.{numbers-none, numbers_fail, numbers_pass}
use Rattle.record.proofs.writes.numbers_within.Goals as goal

-- what the call says of the element itself
element : (x : ℤ) (b : Bool) → mag x < 9223372036854775808 → Tells (Within coordinate_reach (to_z w64 (of_z w64 x))) b → leb (nat_abs x) coordinate_reach ≡ b
element x b f h =
    told_once (Within coordinate_reach x) (leb (nat_abs x) coordinate_reach) b
    (told-map (λ s. record { size = s }) (λ w. w.size) (leb (nat_abs x) coordinate_reach) (order_tells (nat_abs x) coordinate_reach))
    (subst (λ (z : ℤ). Tells (Within coordinate_reach z) b) (to_z-of_z w64 x (record { sfits = f })) h)

pub returns-then-not-within : goal.returns-then-not-within
returns-then-not-within c =
    numbers_fail _ _ c.loop-x-test.true (element (get_or c.args.xs.now c.loop-x.x-index (pos 0)) _ (omega arith) c.within.ensures ∙ c.if-not-within.true)
    ∙ c.loop-x.invariant

pub loop-x-preserved : goal.loop-x-preserved
loop-x-preserved c =
    numbers_pass _ _ c.loop-x-test.true (element (get_or c.args.xs.now c.loop-x.x-index (pos 0)) _ (omega arith) c.within.ensures ∙ c.if-not-within.false) ∙ c.loop-x.invariant

pub returns : goal.returns
returns c = numbers-none _ _ c.loop-x-test.false ∙ c.loop-x.invariant

-- `whole::common` meets its contract: the odd parts' divisor, and the smaller power of 2. It divides a number that fits, so it fits.
use mathlib.Core.Path.{sym, subst}
use mathlib.Core.List.{[], ◌∷◌}
use mathlib.Core.Logic.{◌≢◌}
use Prim.Native.Nat.{ℕ, ◌*◌, ◌/◌, ◌%◌, ◌^◌, ◌≤◌, ◌<◌}
use native.Mathlib.Decide.{dec_le}
use native.Mathlib.Nat.{mod-eq_of_lt, lt_of_le_of_lt, min-eq_left, min-eq_right}
use native.Mathlib.Omega.{arith}
use lib.IntN.{pos}
use Rattle.whole.specs.Coefficients.{Greatest}
use Rattle.whole.specs.Number.{wholes}
use Rattle.whole.proofs.Evens.{Zeros, zeros, zeros-end, Shared, shared_greatest, greatest_shared, shared-turned, shared_le, shared_powers, with_zero}
use Rattle.whole.proofs.common.Goals as goal

shifted_back : {a b g : ℕ} → a ≢ 0 → a < 2 ^ 64 → Zeros a → Zeros b → zeros a ≤ zeros b → Shared g (a / 2 ^ zeros a) (b / 2 ^ zeros b)
    → Shared (g * 2 ^ zeros a % 2 ^ 64) a b
shifted_back {a} {b} {g} s f x y l h =
    let all : Shared (g * 2 ^ zeros a) a b = subst (λ X. X) (λ i. Shared (g * 2 ^ zeros a) (x.is i) (y.is i)) (shared_powers (zeros a) (zeros b) x.odd l h) in
    subst (λ (n : ℕ). Shared n a b) (sym (mod-eq_of_lt (lt_of_le_of_lt (shared_le s all) f))) all

module _ (c : goal.Else-b-eq0) where
  zeros-a : Zeros c.args.a
  zeros-a = zeros-end c.args.a c.if-a-eq0.false c.ranges.a.fits

  zeros-b : Zeros c.args.b
  zeros-b = zeros-end c.args.b c.if-b-eq0.false c.ranges.b.fits

pub returns-then-a-eq0 : goal.returns-then-a-eq0
returns-then-a-eq0 c = shared_greatest (shared-turned (with_zero c.if-a-eq0.true))

pub returns-then-b-eq0 : goal.returns-then-b-eq0
returns-then-b-eq0 c = shared_greatest (with_zero c.if-b-eq0.true)

pub odd_common-requires : goal.odd_common-requires
odd_common-requires c = ((zeros-a c).odd, (zeros-b c).odd)

pub returns : goal.returns
returns c = by (dec_le (zeros c.args.a) (zeros c.args.b))
  where
    s : goal.Else-b-eq0
    s = c.before.before

    by : Dec (zeros c.args.a ≤ zeros c.args.b) → Greatest wholes (pos c.args.a ∷ pos c.args.b ∷ []) (pos (c.odd_common.result * 2 ^ c.min.result % 2 ^ 64))
    by (yes l) =
        rw (c.min.ensures, min-eq_left l)
        (shared_greatest (shifted_back c.if-a-eq0.false c.ranges.a.fits (zeros-a s) (zeros-b s) l (greatest_shared c.odd_common.ensures)))
    by (no l) =
        let k : zeros c.args.b ≤ zeros c.args.a = omega arith in
        rw (c.min.ensures, min-eq_right k)
        (shared_greatest
        (shared-turned (shifted_back c.if-b-eq0.false c.ranges.b.fits (zeros-b s) (zeros-a s) k (shared-turned (greatest_shared c.odd_common.ensures)))))

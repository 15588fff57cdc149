-- `divisor::near` meets its contract.
use mathlib.Core.Bool.{false}
use mathlib.Core.Path.{◌≡◌}
use Prim.Native.Nat.{◌^◌, ◌≤◌}
use borrow.Author.Rules.{rules}
use lib.IntN.{ℤ, pos, nat_abs}
use lib.Signed.{lt_z, ◌<ℤ◌}
use Rattle.whole.proofs.Linear.{linear, abs_parts, one-part}
use Rattle.whole.proofs.Machine.{read_as}
use Rattle.pair.proofs.Laws.{norm_some}
use Rattle.divisor.proofs.Division.{over-within}
use Rattle.divisor.proofs.Rounding.{nearest-near, rounded-near}
use Rattle.divisor.proofs.near.Goals as goal

pub returns-then-d-gt-NEAR_NORM : goal.returns-then-d-gt-NEAR_NORM
returns-then-d-gt-NEAR_NORM c = let h = c.requires in nearest-near h.0 h.1 h.2 c.nearest.ensures

-- a norm that is not past the bound is small
small : (n : ℤ) → pos 0 <ℤ n → lt_z (pos 68719476736) n ≡ false → nat_abs n ≤ 2 ^ 36
small n p k = omega (linear, abs_parts n, one-part n)

pub rounded-requires : goal.rounded-requires
rounded-requires c = rw (read_as (search rules) c.norm-d.ensures, c.numerator.ensures) (norm_some c.args.b c.requires.2, over-within c.args.b c.requires.0)

pub returns : goal.returns
returns c =
    let e = read_as (search rules) c.norm-d.ensures in
    let k = small _ (norm_some c.args.b c.requires.2) (rw e at c.if-d-gt-NEAR_NORM.false) in
    rw (c.rounded.ensures, e, c.numerator.ensures) (rounded-near c.requires.0 c.requires.2 k)

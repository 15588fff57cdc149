-- `roots::degree` meets its contract: each test that fails lowers the power above which nothing stands.
use Rattle.std.proofs.Common.{◌≡◌, zero, suc, arith}
use Rattle.whole.specs.Coefficients.{at}
use Rattle.poly.specs.Terms.{Above}
use Rattle.poly.proofs.Top.{length_above, above_lowered}
use Rattle.pair.specs.Pairs.{pairs}
use Rattle.curve.specs.declared.LegPowers.{LegPowers}
use Rattle.curve.specs.Steps.{leg_powers}
use Rattle.verdict.proofs.roots.degree.Goals as goal

-- nothing stands above the fourth power, nor above the n-th where the coefficients from there up to it are 0
above-4 : (e : LegPowers) → Above pairs (at pairs (leg_powers e)) 4
above-4 e = length_above pairs (leg_powers e) 4 (omega arith)

module _ (e : LegPowers) (z4 : e.e4 ≡ pairs.none) where
  above-3 : Above pairs (at pairs (leg_powers e)) 3
  above-3 = above_lowered pairs (above-4 e) z4

  above-2 : e.e3 ≡ pairs.none → Above pairs (at pairs (leg_powers e)) 2
  above-2 z3 = above_lowered pairs above-3 z3

  above-1 : e.e3 ≡ pairs.none → e.e2 ≡ pairs.none → Above pairs (at pairs (leg_powers e)) 1
  above-1 z3 z2 = above_lowered pairs (above-2 z3) z2

  above-0 : e.e3 ≡ pairs.none → e.e2 ≡ pairs.none → e.e1 ≡ pairs.none → Above pairs (at pairs (leg_powers e)) 0
  above-0 z3 z2 z1 = above_lowered pairs (above-1 z3 z2) z1

pub returns-then-not-is_zero : goal.returns-then-not-is_zero
returns-then-not-is_zero c = (record { lead = c.if-not-is_zero.ensures; above = above-4 c.args.e }, omega arith)

pub returns-then-not-is_zero-2 : goal.returns-then-not-is_zero-2
returns-then-not-is_zero-2 c = (record { lead = c.if-not-is_zero-2.ensures; above = above-3 c.args.e c.if-not-is_zero.ensures }, omega arith)

pub returns-then-not-is_zero-3 : goal.returns-then-not-is_zero-3
returns-then-not-is_zero-3 c =
    (record { lead = c.if-not-is_zero-3.ensures; above = above-2 c.args.e c.if-not-is_zero.ensures c.if-not-is_zero-2.ensures }, omega arith)

pub returns-then-not-is_zero-4 : goal.returns-then-not-is_zero-4
returns-then-not-is_zero-4 c = (
  record {
    lead = c.if-not-is_zero-4.ensures;
    above = above-1 c.args.e c.if-not-is_zero.ensures c.if-not-is_zero-2.ensures c.if-not-is_zero-3.ensures;
  },
  omega arith,
)

pub returns-then-not-is_zero-5 : goal.returns-then-not-is_zero-5
returns-then-not-is_zero-5 c = (
  record {
    lead = c.if-not-is_zero-5.ensures;
    above = above-0 c.args.e c.if-not-is_zero.ensures c.if-not-is_zero-2.ensures c.if-not-is_zero-3.ensures c.if-not-is_zero-4.ensures;
  },
  omega arith,
)

pub returns-else-not-is_zero-5 : goal.returns-else-not-is_zero-5
returns-else-not-is_zero-5 c zero = c.if-not-is_zero-5.ensures
returns-else-not-is_zero-5 c (suc k) =
    above-0 c.args.e c.if-not-is_zero.ensures c.if-not-is_zero-2.ensures c.if-not-is_zero-3.ensures c.if-not-is_zero-4.ensures (suc k) (omega arith)

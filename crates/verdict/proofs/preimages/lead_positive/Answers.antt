-- `preimages::lead_positive` meets its contract: the first coefficient from above that is not zero is the lead.
use Rattle.std.proofs.Common.{Bool, true, false, ℕ, zero, suc, arith}
use Rattle.whole.specs.Coefficients.{at}
use Rattle.whole.specs.Number.{FirstPositive, Tells}
use Rattle.poly.specs.Terms.{Above, Top}
use Rattle.poly.proofs.Top.{length_above, above_lowered}
use Rattle.pair.specs.Pairs.{pairs}
use Rattle.divisor.proofs.Roots.{first_some}
use Rattle.verdict.specs.declared.Quadratic.{Quadratic}
use Rattle.verdict.specs.Verdicts.{quadratic, LeadKept}
use Rattle.verdict.proofs.Turned.{lead_of_lem}
use Rattle.verdict.proofs.preimages.lead_positive.Goals as goal

-- the flag on the m-th coefficient is the flag on w, where m is the highest power
carried : (w : Quadratic) (m : ℕ) (flag : Bool) → Top pairs (quadratic w) m → Tells (FirstPositive (at pairs (quadratic w) m).re (at pairs (quadratic w) m).im) flag → Tells (LeadKept (quadratic w)) flag
carried w m true t h = record { power = m; positive = h; above = t.above }
carried w m false t h = λ l. h (lead_of_lem t l)

-- and on the constant coefficient, where nothing stands above it
constant : (w : Quadratic) (flag : Bool) → Above pairs (at pairs (quadratic w)) 0 → Tells (FirstPositive w.b0.re w.b0.im) flag → Tells (LeadKept (quadratic w)) flag
constant w true a h = record { power = 0; positive = h; above = a }
constant w false a h = λ l. by l.power l.positive
  where
    by : (m : ℕ) → FirstPositive (at pairs (quadratic w) m).re (at pairs (quadratic w) m).im → ⊥
    by zero p = h p
    by (suc m) p = first_some p (a (suc m) (omega arith))

above-2 : (w : Quadratic) → Above pairs (at pairs (quadratic w)) 2
above-2 w = length_above pairs (quadratic w) 2 (omega arith)

pub returns-then-not-is_zero : goal.returns-then-not-is_zero
returns-then-not-is_zero c =
    let w = c.args.w in carried w 2 c.first_positive.result (record { lead = c.if-not-is_zero.ensures; above = above-2 w }) c.first_positive.ensures

pub returns-then-not-is_zero-2 : goal.returns-then-not-is_zero-2
returns-then-not-is_zero-2 c =
    let w = c.args.w in
    let f = c.first_positive-then-not-is_zero-2 in
    carried w 1 f.result (record { lead = c.if-not-is_zero-2.ensures; above = above_lowered pairs (above-2 w) c.if-not-is_zero.ensures }) f.ensures

pub returns-else-not-is_zero-2 : goal.returns-else-not-is_zero-2
returns-else-not-is_zero-2 c =
    let w = c.args.w in
    let f = c.first_positive-else-not-is_zero-2 in
    constant w f.result (above_lowered pairs (above_lowered pairs (above-2 w) c.if-not-is_zero.ensures) c.if-not-is_zero-2.ensures) f.ensures

-- What the functions inside the crate promise one another. No public contract speaks of it.
--   Measurable      a length whose hundredths the machine can count
--   JudgedAs        what a curve counts for, by its verdict
--   CountsCurves    the totals with the first curves of a sheet more
--   Takes           what a sheet adds to totals that have its number already
use Rattle.std.specs.Prelude.{◌≡◌, List, ℕ, ◌*◌, ◌≤◌, pos, nat_abs, ◌≤ℤ◌, ◌<ℤ◌, Ok}
use Rattle.refusal.specs.Answers.{Answer}
use Rattle.curve.specs.declared.Curve.{Curve}
use Rattle.curve.specs.Curves.{points_of}
use Rattle.verdict.specs.declared.Verdict.{Verdict}
use Rattle.verdict.specs.Promise.{Recognised}
use Rattle.measure.specs.declared.lengths.Length.{Length}
use Rattle.sheet.specs.Promise.{Checks}
use Rattle.totals.specs.declared.Counted.{Counted}
use Rattle.totals.specs.declared.Totals.{Totals}
use Rattle.totals.specs.declared.Added.{Added}
use Rattle.totals.specs.Sheets.{CountsFor, CurvesAre, SheetIs}
use Rattle.totals.specs.Totals.{numbered}
use Rattle.totals.specs.Promise.{with_curves, counting}

pub record Measurable (l : Length) : Type 0 where
  pub some_c : pos 0 <ℤ l.c
  pub a_nonneg : pos 0 ≤ℤ l.a
  pub some_b : pos 0 <ℤ l.b
  pub small_b : nat_abs l.b ≤ 12
  pub small : nat_abs l.c * (nat_abs l.a * nat_abs l.a) ≤ 11520000000000

pub record JudgedAs (curve : Curve) (x : Counted) : Type 0 where
  pub verdict : Verdict
  pub recognised : Recognised (points_of curve) (Ok verdict)
  pub counts : CountsFor curve verdict x

pub record CountsCurves (t : Totals) (s : List ℕ) (n : ℕ) (r : Totals) : Type 0 where
  pub curves : List Counted
  pub are : CurvesAre s n curves
  pub counts : r ≡ with_curves t (numbered t.sheets 1 curves)

pub record Takes (t : Totals) (s : List ℕ) (r : Added) : Type 0 where
  pub counted : Answer (List Counted)
  pub sheet_is : SheetIs s counted
  pub adds : r.totals ≡ counting t counted
  pub says : Checks s r.answer

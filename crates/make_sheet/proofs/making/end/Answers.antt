-- `making::end` meets its contract: the walk says where the records end.
use Rattle.std.proofs.Common.{ℕ, sym, ap, ◌∙◌, arith}
use Rattle.make_sheet.specs.Making.{ending_at}
use Rattle.make_sheet.proofs.Stages.{ends_long, ends_short}
use Rattle.make_sheet.proofs.making.end.Goals as goal

pub returns-then-count-records : goal.returns-then-count-records
returns-then-count-records c =
    let w = c.walk-records in
    sym (ends_long w.result.end c.args.count (omega (arith, c.told-area, w.ensures.end_fits, c.if-count-records.true))) ∙ ap (λ (n : ℕ). ending_at n c.args.count) w.ensures.end_is

pub returns : goal.returns
returns c =
    let w = c.walk-records in
    sym (ends_short w.result.end c.args.count (omega (arith, c.told-area, w.ensures.end_fits, c.if-count-records.false))) ∙ ap (λ (n : ℕ). ending_at n c.args.count) w.ensures.end_is

-- `take_sheet` meets its contract: the totals stay those of some sheets, and there is room for the line.
use Rattle.std.proofs.Common.{arith}
use Rattle.box_report.proofs.Filled.{boxed_added, line-room}
use Rattle.box_report.proofs.take_sheet.Goals as goal

pub line_of-end-requires : goal.line_of-end-requires
line_of-end-requires c =
    omega (
      arith,
      line-room c.args.t.now c.args.sheet.now c.add_sheet-r.result c.requires.0 c.add_sheet-r.ensures c.args.name.now c.if-r-t.false,
      c.requires.1,
    )

pub returns-in_err-write_all : goal.returns-in_err-write_all
returns-in_err-write_all c = boxed_added c.args.t.now c.args.sheet.now c.add_sheet-r.result c.requires.0 c.add_sheet-r.ensures

pub returns : goal.returns
returns c = boxed_added c.args.t.now c.args.sheet.now c.add_sheet-r.result c.requires.0 c.add_sheet-r.ensures

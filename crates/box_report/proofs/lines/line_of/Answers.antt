-- `lines::line_of` meets its contract: there is room for the line.
use Rattle.std.proofs.Common.{ap, arith, length}
use Rattle.refusal.specs.Answers.{answer_at}
use Rattle.text.proofs.Held.{room_ok, ok_is}
use Rattle.totals_text.specs.Texts.{sheet_line}
use Rattle.box_report.proofs.lines.line_of.Goals as goal

pub unwrap-requires : goal.unwrap-requires
unwrap-requires c =
    room_ok (length (sheet_line c.args.number c.args.name.now (answer_at c.args.answer))) (λ t h. omega (arith, ap length h)) _ _ c.write_line.result c.requires c.write_line.ensures

pub returns : goal.returns
returns c = ok_is _ _ c.unwrap.ensures c.write_line.ensures

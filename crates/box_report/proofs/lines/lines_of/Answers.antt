-- `lines::lines_of` meets its contract: there is room for the lines.
use Rattle.std.proofs.Common.{ap, arith, length}
use Rattle.text.proofs.Held.{room_ok, ok_is}
use Rattle.totals_text.specs.Texts.{totals_text}
use Rattle.box_report.proofs.lines.lines_of.Goals as goal

pub unwrap-requires : goal.unwrap-requires
unwrap-requires c = room_ok (length (totals_text c.args.t)) (λ t h. omega (arith, ap length h)) _ _ c.write_totals.result c.requires c.write_totals.ensures

pub returns : goal.returns
returns c = ok_is _ _ c.unwrap.ensures c.write_totals.ensures

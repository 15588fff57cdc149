-- `report_of` meets its contract: there is room for every report.
use Rattle.text.proofs.Held.{room_ok, ok_is}
use Rattle.report_text.proofs.Short.{report_short}
use Rattle.report.proofs.report_of.Goals as goal

pub unwrap-requires : goal.unwrap-requires
unwrap-requires c = room_ok 5335 (report_short c.args.sheet.now c.type_inv.sheet) _ _ c.write_report.result c.requires c.write_report.ensures

pub returns : goal.returns
returns c = ok_is _ _ c.unwrap.ensures c.write_report.ensures

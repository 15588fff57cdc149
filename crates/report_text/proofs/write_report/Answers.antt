-- `write_report` meets its contract: the report, finished.
use Rattle.std.proofs.Common.{rules}
use Rattle.text.specs.Promise.{TextIn}
use Rattle.text.proofs.Held.{text_in}
use Rattle.report_text.specs.Promise.{Report}
use Rattle.report_text.proofs.write_report.Goals as goal

pub returns : goal.returns
returns c =
    let w = c.put_report.ensures in
    let t : TextIn (Report c.args.sheet.now) c.args.area.now c.finish.new.self.0 c.finish.result = text_in w.text w.of_sheet c.new-text.ensures w.writes c.finish.ensures in
    search rules

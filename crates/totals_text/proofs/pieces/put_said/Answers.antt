-- `pieces::put_said` meets its contract: how many curves.
use Rattle.std.proofs.Common.{sym, ap, Result}
use Rattle.refusal.specs.declared.Fault.{Fault}
use Rattle.refusal.specs.Answers.{answer_at}
use Rattle.sheet.specs.declared.Checked.{Checked}
use Rattle.text.proofs.Pieces.{◌then◌, writes_same}
use Rattle.totals_text.specs.Texts.{said}
use Rattle.totals_text.proofs.pieces.put_said.Goals as goal

pub returns-in-Ok : goal.returns-in-Ok
returns-in-Ok c = writes_same (ap (λ (r : Result Checked Fault). said (answer_at r)) (sym c.in-Ok.is)) (c.put_number.ensures then c.put.ensures)

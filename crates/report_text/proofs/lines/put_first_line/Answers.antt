-- `lines::put_first_line` meets its contract: the mission, how many curves there are, and the line's end.
use Rattle.text.proofs.Pieces.{◌then◌}
use Rattle.report_text.proofs.lines.put_first_line.Goals as goal

pub returns : goal.returns
returns c = c.put_mission.ensures then c.put_labelled.ensures then c.put.ensures

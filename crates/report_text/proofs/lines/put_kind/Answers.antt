-- `lines::put_kind` meets its contract: the kind's name, between blanks.
use Rattle.std.proofs.Common.{ap, ◌∙◌}
use Rattle.record.specs.declared.kinds.Row.{Row}
use Rattle.record.specs.Kinds.{row_of}
use Rattle.text.proofs.Pieces.{◌then◌, writes_same}
use Rattle.report_text.proofs.lines.put_kind.Goals as goal

pub returns : goal.returns
returns c =
    let is = ap (λ (r : Row). r.name) (c.row_of-row.ensures ∙ ap row_of c.kind_of.ensures) in
    c.put.ensures then writes_same is c.put-2.ensures then c.put-3.ensures

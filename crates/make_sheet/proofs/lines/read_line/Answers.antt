-- `lines::read_line` meets its contract: what stands before a # is read.
use Rattle.std.proofs.Common.{length-take-le}
use Rattle.make_sheet.proofs.Sentences.{line_says}
use Rattle.make_sheet.proofs.lines.read_line.Goals as goal

pub returns : goal.returns
returns c =
    let text = c.args.text.now in
    line_says text c.find-end.result c.read_words.result c.find-end.ensures (length-take-le c.find-end.result text c.find-end.ensures.within) c.read_words.ensures

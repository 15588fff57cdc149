-- `write_line` meets its contract: the line, finished.
use Rattle.std.proofs.Common.{◌≡◌, refl, rules, List, ℕ}
use Rattle.refusal.specs.Answers.{answer_at}
use Rattle.text.specs.Promise.{TextIn}
use Rattle.text.proofs.Held.{text_in}
use Rattle.totals_text.specs.Texts.{sheet_line}
use Rattle.totals_text.proofs.write_line.Goals as goal

pub returns : goal.returns
returns c =
    let line : List ℕ = sheet_line c.args.number c.args.name.now (answer_at c.args.answer) in
    let t : TextIn (λ text. text ≡ line) c.args.area.now c.finish.new.self.0 c.finish.result = text_in line refl c.new-text.ensures c.put_sheet.ensures c.finish.ensures in
    search rules

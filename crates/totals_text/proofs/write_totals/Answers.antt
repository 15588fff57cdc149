-- `write_totals` meets its contract: the lines, finished.
use Rattle.std.proofs.Common.{◌≡◌, refl, rules}
use Rattle.text.specs.Promise.{TextIn}
use Rattle.text.proofs.Held.{text_in}
use Rattle.totals_text.specs.Texts.{totals_text}
use Rattle.totals_text.proofs.write_totals.Goals as goal

pub returns : goal.returns
returns c =
    let t : TextIn (λ text. text ≡ totals_text c.args.t) c.args.area.now c.finish.new.self.0 c.finish.result =
    text_in (totals_text c.args.t) refl c.new-text.ensures c.put_totals.ensures c.finish.ensures
    in
    search rules

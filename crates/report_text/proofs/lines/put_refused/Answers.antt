-- `lines::put_refused` meets its contract: the refusal's number and its place.
use Rattle.std.proofs.Common.{ap, ◌∙◌, ◌++◌, ℕ}
use Rattle.text.specs.Texts.{bytes, decimal}
use Rattle.text.proofs.Pieces.{◌then◌, writes_same}
use Rattle.report_text.proofs.lines.put_refused.Goals as goal

pub returns : goal.returns
returns c =
    writes_same (ap (λ (n : ℕ). bytes "refused " ++ decimal n) (c.from.ensures ∙ c.number.ensures)) c.put_labelled.ensures
    then writes_same (ap (λ (n : ℕ). bytes " at " ++ decimal n) c.from-2.ensures) c.put_labelled-2.ensures
    then c.put.ensures

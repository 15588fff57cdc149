-- `lines::behind` meets its contract: a number of 64 bits is not above the bound of the erased bytes.
use Rattle.std.proofs.Common.{sym, subst}
use Rattle.make_sheet.specs.declared.lines.Form.{Form}
use Rattle.make_sheet.specs.Sayings.{erased_word, word_of, SaysBehind}
use Rattle.make_sheet.proofs.Sentences.{erased_means, wrong-behind}
use Rattle.make_sheet.proofs.lines.behind.Goals as goal

pub returns-in_err-count-in-Erased : goal.returns-in_err-count-in-Erased
returns-in_err-count-in-Erased c =
    let (within, (vs, words, never)) = c.in_err-count-in-Erased.ensures in
    let r = c.from_residual-in_err-count-in-Erased in
    subst (λ (form : Form). SaysBehind (word_of form) c.args.text.now r.result) (sym c.in-Erased.is)
    (wrong-behind erased_word c.args.text.now r.result c.in_err-count-in-Erased.field-0.0 r.ensures.1 within (vs, words, erased_means vs never))

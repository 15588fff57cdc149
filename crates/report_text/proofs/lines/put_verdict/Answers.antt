-- `lines::put_verdict` meets its contract: the length of a curve with a pre-image is that of the definition.
use Rattle.std.proofs.Common.{sym, ap, ◌∙◌, subst, Ok, ◌++◌}
use Rattle.curve.specs.Curves.{points_of}
use Rattle.verdict.specs.declared.Verdict.{Verdict}
use Rattle.verdict.specs.Promise.{Recognised}
use Rattle.measure.specs.declared.lengths.Length.{Length}
use Rattle.measure.proofs.LengthSizes.{root_small}
use Rattle.text.specs.Texts.{labelled}
use Rattle.text.proofs.Pieces.{writes_same}
use Rattle.report_text.specs.Texts.{verdict_text}
use Rattle.report_text.proofs.lines.put_verdict.Goals as goal

pub length_by-requires : goal.length_by-requires
length_by-requires c = root_small c.in-Pre.p c.args.curve (subst (λ (v : Verdict). Recognised (points_of c.args.curve) (Ok v)) c.in-Pre.is c.requires.1).1.1 c.requires.0

pub returns-in-Pre : goal.returns-in-Pre
returns-in-Pre c =
    writes_same
    (ap (λ (l : Length). labelled "pre c=" l.c ++ labelled " len=" l.a ++ labelled "/" l.b) c.length_by.ensures ∙ sym (ap (verdict_text c.args.curve) c.in-Pre.is))
    c.put_length.ensures

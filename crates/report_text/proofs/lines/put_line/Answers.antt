-- `lines::put_line` meets its contract: number, kind, verdict and the line's end.
use Rattle.std.proofs.Common.{subst, Result}
use Rattle.refusal.specs.declared.Refusal.{Refusal}
use Rattle.curve.specs.Curves.{points_of}
use Rattle.verdict.specs.declared.Verdict.{Verdict}
use Rattle.verdict.specs.Promise.{Recognised}
use Rattle.text.proofs.Pieces.{◌then◌}
use Rattle.report_text.proofs.lines.put_line.Goals as goal

pub returns : goal.returns
returns c = record {
  verdict = c.unwrap-verdict.result;
  recognised = subst (λ (r : Result Verdict Refusal). Recognised (points_of c.args.curve) r) c.unwrap-verdict.ensures c.recognise.ensures;
  writes = c.put_number.ensures then c.put_kind.ensures then c.put_verdict.ensures then c.put.ensures;
}

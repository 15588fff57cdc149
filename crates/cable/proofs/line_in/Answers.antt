-- `line_in` meets its contract: once the bytes have ended, their check is answered.
use Rattle.std.proofs.Common.{arith, ap, ◌∙◌, subst, length, Ok}
use Rattle.cable.specs.Cables.{answer_line}
use Rattle.cable.proofs.Arrivals.{Says, says, line_short, says_ok, says_some}
use Rattle.cable.proofs.line_in.Goals as goal

pub unwrap-requires : goal.unwrap-requires
unwrap-requires c = says_ok _ _ (says _ _ c.ask.result c.end.ensures c.ask.ensures c.requires.0.0 c.requires.0.1)

pub unwrap-requires-2 : goal.unwrap-requires-2
unwrap-requires-2 c = says_some _ _ (subst (Says _) c.unwrap.ensures (says _ _ c.ask.result c.end.ensures c.ask.ensures c.requires.0.0 c.requires.0.1))

pub line_of-requires : goal.line_of-requires
line_of-requires c =
    let arriving = c.requires.0 in
    let checks = subst (Says _) (c.unwrap.ensures ∙ ap Ok c.unwrap-2.ensures) (says _ _ c.ask.result c.end.ensures c.ask.ensures arriving.0 arriving.1) in
    omega (arith, line_short arriving.0 arriving.1.bytes, ap (λ a. length (answer_line a)) checks, c.requires.1)

pub returns : goal.returns
returns c = record {
  fits = c.line_of.ensures.0;
  is = λ s h.
      c.line_of.ensures.1
      ∙ ap answer_line (subst (Says s) (c.unwrap.ensures ∙ ap Ok c.unwrap-2.ensures) (says _ _ c.ask.result c.end.ensures c.ask.ensures s h));
}

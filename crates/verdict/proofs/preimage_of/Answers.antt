-- `preimage_of` meets its contract: each arm is the answer of its verdict.
use Rattle.std.proofs.Common.{◌≡◌, subst}
use Rattle.std.specs.Prelude.{List, Ok}
use Rattle.pair.specs.declared.Pair.{Pair}
use Rattle.curve.specs.Curves.{points_of}
use Rattle.verdict.specs.declared.Verdict.{Verdict}
use Rattle.verdict.specs.declared.Verdict.TheVariants as verdict
use Rattle.verdict.specs.Promise.{Recognised, Preimaged}
use Rattle.verdict.proofs.Refusals.{preimage_answer, recognised_preimage}
use Rattle.verdict.proofs.preimage_of.Goals as goal

-- what is promised of the verdict v, which is w
answer : (ps : List Pair) {v : Verdict} (w : Verdict) → Recognised ps (Ok v) → v ≡ w → Preimaged ps (preimage_answer (Ok w))
answer ps w h e = recognised_preimage ps (Ok w) (subst (λ v. Recognised ps (Ok v)) e h)

pub returns-in-Still : goal.returns-in-Still
returns-in-Still c = answer (points_of c.args.curve) verdict.Still c.in_ok-recognise.ensures c.in-Still.is

pub returns-in-No : goal.returns-in-No
returns-in-No c = answer (points_of c.args.curve) verdict.No c.in_ok-recognise.ensures c.in-No.is

pub returns-in-Ph : goal.returns-in-Ph
returns-in-Ph c = answer (points_of c.args.curve) (verdict.Ph c.in-Ph.field-0) c.in_ok-recognise.ensures c.in-Ph.is

pub returns-in-Pre : goal.returns-in-Pre
returns-in-Pre c = answer (points_of c.args.curve) (verdict.Pre c.in-Pre.p) c.in_ok-recognise.ensures c.in-Pre.is

-- `divisor::quotient` meets its contract: b divides a just where |b|² divides both parts of a conj(b).
use mathlib.Core.Path.{◌≡◌, sym, subst}
use borrow.Author.Rules.{rules}
use lib.IntN.{ℤ, pos}
use lib.Signed.{◌<ℤ◌}
use mir.Syntax.{w64}
use mir.Val.{to_z, of_z}
use Rattle.pair.specs.Pairs.{norm}
use Rattle.whole.proofs.Machine.{read_as}
use Rattle.pair.proofs.Laws.{norm_some}
use Rattle.divisor.specs.Promise.{IsOverWhole}
use Rattle.divisor.proofs.Division.{over-norm}
use Rattle.divisor.proofs.quotient.Goals as goal

d-is : (c : goal.After-norm) → to_z w64 (of_z w64 c.norm.result) ≡ norm c.args.b
d-is c = read_as (search rules) c.norm.ensures

pub over_whole-requires : goal.over_whole-requires
over_whole-requires c = subst (λ (x : ℤ). pos 0 <ℤ x) (sym (d-is c)) (norm_some c.args.b c.requires.2)

pub returns : goal.returns
returns c =
    over-norm c.args.a c.args.b c.requires.2 c.over_whole.result
    (subst (λ X. X) (λ i. IsOverWhole (c.numerator.ensures i) (d-is c.before i) c.over_whole.result) c.over_whole.ensures)

-- `divisor::nearest` meets its contract: what the calls hand on are the parts of a conj(b), and |b|².
use mathlib.Core.Path.{◌≡◌, subst₂}
use borrow.Author.Rules.{rules}
use mir.Syntax.{w64}
use mir.Val.{to_z, of_z}
use mir.ValLaws.{to_z-of_z}
use Rattle.whole.specs.Promise.{Nearest}
use Rattle.pair.specs.Pairs.{norm}
use Rattle.whole.proofs.Machine.{read_as}
use Rattle.pair.proofs.Parts.{re-equal, im-equal}
use Rattle.pair.proofs.Laws.{norm_some}
use Rattle.divisor.proofs.nearest.Goals as goal

pub nearest-requires : goal.nearest-requires
nearest-requires c = rw (read_as (search rules) c.norm-d.ensures) (norm_some c.args.b c.requires.2)

pub returns : goal.returns
returns c =
    let d : to_z w64 (of_z w64 c.norm-d.result) ≡ norm c.args.b = read_as (search rules) c.norm-d.ensures in
    record {
      re = rw (to_z-of_z w64 c.nearest.result (search rules)) (subst₂ (λ n d. Nearest n d c.nearest.result) (read_as (search rules) (re-equal c.numerator-n.ensures)) d c.nearest.ensures);
      im = rw (to_z-of_z w64 c.nearest-2.result (search rules)) (subst₂ (λ n d. Nearest n d c.nearest-2.result) (read_as (search rules) (im-equal c.numerator-n.ensures)) d c.nearest-2.ensures);
    }

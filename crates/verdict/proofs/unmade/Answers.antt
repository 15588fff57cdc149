-- `unmade` meets its contract: N is no c q² where the last leg does not divide as it must.
use Rattle.bernstein.specs.Powers.{power_form}
use Rattle.curve.specs.Steps.{legs_of}
use Rattle.verdict.proofs.Known.{legs_small}
use Rattle.verdict.proofs.Decided.{last_refused}
use Rattle.verdict.proofs.Multiples.{not-squared_moves}
use Rattle.verdict.proofs.unmade.Goals as goal

pub last_end-requires : goal.last_end-requires
last_end-requires c = legs_small (legs_of c.args.legs) c.requires.0

pub returns-then-not-last_end : goal.returns-then-not-last_end
returns-then-not-last_end c =
    let l = c.args.legs in
    let none = last_refused l c.if-not-last_end.ensures in
    (not-squared_moves (power_form (legs_of l)) none, none)

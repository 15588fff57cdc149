-- `join::put` meets its contract.
use borrow.Author.Rules.{rules}
use Rattle.join.specs.Promise.{numbers}
use Rattle.join.proofs.put.Goals as goal

pub returns : goal.returns
unfolding numbers
returns c = search rules

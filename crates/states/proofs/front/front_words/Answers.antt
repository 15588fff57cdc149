-- `front::front_words` meets its contract: the bytes over zeros, and their words.
use mathlib.Core.Path.{◌∙◌}
use Rattle.states.proofs.Pieces.{packed-padded}
use Rattle.states.proofs.front.front_words.Goals as goal

pub returns : goal.returns
returns c = c.words_of.ensures ∙ packed-padded c.args.bytes.now c.put.ensures

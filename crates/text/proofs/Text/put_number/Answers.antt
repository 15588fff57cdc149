-- `Text::put_number` meets its contract: the digits of `io::decimal` are those of the definition.
use Rattle.std.proofs.Common.{◌∙◌}
use Rattle.text.proofs.Decimals.{decimal-is}
use Rattle.text.proofs.Pieces.{writes_same}
use Rattle.text.proofs.Text.put_number.Goals as goal

pub returns : goal.returns
returns c = let d = c.decimal-count in writes_same (d.ensures.digits ∙ decimal-is _ _ d.ensures.len) c.put.ensures

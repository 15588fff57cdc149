-- `take_part` meets its contract: the bytes of the state, and behind them those of the part.
use Rattle.cable.proofs.Arrivals.{bytes-all, part_ok, part_taken}
use Rattle.cable.proofs.take_part.Goals as goal

pub unwrap-requires : goal.unwrap-requires
unwrap-requires c = part_ok c.args.state c.requires.0 c.args.part.now c.feed.result c.feed.ensures c.requires.1

pub returns : goal.returns
returns c = λ s h. part_taken c.args.state c.unwrap.result s c.args.part.now (bytes-all c.args.part.now c.type_inv.part) c.feed.ensures c.unwrap.ensures h

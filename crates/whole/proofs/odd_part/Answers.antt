-- `whole::odd_part` meets its contract: what stands above the zeros at the end is odd.
use Rattle.whole.proofs.Evens.{Zeros, zeros, zeros-end}
use Rattle.whole.proofs.odd_part.Goals as goal

known : (c : goal.Start) → Zeros c.args.n
known c = zeros-end c.args.n c.requires c.ranges.n.fits

pub returns : goal.returns
returns c = record { odd = (known c).odd; power = zeros c.args.n; is = (known c).is }

-- What the loop of `numbers::value` keeps: the number so far, and the digits behind it, are worth what all are worth.
use Rattle.std.proofs.Common.{◌≡◌, ◌<◌, drop}
use Rattle.reading.specs.Numbers.{value_of, value_from}
use Rattle.reading.proofs.numbers.value.Given as goal

abbrev pub invariant-loop-b : goal.invariant-loop-b
invariant-loop-b l = (value_of l.digits ≡ value_from l.n (drop l.b-index l.digits)) × (l.n < 18446744073709551616)

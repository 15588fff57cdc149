-- `numbers::value` meets its contract: with the digit here the number is too large already, and more digits make it no less.
use Rattle.std.proofs.Common.{◌+◌, ◌-◌, ◌*◌, get_or, drop, suc, ap, drop-cons, arith}
use Rattle.reading.specs.Numbers.{value_from}
use Rattle.reading.proofs.Digits.{value_grows}
use Rattle.reading.proofs.numbers.value.Goals as goal

pub returns-then-n-digit : goal.returns-then-n-digit
returns-then-n-digit c =
    let d = c.args.digits.now in
    let n = c.loop-b.n in
    let i = c.loop-b.b-index in
    let worth = value_grows (n * 10 + (get_or d i 0 - 48)) (drop (suc i) d) in
    (c.requires, omega (arith, ap (value_from n) (drop-cons d i 0 c.loop-b-test.true), c.requires.1 i c.loop-b-test.true))

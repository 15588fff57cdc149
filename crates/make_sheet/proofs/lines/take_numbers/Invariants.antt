-- What the loop of `lines::take_numbers` keeps.
use Rattle.std.proofs.Common.{◌≡◌, length}
use Rattle.make_sheet.proofs.Taking.{Passed}
use Rattle.make_sheet.proofs.lines.take_numbers.Given as goal

abbrev pub invariant-loop-word : goal.invariant-loop-word
invariant-loop-word l = (l.word-iterator.text.now ≡ l.text) × Passed l.text (length l.initial.out) l.out l.count l.word-iterator.at

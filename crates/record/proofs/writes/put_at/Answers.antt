-- `writes::put_at` meets its contract: the tests, and then the record over a part of its own length.
use mathlib.Core.Path.{◌≡◌, sym, ap, ◌∙◌}
use mathlib.Core.Bool.{true}
use mathlib.Core.List.{List}
use Prim.Native.Nat.{ℕ, ◌+◌, ◌-◌, ◌≤◌, ◌<◌}
use native.Mathlib.Omega.{arith}
use lib.ListN.{length, take, drop, length-drop}
use lib.Seq.{length-take-le}
use Rattle.record.specs.declared.kinds.Kind.{Kind}
use Rattle.record.specs.declared.kinds.Row.{Row}
use Rattle.record.specs.Numbers.{written}
use Rattle.record.specs.Kinds.{row_of}
use Rattle.record.specs.Records.{all_within}
use Rattle.record.proofs.Table.{row-known}
use Rattle.record.proofs.Putting.{put_back, at_range, at_room, at_done}
use Rattle.record.proofs.writes.put_at.Goals as goal

-- past the test of ROOM: a record of `size` bytes at `at` fits
module _ (bytes : List ℕ) (at size : ℕ) {left : ℕ} (left_is : left ≡ length bytes - at) (fits : size ≤ left) (some : 0 < size) where
  room : at + size ≤ length bytes
  room = omega (arith, left_is, fits, some)

  part-long : length (take (at + size - at) (drop at bytes)) ≡ size
  part-long = length-take-le (at + size - at) (drop at bytes) (omega (arith, length-drop at bytes, room)) ∙ omega arith

-- how long the kind's records are
size_is : {row : Row} (kind : Kind) → row ≡ row_of kind → row.size ≡ (row_of kind).size
size_is kind e = ap (λ (r : Row). r.size) e

some : {row : Row} (kind : Kind) → row ≡ row_of kind → 0 < row.size
some kind e = omega (arith, size_is kind e, (row-known kind).long)

pub returns-then-not-within : goal.returns-then-not-within
returns-then-not-within c = at_range _ _ _ _ (sym c.numbers_within-within.ensures ∙ c.if-not-within.true)

pub returns-then-left-size : goal.returns-then-left-size
returns-then-left-size c =
    let within : all_within c.args.xs.now ≡ true = cc in
    at_room _ _ _ _ within (omega (arith, size_is _ c.row_of-size.ensures, c.saturating_sub-left.ensures, c.if-left-size.true))

pub returns : goal.returns
returns c =
    let bytes = c.args.bytes.now in
    let at = c.args.at in
    let size = c.row_of-size.result.size in
    at_done _ _ _ _ (sym c.numbers_within-within.ensures ∙ c.if-not-within.false) (omega (arith, size_is _ c.row_of-size.ensures, c.saturating_sub-left.ensures, c.if-left-size.false))
    (put_back bytes at size c.put_record.new.bytes (c.put_record.auto.bytes ∙ part-long bytes at size c.saturating_sub-left.ensures c.if-left-size.false (some c.args.kind c.row_of-size.ensures))
    ∙ ap (written bytes at) c.put_record.ensures)

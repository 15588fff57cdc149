-- `writes::put_numbers` meets its contract. Invariant: behind the head, the first i numbers are written.
use mathlib.Core.Bool.{true}
use mathlib.Core.List.{List}
use mathlib.Core.Path.{◌≡◌, refl, sym, ap, ◌∙◌, subst}
use Prim.Native.Nat.{ℕ, ◌+◌, ◌*◌, ◌<◌}
use native.Mathlib.Omega.{arith}
use lib.IntN.{ℤ, pos}
use lib.ListN.{length, get_or}
use mir.Syntax.{w64}
use mir.Val.{to_z, of_z}
use mir.ValLaws.{to_z-of_z}
use Rattle.whole.specs.Number.{Within}
use Rattle.whole.proofs.Bound.{fits_within}
use lib.Dec.{lit<}
use Rattle.curve.specs.Sizes.{coordinate_reach}
use Rattle.record.specs.Numbers.{bits as bits_of, word_bytes}
use Rattle.record.specs.Numbers.{written}
use Rattle.record.specs.Records.{all_within}
use Rattle.record.proofs.Loops.{numbers-at}
use Rattle.record.proofs.Pieces.{words_more, words-all}
use Rattle.record.proofs.writes.put_numbers.Goals as goal

-- the number that is written in this turn
module _ (xs : List ℤ) (i : ℕ) (all : all_within xs ≡ true) (more : i < length xs) where
  x-within : Within coordinate_reach (get_or xs i (pos 0))
  x-within = numbers-at xs i all more

  x-kept : to_z w64 (of_z w64 (get_or xs i (pos 0))) ≡ get_or xs i (pos 0)
  x-kept = to_z-of_z w64 (get_or xs i (pos 0)) (fits_within (lit< tt) x-within)

pub bits-requires : goal.bits-requires
bits-requires c =
    let xs = c.args.xs.now in
    subst (Within coordinate_reach) (sym (x-kept xs c.loop-i.i c.requires.1 c.loop-i-test.true)) (x-within xs c.loop-i.i c.requires.1 c.loop-i-test.true)

pub loop-i-preserved : goal.loop-i-preserved
loop-i-preserved c =
    let xs = c.args.xs.now in
    let v = c.loop-i.invariant in (
      words_more c.args.bytes.now xs c.requires.0 c.loop-i.i (4 + 4 * c.loop-i.i) c.loop-i-test.true refl v.0
          (c.put_word.ensures ∙ ap (λ (w : ℕ). written c.loop-i.bytes (4 + 4 * c.loop-i.i) (word_bytes w)) (c.bits.ensures ∙ ap bits_of (x-kept xs c.loop-i.i c.requires.1 c.loop-i-test.true))),
      c.put_word.auto.bytes ∙ v.1,
    )

pub returns : goal.returns
returns c = c.loop-i.invariant.0 ∙ words-all c.args.bytes.now c.args.xs.now c.requires.0 c.loop-i.i (omega (arith, c.loop-i-test.false, c.loop-i.auto.i-end))

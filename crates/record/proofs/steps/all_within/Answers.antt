-- `steps::all_within` meets its contract. Invariant: what was seen and what is left of the coordinates decide the whole.
use mathlib.Core.Path.{◌≡◌, ap, ◌∙◌, sym}
use mathlib.Core.Bool.{Bool, ◌&&◌}
use mathlib.Core.List.{List}
use Prim.Native.Nat.{ℕ, ◌+◌, ◌-◌, ◌*◌}
use native.Mathlib.Omega.{arith}
use lib.Dec.{leb}
use lib.IntN.{nat_abs}
use Rattle.curve.specs.Sizes.{coordinate_reach}
use Rattle.record.specs.Numbers.{signed_of, coordinates}
use Rattle.record.specs.Records.{all_within}
use Rattle.record.proofs.Signs.{word-within, word_outside}
use Rattle.record.proofs.Loops.{within_none, within_fail, within_pass}
use Rattle.record.proofs.steps.all_within.Goals as goal
use Rattle.record.proofs.steps.all_within.Goals.{then-word_at-gt-SPAN, else-word_at-gt-SPAN}

-- one coordinate further on
next_left : (seen : Bool) (s : List ℕ) (words i : ℕ) → seen && all_within (coordinates (words - (i + 1)) s (4 + 4 * (i + 1))) ≡ seen && all_within (coordinates (words - i - 1) s (4 + 4 * i + 4))
next_left seen s words i =
    let left : words - (i + 1) ≡ words - i - 1 = omega arith in
    let at : 4 + 4 * (i + 1) ≡ 4 + 4 * i + 4 = omega arith in
    λ k. seen && all_within (coordinates (left k) s (at k))

pub loop-i-preserved : goal.loop-i-preserved
loop-i-preserved c =
    let word = c.word_at.ensures in
    let seen = c.loop-i in
    let rest = c.args.rest.now in
    let at = 4 + 4 * seen.i in
    let left = c.args.words - seen.i in
    let read = ap (λ (n : ℕ). leb (nat_abs (signed_of n)) coordinate_reach) (sym word.0) in
    next_left c.if-word_at-gt-SPAN.within rest c.args.words seen.i
    ∙ elim c.if-word_at-gt-SPAN.branch [
      | then-word_at-gt-SPAN w ↦ within_fail seen.within rest at left (omega (arith, c.loop-i-test.true)) (read ∙ word_outside _ word.1 w.if-word_at-gt-SPAN.true) w.within-is
      | else-word_at-gt-SPAN w ↦ within_pass seen.within rest at left (omega (arith, c.loop-i-test.true)) (read ∙ word-within _ word.1 w.if-word_at-gt-SPAN.false) w.within-is
    ]
    ∙ seen.invariant

pub returns : goal.returns
returns c = within_none c.loop-i.within c.args.rest.now (4 + 4 * c.loop-i.i) (c.args.words - c.loop-i.i) (omega (arith, c.loop-i-test.false)) ∙ c.loop-i.invariant

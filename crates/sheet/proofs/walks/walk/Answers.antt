-- `walks::walk` meets its contract. Invariant: where the walk stands (`Passed`), and that nothing is wrong so far.
use mathlib.Core.Path.{◌≡◌, sym, ap, ◌∙◌, subst}
use mathlib.Core.Bool.{Bool, true, false}
use mathlib.Core.List.{List}
use Prim.Native.Nat.{ℕ, ◌+◌, ◌-◌, ◌≤◌, ◌<◌}
use native.Mathlib.Omega.{arith}
use lib.ListN.{length, take, drop, length-drop}
use Rattle.std.specs.Prelude.{Some, None, Ok, Err}
use Rattle.record.specs.declared.kinds.Kind.{Kind}
use Rattle.record.specs.declared.kinds.Row.{Row}
use Rattle.record.specs.declared.steps.Slip.{Slip}
use Rattle.record.specs.Kinds.{row_of}
use Rattle.record.specs.Records.{Step, longest, step_of}
use Rattle.record.proofs.Shown.{fault_near}
use Rattle.sheet.specs.declared.walks.Walked.{Walked}
use Rattle.sheet.specs.Survey.{Ending}
use Rattle.sheet.specs.Walks.{Walks}
use Rattle.sheet.proofs.Passed.{Passed, walked-long, rest-is, sound-here, fault_here, farther, passed_here, passed_past, passed_other}
use Rattle.sheet.proofs.walks.walk.Goals as goal
use Rattle.sheet.proofs.walks.walk.Goals.{then-row+then-w-number, then-row+else-w-number, else-row}

pub returns-then-sheet-gt-LONGEST : goal.returns-then-sheet-gt-LONGEST
returns-then-sheet-gt-LONGEST c = walked-long _ _ _ c.if-sheet-gt-LONGEST.true c.into.ensures

-- the step at the walk's place, and what is known there
module _ {s : List ℕ} {first : Bool} {number : ℕ} {now_first : Bool} {w : Walked} (p : Passed s first number now_first w.end w.curves w.asked × (w.ending ≡ Ok tt)) (short : length s ≤ longest)
    {x : Step} (is : x ≡ step_of now_first (take (length s - w.end) (drop w.end s))) where
  step_is : step_of now_first (drop w.end s) ≡ x
  step_is = sym (is ∙ ap (step_of now_first) (rest-is s w.end))

  ends : x ≡ Ok None → Walks s first number w
  ends e =
      subst (λ (how : Ending). Walks s first number (record { curves = w.curves; end = w.end; asked = w.asked; ending = how })) (sym p.1) (sound-here p.0 short (step_is ∙ e))

  -- a fault lies within the sheet
  within : {slip : Slip} → x ≡ Err slip → w.end + slip.offset ≤ longest
  within e = let near = fault_near _ _ _ _ (step_is ∙ e) in omega (arith, near, length-drop w.end s, short, p.0.room)

  -- what a record's step says there
  module _ {kind : Kind} (e : x ≡ Ok (Some kind)) {row : Row} (row_is : row ≡ row_of kind) where
    record_is : step_of now_first (drop w.end s) ≡ Ok (Some kind)
    record_is = step_is ∙ e

    size_is : row.size ≡ (row_of kind).size
    size_is = ap (λ (r : Row). r.size) row_is

    curve_is : row.curve ≡ (row_of kind).curve
    curve_is = ap (λ (r : Row). r.curve) row_is

    ahead : (0 < row.size) × (w.end + row.size ≤ length s)
    ahead = let f = farther p.0 kind record_is in (omega (arith, f.0, size_is), omega (arith, f.1, size_is))

    smaller : length s - (w.end + row.size) < length s - w.end
    smaller = omega (arith, ahead)

    abbrev Behind : Walked → Type 0
    Behind v = Passed s first number false (v.end + row.size) v.curves v.asked × (v.ending ≡ Ok tt)

    after_it : row.curve ≡ true → w.curves + 1 ≡ number → Behind (record { curves = w.curves + 1; end = w.end; asked = Some (record { place = w.end; length = row.size }); ending = w.ending })
    after_it c n = (rw size_is (passed_here p.0 kind record_is (sym curve_is ∙ c) n), p.1)

    after_another : row.curve ≡ true → (w.curves + 1 ≡ number → ⊥) → Behind (record { curves = w.curves + 1; end = w.end; asked = w.asked; ending = w.ending })
    after_another c n = (rw size_is (passed_past p.0 kind record_is (sym curve_is ∙ c) n), p.1)

    after_none : row.curve ≡ false → Behind w
    after_none c = (rw size_is (passed_other p.0 kind record_is (sym curve_is ∙ c)), p.1)

pub returns-in-Ok-None : goal.returns-in-Ok-None
returns-in-Ok-None c = ends c.loop-w.invariant c.if-sheet-gt-LONGEST.false c.step_of.ensures (c.in-Ok-None.is ∙ ap Ok c.in-Ok-None.field-0-is)

pub overflow_add-place : goal.overflow_add-place
overflow_add-place c = omega (arith, within c.loop-w.invariant c.if-sheet-gt-LONGEST.false c.step_of.ensures c.in-Err.is)

pub overflow_cast-place : goal.overflow_cast-place
overflow_cast-place c = omega (arith, within c.loop-w.invariant c.if-sheet-gt-LONGEST.false c.step_of.ensures c.in-Err.is)

pub returns-in-Err : goal.returns-in-Err
returns-in-Err c =
    let p = c.loop-w.invariant in
    let short = c.if-sheet-gt-LONGEST.false in
    fault_here p.0 short (step_is p short c.step_of.ensures ∙ c.in-Err.is)

-- behind the record, whatever of it is remembered
still_smaller : (s : List ℕ) (w v : Walked) (size : ℕ) → length s - (w.end + size) < length s - w.end → v.end ≡ w.end → length s - (v.end + size) < length s - w.end
still_smaller s w v size less e = omega (arith, less, e)

pub loop-w-smaller : goal.loop-w-smaller
loop-w-smaller c =
    let less = smaller c.loop-w.invariant c.if-sheet-gt-LONGEST.false c.step_of.ensures (c.in-Ok-Some.is ∙ ap Ok c.in-Ok-Some.field-0-is) c.row_of-row.ensures in
    still_smaller c.args.sheet.now c.loop-w.w c.if-row.w _ less
    (elim c.if-row.branch [
      | then-row+then-w-number w ↦ ap (λ (v : Walked). v.end) w.w-is
      | then-row+else-w-number w ↦ ap (λ (v : Walked). v.end) w.w-is
      | else-row w ↦ ap (λ (v : Walked). v.end) w.w-is
    ])

pub loop-w-preserved : goal.loop-w-preserved
loop-w-preserved c =
    let p = c.loop-w.invariant in
    let short = c.if-sheet-gt-LONGEST.false in
    let there = c.in-Ok-Some.is ∙ ap Ok c.in-Ok-Some.field-0-is in
    let behind = Behind p short c.step_of.ensures there c.row_of-row.ensures in
    elim c.if-row.branch [
      | then-row+then-w-number w ↦ subst behind (sym w.w-is) (after_it p short c.step_of.ensures there c.row_of-row.ensures w.if-row.true w.if-w-number.true)
      | then-row+else-w-number w ↦ subst behind (sym w.w-is) (after_another p short c.step_of.ensures there c.row_of-row.ensures w.if-row.true w.if-w-number.false)
      | else-row w ↦ subst behind (sym w.w-is) (after_none p short c.step_of.ensures there c.row_of-row.ensures w.if-row.false)
    ]

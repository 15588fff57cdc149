-- `counting::count_curves` meets its contract. Invariant: the first k curves are counted, and the next record stands at `next`.
use Rattle.std.proofs.Common.{sym, ap, subst, ℕ, arith}
use Rattle.record.specs.declared.kinds.Row.{Row}
use Rattle.sheet.proofs.Ahead.{Ahead, ahead_fits}
use Rattle.sheet.proofs.Places.{first_stands}
use Rattle.sheet.proofs.Next.{next_some, next_read}
use Rattle.totals.specs.Steps.{CountsCurves}
use Rattle.totals.proofs.Walked.{curves-none, curves-next}
use Rattle.totals.proofs.counting.count_curves.Goals as goal

pub loop-k-init : goal.loop-k-init
loop-k-init c = (
  curves-none _ _,
  subst (Ahead c.args.sheet.now c.args.count 0) (sym (ap (λ (r : Row). r.size) c.row_of-next.ensures)) (first_stands c.args.sheet.now c.args.count c.requires),
)

pub slice_bounds-held_curve-count : goal.slice_bounds-held_curve-count
slice_bounds-held_curve-count c = let l = c.loop-k in omega (arith, ahead_fits c.args.sheet.now c.args.count l.k l.next c.loop-k-test.true l.invariant.1)

pub slice_bounds-held_curve-start : goal.slice_bounds-held_curve-start
slice_bounds-held_curve-start c = let l = c.loop-k in omega (arith, ahead_fits c.args.sheet.now c.args.count l.k l.next c.loop-k-test.true l.invariant.1)

pub unwrap-held-requires : goal.unwrap-held-requires
unwrap-held-requires c = let l = c.loop-k in next_some c.args.sheet.now c.args.count l.k l.next c.loop-k-test.true l.invariant.1 c.held_curve.result c.held_curve.ensures

pub overflow_add-next : goal.overflow_add-next
overflow_add-next c =
    let l = c.loop-k in
    let r = next_read c.args.sheet.now c.args.count l.k l.next c.loop-k-test.true l.invariant.1 c.requires c.unwrap-held.result c.held_curve.ensures c.unwrap-held.ensures in
    omega (arith, r.2, r.3)

pub judge-requires : goal.judge-requires
judge-requires c =
    let l = c.loop-k in
    (next_read c.args.sheet.now c.args.count l.k l.next c.loop-k-test.true l.invariant.1 c.requires c.unwrap-held.result c.held_curve.ensures c.unwrap-held.ensures).1

pub loop-k-preserved : goal.loop-k-preserved
loop-k-preserved c =
    let l = c.loop-k in
    let r = next_read c.args.sheet.now c.args.count l.k l.next c.loop-k-test.true l.invariant.1 c.requires c.unwrap-held.result c.held_curve.ensures c.unwrap-held.ensures in
    (curves-next l.k l.invariant.0 r.0 c.judge.ensures c.with_curve-t.ensures, r.4)

pub returns : goal.returns
returns c = let l = c.loop-k in subst (λ (n : ℕ). CountsCurves c.args.start c.args.sheet.now n l.t) (omega arith) l.invariant.0

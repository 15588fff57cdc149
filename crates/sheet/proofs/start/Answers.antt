-- `start` meets its contract: every byte is erased, and the header written over the first ones.
use mathlib.Core.Path.{◌≡◌, sym, ap, ◌∙◌}
use mathlib.Core.List.{List, ◌++◌}
use Prim.Native.Nat.{ℕ, zero, suc, ◌-◌, ◌≤◌}
use native.Mathlib.Omega.{arith}
use lib.ListN.{length, drop, replicate, length-replicate}
use lib.Seq.{length-take-le}
use Rattle.record.specs.declared.kinds.Kind.TheVariants.{Header}
use Rattle.record.specs.declared.kinds.Row.{Row}
use Rattle.record.specs.Kinds.{row_of}
use Rattle.record.specs.Records.{erased}
use Rattle.sheet.proofs.Changed.{start-long, start_narrow, start_done}
use Rattle.sheet.proofs.start.Goals as goal

drop-erased : (k n : ℕ) → drop k (replicate n erased) ≡ replicate (n - k) erased
drop-erased zero n = let z : n ≡ n - 0 = omega arith in ap (λ (m : ℕ). replicate m erased) z
drop-erased (suc k) zero = let z : 0 ≡ 0 - suc k = omega arith in ap (λ (m : ℕ). replicate m erased) z
drop-erased (suc k) (suc n) = let z : n - k ≡ suc n - suc k = omega arith in drop-erased k n ∙ ap (λ (m : ℕ). replicate m erased) z

pub returns-then-sheet-gt-LONGEST : goal.returns-then-sheet-gt-LONGEST
returns-then-sheet-gt-LONGEST c = start-long _ _ c.if-sheet-gt-LONGEST.true c.into.ensures

-- how long a header is
size_is : {row : Row} → row ≡ row_of Header → row.size ≡ (row_of Header).size
size_is e = ap (λ (r : Row). r.size) e

pub returns-then-sheet-size : goal.returns-then-sheet-size
returns-then-sheet-size c =
    start_narrow _ _ c.if-sheet-gt-LONGEST.false (omega (arith, c.if-sheet-size.true, size_is c.row_of-size.ensures)) c.into-then-sheet-size.ensures

-- the header fits into what was erased
fits_now : {s : List ℕ} (t : List ℕ) {n : ℕ} → s ≡ replicate (length t) erased → n ≤ length t → n ≤ length s
fits_now t e l = omega (arith, l, ap length e, length-replicate {A = ℕ} (length t) erased)

pub slice_bounds-put_header-end-2 : goal.slice_bounds-put_header-end-2
slice_bounds-put_header-end-2 c = sym (length-take-le _ _ (fits_now c.args.sheet.now c.erase_all.ensures c.if-sheet-size.false))

pub put_header-requires : goal.put_header-requires
put_header-requires c = length-take-le _ _ (fits_now c.args.sheet.now c.erase_all.ensures c.if-sheet-size.false) ∙ size_is c.row_of-size.ensures

pub returns : goal.returns
returns c =
    let n = length c.args.sheet.now in
    let behind : drop c.row_of-size.result.size c.erase_all.new.sheet ≡ replicate (n - (row_of Header).size) erased =
    (λ i. drop (size_is c.row_of-size.ensures i) (c.erase_all.ensures i)) ∙ drop-erased (row_of Header).size n
    in
    start_done _ _ c.if-sheet-gt-LONGEST.false (omega (arith, c.if-sheet-size.false, size_is c.row_of-size.ensures))
    ((λ i. c.put_header.ensures i ++ behind i))

-- Lent areas after a call.
--   put_all         values that fit are put whole
--   fills_none      an area that was cleared whole holds no answer
--   fills_rest      an area that begins with the answer, and whose rest was lent to `clear`, holds the answer
--   fills_once      an answer leaves one area of a length
use mathlib.Core.Path.{◌≡◌, sym, ap, ap₂, ◌∙◌}
use mathlib.Core.List.{List, [], ◌++◌, append-nil}
use Prim.Native.Nat.{ℕ, ◌-◌, ◌≤◌}
use native.Mathlib.Omega.{arith}
use lib.IntN.{ℤ, pos}
use lib.ListN.{length, length-append, length-replicate, take, drop, replicate}
use lib.Seq.{take_all, take_at, drop-length}
use borrow.Rule.Slice.PartMut.{put_mid, mid_of, Post-is, mid_len}
use Rattle.area.specs.Area.{Cleared, Fills}

pub put_all : {A : Type 0} (area vs : List A) → length vs ≤ length area → take (length area) vs ++ drop (length vs) area ≡ vs ++ drop (length vs) area
put_all {A} area vs l = ap (λ (xs : List A). xs ++ drop (length vs) area) (take_all (length area) vs l)

pub fills_none : (before : List ℤ) {after : List ℤ} → Cleared before after → Fills [] after
fills_none before {after} e =
    let n : length before ≡ length after - 0 = omega (arith, ap length e, length-replicate (length before) (pos 0)) in
    e ∙ ap (λ (n : ℕ). replicate n (pos 0)) n

pub fills_rest : (k : ℕ) (vs tail area ys : List ℤ) → k ≡ length vs → area ≡ vs ++ tail → Cleared (mid_of k (length area - k) area) ys
    → Fills vs (put_mid k (length area - k) area ys)
fills_rest k vs tail area ys e b z = whole ∙ ap (λ (n : ℕ). vs ++ replicate n (pos 0)) left
  where
    room : k ≤ length area
    room = omega (arith, ap length b, length-append vs tail)

    whole : put_mid k (length area - k) area ys ≡ vs ++ replicate (length area - k) (pos 0)
    whole =
        ap₂ ◌++◌ (ap (take k) b ∙ take_at vs tail k (sym e))
        (ap (λ (t : List ℤ). ys ++ t) (Post-is k (length area) area room ∙ drop-length area) ∙ append-nil ys ∙ z
        ∙ ap (λ (n : ℕ). replicate n (pos 0)) (mid_len k (length area) area (omega arith)))

    left : length area - k ≡ length (put_mid k (length area - k) area ys) - length vs
    left = omega (arith, ap length whole, length-append vs (replicate (length area - k) (pos 0)), length-replicate (length area - k) (pos 0))

pub fills_once : (vs us : List ℤ) {x y : List ℤ} → vs ≡ us → length x ≡ length y → Fills vs x → Fills us y → x ≡ y
fills_once vs us e l f g = f ∙ (λ i. e i ++ replicate (l i - length (e i)) (pos 0)) ∙ sym g

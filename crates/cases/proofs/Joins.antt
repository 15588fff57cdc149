-- The document's cases of joins, whole.
--   case-8     from 1 to 1 over 5: (1; −8; 1) and (1; 2; 1)
--   case-9     from 1 to −1 over 1: (1; −4 + 2i; −i) and (1; −4 − 2i; i)
--   student    from 4 to −16 over −13 + 6i: (2; −7 − 13i; 4i) and (2; 1 + i; 4i), both with half steps
use mathlib.Core.Path.{◌≡◌, refl, sym, ap, ap₂, ◌∙◌, subst}
use mathlib.Core.List.{List, [], ◌∷◌, ◌++◌}
use mathlib.Core.Logic.{◌≢◌, inl, inr, ⊎_elim}
use Prim.Native.Nat.{ℕ, suc, ◌*◌, ◌≤◌}
use native.Mathlib.Nat.{mul-le-mul}
use native.Mathlib.Decide.{dec_le}
use native.Mathlib.Omega.{arith}
use lib.IntN.{ℤ, pos, negsuc, nat_abs, ◌+ℤ◌, ◌-ℤ◌, ◌*ℤ◌, *ℤ_comm}
use lib.Signed.{◌<ℤ◌}
use Rattle.whole.specs.Number.{FirstPositive}
use Rattle.whole.proofs.Integers.{*ℤ-domain}
use Rattle.whole.proofs.Linear.{linear, plus_parts, minus_parts, times_parts}
use Rattle.whole.proofs.Squares.{Between, between_no_square}
use Rattle.pair.specs.declared.Pair.{Pair}
use Rattle.pair.specs.Pairs.{pair, one, imaginary, negative, minus, times, multiple, norm}
use Rattle.pair.proofs.Laws.{multiple_cancel, square-size, norm-times}
use Rattle.pair.proofs.Parts.{re-equal, im-equal}
use Rattle.join.specs.Promise.{Triple, Lists, AllJoins}
use Rattle.join.specs.Steps.{triple, shift, fixed, discriminant, centre, Even, HalfSteps, Halved, Centred}
use Rattle.join.proofs.Order.{lists_as, lists_none, lists_one, lists_both}
use Rattle.join.proofs.Centres.{halved_once, signs_centred, centred_signs, halves-below, ends_join, join_ends, ends_below}

positive : {n : ℕ} → pos 0 <ℤ pos (suc n)
positive = omega linear

-- one triple with the half of n for its middle, where the legs beside it are whole, and none where the first of them is not
half_is : (w0 n w2 m : Pair) → multiple (pos 2) m ≡ n → HalfSteps (triple w0 m w2) → Lists (Halved w0 n w2) (triple w0 m w2 ∷ [])
half_is w0 n w2 m e s =
    let h : Halved w0 n w2 (triple w0 m w2) = record { first = refl; last = refl; middle = e; steps = s } in
    lists_one (triple w0 m w2) h (λ w k. halved_once w0 n w2 w (triple w0 m w2) k h)

half-none : (w0 n w2 m : Pair) → multiple (pos 2) m ≡ n → (Even (times w0 m) → ⊥) → Lists (Halved w0 n w2) []
half-none w0 n w2 m e odd = lists_none (λ w k. odd (subst Even (ap₂ times k.first (multiple_cancel 2 (omega arith) (k.middle ∙ sym e))) k.steps.0))

both_are : (w0 D w2 δ : Pair) {us vs : List Triple} → times δ δ ≡ D → FirstPositive δ.re δ.im
    → Lists (Halved w0 (minus (negative δ) (shift w0 w2)) w2) us → Lists (Halved w0 (minus δ (shift w0 w2)) w2) vs → Lists (Centred w0 D w2) (us ++ vs)
both_are w0 D w2 δ e p l k = lists_as (signs_centred w0 D w2 δ e) (centred_signs w0 D w2 δ e) (lists_both (halves-below w0 w2 (shift w0 w2) δ p) l k)

both_none : (w0 D w2 : Pair) → ((δ : Pair) → times δ δ ≢ D) → Lists (Centred w0 D w2) []
both_none w0 D w2 h = lists_none (λ w k. h (centre w0 w.v w2) k.middle)

joins_are : (a z T w0 r : Pair) {us vs : List Triple} → times w0 w0 ≡ a → FirstPositive w0.re w0.im → times r r ≡ z → FirstPositive r.re r.im
    → Lists (Centred w0 (discriminant (fixed a z T) (times w0 (negative r))) (negative r)) us → Lists (Centred w0 (discriminant (fixed a z T) (times w0 r)) r) vs → AllJoins a z T (us ++ vs)
joins_are a z T w0 r first kept last p l k =
    lists_as (ends_join a z T w0 first kept r last) (join_ends a z T w0 first kept r last)
    (lists_both (λ u v h i. ends_below r p u v h.last i.last) l k)

-- ---- 80 is no square: 8² < 80 < 9²
eighty : (n : ℕ) → n * n ≢ 80
eighty n e = by (dec_le n 8)
  where
    by : Dec (n ≤ 8) → ⊥
    by (yes l) = omega (arith, mul-le-mul l l)
    by (no l) = let m : 9 ≤ n = omega arith in omega (arith, mul-le-mul m m)

no_eighty : (δ : Pair) → times δ δ ≢ pair (pos 80) (pos 0)
no_eighty δ e = ⊎_elim left right (*ℤ-domain δ.re δ.im cross)
  where
    x : ℤ
    x = δ.re

    y : ℤ
    y = δ.im

    cross : δ.re *ℤ δ.im ≡ pos 0
    cross = let f : x *ℤ y +ℤ x *ℤ y ≡ pos 0 = ap (λ t. x *ℤ y +ℤ t) (*ℤ_comm x y) ∙ im-equal e in omega (linear, plus_parts (x *ℤ y) (x *ℤ y))

    left : δ.re ≡ pos 0 → ⊥
    left z = let f : pos 0 -ℤ pos (nat_abs y * nat_abs y) ≡ pos 80 = ap₂ (λ s t. s *ℤ s -ℤ t) (sym z) (sym (square-size y)) ∙ re-equal e in omega (linear, minus_parts (pos 0) (pos (nat_abs y * nat_abs y)))

    right : δ.im ≡ pos 0 → ⊥
    right z =
        let f : pos (nat_abs x * nat_abs x) -ℤ pos 0 ≡ pos 80 = ap₂ (λ s t. s -ℤ t *ℤ t) (sym (square-size x)) (sym z) ∙ re-equal e in
        eighty (nat_abs x) (omega (linear, minus_parts (pos (nat_abs x * nat_abs x)) (pos 0)))

pub case-8 : AllJoins one one (pair (pos 5) (pos 0)) (triple one (pair (negsuc 7) (pos 0)) one ∷ triple one (pair (pos 2) (pos 0)) one ∷ [])
case-8 =
    joins_are one one (pair (pos 5) (pos 0)) one one refl (inl positive) refl (inl positive)
    (both_none one _ (negative one) no_eighty)
    (both_are one _ one (pair (pos 10) (pos 0)) refl (inl positive)
    (half_is one _ one (pair (negsuc 7) (pos 0)) refl ((pair (negsuc 3) (pos 0), refl), (pair (negsuc 3) (pos 0), refl)))
    (half_is one _ one (pair (pos 2) (pos 0)) refl ((one, refl), (one, refl))))

-- 1 + i has no half
odd : Even (times one (pair (pos 1) (pos 1))) → ⊥
odd (h, e) = let f = re-equal e in omega (linear, times_parts (pos 2) h.re)

pub case-9 : AllJoins one (negative one) one (triple one (pair (negsuc 3) (pos 2)) (negative imaginary) ∷ triple one (pair (negsuc 3) (negsuc 1)) imaginary ∷ [])
case-9 =
    joins_are one (negative one) one one imaginary refl (inl positive) refl (inr (refl, positive))
    (both_are one _ (negative imaginary) (pair (pos 5) (negsuc 0)) refl (inl positive)
    (half_is one _ (negative imaginary) (pair (negsuc 3) (pos 2)) refl ((pair (negsuc 1) (pos 1), refl), (pair (pos 1) (pos 2), refl)))
    (half-none one _ (negative imaginary) (pair (pos 1) (pos 1)) refl odd))
    (both_are one _ imaginary (pair (pos 5) (pos 1)) refl (inl positive)
    (half_is one _ imaginary (pair (negsuc 3) (negsuc 1)) refl ((pair (negsuc 1) (negsuc 0), refl), (pair (pos 1) (negsuc 1), refl)))
    (half-none one _ imaginary (pair (pos 1) (negsuc 0)) refl odd_below))
  where
    odd_below : Even (times one (pair (pos 1) (negsuc 0))) → ⊥
    odd_below (h, e) = let f = re-equal e in omega (linear, times_parts (pos 2) h.re)

-- a pair whose norm lies between two squares is no square
between_no_pair : {D : Pair} → Between (norm D) → (δ : Pair) → times δ δ ≢ D
between_no_pair b δ e = between_no_square b (norm δ) (ap norm (sym e) ∙ norm-times δ δ)

pub student : AllJoins (pair (pos 4) (pos 0)) (pair (negsuc 15) (pos 0)) (pair (negsuc 12) (pos 6))
    (triple (pair (pos 2) (pos 0)) (pair (negsuc 6) (negsuc 12)) (pair (pos 0) (pos 4)) ∷ triple (pair (pos 2) (pos 0)) (pair (pos 1) (pos 1)) (pair (pos 0) (pos 4)) ∷ [])
student =
    let two = pair (pos 2) (pos 0) in
    let four = pair (pos 0) (pos 4) in
    joins_are _ _ (pair (negsuc 12) (pos 6)) two four refl (inl positive) refl (inr (refl, positive))
    (both_none two _ (negative four) (between_no_pair (record { k = 146; n = 21520; is = refl; above = omega arith; below = omega arith })))
    (both_are two _ four (pair (pos 8) (pos 14)) refl (inl positive)
    (half_is two _ four (pair (negsuc 6) (negsuc 12)) refl ((pair (negsuc 6) (negsuc 12), refl), (pair (pos 26) (negsuc 13), refl)))
    (half_is two _ four (pair (pos 1) (pos 1)) refl ((pair (pos 1) (pos 1), refl), (pair (negsuc 1) (pos 2), refl))))

-- Quotients by way of 2^42.
--   cut_exact            n (2^42 / d + 1) over 2^42, cut down, is n / d, where d divides n and n is at most 2^41
-- With r = 2^42 / d cut down and ρ what that leaves over, `rounded n d` is q with q 2^42 + f = n r + 2^41, so that
-- 2^42 (n − q d) = n ρ + d (f − 2^41).
--   scaled-within        n r fits, where n is at most 2^20 d
--   rounded_eighths      q leaves at most five eighths of d over, where n is at most 2^39
--   rounded_pair          the parts of a / b so
--   nearest-near, rounded-near      a nearest quotient is near enough for Euclid's loop, and a rounded one where |b|² is at most 2^36
use mathlib.Core.Path.{◌≡◌, refl, sym, ap, ◌∙◌, subst}
use mathlib.Core.List.{[], ◌∷◌}
use mathlib.Core.Logic.{◌≢◌}
use Prim.Native.Nat.{ℕ, zero, suc, ◌+◌, ◌*◌, ◌-◌, ◌/◌, ◌%◌, ◌^◌, ◌≤◌, ◌<◌}
use native.Mathlib.Nat.{le_refl, mul-le-mul, div-add-mod', div-mul-le_self, mod-lt}
use native.Mathlib.Decide.{dec_lt}
use native.Mathlib.Omega.{arith}
use lib.Dec.{lit≤, lit<}
use lib.IntN.{ℤ, pos, negsuc, neg_ℤ, nat_abs, ◌+ℤ◌, ◌-ℤ◌, ◌*ℤ◌}
use lib.Signed.{quot_z, rem_z, shr_z, ◌<ℤ◌}
use Rattle.whole.specs.Number.{Within}
use Rattle.whole.proofs.Integers.{abs_negative, abs_times}
use Rattle.whole.proofs.Wholes.{readℤ, atomsℤ, ringℤ, equal_by, zero-equal, zero-times, zero-plus}
use Rattle.whole.proofs.Linear.{linear, plus_parts, minus_parts, times_parts, abs_parts, one-part}
use Rattle.whole.proofs.Bound.{abs_plus}
use Rattle.whole.proofs.Division.{quotient-rest, abs_quotient, rest_below}
use Rattle.pair.specs.declared.Pair.{Pair}
use Rattle.pair.specs.Pairs.{pair, pairs, minus, times, conjugate, norm, PartsWithin}
use Rattle.pair.proofs.Parts.{wider, conjugate-within, times-within}
use Rattle.pair.proofs.Laws.{norm_some}
use Rattle.divisor.specs.Promise.{NearestPair}
use Rattle.divisor.specs.Steps.{rounded, Near}
use Rattle.divisor.proofs.Division.{norm_abs, norm_positive, over-within, over_left, left-size, part-within, root-within, nearest-within, nearest_less, nearest-rest-within}

abbrev S : ℕ
S = 2 ^ 42

abbrev H : ℕ
H = 2 ^ 41

-- what a shift down leaves over
shift_rest : (z : ℤ) (m : ℕ) → 0 < m → (f : ℕ) × (f < m) × (shr_z z m *ℤ pos m +ℤ pos f ≡ z)
shift_rest (pos a) m h = (a % m, mod-lt a h, ap pos (div-add-mod' a m))
shift_rest (negsuc a) m h =
    let l = mod-lt a h in
    let f = m - suc (a % m) in
    let q = negsuc (a / m) in
    (f, omega arith, omega (linear, plus_parts (q *ℤ pos m) (pos f), times_parts q (pos m), div-add-mod' a m))

-- ---- exact quotients
-- D m (r + 1) = m S + m g, where r D + ρ = S and ρ + g = D
cut_size : (D m : ℕ) → 0 < D → D * m ≤ H → D * m * (S / D + 1) / S ≡ m
cut_size D m p h =
    let g = D - S % D in
    let k : S % D + g ≡ D = (let l = mod-lt S p in omega arith) in
    let t = ap (λ (n : ℕ). m * n) k in
    let e : D * m * (S / D + 1) ≡ m * S + m * g = omega (arith, t, ap (λ (n : ℕ). m * n) (div-add-mod' S D)) in
    rw e (omega (arith, t))

negative-times : (x y : ℤ) → neg_ℤ x *ℤ y ≡ neg_ℤ (x *ℤ y)
negative-times x y = atomsℤ (x ∷ y ∷ []) (λ ν e. simp (e 0, e 1, readℤ) (ringℤ ν _ _ tt))

quotient-negative : (n : ℕ) → quot_z (neg_ℤ (pos n)) (pos S) ≡ neg_ℤ (pos (n / S))
quotient-negative zero = refl
quotient-negative (suc n) = refl

pub cut_exact : (d k : ℤ) → pos 0 <ℤ d → Within H (d *ℤ k) → quot_z (d *ℤ k *ℤ (quot_z (pos S) d +ℤ pos 1)) (pos S) ≡ k
cut_exact (pos D) (pos m) p h = ap pos (cut_size D m (omega linear) h.size)
cut_exact (pos D) (negsuc m) p h =
    ap (λ x. quot_z x (pos S)) (negative-times (pos (D * suc m)) (pos (S / D + 1)))
    ∙ quotient-negative (D * suc m * (S / D + 1))
    ∙ ap (λ (n : ℕ). neg_ℤ (pos n)) (cut_size D (suc m) (omega linear) (omega (arith, h.size, abs_negative (pos (D * suc m)))))
cut_exact (negsuc D) k p h = absurd (omega linear)

-- ---- rounded quotients
-- s = r d + ρ and q s + f = n r + h give s (n − q d) = n ρ + d (f − h)
left_over : (s r d ρ q f n h : ℤ) → r *ℤ d +ℤ ρ ≡ s → q *ℤ s +ℤ f ≡ n *ℤ r +ℤ h → s *ℤ (n -ℤ q *ℤ d) ≡ n *ℤ ρ +ℤ d *ℤ (f -ℤ h)
left_over s r d ρ q f n h e g =
    equal_by (zero-plus (zero-times (neg_ℤ n) (zero-equal e)) (zero-times (neg_ℤ d) (zero-equal g)))
    (atomsℤ (s ∷ r ∷ d ∷ ρ ∷ q ∷ f ∷ n ∷ h ∷ []) (λ ν e. simp (e 0, e 1, e 2, e 3, e 4, e 5, e 6, e 7, readℤ) (ringℤ ν _ _ tt)))

module _ (d : ℤ) (p : pos 0 <ℤ d) where
  abbrev r : ℤ
  r = quot_z (pos S) d

  abbrev ρ : ℤ
  ρ = rem_z (pos S) d

  below : nat_abs ρ < nat_abs d
  below = rest_below (pos S) d (λ e. omega linear)

  pub scaled-within : (n : ℤ) → Within (2 ^ 20 * nat_abs d) n → Within (2 ^ 62) (n *ℤ r)
  scaled-within n h =
      let l : nat_abs r * nat_abs d ≤ S = subst (λ (k : ℕ). k * nat_abs d ≤ S) (sym (abs_quotient (pos S) d)) (div-mul-le_self S (nat_abs d)) in
      record { size = omega (arith, abs_times n r, mul-le-mul h.size (le_refl (nat_abs r))) }

  -- f − 2^41, where f is what the shift leaves over
  module _ (n : ℤ) where
    abbrev over : (f : ℕ) × (f < S) × (rounded n d *ℤ pos S +ℤ pos f ≡ n *ℤ r +ℤ pos H)
    over = shift_rest (n *ℤ r +ℤ pos H) S (lit< tt)

    abbrev off : ℤ
    off = pos over.0 -ℤ pos H

    off-size : nat_abs off ≤ H
    off-size = let l = over.1 in omega (linear, minus_parts (pos over.0) (pos H), abs_parts off, one-part off)

  pub rounded_eighths : (n : ℤ) → Within (2 ^ 39) n → 8 * nat_abs (n -ℤ rounded n d *ℤ d) ≤ 5 * nat_abs d
  rounded_eighths n h =
      let g = left_over (pos S) r d ρ (rounded n d) (pos (over n).0) n (pos H) (quotient-rest (pos S) d) (over n).2 in
      let left = n -ℤ rounded n d *ℤ d in
      omega (
        arith,
        sym (abs_times (pos S) left),
        ap nat_abs g,
        abs_plus (n *ℤ ρ) (d *ℤ off n),
        abs_times n ρ,
        abs_times d (off n),
        mul-le-mul h.size below,
        mul-le-mul (le_refl (nat_abs d)) (off-size n),
      )

-- ---- pairs
-- a conj(b) over |b|²
abbrev pub rounded_pair : Pair → Pair → Pair
rounded_pair a b = pair (rounded (times a (conjugate b)).re (norm b)) (rounded (times a (conjugate b)).im (norm b))

-- n d = x² + y², where 8 x and 8 y are at most 5 d
eighths_less : (n d x y : ℕ) → 0 < d → 8 * x ≤ 5 * d → 8 * y ≤ 5 * d → n * d ≡ x * x + y * y → n < d
eighths_less n d x y z h k e = by (dec_lt n d)
  where
    by : Dec (n < d) → n < d
    by (yes l) = l
    by (no l) =
        let m : d ≤ n = omega arith in
        absurd (omega (arith, mul-le-mul h h, mul-le-mul k k, mul-le-mul m (le_refl d), mul-le-mul z z))

pub nearest-near : {a b q : Pair} → PartsWithin (2 ^ 20) a → PartsWithin (2 ^ 20) b → b ≢ pairs.none → NearestPair a b q → Near a b q
nearest-near h k n l = record { small = nearest-within h n l; less = nearest_less n l; rest_small = nearest-rest-within k n l }

pub rounded-near : {a b : Pair} → PartsWithin (2 ^ 20) a → b ≢ pairs.none → nat_abs (norm b) ≤ 2 ^ 36 → Near a b (rounded_pair a b)
rounded-near {a} {b} h n l = record { small = record { re = part o.re close.0; im = part o.im close.1 }; less = less; rest_small = wider (lit≤ tt) (root-within {B = 2 ^ 18} (omega (arith, less))) }
  where
    q : Pair
    q = rounded_pair a b

    o : PartsWithin (2 ^ 20 * nat_abs (norm b)) (times a (conjugate b))
    o = over-within b h

    t : PartsWithin (2 ^ 39) (times a (conjugate b))
    t = let k : PartsWithin (2 ^ 18) b = root-within l in wider (lit≤ tt) (times-within h (conjugate-within k))

    close : (8 * nat_abs (over_left a b q).re ≤ 5 * nat_abs (norm b)) × (8 * nat_abs (over_left a b q).im ≤ 5 * nat_abs (norm b))
    close = (rounded_eighths (norm b) (norm_some b n) _ t.re, rounded_eighths (norm b) (norm_some b n) _ t.im)

    less : nat_abs (norm (minus a (times q b))) < nat_abs (norm b)
    less = eighths_less _ (nat_abs (norm b)) _ _ (norm_positive b n) close.0 close.1 (left-size a b q ∙ norm_abs (over_left a b q))

    part : {x y : ℤ} → Within (2 ^ 20 * nat_abs (norm b)) x → 8 * nat_abs (x -ℤ y *ℤ norm b) ≤ 5 * nat_abs (norm b) → Within (2 ^ 20) y
    part w c = part-within (norm b) w (omega (arith, c, norm_positive b n))

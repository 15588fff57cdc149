-- The candidate for a root of a pair z = x + iy. A root p + iq has p² + q² = n, where n² = x² + y², p² − q² = x and 2 p q = y.
-- So p² and q² are the halves of n + x and n − x, and q is y over 2 p where p is not 0.
--   candidate-kept          a candidate that is a root has the sign that is kept
-- Of the whole root of a half:
--   half_small, half_nonneg     it is small where the number is, and not negative
--   half-found              it is k where the half is k²
-- Of n:
--   norm-root_small         it is small where z is
--   plus_nonneg, minus_nonneg         n + x and n − x are not negative
--   half-plus, half-minus             their halves are p² and q²
-- Of a root p + iq:
--   root_of_zero            where p = 0, i |q| is a root
--   quotient_nonneg         a quotient is not negative where y is not and the divisor is positive
--   root_by_quotient        where p is not 0, |p| and the quotient of y by 2 |p| are the parts of a root
use mathlib.Core.Path.{◌≡◌, refl, sym, ap, ap₂, ◌∙◌}
use mathlib.Core.List.{[], ◌∷◌}
use mathlib.Core.Logic.{◌≢◌, ◌⊎◌, inl, inr}
use Prim.Native.Nat.{ℕ, ◌+◌, ◌*◌, ◌/◌, ◌^◌, ◌≤◌}
use native.Mathlib.Nat.{mul-le-mul}
use native.Mathlib.Omega.{arith}
use lib.IntN.{ℤ, pos, negsuc, neg_ℤ, nat_abs, ◌+ℤ◌, ◌-ℤ◌, ◌*ℤ◌, *ℤ-zero, zero-*ℤ}
use lib.Signed.{quot_z, ◌≤ℤ◌, ◌<ℤ◌}
use Rattle.whole.specs.Number.{Within, FirstPositive}
use Rattle.whole.proofs.Squares.{root_below, root_is}
use Rattle.whole.proofs.Wholes.{readℤ, read_pos, atomsℤ, ringℤ, *ℤ-cancel}
use Rattle.whole.proofs.Linear.{linear, plus_parts, minus_parts, abs_parts}
use Rattle.whole.proofs.Order.{positive_times, nonneg_is, compare}
use Rattle.whole.proofs.Division.{rest-zero, zero_rest}
use Rattle.pair.specs.declared.Pair.{Pair}
use Rattle.pair.specs.Pairs.{pair, pairs, negative, times, norm, PartsWithin}
use Rattle.pair.proofs.Parts.{pair-equal, im-equal}
use Rattle.pair.proofs.Laws.{norm-times, square-size, root_le, root-equal, norm-size}
use Rattle.divisor.specs.Steps.{HalfRoot, Candidate}
use Rattle.divisor.specs.Promise.{KeptRoot}

-- the second part of a square is 0 where the first part of the root is
crossed-zero : {p : ℤ} (q : ℤ) → p ≡ pos 0 → p *ℤ q +ℤ q *ℤ p ≡ pos 0
crossed-zero q e = ap (λ p. p *ℤ q +ℤ q *ℤ p) e ∙ ap₂ ◌+ℤ◌ (zero-*ℤ q) (*ℤ-zero q)

-- ---- the sign of a candidate
pub candidate-kept : {z w : Pair} → Candidate z w → times w w ≡ z → KeptRoot z w
candidate-kept {z} {w} h e = record { squared = e; sign = λ n. by n (compare w.re (pos 0)) }
  where
    by : w ≢ pairs.none → (w.re ≤ℤ pos 0) ⊎ (pos 0 <ℤ w.re) → FirstPositive w.re w.im
    by n (inr p) = inl p
    by n (inl l) = inr (re, second (compare w.im (pos 0)))
      where
        re : w.re ≡ pos 0
        re = let f = h.first in omega linear

        none : z.im ≡ pos 0
        none = sym (im-equal e) ∙ crossed-zero w.im re

        second : (w.im ≤ℤ pos 0) ⊎ (pos 0 <ℤ w.im) → pos 0 <ℤ w.im
        second (inl m) = let f = h.second (omega (linear, none)) in absurd (n (pair-equal re (omega linear)))
        second (inr p) = p

-- ---- the whole root of a half
pub half_small : {s r : ℤ} → Within (2 ^ 32) s → HalfRoot s r → Within (2 ^ 16) r
half_small w h = record { size = omega (arith, ap nat_abs h.is, root_below h.found (2 ^ 16) (omega (arith, w.size))) }

pub half_nonneg : {s r : ℤ} → HalfRoot s r → pos 0 ≤ℤ r
half_nonneg h = omega (linear, h.is)

pub half-found : {s r : ℤ} → HalfRoot s r → (k : ℕ) → k * k ≡ nat_abs s / 2 → r ≡ pos k
half-found h k e = h.is ∙ ap pos (root_is h.found k e)

-- ---- halves
module _ (z : Pair) (n : ℕ) (e : pos (n * n) ≡ norm z) where
  abbrev X : ℕ
  X = nat_abs z.re

  abbrev Y : ℕ
  Y = nat_abs z.im

  sizes : n * n ≡ X * X + Y * Y
  sizes = ap nat_abs (e ∙ norm-size z)

  pub norm-root_small : PartsWithin (2 ^ 30) z → Within (2 ^ 31) (pos n)
  norm-root_small h = record { size = root_le n (2 ^ 31) (omega (arith, sizes, mul-le-mul h.re.size h.re.size, mul-le-mul h.im.size h.im.size)) }

  part_le : X ≤ n
  part_le = root_le X n (omega (arith, sizes))

  pub plus_nonneg : pos 0 ≤ℤ (pos n +ℤ z.re)
  plus_nonneg = omega (linear, part_le, plus_parts (pos n) z.re, abs_parts z.re)

  pub minus_nonneg : pos 0 ≤ℤ (pos n -ℤ z.re)
  minus_nonneg = omega (linear, part_le, minus_parts (pos n) z.re, abs_parts z.re)

  module _ (r : Pair) (f : times r r ≡ z) where
    abbrev P : ℕ
    P = nat_abs r.re

    abbrev Q : ℕ
    Q = nat_abs r.im

    squares : n * n ≡ (P * P + Q * Q) * (P * P + Q * Q)
    squares = ap nat_abs (e ∙ ap norm (sym f) ∙ norm-times r r ∙ ap₂ ◌*ℤ◌ (norm-size r) (norm-size r))

    norm-is : pos n ≡ norm r
    norm-is = ap pos (root-equal n (P * P + Q * Q) squares) ∙ sym (norm-size r)

    pub half-plus : nat_abs (pos n +ℤ z.re) / 2 ≡ P * P
    half-plus =
        let d : nat_abs (pos n +ℤ z.re) ≡ P * P + P * P = ap nat_abs (ap₂ ◌+ℤ◌ norm-is (ap (λ w. w.re) (sym f)) ∙ twice r.re r.im ∙ ap₂ ◌+ℤ◌ (square-size r.re) (square-size r.re)) in omega arith
      where
        twice : (p q : ℤ) → p *ℤ p +ℤ q *ℤ q +ℤ (p *ℤ p -ℤ q *ℤ q) ≡ p *ℤ p +ℤ p *ℤ p
        twice p q = atomsℤ (p ∷ q ∷ []) (λ ρ e. simp (e 0, e 1, readℤ) (ringℤ ρ _ _ tt))

    pub half-minus : nat_abs (pos n -ℤ z.re) / 2 ≡ Q * Q
    half-minus =
        let d : nat_abs (pos n -ℤ z.re) ≡ Q * Q + Q * Q = ap nat_abs (ap₂ ◌-ℤ◌ norm-is (ap (λ w. w.re) (sym f)) ∙ twice r.re r.im ∙ ap₂ ◌+ℤ◌ (square-size r.im) (square-size r.im)) in omega arith
      where
        twice : (p q : ℤ) → p *ℤ p +ℤ q *ℤ q -ℤ (p *ℤ p -ℤ q *ℤ q) ≡ q *ℤ q +ℤ q *ℤ q
        twice p q = atomsℤ (p ∷ q ∷ []) (λ ρ e. simp (e 0, e 1, readℤ) (ringℤ ρ _ _ tt))

-- ---- the second part of a root
pub root_of_zero : (r : Pair) {v : ℤ} → r.re ≡ pos 0 → v ≡ pos (nat_abs r.im) → times (pair (pos 0) v) (pair (pos 0) v) ≡ times r r
root_of_zero r {v} p q =
    ap (λ (t : ℤ). times (pair t v) (pair t v)) (sym p)
    ∙ pair-equal (ap (λ t. r.re *ℤ r.re -ℤ t) (ap (λ m. m *ℤ m) q ∙ sym (square-size r.im))) (crossed-zero v p ∙ sym (crossed-zero r.im p))

pub quotient_nonneg : {x d : ℤ} → pos 0 ≤ℤ x → pos 0 <ℤ d → pos 0 ≤ℤ quot_z x d
quotient_nonneg {x = pos m} {d = pos n} h k = omega linear
quotient_nonneg {x = pos m} {d = negsuc n} h k = absurd k.lt
quotient_nonneg {x = negsuc m} h k = absurd h.le

exact_quotient : {x d : ℤ} (q : ℤ) → d ≢ pos 0 → d *ℤ q ≡ x → quot_z x d ≡ q
exact_quotient {x} {d} q n e = *ℤ-cancel d n (zero_rest x d (rest-zero x d (record { factor = q; is = e })) ∙ sym e)

-- r or −r, whose first part is not negative
upright : (r : Pair) → (w : Pair) × (w.re ≡ pos (nat_abs r.re)) × (times w w ≡ times r r)
upright r = by (compare (pos 0) r.re)
  where
    turned : (t : ℤ) → t <ℤ pos 0 → neg_ℤ t ≡ pos (nat_abs t)
    turned (pos n) h = absurd (omega linear)
    turned (negsuc n) h = refl

    squared : (p q : ℤ) → times (pair (neg_ℤ p) (neg_ℤ q)) (pair (neg_ℤ p) (neg_ℤ q)) ≡ times (pair p q) (pair p q)
    squared p q =
        pair-equal
        (atomsℤ (p ∷ q ∷ []) (λ ρ e. simp (e 0, e 1, readℤ) (ringℤ ρ _ _ tt)))
        (atomsℤ (p ∷ q ∷ []) (λ ρ e. simp (e 0, e 1, readℤ) (ringℤ ρ _ _ tt)))

    by : (pos 0 ≤ℤ r.re) ⊎ (r.re <ℤ pos 0) → (w : Pair) × (w.re ≡ pos (nat_abs r.re)) × (times w w ≡ times r r)
    by (inl h) = (r, nonneg_is h, refl)
    by (inr h) = (negative r, turned r.re h, squared r.re r.im)

pub root_by_quotient : {z : Pair} {u : ℤ} (r : Pair) → times r r ≡ z → u ≡ pos (nat_abs r.re) → pos 0 <ℤ u
    → times (pair u (quot_z z.im (u *ℤ pos 2))) (pair u (quot_z z.im (u *ℤ pos 2))) ≡ z
root_by_quotient {z} {u} r e p h =
    let (w, a, f) = upright r in
    let first : w.re ≡ u = a ∙ sym p in
    let y : u *ℤ pos 2 *ℤ w.im ≡ z.im = doubled u w.im ∙ ap (λ (t : ℤ). t *ℤ w.im +ℤ w.im *ℤ t) (sym first) ∙ im-equal (f ∙ e) in
    let n : u *ℤ pos 2 ≢ pos 0 = (λ z. let k = positive_times {t = pos 2} h (omega linear) in omega (linear, k, z)) in
    ap (λ t. times t t) (pair-equal (sym first) (exact_quotient w.im n y)) ∙ f ∙ e
  where
    doubled : (p q : ℤ) → p *ℤ pos 2 *ℤ q ≡ p *ℤ q +ℤ q *ℤ p
    doubled p q = atomsℤ (p ∷ q ∷ []) (λ ρ e. simp (e 0, e 1, readℤ, read_pos ρ 2) (ringℤ ρ _ _ tt))

-- Division of pairs: a / b is a conj(b) over |b|².
--   divides_over, over_divides       b q = a, and |b|² q = a conj(b) part by part, say the same
--   norm_abs, norm_positive       the size of a norm is a sum of squares, and above 0 but at 0
--   parts_below-norm       no part of a pair is larger than its norm
--   over-within            the parts of a conj(b) are at most B |b|², where those of a are at most B
--   over-norm              a conj(b) over |b|² is a over b
--   undivided_none         what is n times a pair is divided by n
--   share_once, over-whole_once, quotient_once       an exact quotient has one answer
--   quotient-within        it is no larger than a
--   divisor_within         a divisor of a pair other than 0 is no larger than that pair
--   norm-within            a norm is at most twice the square of the size of the parts
--   nearest_once           a nearest quotient has one answer
--   part-within            a quotient of x / d that leaves less than d over is no larger than x / d allows
--   nearest-within         a nearest quotient is no larger than a
--   over_left, left-size   |a − q b|² |b|² = |a conj(b) − |b|² q|²
--   nearest-half           it leaves at most half over: 2 |a − q b|² ≤ |b|²
--   nearest_less, nearest-rest-within      so what it leaves over has a smaller norm than b, and is no larger
--   back_sum               t + (a − t) = a
--   root-within            the parts of a pair are at most the root of its norm
use Rattle.std.specs.Prelude.{Option, Some, None}
use mathlib.Core.Path.{◌≡◌, sym, ap, ◌∙◌}
use mathlib.Core.List.{[], ◌∷◌}
use mathlib.Core.Logic.{◌≢◌, ◌↔◌, inl, inr}
use Prim.Native.Nat.{ℕ, zero, suc, ◌+◌, ◌*◌, ◌≤◌, ◌<◌}
use native.Mathlib.Nat.{le_refl, mul-le-mul, le_of_mul-le-mul_left, le_of_mul-le-mul_right, pos_of_ne-zero}
use native.Mathlib.Decide.{dec_le}
use native.Mathlib.Omega.{arith}
use lib.IntN.{ℤ, pos, neg_ℤ, nat_abs, ◌+ℤ◌, ◌-ℤ◌, ◌*ℤ◌, +ℤ_comm}
use lib.Signed.{◌≤ℤ◌}
use Rattle.whole.specs.Number.{Within}
use Rattle.whole.specs.Coefficients.{Divides}
use Rattle.whole.specs.Promise.{Nearest}
use Rattle.whole.proofs.Integers.{abs_negative, abs_times, abs_zero}
use Rattle.whole.proofs.Ring.{times_none}
use Rattle.whole.proofs.Wholes.{readℤ, atomsℤ, ringℤ, equal_by, zero-equal, zero-times, zero-plus, *ℤ-cancel}
use Rattle.whole.proofs.Linear.{linear, minus_parts, times_parts, abs_parts, one-part}
use Rattle.whole.proofs.Bound.{abs_plus}
use Rattle.whole.proofs.Division.{nearest_close}
use Rattle.whole.proofs.Options.{option_once}
use Rattle.whole.proofs.Division as whole
use Rattle.poly.proofs.Domain.{times_cancel}
use Rattle.pair.specs.declared.Pair.{Pair}
use Rattle.pair.specs.Pairs.{pair, pairs, plus, minus, times, multiple, conjugate, norm, PartsWithin}
use Rattle.pair.proofs.Parts.{pair-equal, re-equal, im-equal}
use Rattle.pair.proofs.Laws.{times_comm, pairs_ring, pairs_domain, root_le, norm-size, norm_nonneg, norm-zero, norm_some}
use Rattle.divisor.specs.Promise.{IsPairQuotient, Undivided, IsOverWhole, NearestPair}

-- ---- identities, for a = x + iy, b = u + iv and q = p + iq
module _ (x y u v p q : ℤ) where
  abbrev d : ℤ
  d = u *ℤ u +ℤ v *ℤ v

  abbrev over_re : ℤ
  over_re = x *ℤ u -ℤ y *ℤ neg_ℤ v

  abbrev over_im : ℤ
  over_im = x *ℤ neg_ℤ v +ℤ y *ℤ u

  -- |b|² (b q) = b (a conj(b)) = |b|² a
  back-re : d *ℤ p ≡ over_re → d *ℤ q ≡ over_im → d *ℤ (u *ℤ p -ℤ v *ℤ q) ≡ d *ℤ x
  back-re e f =
      equal_by (zero-plus (zero-times u (zero-equal e)) (zero-times (neg_ℤ v) (zero-equal f)))
      (atomsℤ (x ∷ y ∷ u ∷ v ∷ p ∷ q ∷ []) (λ ρ e. simp (e 0, e 1, e 2, e 3, e 4, e 5, readℤ) (ringℤ ρ _ _ tt)))

  back-im : d *ℤ p ≡ over_re → d *ℤ q ≡ over_im → d *ℤ (u *ℤ q +ℤ v *ℤ p) ≡ d *ℤ y
  back-im e f =
      equal_by (zero-plus (zero-times v (zero-equal e)) (zero-times u (zero-equal f)))
      (atomsℤ (x ∷ y ∷ u ∷ v ∷ p ∷ q ∷ []) (λ ρ e. simp (e 0, e 1, e 2, e 3, e 4, e 5, readℤ) (ringℤ ρ _ _ tt)))

  -- |a − q b|² |b|² = |a conj(b) − |b|² q|²
  over-rest : norm (pair (x -ℤ (p *ℤ u -ℤ q *ℤ v)) (y -ℤ (p *ℤ v +ℤ q *ℤ u))) *ℤ d ≡ norm (pair (over_re -ℤ p *ℤ d) (over_im -ℤ q *ℤ d))
  over-rest = atomsℤ (x ∷ y ∷ u ∷ v ∷ p ∷ q ∷ []) (λ ρ e. simp (e 0, e 1, e 2, e 3, e 4, e 5, readℤ) (ringℤ ρ _ _ tt))

-- (b q) conj(b) = |b|² q
there_re : (u v p q : ℤ) → (u *ℤ p -ℤ v *ℤ q) *ℤ u -ℤ (u *ℤ q +ℤ v *ℤ p) *ℤ neg_ℤ v ≡ (u *ℤ u +ℤ v *ℤ v) *ℤ p
there_re u v p q = atomsℤ (u ∷ v ∷ p ∷ q ∷ []) (λ ρ e. simp (e 0, e 1, e 2, e 3, readℤ) (ringℤ ρ _ _ tt))

there_im : (u v p q : ℤ) → (u *ℤ p -ℤ v *ℤ q) *ℤ neg_ℤ v +ℤ (u *ℤ q +ℤ v *ℤ p) *ℤ u ≡ (u *ℤ u +ℤ v *ℤ v) *ℤ q
there_im u v p q = atomsℤ (u ∷ v ∷ p ∷ q ∷ []) (λ ρ e. simp (e 0, e 1, e 2, e 3, readℤ) (ringℤ ρ _ _ tt))

-- ---- the parts of a conj(b) are at most B |b|², where a's are at most B
pub norm_abs : (b : Pair) → nat_abs (norm b) ≡ nat_abs b.re * nat_abs b.re + nat_abs b.im * nat_abs b.im
norm_abs b = ap nat_abs (norm-size b)

square_above : (n : ℕ) → n ≤ n * n
square_above zero = omega arith
square_above (suc n) = omega arith

pub parts_below-norm : (a : Pair) → PartsWithin (nat_abs (norm a)) a
parts_below-norm a = record {
  re = record { size = omega (arith, norm_abs a, square_above (nat_abs a.re)) };
  im = record { size = omega (arith, norm_abs a, square_above (nat_abs a.im)) };
}

-- |p + r| ≤ B (u² + v²), where |p| = x u and |r| = y v, and x and y are at most B
sum-within : {B x y : ℕ} (u v : ℕ) (p r : ℤ) → nat_abs p ≡ x * u → nat_abs r ≡ y * v → x ≤ B → y ≤ B → Within (B * (u * u + v * v)) (p +ℤ r)
sum-within u v p r e f h k = record { size = omega (arith, abs_plus p r, mul-le-mul h (square_above u), mul-le-mul k (square_above v)) }

abs_times-negative : (y v : ℤ) → nat_abs (y *ℤ neg_ℤ v) ≡ nat_abs y * nat_abs v
abs_times-negative y v = abs_times y (neg_ℤ v) ∙ ap (λ (n : ℕ). nat_abs y * n) (abs_negative v)

pub over-within : {B : ℕ} {a : Pair} (b : Pair) → PartsWithin B a → PartsWithin (B * nat_abs (norm b)) (times a (conjugate b))
over-within {a} b h =
    let x = a.re in
    let y = a.im in
    let u = b.re in
    let v = b.im in
    rw (norm_abs b)
    (record {
      re = sum-within (nat_abs u) (nat_abs v) (x *ℤ u) (neg_ℤ (y *ℤ neg_ℤ v)) (abs_times x u) (abs_negative (y *ℤ neg_ℤ v) ∙ abs_times-negative y v) h.re.size h.im.size;
      im = rw (+ℤ_comm (x *ℤ neg_ℤ v) (y *ℤ u)) (sum-within (nat_abs u) (nat_abs v) (y *ℤ u) (x *ℤ neg_ℤ v) (abs_times y u) (abs_times-negative x v) h.im.size h.re.size);
    })

-- ---- exact quotients
pub divides_over : (a b q : Pair) → times b q ≡ a → (norm b *ℤ q.re ≡ (times a (conjugate b)).re) × (norm b *ℤ q.im ≡ (times a (conjugate b)).im)
divides_over a b q e = (
  sym (there_re b.re b.im q.re q.im) ∙ ap (λ z. (times z (conjugate b)).re) e,
  sym (there_im b.re b.im q.re q.im) ∙ ap (λ z. (times z (conjugate b)).im) e,
)

pub over_divides : (a b q : Pair) → b ≢ pairs.none → norm b *ℤ q.re ≡ (times a (conjugate b)).re → norm b *ℤ q.im ≡ (times a (conjugate b)).im → times b q ≡ a
over_divides a b q h e f =
    pair-equal
    (*ℤ-cancel (norm b) (λ z. h (norm-zero b z)) (back-re a.re a.im b.re b.im q.re q.im e f))
    (*ℤ-cancel (norm b) (λ z. h (norm-zero b z)) (back-im a.re a.im b.re b.im q.re q.im e f))

pub share_once : (a b p q : Pair) → b ≢ pairs.none → times b p ≡ a → times b q ≡ a → p ≡ q
share_once a b p q h e f = times_cancel pairs_ring pairs_domain b p q h (e ∙ sym f)

-- a pair that is n q has both parts divided by n
pub undivided_none : (a : Pair) (n : ℤ) (q : Pair) → Undivided n a → multiple n q ≡ a → ⊥
undivided_none a n q (inl f) e = f (record { factor = q.re; is = re-equal e })
undivided_none a n q (inr f) e = f (record { factor = q.im; is = im-equal e })

pub over-whole_once : (a : Pair) (n : ℤ) → n ≢ pos 0 → (r s : Option Pair) → IsOverWhole a n r → IsOverWhole a n s → r ≡ s
over-whole_once a n h =
    option_once (IsOverWhole a n)
    (λ p q e f. pair-equal (*ℤ-cancel n h (re-equal e ∙ sym (re-equal f))) (*ℤ-cancel n h (im-equal e ∙ sym (im-equal f))))
    (λ q e none. undivided_none a n q none e)

-- over |b|² is over b
pub over-norm : (a b : Pair) → b ≢ pairs.none → (r : Option Pair) → IsOverWhole (times a (conjugate b)) (norm b) r → IsPairQuotient a b r
over-norm a b h (Some q) e = over_divides a b q h (re-equal e) (im-equal e)
over-norm a b h None u = λ d. let (e, f) = divides_over a b d.factor d.is in undivided_none (times a (conjugate b)) (norm b) d.factor u (pair-equal e f)

pub quotient_once : (a b : Pair) → b ≢ pairs.none → (r s : Option Pair) → IsPairQuotient a b r → IsPairQuotient a b s → r ≡ s
quotient_once a b h = option_once (IsPairQuotient a b) (λ p q. share_once a b p q h) (λ q e none. none (record { factor = q; is = e }))

pub quotient-within : {B : ℕ} {a : Pair} (b q : Pair) → PartsWithin B a → b ≢ pairs.none → times b q ≡ a → PartsWithin B q
quotient-within {B} {a} b q h n e =
    let o = over-within b h in
    let f = divides_over a b q e in
    record { re = part q.re (rw f.0 o.re); im = part q.im (rw f.1 o.im) }
  where
    part : (x : ℤ) → Within (B * nat_abs (norm b)) (norm b *ℤ x) → Within B x
    part x k = record { size = le_of_mul-le-mul_left (omega (arith, k.size, abs_times (norm b) x)) (pos_of_ne-zero (λ z. n (norm-zero b (abs_zero (norm b) z)))) }

pub divisor_within : {B : ℕ} {d a : Pair} → PartsWithin B a → a ≢ pairs.none → Divides pairs d a → PartsWithin B d
divisor_within {d} h n k = quotient-within k.factor d h (λ z. n (sym k.is ∙ ap (times d) z ∙ times_none pairs_ring d)) (times_comm k.factor d ∙ k.is)

-- ---- nearest quotients
pub nearest_once : (a b p q : Pair) → NearestPair a b p → NearestPair a b q → p ≡ q
nearest_once a b p q h k =
    pair-equal (whole.nearest_once _ _ p.re q.re h.re k.re) (whole.nearest_once _ _ p.im q.im h.im k.im)

-- |q| ≤ B, where |x| ≤ B d and q leaves less than d over
pub part-within : {B : ℕ} {x q : ℤ} (d : ℤ) → Within (B * nat_abs d) x → nat_abs (x -ℤ q *ℤ d) < nat_abs d → Within B q
part-within {B} {x} {q} d h k = record { size = by (dec_le (nat_abs q) B) }
  where
    product : nat_abs q * nat_abs d ≤ nat_abs x + nat_abs (x -ℤ q *ℤ d)
    product =
        let t = q *ℤ d in
        omega (linear, abs_times q d, minus_parts x t, abs_parts x, abs_parts t, abs_parts (x -ℤ t), one-part t)

    by : Dec (nat_abs q ≤ B) → nat_abs q ≤ B
    by (yes l) = l
    by (no l) =
        let m : suc B ≤ nat_abs q = omega arith in
        absurd (omega (arith, h.size, product, mul-le-mul m (le_refl (nat_abs d))))

pub nearest-within : {B : ℕ} {a b q : Pair} → PartsWithin B a → b ≢ pairs.none → NearestPair a b q → PartsWithin B q
nearest-within {b} h n k =
    let o = over-within b h in
    record { re = part-within (norm b) o.re (below k.re); im = part-within (norm b) o.im (below k.im) }
  where
    below : {x y : ℤ} → Nearest x (norm b) y → nat_abs (x -ℤ y *ℤ norm b) < nat_abs (norm b)
    below l = let p = norm_some b n in omega (linear, nearest_close l, abs_parts (norm b))

-- n d = x² + y², where 2 x and 2 y are at most d
half : (n d x y : ℕ) → 0 < d → 2 * x ≤ d → 2 * y ≤ d → n * d ≡ x * x + y * y → 2 * n ≤ d
half n d x y z h k e = le_of_mul-le-mul_right (omega (arith, mul-le-mul h h, mul-le-mul k k)) z

half-size : (r b : Pair) → (2 * nat_abs (norm r) ≤ nat_abs (norm b)) ↔ ((pos 2 *ℤ norm r) ≤ℤ norm b)
half-size r b = by (norm r) (norm b) (norm_nonneg r) (norm_nonneg b)
  where
    by : (m n : ℤ) → pos 0 ≤ℤ m → pos 0 ≤ℤ n → (2 * nat_abs m ≤ nat_abs n) ↔ ((pos 2 *ℤ m) ≤ℤ n)
    by m n u v = (
      λ h. omega (linear, times_parts (pos 2) m, abs_parts m, abs_parts n, one-part m, one-part n),
      λ h. omega (linear, times_parts (pos 2) m, abs_parts m, abs_parts n, one-part m, one-part n),
    )

-- a conj(b) − |b|² q
abbrev pub over_left : Pair → Pair → Pair → Pair
over_left a b q = pair ((times a (conjugate b)).re -ℤ q.re *ℤ norm b) ((times a (conjugate b)).im -ℤ q.im *ℤ norm b)

pub left-size : (a b q : Pair) → nat_abs (norm (minus a (times q b))) * nat_abs (norm b) ≡ nat_abs (norm (over_left a b q))
left-size a b q = sym (abs_times (norm (minus a (times q b))) (norm b)) ∙ ap nat_abs (over-rest a.re a.im b.re b.im q.re q.im)

pub norm_positive : (b : Pair) → b ≢ pairs.none → 0 < nat_abs (norm b)
norm_positive b n = let h = norm_some b n in omega (linear, abs_parts (norm b))

pub nearest-half : {a b q : Pair} → b ≢ pairs.none → NearestPair a b q → (pos 2 *ℤ norm (minus a (times q b))) ≤ℤ norm b
nearest-half {a} {b} {q} n k =
    let r = minus a (times q b) in
    (half-size r b).0
    (half (nat_abs (norm r)) (nat_abs (norm b)) _ _ (norm_positive b n) (nearest_close k.re) (nearest_close k.im) (left-size a b q ∙ norm_abs (over_left a b q)))

-- ---- what is left over
pub back_sum : (a t : Pair) → plus t (minus a t) ≡ a
back_sum a t = pair-equal (back t.re a.re) (back t.im a.im)
  where
    back : (t x : ℤ) → t +ℤ (x -ℤ t) ≡ x
    back t x = atomsℤ (t ∷ x ∷ []) (λ ρ e. simp (e 0, e 1, readℤ) (ringℤ ρ _ _ tt))

-- |r|² ≤ B²
pub root-within : {B : ℕ} {r : Pair} → nat_abs (norm r) ≤ B * B → PartsWithin B r
root-within {B} {r} l = record {
  re = record { size = root_le (nat_abs r.re) B (omega (arith, norm_abs r)) };
  im = record { size = root_le (nat_abs r.im) B (omega (arith, norm_abs r)) };
}

nearest-half-size : {a b q : Pair} → b ≢ pairs.none → NearestPair a b q → 2 * nat_abs (norm (minus a (times q b))) ≤ nat_abs (norm b)
nearest-half-size {a} {b} {q} n k = (half-size (minus a (times q b)) b).1 (nearest-half n k)

pub nearest_less : {a b q : Pair} → b ≢ pairs.none → NearestPair a b q → nat_abs (norm (minus a (times q b))) < nat_abs (norm b)
nearest_less {b} n k = let p = norm_some b n in omega (linear, nearest-half-size n k, abs_parts (norm b))

-- |r|² ≤ |b|² / 2 ≤ B²
pub nearest-rest-within : {B : ℕ} {a b q : Pair} → PartsWithin B b → b ≢ pairs.none → NearestPair a b q → PartsWithin B (minus a (times q b))
nearest-rest-within {b} k n h =
    root-within (omega (arith, nearest-half-size n h, norm_abs b, mul-le-mul k.re.size k.re.size, mul-le-mul k.im.size k.im.size))

pub norm-within : {B C : ℕ} {b : Pair} → B * B + B * B ≤ C → PartsWithin B b → Within C (norm b)
norm-within {b = b} l h = record { size = omega (arith, ap nat_abs (norm-size b), mul-le-mul h.re.size h.re.size, mul-le-mul h.im.size h.im.size) }

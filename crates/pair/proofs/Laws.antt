-- Pairs as a ring, and the norm.
--   pairs_ring               the laws; by name times_assoc, times_comm, times_one, times_plus, number_times
--   negative-twice           −(−a) = a
--   plus-minus               what is added is taken off again
--   multiple-none, none-multiple, multiple-one      a multiple of 0 and by 0 is 0, and once a is a
--   multiple-times           a multiple by a whole number is a product with it
--   multiple-multiple        multiples of multiples with the same factor
--   multiple_cancel          a multiple by a positive number is cancelled
--   norm-times               |a b|² = |a|² |b|²
--   times-conjugate          a conj(a) = |a|²
--   square-size, norm-size   x² and |a|² by squares of natural numbers
--   root_le, root-equal      k² ≤ n² and k² = n² give k ≤ n and k = n
--   norm_nonneg, norm-zero, norm_some      a norm is not negative, only 0 has norm 0, and any other pair a positive one
--   pairs_domain             no zero divisors
--   pair-equal?, pair-zero?  whether two pairs are equal; whether one is 0
use mathlib.Core.Path.{◌≡◌, refl, sym, ap, ap₂, ◌∙◌}
use mathlib.Core.List.{[], ◌∷◌}
use mathlib.Core.Logic.Dec
use mathlib.Core.Logic.{◌≢◌, ⊎_map}
use Prim.Native.Nat.{ℕ, zero, suc, ◌+◌, ◌*◌, ◌≤◌, ◌<◌}
use native.Mathlib.Nat.{le_of_eq, mul-le-mul}
use native.Mathlib.Decide.{dec_le, map_dec}
use native.Mathlib.Omega.{arith}
use lib.IntN.{ℤ, pos, negsuc, neg_ℤ, nat_abs, ◌+ℤ◌, ◌-ℤ◌, ◌*ℤ◌, +ℤ_assoc, +ℤ_comm, +ℤ_idl, +ℤ_idr, +ℤ_invl, +ℤ_invr, *ℤ_comm, *ℤ-zero, zero-*ℤ, neg_ℤ-neg_ℤ, ℤ_discrete}
use lib.Signed.{◌≤ℤ◌, ◌<ℤ◌}
use Rattle.whole.proofs.Integers.{*ℤ-1, *ℤ-assoc, abs_zero, *ℤ-domain}
use Rattle.whole.proofs.Ring.{Ring}
use Rattle.whole.proofs.Wholes.{readℤ, atomsℤ, ringℤ, *ℤ-cancel}
use Rattle.whole.proofs.Solver.{var, ◌:+◌, ◌:-◌, solve}
use Rattle.whole.proofs.Linear.{linear}
use Rattle.whole.proofs.Order.{nonneg_plus, nonneg_square}
use Rattle.whole.proofs.Signs.{times-negative}
use Rattle.poly.proofs.Domain.{Domain}
use Rattle.pair.specs.declared.Pair.{Pair}
use Rattle.pair.specs.Pairs.{pair, pairs, plus, minus, times, multiple, negative, conjugate, norm, one}
use Rattle.pair.proofs.Parts.{pair-equal, re-equal, im-equal}

pub times_assoc : (a b c : Pair) → times (times a b) c ≡ times a (times b c)
times_assoc a b c =
    pair-equal
    (atomsℤ (a.re ∷ a.im ∷ b.re ∷ b.im ∷ c.re ∷ c.im ∷ []) (λ ρ e. simp (e 0, e 1, e 2, e 3, e 4, e 5, readℤ) (ringℤ ρ _ _ tt)))
    (atomsℤ (a.re ∷ a.im ∷ b.re ∷ b.im ∷ c.re ∷ c.im ∷ []) (λ ρ e. simp (e 0, e 1, e 2, e 3, e 4, e 5, readℤ) (ringℤ ρ _ _ tt)))

pub times_plus : (a b c : Pair) → times a (plus b c) ≡ plus (times a b) (times a c)
times_plus a b c =
    pair-equal
    (atomsℤ (a.re ∷ a.im ∷ b.re ∷ b.im ∷ c.re ∷ c.im ∷ []) (λ ρ e. simp (e 0, e 1, e 2, e 3, e 4, e 5, readℤ) (ringℤ ρ _ _ tt)))
    (atomsℤ (a.re ∷ a.im ∷ b.re ∷ b.im ∷ c.re ∷ c.im ∷ []) (λ ρ e. simp (e 0, e 1, e 2, e 3, e 4, e 5, readℤ) (ringℤ ρ _ _ tt)))

pub times_comm : (a b : Pair) → times a b ≡ times b a
times_comm a b =
    pair-equal
    (atomsℤ (a.re ∷ a.im ∷ b.re ∷ b.im ∷ []) (λ ρ e. simp (e 0, e 1, e 2, e 3, readℤ) (ringℤ ρ _ _ tt)))
    (atomsℤ (a.re ∷ a.im ∷ b.re ∷ b.im ∷ []) (λ ρ e. simp (e 0, e 1, e 2, e 3, readℤ) (ringℤ ρ _ _ tt)))

pub times_one : (a : Pair) → times a one ≡ a
times_one a =
    pair-equal
    (ap₂ ◌-ℤ◌ (*ℤ-1 a.re) (*ℤ-zero a.im) ∙ +ℤ_idr a.re)
    (ap₂ ◌+ℤ◌ (*ℤ-zero a.re) (*ℤ-1 a.im) ∙ +ℤ_idl a.im)

pub number_times : (m n : ℤ) → pair (m *ℤ n) (pos 0) ≡ times (pair m (pos 0)) (pair n (pos 0))
number_times m n = pair-equal (sym (+ℤ_idr (m *ℤ n))) (sym (ap₂ ◌+ℤ◌ (*ℤ-zero m) (zero-*ℤ n)))

abbrev pub pairs_ring : Ring pairs
pairs_ring = record {
  negative = negative;
  number = λ z. pair z (pos 0);
  plus_assoc = λ a b c. pair-equal (+ℤ_assoc a.re b.re c.re) (+ℤ_assoc a.im b.im c.im);
  plus_comm = λ a b. pair-equal (+ℤ_comm a.re b.re) (+ℤ_comm a.im b.im);
  plus_none = λ a. pair-equal (+ℤ_idr a.re) (+ℤ_idr a.im);
  plus_negative = λ a. pair-equal (+ℤ_invr a.re) (+ℤ_invr a.im);
  times_assoc = times_assoc;
  times_comm = times_comm;
  times_one = times_one;
  times_plus = times_plus;
  number_none = refl;
  number_plus = λ m n. refl;
  number_times = number_times;
}

-- ---- negatives and multiples
pub negative-twice : (a : Pair) → negative (negative a) ≡ a
negative-twice a = pair-equal (neg_ℤ-neg_ℤ a.re) (neg_ℤ-neg_ℤ a.im)

pub plus-minus : (a b : Pair) → minus (plus a b) a ≡ b
plus-minus a b = solve pairs_ring (a ∷ b ∷ []) (var 0 :+ var 1 :- var 0) (var 1) tt

pub multiple-none : (c : ℤ) → multiple c pairs.none ≡ pairs.none
multiple-none c = pair-equal (*ℤ-zero c) (*ℤ-zero c)

pub none-multiple : (a : Pair) → multiple (pos 0) a ≡ pairs.none
none-multiple a = pair-equal (zero-*ℤ a.re) (zero-*ℤ a.im)

pub multiple-times : (c : ℤ) (a : Pair) → multiple c a ≡ times (pair c (pos 0)) a
multiple-times c a =
    pair-equal
    (sym (ap (λ z. c *ℤ a.re -ℤ z) (zero-*ℤ a.im) ∙ +ℤ_idr (c *ℤ a.re)))
    (sym (ap (λ z. c *ℤ a.im +ℤ z) (zero-*ℤ a.re) ∙ +ℤ_idr (c *ℤ a.im)))

pub multiple-one : (a : Pair) → multiple (pos 1) a ≡ a
multiple-one a = multiple-times (pos 1) a ∙ times_comm one a ∙ times_one a

pub multiple-multiple : (a b c d : ℤ) (z : Pair) → a *ℤ b ≡ c *ℤ d → multiple a (multiple b z) ≡ multiple c (multiple d z)
multiple-multiple a b c d z e = pair-equal (part z.re) (part z.im)
  where
    part : (x : ℤ) → a *ℤ (b *ℤ x) ≡ c *ℤ (d *ℤ x)
    part x = sym (*ℤ-assoc a b x) ∙ ap (λ t. t *ℤ x) e ∙ *ℤ-assoc c d x

pub multiple_cancel : (n : ℕ) {x y : Pair} → 0 < n → multiple (pos n) x ≡ multiple (pos n) y → x ≡ y
multiple_cancel n l e = pair-equal (*ℤ-cancel (pos n) some (re-equal e)) (*ℤ-cancel (pos n) some (im-equal e))
  where
    some : pos n ≢ pos 0
    some z = omega (arith, ap nat_abs z)

-- ---- the norm
pub norm-times : (a b : Pair) → norm (times a b) ≡ norm a *ℤ norm b
norm-times a b = atomsℤ (a.re ∷ a.im ∷ b.re ∷ b.im ∷ []) (λ ρ e. simp (e 0, e 1, e 2, e 3, readℤ) (ringℤ ρ _ _ tt))

pub times-conjugate : (a : Pair) → times a (conjugate a) ≡ pair (norm a) (pos 0)
times-conjugate a = pair-equal (re a.re a.im) (ap (λ z. z +ℤ a.im *ℤ a.re) (times-negative a.re a.im ∙ ap neg_ℤ (*ℤ_comm a.re a.im)) ∙ +ℤ_invl (a.im *ℤ a.re))
  where
    re : (x y : ℤ) → x *ℤ x -ℤ y *ℤ neg_ℤ y ≡ x *ℤ x +ℤ y *ℤ y
    re x y = atomsℤ (x ∷ y ∷ []) (λ ρ e. simp (e 0, e 1, readℤ) (ringℤ ρ _ _ tt))

pub square-size : (x : ℤ) → x *ℤ x ≡ pos (nat_abs x * nat_abs x)
square-size (pos n) = refl
square-size (negsuc n) = refl

pub root_le : (k n : ℕ) → k * k ≤ n * n → k ≤ n
root_le k n h = by (dec_le k n)
  where
    by : Dec (k ≤ n) → k ≤ n
    by (yes l) = l
    by (no l) = let m : suc n ≤ k = omega arith in absurd (omega (arith, mul-le-mul m m))

pub root-equal : (k n : ℕ) → k * k ≡ n * n → k ≡ n
root-equal k n e = omega (arith, root_le k n (le_of_eq e), root_le n k (le_of_eq (sym e)))

pub norm-size : (a : Pair) → norm a ≡ pos (nat_abs a.re * nat_abs a.re + nat_abs a.im * nat_abs a.im)
norm-size a = ap₂ ◌+ℤ◌ (square-size a.re) (square-size a.im)

pub norm_nonneg : (a : Pair) → pos 0 ≤ℤ norm a
norm_nonneg a = nonneg_plus (nonneg_square a.re) (nonneg_square a.im)

pub norm-zero : (a : Pair) → norm a ≡ pos 0 → a ≡ pairs.none
norm-zero a e = pair-equal (abs_zero a.re parts.0) (abs_zero a.im parts.1)
  where
    none : (m n : ℕ) → m * m + n * n ≡ 0 → (m ≡ 0) × (n ≡ 0)
    none zero zero h = (refl, refl)
    none zero (suc n) h = absurd (omega arith)
    none (suc m) n h = absurd (omega arith)

    parts : (nat_abs a.re ≡ 0) × (nat_abs a.im ≡ 0)
    parts = none (nat_abs a.re) (nat_abs a.im) (ap nat_abs (sym (norm-size a) ∙ e))

pub norm_some : (a : Pair) → a ≢ pairs.none → pos 0 <ℤ norm a
norm_some a h = by (nat_abs a.re * nat_abs a.re + nat_abs a.im * nat_abs a.im) (norm-size a)
  where
    by : (n : ℕ) → norm a ≡ pos n → pos 0 <ℤ norm a
    by zero e = absurd (h (norm-zero a e))
    by (suc n) e = omega linear

pub pairs_domain : Domain pairs
pairs_domain = record { splits = λ a b e. ⊎_map (norm-zero a) (norm-zero b) (*ℤ-domain (norm a) (norm b) (sym (norm-times a b) ∙ ap norm e)) }

pub pair-equal? : (a b : Pair) → Dec (a ≡ b)
pair-equal? a b = map_dec (λ (e, f). pair-equal e f) (λ h. (re-equal h, im-equal h)) (Dec.and (ℤ_discrete a.re b.re) (ℤ_discrete a.im b.im))

pub pair-zero? : (a : Pair) → Dec (a ≡ pairs.none)
pair-zero? a = pair-equal? a pairs.none

-- Square roots of pairs.
--   square_roots            two roots of one square differ by sign
--   not_both                of a pair and its negative only one has a positive first part other than 0,
--   first_found             and one has, where the pair is not 0
--   first_some              a pair that has one is not 0
--   kept_roots              two roots of one square, both with the sign that is kept, are equal
--   pair-root-within        the size of a root
--   root_once               the root of a pair has one answer
use Rattle.std.specs.Prelude.{Option}
use mathlib.Core.Path.{◌≡◌, sym, ap, ap₂, ◌∙◌}
use mathlib.Core.Logic.{◌≢◌, ◌⊎◌, inl, inr, ⊎_elim}
use Prim.Native.Nat.{ℕ, ◌+◌, ◌*◌, ◌≤◌}
use native.Mathlib.Nat.{mul-le-mul}
use native.Mathlib.Omega.{arith}
use lib.IntN.{pos, neg_ℤ, nat_abs, ◌*ℤ◌}
use lib.Signed.{◌≤ℤ◌, ◌<ℤ◌}
use Rattle.whole.specs.Number.{FirstPositive}
use Rattle.whole.proofs.Options.{option_once}
use Rattle.whole.proofs.Linear.{linear, negative_parts}
use Rattle.whole.proofs.Order.{compare}
use Rattle.whole.proofs.Signs.{negated_positive}
use Rattle.poly.proofs.Domain.{roots_agree}
use Rattle.pair.specs.declared.Pair.{Pair}
use Rattle.pair.specs.Pairs.{pairs, negative, times, norm, PartsWithin}
use Rattle.pair.proofs.Parts.{pair-equal}
use Rattle.pair.proofs.Laws.{pairs_ring, pairs_domain, negative-twice, norm-times, root_le, norm-size, pair-zero?}
use Rattle.divisor.specs.Promise.{KeptRoot, IsPairRoot}

-- ---- one answer
pub square_roots : (a b : Pair) → times a a ≡ times b b → (a ≡ b) ⊎ (a ≡ negative b)
square_roots = roots_agree pairs_ring pairs_domain

-- a pair and its negative are not both kept
pub not_both : (a b : Pair) → FirstPositive a.re a.im → FirstPositive b.re b.im → a ≡ negative b → ⊥
not_both a b h k e = by h k
  where
    re : a.re ≡ neg_ℤ b.re
    re = ap (λ z. z.re) e

    im : a.im ≡ neg_ℤ b.im
    im = ap (λ z. z.im) e

    by : FirstPositive a.re a.im → FirstPositive b.re b.im → ⊥
    by (inl u) (inl v) = omega (linear, re, negative_parts b.re)
    by (inl u) (inr v) = omega (linear, re, v.0, negative_parts b.re)
    by (inr u) (inl v) = omega (linear, re, u.0, negative_parts b.re)
    by (inr u) (inr v) = omega (linear, im, u.1, v.1, negative_parts b.im)

pub first_some : {a : Pair} → FirstPositive a.re a.im → a ≢ pairs.none
first_some (inl h) z = omega (linear, h, ap (λ t. t.re) z)
first_some (inr h) z = omega (linear, h.1, ap (λ t. t.im) z)

pub first_found : (a : Pair) → a ≢ pairs.none → FirstPositive a.re a.im ⊎ FirstPositive (neg_ℤ a.re) (neg_ℤ a.im)
first_found a n = by (compare a.re (pos 0)) (compare (pos 0) a.re) (compare a.im (pos 0))
  where
    by : (a.re ≤ℤ pos 0) ⊎ (pos 0 <ℤ a.re) → (pos 0 ≤ℤ a.re) ⊎ (a.re <ℤ pos 0) → (a.im ≤ℤ pos 0) ⊎ (pos 0 <ℤ a.im)
        → FirstPositive a.re a.im ⊎ FirstPositive (neg_ℤ a.re) (neg_ℤ a.im)
    by (inr h) k l = inl (inl h)
    by (inl h) (inr k) l = inr (inl (omega (linear, negative_parts a.re)))
    by (inl h) (inl k) (inr l) = inl (inr (omega linear, l))
    by (inl h) (inl k) (inl l) =
        let z : a.re ≡ pos 0 = omega linear in
        inr (inr (ap neg_ℤ z, negated_positive a.im l (λ e. n (pair-equal z e))))

pub kept_roots : (a b : Pair) → FirstPositive a.re a.im → FirstPositive b.re b.im → times a a ≡ times b b → a ≡ b
kept_roots a b h k e = ⊎_elim (λ f. f) (λ f. absurd (not_both a b h k f)) (square_roots a b e)

kept_once : {z a b : Pair} → KeptRoot z a → KeptRoot z b → a ≡ b
kept_once {a} {b} h k = ⊎_elim (λ e. e) (λ e. opposite e (pair-zero? a)) (square_roots a b (h.squared ∙ sym k.squared))
  where
    opposite : a ≡ negative b → Dec (a ≡ pairs.none) → a ≡ b
    opposite e (yes z) = z ∙ sym (sym (negative-twice b) ∙ ap negative (sym e ∙ z))
    opposite e (no n) = absurd (not_both a b (h.sign n) (k.sign (λ z. n (e ∙ ap negative z))) e)

pub root_once : (z : Pair) (r s : Option Pair) → IsPairRoot z r → IsPairRoot z s → r ≡ s
root_once z = option_once (IsPairRoot z) (λ a b. kept_once) (λ a h none. none a h.squared)

-- ---- the size: |w|⁴ is the sum of the squares of the parts of w²
pub pair-root-within : {B : ℕ} (m n : ℕ) (z w : Pair) → PartsWithin B z → times w w ≡ z → B * B + B * B ≤ m * m → m ≤ n * n → PartsWithin n w
pair-root-within m n z w h e l k = record { re = record { size = root_le u n (omega (arith, small)) }; im = record { size = root_le v n (omega (arith, small)) } }
  where
    u : ℕ
    u = nat_abs w.re

    v : ℕ
    v = nat_abs w.im

    squared : nat_abs z.re * nat_abs z.re + nat_abs z.im * nat_abs z.im ≡ (u * u + v * v) * (u * u + v * v)
    squared = ap nat_abs (sym (norm-size z) ∙ ap norm (sym e) ∙ norm-times w w ∙ ap₂ ◌*ℤ◌ (norm-size w) (norm-size w))

    small : u * u + v * v ≤ m
    small = root_le (u * u + v * v) m (omega (arith, squared, mul-le-mul h.re.size h.re.size, mul-le-mul h.im.size h.im.size))

-- The theory of polynomials at pairs: division with a smaller remainder, and what follows from it.
--   nearest_exists        every quotient by a positive number has a nearest whole number
--   pairs_euclid          the remainder of a nearest quotient has at most half of the divisor's norm
--   pairs_bezout          so any two pairs have a common divisor a x + b y
-- With `pairs_ring` and `pairs_domain` (pair, Laws) these are all that the crate `poly` asks for.
use mathlib.Core.Path.{◌≡◌, sym}
use mathlib.Core.List.{[], ◌∷◌}
use mathlib.Core.Logic.{◌≢◌, ◌⊎◌, inl, inr}
use Prim.Native.Nat.{◌<◌}
use lib.IntN.{ℤ, pos, negsuc, neg_ℤ, nat_abs, ◌+ℤ◌, ◌-ℤ◌, ◌*ℤ◌}
use lib.Signed.{quot_z, rem_z, ◌≤ℤ◌, ◌<ℤ◌}
use Rattle.whole.specs.Promise.{Nearest}
use Rattle.whole.proofs.Division.{quotient-rest, rest_below}
use Rattle.whole.proofs.Linear.{linear, minus_parts, times_parts, negative_parts, abs_parts, one-part}
use Rattle.whole.proofs.Order.{compare}
use Rattle.whole.proofs.Wholes.{readℤ, atomsℤ, ringℤ, equal_by, zero-equal}
use Rattle.poly.proofs.Divisibility.{Bezout}
use Rattle.poly.proofs.Euclid.{Euclid, euclid_bezout}
use Rattle.pair.specs.declared.Pair.{Pair}
use Rattle.pair.specs.Pairs.{pair, pairs, plus, minus, times, conjugate, norm}
use Rattle.pair.proofs.Laws.{pairs_ring, norm_some, pair-zero?}
use Rattle.divisor.proofs.Division.{back_sum, nearest_less}

moved : (n d q r k : ℤ) → q *ℤ d +ℤ r ≡ n → n -ℤ (q +ℤ k) *ℤ d ≡ r -ℤ k *ℤ d
moved n d q r k f =
    equal_by (zero-equal (sym f)) (atomsℤ (n ∷ d ∷ q ∷ r ∷ k ∷ []) (λ ρ e. simp (e 0, e 1, e 2, e 3, e 4, readℤ) (ringℤ ρ _ _ tt)))

-- n = q d + r with |r| < d: the quotient moves up or down by 1 where 2 r passes d or −d
pub nearest_exists : (n d : ℤ) → pos 0 <ℤ d → (q : ℤ) × Nearest n d q
nearest_exists n d h = by (compare (pos 2 *ℤ r) d) (compare (pos 2 *ℤ r) (neg_ℤ d))
  where
    r : ℤ
    r = rem_z n d

    below : (neg_ℤ d <ℤ r) × (r <ℤ d)
    below =
        let l = rest_below n d (λ e. omega linear) in
        omega (linear, negative_parts d, abs_parts r, abs_parts d, one-part d)

    with_rest : (k : ℤ) → (neg_ℤ d <ℤ (pos 2 *ℤ (r -ℤ k *ℤ d))) × ((pos 2 *ℤ (r -ℤ k *ℤ d)) ≤ℤ d) → (q : ℤ) × Nearest n d q
    with_rest k l =
        let e = moved n d (quot_z n d) r k (quotient-rest n d) in
        (quot_z n d +ℤ k, record { low = rw e l.0; high = rw e l.1 })

    by : ((pos 2 *ℤ r) ≤ℤ d) ⊎ (d <ℤ (pos 2 *ℤ r)) → ((pos 2 *ℤ r) ≤ℤ neg_ℤ d) ⊎ (neg_ℤ d <ℤ (pos 2 *ℤ r)) → (q : ℤ) × Nearest n d q
    by (inr a) b =
        with_rest (pos 1) (omega (linear, below, negative_parts d, times_parts (pos 2) r, times_parts (pos 1) d, minus_parts r (pos 1 *ℤ d), times_parts (pos 2) (r -ℤ pos 1 *ℤ d)))
    by (inl a) (inl b) =
        with_rest (negsuc 0) (omega (linear, below, negative_parts d, times_parts (pos 2) r, times_parts (negsuc 0) d, minus_parts r (negsuc 0 *ℤ d), times_parts (pos 2) (r -ℤ negsuc 0 *ℤ d)))
    by (inl a) (inr b) =
        with_rest (pos 0) (omega (linear, below, negative_parts d, times_parts (pos 2) r, times_parts (pos 0) d, minus_parts r (pos 0 *ℤ d), times_parts (pos 2) (r -ℤ pos 0 *ℤ d)))

pub pairs_divided : (a b : Pair) → b ≢ pairs.none → (q : Pair) × (r : Pair) × (plus (times q b) r ≡ a) × (nat_abs (norm r) < nat_abs (norm b))
pairs_divided a b n =
    let x = nearest_exists (times a (conjugate b)).re (norm b) (norm_some b n) in
    let y = nearest_exists (times a (conjugate b)).im (norm b) (norm_some b n) in
    let q = pair x.0 y.0 in
    (q, minus a (times q b), back_sum a (times q b), nearest_less {a = a} n (record { re = x.1; im = y.1 }))

abbrev pub pairs_euclid : Euclid pairs
pairs_euclid = record { zero? = pair-zero?; size = λ a. nat_abs (norm a); divided = pairs_divided }

abbrev pub pairs_bezout : Bezout pairs
pairs_bezout = euclid_bezout pairs_ring pairs_euclid

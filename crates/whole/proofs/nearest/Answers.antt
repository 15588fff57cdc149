-- `whole::nearest` meets its contract. With n = q d + r and |r| < d, what is left over is r, r − d or r + d; 2 h is d or d − 1.
use mathlib.Core.Path.{◌≡◌, refl, sym, ap, ◌∙◌}
use mathlib.Core.List.{[], ◌∷◌}
use mathlib.Core.Logic.{◌≢◌}
use Prim.Native.Nat.{◌*◌, ◌/◌, ◌≤◌, ◌^◌}
use native.Mathlib.Nat.{le_refl, le_trans, mul-le-mul, div-mul-le_self}
use lib.IntN.{ℤ, pos, negsuc, neg_ℤ, nat_abs, ◌+ℤ◌, ◌-ℤ◌, ◌*ℤ◌}
use lib.Signed.{quot_z, rem_z, ◌≤ℤ◌, ◌<ℤ◌}
use mir.Syntax.{w64}
use mir.Val.{SFits}
use mir.ValLaws.{to_z-of_z}
use Rattle.whole.specs.Promise.{Nearest}
use Rattle.whole.proofs.Integers.{abs_zero}
use Rattle.whole.proofs.Wholes.{readℤ, read_pos, read-negsuc, atomsℤ, ringℤ}
use Rattle.whole.proofs.Linear.{linear, plus_parts, minus_parts, times_parts, negative_parts, abs_parts, one-part}
use Rattle.whole.proofs.Division.{quotient-rest, abs_quotient, rest_below, quotient_fits, rest_fits}
use Rattle.whole.proofs.nearest.Goals as goal
use Rattle.whole.proofs.nearest.Goals.{Start, Else-half-r}

-- what is left over decides
nearest_by : {n d p rest : ℤ} → n -ℤ p *ℤ d ≡ rest → neg_ℤ d <ℤ (pos 2 *ℤ rest) → (pos 2 *ℤ rest) ≤ℤ d → Nearest n d p
nearest_by e l h = record { low = rw e l; high = rw e h }

keep : (q d r : ℤ) → (q *ℤ d +ℤ r) -ℤ q *ℤ d ≡ r
keep q d r = atomsℤ (q ∷ d ∷ r ∷ []) (λ ρ e. simp (e 0, e 1, e 2, readℤ) (ringℤ ρ _ _ tt))

raise : (q d r : ℤ) → (q *ℤ d +ℤ r) -ℤ (q +ℤ pos 1) *ℤ d ≡ r -ℤ d
raise q d r = atomsℤ (q ∷ d ∷ r ∷ []) (λ ρ e. simp (e 0, e 1, e 2, readℤ, read_pos ρ) (ringℤ ρ _ _ tt))

lower : (q d r : ℤ) → (q *ℤ d +ℤ r) -ℤ (q -ℤ pos 1) *ℤ d ≡ d +ℤ r
lower q d r = atomsℤ (q ∷ d ∷ r ∷ []) (λ ρ e. simp (e 0, e 1, e 2, readℤ, read-negsuc ρ) (ringℤ ρ _ _ tt))

half : (d : ℤ) → pos 0 <ℤ d → quot_z d (pos 2) ≡ pos (nat_abs d / 2)
half (pos m) p = refl
half (negsuc m) p = absurd (omega linear)

module _ (s : Start) where
  abbrev n : ℤ
  n = s.args.n

  abbrev d : ℤ
  d = s.args.d

  abbrev q : ℤ
  q = quot_z n d

  abbrev r : ℤ
  r = rem_z n d

  nonzero : d ≢ pos 0
  nonzero e = let h = s.requires in omega linear

  q_fits : SFits w64 q
  q_fits = quotient_fits n d s.ranges.n (record { nonzero = nonzero; not_least = λ e f. let h = s.requires in omega linear })

  r_fits : SFits w64 r
  r_fits = rest_fits d s.ranges.n

  below : (r <ℤ d) × (neg_ℤ d <ℤ r)
  below = let h = s.requires in let l = rest_below n d nonzero in omega (linear, negative_parts d, abs_parts r, abs_parts d, one-part d)

  -- a remainder other than 0 leaves d at least 2, and the quotient at most half of n's size
  q_small : r ≢ pos 0 → nat_abs q ≤ 2 ^ 62
  q_small h =
      let size = nat_abs n / nat_abs d in
      let l : 2 ≤ nat_abs d = (let k = rest_below n d nonzero in let ne : nat_abs r ≢ 0 = (λ e. h (abs_zero r e)) in omega linear) in
      let m : size * 2 ≤ nat_abs n = le_trans (mul-le-mul (le_refl size) l) (div-mul-le_self (nat_abs n) (nat_abs d)) in
      omega (linear, s.ranges.n, abs_quotient n d, abs_parts n, one-part n)

  left : (p rest : ℤ) → (q *ℤ d +ℤ r) -ℤ p *ℤ d ≡ rest → n -ℤ p *ℤ d ≡ rest
  left p rest e = ap (λ x. x -ℤ p *ℤ d) (sym (quotient-rest n d)) ∙ e

  abbrev h : ℤ
  h = quot_z d (pos 2)

  h-is : h ≡ pos (nat_abs d / 2)
  h-is = half d s.requires

  h_fits : SFits w64 h
  h_fits = quotient_fits d (pos 2) s.ranges.d (record { nonzero = λ e. omega linear; not_least = λ e f. omega linear })

  gap_fits : SFits w64 (h -ℤ d)
  gap_fits = let p = s.requires in omega (linear, s.ranges.d, h-is, abs_parts d, one-part d, minus_parts h d, one-part (h -ℤ d))

-- the quotient moves only where 2 r passes d or −d
past : (c : goal.Then-half-r) → h c.before <ℤ r c.before
past c = let s = c.before in let k = simp (to_z-of_z, s.ranges.n, s.ranges.d, r_fits s, h_fits s) at c.if-half-r.true in omega linear

not_past : (c : Else-half-r) → r c.before ≤ℤ h c.before
not_past c = let s = c.before in let k = simp (to_z-of_z, s.ranges.n, s.ranges.d, r_fits s, h_fits s) at c.if-half-r.false in omega linear

short : (c : goal.Then-r-half) → r c.before.before ≤ℤ (h c.before.before -ℤ d c.before.before)
short c = let s = c.before.before in let k = simp (to_z-of_z, s.ranges.n, s.ranges.d, r_fits s, h_fits s, gap_fits s) at c.if-r-half.true in omega linear

raised_fits : (c : goal.Then-half-r) → SFits w64 (q c.before +ℤ pos 1)
raised_fits c =
    let s = c.before in
    let k = past c in
    let m = q_small s (λ e. omega (linear, h-is s)) in
    omega (linear, plus_parts (q s) (pos 1), abs_parts (q s), one-part (q s +ℤ pos 1))

lowered_fits : (c : goal.Then-r-half) → SFits w64 (q c.before.before -ℤ pos 1)
lowered_fits c =
    let s = c.before.before in
    let k = short c in
    let p = s.requires in
    let m = q_small s (λ e. omega (linear, h-is s, abs_parts (d s), one-part (d s), minus_parts (h s) (d s))) in
    omega (linear, minus_parts (q s) (pos 1), abs_parts (q s), one-part (q s -ℤ pos 1))

pub overflow_add-result : goal.overflow_add-result
overflow_add-result c = let s = c.before in simp (to_z-of_z, s.ranges.n, s.ranges.d, q_fits s) (raised_fits c)

pub overflow_sub-result : goal.overflow_sub-result
overflow_sub-result c = let s = c.before.before in simp (to_z-of_z, s.ranges.n, s.ranges.d, q_fits s) (lowered_fits c)

pub returns-then-half-r : goal.returns-then-half-r
returns-then-half-r c =
    let s = c.before in
    let k = past c in
    let p = s.requires in
    let b = below s in
    simp (to_z-of_z, s.ranges.n, s.ranges.d, q_fits s, raised_fits c)
    (nearest_by (left s (q s +ℤ pos 1) (r s -ℤ d s) (raise (q s) (d s) (r s)))
    (omega (linear, h-is s, abs_parts (d s), one-part (d s), minus_parts (r s) (d s), negative_parts (d s), times_parts (pos 2) (r s -ℤ d s)))
    (omega (linear, minus_parts (r s) (d s), times_parts (pos 2) (r s -ℤ d s))))

pub returns-then-r-half : goal.returns-then-r-half
returns-then-r-half c =
    let s = c.before.before in
    let k = short c in
    let p = s.requires in
    let b = below s in
    simp (to_z-of_z, s.ranges.n, s.ranges.d, q_fits s, lowered_fits c)
    (nearest_by (left s (q s -ℤ pos 1) (d s +ℤ r s) (lower (q s) (d s) (r s)))
    (omega (linear, plus_parts (d s) (r s), negative_parts (d s), times_parts (pos 2) (d s +ℤ r s)))
    (omega (linear, h-is s, abs_parts (d s), one-part (d s), plus_parts (d s) (r s), minus_parts (h s) (d s), times_parts (pos 2) (d s +ℤ r s))))

pub returns : goal.returns
returns c =
    let s = c.before.before in
    let p = s.requires in
    let l = not_past c.before in
    let k = simp (to_z-of_z, s.ranges.n, s.ranges.d, r_fits s, h_fits s, gap_fits s) at c.if-r-half.false in
    simp (to_z-of_z, s.ranges.n, s.ranges.d, q_fits s)
    (nearest_by (left s (q s) (r s) (keep (q s) (d s) (r s)))
    (omega (linear, h-is s, abs_parts (d s), one-part (d s), minus_parts (h s) (d s), negative_parts (d s), times_parts (pos 2) (r s)))
    (omega (linear, h-is s, abs_parts (d s), one-part (d s), times_parts (pos 2) (r s))))

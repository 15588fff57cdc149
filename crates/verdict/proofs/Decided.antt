-- The rules decide whether D is some κ w², and what a program's tests show.
--   Found D                     D = κ w² with a coprime w
--   end_coprime                 t is coprime
--   cubic-found, cubic-not      a cubic's legs that meet the rule give one, and those that do not give none
--   quintic-found               a quintic's with d0 not 0 and an m do
--   quintic-found-end           and those with d0 = d1 = 0 where 6 d2, 2 d3, d4 meet the cubic's rule
--   quintic_only                with d0 not 0, the quotient (3 d0 d2 − 2 d1²) / d0 is the only m to be tried:
--   quintic-not                 where it fails, D is no κ w²
--   cubic_decides, quintic_decides, quintic_decides_end       the rules: D is some κ w² exactly where its legs meet them
--   middle_within               m is at most 56,568 in size, by parts, where the ends are legs of a curve in range
--   cubic-refused, quintic-refused              N is no c q² where the first two legs, or the last two, do not divide as they must
--   first-refused, last_refused                 the same, for the legs of either kind
use mathlib.Core.Path.{◌≡◌, refl, sym, ap, ap₂, ◌∙◌, subst}
use mathlib.Core.List.{List, [], ◌∷◌}
use mathlib.Core.Logic.{◌≢◌, ◌↔◌}
use Prim.Native.Nat.{ℕ, suc, ◌+◌, ◌*◌, ◌≤◌}
use native.Mathlib.Decide.{dec_le}
use native.Mathlib.Nat.{mul-le-mul}
use native.Mathlib.Omega.{arith}
use lib.IntN.{pos, nat_abs, ◌*ℤ◌}
use Rattle.poly.specs.Polynomials.{Same, scaled, square}
use Rattle.poly.proofs.Content.{content}
use Rattle.poly.proofs.Divisibility.{unit_of_one}
use Rattle.poly.proofs.Domain.{times_cancel}
use Rattle.pair.specs.declared.Pair.{Pair}
use Rattle.pair.specs.Pairs.{pairs, plus, minus, times, multiple, norm, one, PartsWithin}
use Rattle.pair.proofs.Laws.{pairs_ring, pairs_domain, norm-times, norm-size, root_le, pair-zero?}
use Rattle.divisor.proofs.Euclid.{pairs_bezout}
use Rattle.bernstein.specs.Powers.{power_form}
use Rattle.curve.specs.declared.Legs.{Legs}
use Rattle.curve.specs.declared.Legs.TheVariants.{Cubic, Quintic}
use Rattle.curve.specs.Steps.{legs_of}
use Rattle.curve.specs.Sizes.{leg_reach}
use Rattle.verdict.specs.Verdicts.{NotSquared, Generated, NotGenerated, Coprime}
use Rattle.verdict.proofs.Coprime.{primitive_coprime}
use Rattle.verdict.specs.Rules.{EndDivides, CubicRule, QuinticRule}
use Rattle.verdict.specs.Steps.{FirstEnd, LastEnd, middle_size}
use Rattle.verdict.proofs.Refused.{first_divides}
use Rattle.verdict.proofs.Reversed.{last_divides}
use Rattle.verdict.proofs.ByRoot.{by_root}
use Rattle.verdict.proofs.Cubics.{cubic_rule}
use Rattle.verdict.proofs.Quintics.{quintic_rule, quintic_rule_end}
use Rattle.verdict.proofs.RulesMet.{cubic-root, quintic-root, first_divisor, cubic_preimage_end, quintic_preimage_end}

abbrev pub Found : List Pair → Type 0
Found D = (κ : Pair) × (w : List Pair) × Generated D κ w × Coprime w

-- v² = d D, where v begins with d: v has some greatest common divisor
found_by : (D p : List Pair) (d : Pair) → d ≢ pairs.none → Same pairs (square pairs (d ∷ p)) (scaled pairs d D) → Found D
found_by D p d n s = let (e, g) = content pairs_ring pairs_bezout (d ∷ p) in by_root D (d ∷ p) d e n (first_divisor n g) s g

-- ---- cubics
pub end_coprime : Coprime (pairs.none ∷ one ∷ [])
end_coprime = primitive_coprime (pairs.none ∷ one ∷ []) (λ d h. unit_of_one pairs_ring (h 1))

module _ (e0 e1 e2 : Pair) where
  pub cubic-found : CubicRule e0 e1 e2 → Found (power_form (e0 ∷ e1 ∷ e2 ∷ []))
  cubic-found r = by (pair-zero? e0)
    where
      by : Dec (e0 ≡ pairs.none) → Found (power_form (e0 ∷ e1 ∷ e2 ∷ []))
      by (yes z) = (e2, pairs.none ∷ one ∷ [], cubic_preimage_end e0 e1 e2 z r, end_coprime)
      by (no n) = found_by (power_form (e0 ∷ e1 ∷ e2 ∷ [])) (minus e1 e0 ∷ []) e0 n (cubic-root e0 e1 e2 r)

  pub cubic-not : (CubicRule e0 e1 e2 → ⊥) → NotGenerated (power_form (e0 ∷ e1 ∷ e2 ∷ []))
  cubic-not h κ w g = h (cubic_rule e0 e1 e2 κ w g)

-- ---- quintics
module _ (d0 d1 d2 d3 d4 : Pair) where
  abbrev D : List Pair
  D = power_form (d0 ∷ d1 ∷ d2 ∷ d3 ∷ d4 ∷ [])

  abbrev dividend : Pair
  dividend = minus (multiple (pos 3) (times d0 d2)) (multiple (pos 2) (times d1 d1))

  pub quintic-found : (m : Pair) → d0 ≢ pairs.none → QuinticRule d0 d1 d2 d3 d4 m → Found D
  quintic-found m n r =
      found_by D (multiple (pos 2) (minus d1 d0) ∷ plus (minus d0 (multiple (pos 2) d1)) m ∷ []) d0 n (quintic-root d0 d1 d2 d3 d4 m r)

  pub quintic-found-end : d0 ≡ pairs.none → d1 ≡ pairs.none → CubicRule (multiple (pos 6) d2) (multiple (pos 2) d3) d4 → Found D
  quintic-found-end y z r =
      let (κ, u, h, c) = cubic-found (multiple (pos 6) d2) (multiple (pos 2) d3) d4 r in
      (κ, pairs.none ∷ u, quintic_preimage_end d0 d1 d2 d3 d4 κ u y z h, λ d i. c d (λ k. i (suc k)))

  pub quintic_only : (m κ : Pair) (w : List Pair) → d0 ≢ pairs.none → times d0 m ≡ dividend → Generated D κ w → QuinticRule d0 d1 d2 d3 d4 m
  quintic_only m κ w n e g =
      let r = quintic_rule d0 d1 d2 d3 d4 κ w g in
      subst (QuinticRule d0 d1 d2 d3 d4) (times_cancel pairs_ring pairs_domain d0 _ m n (r.second ∙ sym e)) r

  pub quintic-not : (m : Pair) → d0 ≢ pairs.none → times d0 m ≡ dividend → (QuinticRule d0 d1 d2 d3 d4 m → ⊥) → NotGenerated D
  quintic-not m n e h κ w g = h (quintic_only m κ w n e g)

  -- ---- the size of m: |m|⁴ = |d0|² |d4|²
  pub middle_within : (m : Pair) → PartsWithin leg_reach d0 → PartsWithin leg_reach d4 → QuinticRule d0 d1 d2 d3 d4 m → PartsWithin middle_size m
  middle_within m h k r = record {
    re = record { size = part (nat_abs m.re) (omega (arith, low)) };
    im = record { size = part (nat_abs m.im) (omega (arith, low)) };
  }
    where
      size : Pair → ℕ
      size a = nat_abs a.re * nat_abs a.re + nat_abs a.im * nat_abs a.im

      small : {a : Pair} → PartsWithin leg_reach a → size a ≤ 3200000000
      small l = omega (arith, mul-le-mul l.re.size l.re.size, mul-le-mul l.im.size l.im.size)

      sizes : size m * size m ≡ size d0 * size d4
      sizes =
          ap nat_abs
          (sym (ap₂ ◌*ℤ◌ (norm-size m) (norm-size m)) ∙ sym (norm-times m m) ∙ ap norm r.fourth ∙ norm-times d0 d4 ∙ ap₂ ◌*ℤ◌ (norm-size d0) (norm-size d4))

      low : size m ≤ 3200000000
      low = root_le (size m) 3200000000 (omega (arith, sizes, mul-le-mul (small h) (small k)))

      part : (x : ℕ) → x * x ≤ 3200000000 → x ≤ middle_size
      part x l = by (dec_le x middle_size)
        where
          by : Dec (x ≤ middle_size) → x ≤ middle_size
          by (yes i) = i
          by (no i) = let j : 56569 ≤ x = omega arith in absurd (omega (arith, mul-le-mul j j))

-- ---- the rules, both ways
pub cubic_decides : (e0 e1 e2 : Pair) → CubicRule e0 e1 e2 ↔ Found (power_form (e0 ∷ e1 ∷ e2 ∷ []))
cubic_decides e0 e1 e2 = (cubic-found e0 e1 e2, λ f. cubic_rule e0 e1 e2 f.0 f.1 f.2)

module _ (d0 d1 d2 d3 d4 : Pair) where
  pub quintic_decides : d0 ≢ pairs.none → ((m : Pair) × QuinticRule d0 d1 d2 d3 d4 m) ↔ Found (power_form (d0 ∷ d1 ∷ d2 ∷ d3 ∷ d4 ∷ []))
  quintic_decides n = (λ r. quintic-found d0 d1 d2 d3 d4 r.0 n r.1, λ f. (_, quintic_rule d0 d1 d2 d3 d4 f.0 f.1 f.2))

  pub quintic_decides_end : d0 ≡ pairs.none → ((d1 ≡ pairs.none) × CubicRule (multiple (pos 6) d2) (multiple (pos 2) d3) d4) ↔ Found (power_form (d0 ∷ d1 ∷ d2 ∷ d3 ∷ d4 ∷ []))
  quintic_decides_end z = (λ r. quintic-found-end d0 d1 d2 d3 d4 z r.0 r.1, λ f. quintic_rule_end d0 d1 d2 d3 d4 f.0 f.1 f.2 z)

-- ---- the refusals

pub cubic-refused : (d0 d1 d2 : Pair) → (EndDivides (pos 2) d0 d1 × EndDivides (pos 2) d2 d1 → ⊥) → NotSquared (power_form (d0 ∷ d1 ∷ d2 ∷ []))
cubic-refused d0 d1 d2 h c q p s = let ds = d0 ∷ d1 ∷ d2 ∷ [] in h (first_divides ds (pos 2) refl c q s, last_divides ds c q p s (pos 2) refl)

pub quintic-refused : (d0 d1 d2 d3 d4 : Pair) → (EndDivides (pos 8) d0 d1 × EndDivides (pos 8) d4 d3 → ⊥) → NotSquared (power_form (d0 ∷ d1 ∷ d2 ∷ d3 ∷ d4 ∷ []))
quintic-refused d0 d1 d2 d3 d4 h c q p s = let ds = d0 ∷ d1 ∷ d2 ∷ d3 ∷ d4 ∷ [] in h (first_divides ds (pos 8) refl c q s, last_divides ds c q p s (pos 8) refl)

pub first-refused : (l : Legs) → (FirstEnd l → ⊥) → NotSquared (power_form (legs_of l))
first-refused (Cubic d0 d1 d2) h = cubic-refused d0 d1 d2 (λ e. h e.0)
first-refused (Quintic d0 d1 d2 d3 d4) h = quintic-refused d0 d1 d2 d3 d4 (λ e. h e.0)

pub last_refused : (l : Legs) → (LastEnd l → ⊥) → NotSquared (power_form (legs_of l))
last_refused (Cubic d0 d1 d2) h = cubic-refused d0 d1 d2 (λ e. h e.1)
last_refused (Quintic d0 d1 d2 d3 d4) h = quintic-refused d0 d1 d2 d3 d4 (λ e. h e.1)

-- How many changes of sign a turning polynomial can show, and that a count has one answer.
--   start_of, middle_of, end_of    its value at 0; twice its middle Bernstein coefficient; its value at 1
--   at_place, turn_is           the value at a fraction, by these
--   at-most-0                   no change, where no two values have opposite signs;
--   at-most-1, at-most-2        one, where the values at 0 and 1 have not the same sign; two in any case
--   count_once                  at most one number is the count
use mathlib.Core.Path.{◌≡◌, ap, ◌∙◌, subst₂}
use mathlib.Core.List.{List, [], ◌∷◌, map}
use mathlib.Core.Logic.{⊎_elim}
use Prim.Native.Nat.{ℕ, ◌+◌, ◌≤◌, ◌<◌}
use native.Mathlib.Nat.{le_antisymm}
use native.Mathlib.Omega.{arith}
use lib.IntN.{ℤ, pos, ◌+ℤ◌, ◌-ℤ◌, ◌*ℤ◌}
use lib.ListN.{length}
use Rattle.whole.proofs.Wholes.{atomsℤ, readℤ, read_pos, ringℤ}
use Rattle.whole.proofs.Linear.{linear, minus_parts}
use Rattle.whole.proofs.Signs.{Like, Unlike, like_flip, like_like}
use Rattle.measure.specs.declared.Turning.{Turning}
use Rattle.measure.specs.Turns.{turn_at, Ascending, Alternate, SignChanges, CountIs}
use Rattle.measure.proofs.Blends.{blend, along, start_like, ends_like}

abbrev pub start_of : Turning → ℤ
start_of x = x.t0

abbrev pub middle_of : Turning → ℤ
middle_of x = x.t0 *ℤ pos 2 +ℤ x.t1

abbrev pub end_of : Turning → ℤ
end_of x = x.t0 +ℤ x.t1 +ℤ x.t2

abbrev pub blend_of : Turning → ℤ → ℤ → ℤ
blend_of x = blend (start_of x) (middle_of x) (end_of x)

turn_along : (x : Turning) (s e : ℕ) → turn_at x s e ≡ along (start_of x) (middle_of x) (end_of x) (pos s) (pos e)
turn_along x s e = wholly x.t0 x.t1 x.t2 (pos s) (pos e)
  where
    wholly : (t0 t1 t2 s e : ℤ) → t0 *ℤ (s *ℤ s) +ℤ t1 *ℤ (e *ℤ s) +ℤ t2 *ℤ (e *ℤ e) ≡ along t0 (t0 *ℤ pos 2 +ℤ t1) (t0 +ℤ t1 +ℤ t2) s e
    wholly t0 t1 t2 s e = atomsℤ (t0 ∷ t1 ∷ t2 ∷ s ∷ e ∷ []) (λ ρ r. simp (r 0, r 1, r 2, r 3, r 4, readℤ, read_pos ρ) (ringℤ ρ _ _ tt))

pub turn_is : (x : Turning) (s v e : ℕ) → s ≡ v + e → turn_at x s e ≡ blend_of x (pos v) (pos e)
turn_is x s v e h =
    let d : pos s -ℤ pos e ≡ pos v = omega (linear, minus_parts (pos s) (pos e)) in
    turn_along x s e ∙ ap (λ z. blend_of x z (pos e)) d

-- the denominator lies above the last
under : (low s : ℕ) (es : List ℕ) → Ascending low s es → low < s
under low s [] h = h
under low s (e ∷ es) h = omega (arith, h.0, under e s es h.1)

module _ (x : Turning) where
  abbrev pub at_place : ℕ → ℕ → ℤ
  at_place s e = along (start_of x) (middle_of x) (end_of x) (pos s) (pos e)

  unlike_places : (s p q : ℕ) → Unlike (turn_at x s p) (turn_at x s q) → Unlike (at_place s p) (at_place s q)
  unlike_places s p q = subst₂ Unlike (turn_along x s p) (turn_along x s q)

  -- ---- three changes need four values, and two need three
  three : (s p q r : ℕ) → 0 < p → p < q → q < r → r < s → Unlike (turn_at x s p) (turn_at x s q) → Unlike (turn_at x s q) (turn_at x s r)
      → Like (start_of x) (turn_at x s p) × Like (start_of x) (end_of x)
  three s p q r hp hq hr hs u w =
      let u' = unlike_places s p q u in
      let w' = unlike_places s q r w in (
        rw (turn_along x s p) (start_like (start_of x) (middle_of x) (end_of x) (pos s) (pos p) (pos q) (pos r) (omega linear) (omega linear) (omega linear) (omega linear) u' w'),
        ends_like (start_of x) (middle_of x) (end_of x) (pos s) (pos p) (pos q) (pos r) (omega linear) (omega linear) (omega linear) (omega linear) u' w',
      )

  four : (s p q r t : ℕ) → 0 < p → p < q → q < r → r < t → t < s
      → Unlike (turn_at x s p) (turn_at x s q) → Unlike (turn_at x s q) (turn_at x s r) → Unlike (turn_at x s r) (turn_at x s t) → ⊥
  four s p q r t hp hq hr ht hs u w y =
      let first = (three s p q r hp hq hr (omega arith) u w).0 in
      let second = (three s q r t (omega arith) hr ht hs w y).0 in
      let like = like_like (turn_at x s p) (start_of x) (turn_at x s q) (like_flip (start_of x) (turn_at x s p) first) second in
      omega linear

  -- ---- the same of a list of places
  long-1 : ((s p q : ℕ) → p < q → q < s → Unlike (at_place s p) (at_place s q) → ⊥) → (s : ℕ) (es : List ℕ) → Ascending 0 s es → Alternate (map (turn_at x s) es) → length es ≤ 1
  long-1 never s [] a h = omega arith
  long-1 never s (p ∷ []) a h = omega arith
  long-1 never s (p ∷ q ∷ es) a h = absurd (never s p q a.1.0 (under q s es a.1.1) (unlike_places s p q h.0))

  long-2 : (Like (start_of x) (end_of x) → ⊥) → (s : ℕ) (es : List ℕ) → Ascending 0 s es → Alternate (map (turn_at x s) es) → length es ≤ 2
  long-2 never s [] a h = omega arith
  long-2 never s (p ∷ []) a h = omega arith
  long-2 never s (p ∷ q ∷ []) a h = omega arith
  long-2 never s (p ∷ q ∷ r ∷ es) a h = absurd (never (three s p q r a.0 a.1.0 a.1.1.0 (under r s es a.1.1.1) h.0 h.1.0).1)

  long-3 : (s : ℕ) (es : List ℕ) → Ascending 0 s es → Alternate (map (turn_at x s) es) → length es ≤ 3
  long-3 s [] a h = omega arith
  long-3 s (p ∷ []) a h = omega arith
  long-3 s (p ∷ q ∷ []) a h = omega arith
  long-3 s (p ∷ q ∷ r ∷ []) a h = omega arith
  long-3 s (p ∷ q ∷ r ∷ t ∷ es) a h =
      absurd (four s p q r t a.0 a.1.0 a.1.1.0 a.1.1.1.0 (under t s es a.1.1.1.1) h.0 h.1.0 h.1.1.0)

  pub at-most-0 : ((s p q : ℕ) → p < q → q < s → Unlike (at_place s p) (at_place s q) → ⊥) → (j : ℕ) → SignChanges x j → j ≤ 0
  at-most-0 never j c = omega (arith, long-1 never c.s c.es c.inside c.alternate, c.many)

  pub at-most-1 : (Like (start_of x) (end_of x) → ⊥) → (j : ℕ) → SignChanges x j → j ≤ 1
  at-most-1 never j c = omega (arith, long-2 never c.s c.es c.inside c.alternate, c.many)

  pub at-most-2 : (j : ℕ) → SignChanges x j → j ≤ 2
  at-most-2 j c = omega (arith, long-3 c.s c.es c.inside c.alternate, c.many)

  -- ---- one count
  below : (k m : ℕ) → CountIs x k → CountIs x m → k ≤ m
  below k m h g = ⊎_elim (λ z. omega (arith, z.1)) (λ c. g.most k c) h.reached

  pub count_once : (k m : ℕ) → CountIs x k → CountIs x m → k ≡ m
  count_once k m h g = le_antisymm (below k m h g) (below m k g h)

-- The middle of a join: with s = 3 (w0 + w2), the rule of the travel says that 2 V + s is a root of 24 T − 15 (a + z) + 10 w0 w2.
--   way                              `travelled` as an expression of the solver
--   to_square, of_square             the rule as that square, and back
--   legs-steps, steps-legs           whole legs have half steps; a curve over T with half steps has whole legs
--   halved_once                      one triple at most has the half of n for its middle
--   Signs, signs_centred, centred_signs      for a root δ of D, the middle is the half of −δ − s or of δ − s, and the other way
--   halves-below, ends_below         the order of these two, and of two last roots
--   other_end                        the discriminant of the other root of z
--   ends_join, join_ends             for a root r of z, the joins are the triples that end in −r or in r
--   at-most_four                     a list of joins is no longer than four
use mathlib.Core.Path.{◌≡◌, refl, sym, ap, ◌∙◌, subst}
use mathlib.Core.List.{List, [], ◌∷◌}
use mathlib.Core.Logic.{◌⊎◌, inl, inr, ⊎_elim}
use Prim.Native.Nat.{◌≤◌}
use native.Mathlib.Omega.{arith}
use lib.IntN.{ℤ, pos, neg_ℤ, ◌-ℤ◌, ◌*ℤ◌}
use lib.ListN.{length}
use lib.Signed.{◌<ℤ◌}
use Rattle.whole.specs.Number.{FirstPositive}
use Rattle.whole.proofs.Linear.{linear, minus_parts, times_parts, negative_parts}
use Rattle.pair.specs.declared.Pair.{Pair}
use Rattle.pair.specs.Pairs.{plus, minus, negative, times, multiple}
use Rattle.pair.proofs.Parts.{re-equal, im-equal}
use Rattle.pair.proofs.Laws.{multiple_cancel}
use Rattle.pair.proofs.PairSolver.{PairEx, the, ◌⊞◌, ◌⊟◌, ◌⊠◌, ◌··◌, opposite, solve_pairs}
use Rattle.divisor.proofs.Roots.{square_roots, kept_roots}
use Rattle.join.specs.Promise.{Triple, travelled, Travels, QuinticLegs, LegsOf, Join, Below, AllJoins}
use Rattle.join.specs.Steps.{triple, shift, fixed, discriminant, centre, HalfSteps, Halved, Centred, Ending}
use Rattle.join.proofs.Order.{triple-equal, Before}
use Rattle.join.proofs.Few.{sorted_distinct, AtMost, at_most_one, at-most_as, at-most_both, at-most_by}

-- ---- the square, and back
-- the discriminant, with X for six times the travel
abbrev ruled : Pair → Pair → Pair → Pair → Pair
ruled a z p X = plus (minus (multiple (pos 4) X) (multiple (pos 15) (plus a z))) (multiple (pos 10) p)

-- `travelled`, for the solver
abbrev pub way : PairEx
way = 6 ·· (the 0 ⊠ the 0) ⊞ (3 ·· (the 0 ⊠ the 1) ⊞ (the 1 ⊠ the 1 ⊞ (2 ·· (the 0 ⊠ the 2) ⊞ (3 ·· (the 1 ⊠ the 2) ⊞ 6 ·· (the 2 ⊠ the 2)))))

centre-square : (w0 v w2 : Pair) → times (centre w0 v w2) (centre w0 v w2) ≡ ruled (times w0 w0) (times w2 w2) (times w0 w2) (travelled (triple w0 v w2))
centre-square w0 v w2 =
    let c = 2 ·· the 1 ⊞ 3 ·· (the 0 ⊞ the 2) in
    solve_pairs (w0 ∷ v ∷ w2 ∷ []) (c ⊠ c) (4 ·· way ⊟ 15 ·· (the 0 ⊠ the 0 ⊞ the 2 ⊠ the 2) ⊞ 10 ·· (the 0 ⊠ the 2)) tt tt

discriminant-is : (a z T p : Pair) → discriminant (fixed a z T) p ≡ ruled a z p (multiple (pos 6) T)
discriminant-is a z T p =
    solve_pairs (a ∷ z ∷ T ∷ p ∷ []) (24 ·· the 2 ⊟ 15 ·· (the 0 ⊞ the 1) ⊞ 10 ·· the 3) (4 ·· (6 ·· the 2) ⊟ 15 ·· (the 0 ⊞ the 1) ⊞ 10 ·· the 3) tt tt

-- X is a quarter of what is left
ruled_once : (a z p X Y : Pair) → ruled a z p X ≡ ruled a z p Y → X ≡ Y
ruled_once a z p X Y e = multiple_cancel 4 (omega arith) (back X ∙ ap (λ (f : Pair). plus f left) e ∙ sym (back Y))
  where
    left : Pair
    left = minus (multiple (pos 15) (plus a z)) (multiple (pos 10) p)

    back : (x : Pair) → multiple (pos 4) x ≡ plus (ruled a z p x) left
    back x =
        let b = 15 ·· (the 0 ⊞ the 1) in
        let q = 10 ·· the 2 in
        solve_pairs (a ∷ z ∷ p ∷ x ∷ []) (4 ·· the 3) (4 ·· the 3 ⊟ b ⊞ q ⊞ (b ⊟ q)) tt tt

module _ (a z T w0 v w2 : Pair) (first : times w0 w0 ≡ a) (last : times w2 w2 ≡ z) where
  squared : times (centre w0 v w2) (centre w0 v w2) ≡ ruled a z (times w0 w2) (travelled (triple w0 v w2))
  squared = centre-square w0 v w2 ∙ (λ i. ruled (first i) (last i) (times w0 w2) (travelled (triple w0 v w2)))

  to_square : Travels (triple w0 v w2) T → times (centre w0 v w2) (centre w0 v w2) ≡ discriminant (fixed a z T) (times w0 w2)
  to_square e = squared ∙ ap (ruled a z (times w0 w2)) (sym e) ∙ sym (discriminant-is a z T (times w0 w2))

  of_square : times (centre w0 v w2) (centre w0 v w2) ≡ discriminant (fixed a z T) (times w0 w2) → Travels (triple w0 v w2) T
  of_square e = ruled_once a z (times w0 w2) (multiple (pos 6) T) (travelled (triple w0 v w2)) (sym (discriminant-is a z T (times w0 w2)) ∙ sym e ∙ squared)

-- ---- whole legs
pub legs-steps : (w : Triple) (d : QuinticLegs) → LegsOf w d → HalfSteps w
legs-steps w d h = ((d.d1, h.second), (d.d3, h.fourth))

-- the third leg is what the travel leaves
pub steps-legs : (w : Triple) (T : Pair) → Travels w T → HalfSteps w → (d : QuinticLegs) × LegsOf w d
steps-legs w T e ((h, f), (k, g)) = (record { d0 = a; d1 = h; d2 = d2; d3 = k; d4 = z }, record { first = refl; second = f; third = third; fourth = g; fifth = refl })
  where
    a : Pair
    a = times w.w0 w.w0

    z : Pair
    z = times w.w2 w.w2

    d2 : Pair
    d2 = minus T (plus (plus a h) (plus k z))

    third : multiple (pos 6) d2 ≡ plus (times w.v w.v) (multiple (pos 2) (times w.w0 w.w2))
    third =
        solve_pairs (a ∷ h ∷ T ∷ k ∷ z ∷ []) (6 ·· (the 2 ⊟ (the 0 ⊞ the 1 ⊞ (the 3 ⊞ the 4)))) (6 ·· the 2 ⊟ (6 ·· the 0 ⊞ 3 ·· (2 ·· the 1) ⊞ (3 ·· (2 ·· the 3) ⊞ 6 ·· the 4))) tt tt
        ∙ (λ i. minus (e i) (plus (plus (multiple (pos 6) a) (multiple (pos 3) (f i))) (plus (multiple (pos 3) (g i)) (multiple (pos 6) z))))
        ∙ solve_pairs (w.w0 ∷ w.v ∷ w.w2 ∷ []) (way ⊟ (6 ·· (the 0 ⊠ the 0) ⊞ 3 ·· (the 0 ⊠ the 1) ⊞ (3 ·· (the 1 ⊠ the 2) ⊞ 6 ·· (the 2 ⊠ the 2))))
        (the 1 ⊠ the 1 ⊞ 2 ·· (the 0 ⊠ the 2)) tt tt

-- ---- one half: 2 V = δ − s says that the centre is δ
centre-is : (x s δ : Pair) → x ≡ minus δ s → plus x s ≡ δ
centre-is x s δ e = ap (λ (y : Pair). plus y s) e ∙ solve_pairs (δ ∷ s ∷ []) (the 0 ⊟ the 1 ⊞ the 1) (the 0) tt tt

is-centre : (x s δ : Pair) → plus x s ≡ δ → x ≡ minus δ s
is-centre x s δ e = solve_pairs (x ∷ s ∷ []) (the 0) (the 0 ⊞ the 1 ⊟ the 1) tt tt ∙ ap (λ (y : Pair). minus y s) e

pub halved_once : (w0 n w2 : Pair) (u v : Triple) → Halved w0 n w2 u → Halved w0 n w2 v → u ≡ v
halved_once w0 n w2 u v h k = triple-equal (h.first ∙ sym k.first) (multiple_cancel 2 (omega arith) (h.middle ∙ sym k.middle)) (h.last ∙ sym k.last)

negative-square : (x : Pair) → times (negative x) (negative x) ≡ times x x
negative-square x = solve_pairs (x ∷ []) (opposite (the 0) ⊠ opposite (the 0)) (the 0 ⊠ the 0) tt tt

-- ---- the triples with these ends
module _ (w0 D w2 : Pair) where
  halved_centred : (δ : Pair) → times δ δ ≡ D → (w : Triple) → Halved w0 (minus δ (shift w0 w2)) w2 w → Centred w0 D w2 w
  halved_centred δ square w h = record {
    first = h.first;
    last = h.last;
    middle = ap (λ (c : Pair). times c c) (centre-is (multiple (pos 2) w.v) (shift w0 w2) δ h.middle) ∙ square;
    steps = h.steps;
  }

  centred_halved : (δ : Pair) (w : Triple) → Centred w0 D w2 w → centre w0 w.v w2 ≡ δ → Halved w0 (minus δ (shift w0 w2)) w2 w
  centred_halved δ w h e = record { first = h.first; last = h.last; middle = is-centre (multiple (pos 2) w.v) (shift w0 w2) δ e; steps = h.steps }

  module _ (δ : Pair) (square : times δ δ ≡ D) where
    abbrev pub Signs : Triple → Type 0
    Signs w = Halved w0 (minus (negative δ) (shift w0 w2)) w2 w ⊎ Halved w0 (minus δ (shift w0 w2)) w2 w

    pub signs_centred : (w : Triple) → Signs w → Centred w0 D w2 w
    signs_centred w = ⊎_elim (halved_centred (negative δ) (negative-square δ ∙ square) w) (halved_centred δ square w)

    pub centred_signs : (w : Triple) → Centred w0 D w2 w → Signs w
    centred_signs w h =
        ⊎_elim (λ e. inr (centred_halved δ w h e)) (λ e. inl (centred_halved (negative δ) w h e)) (square_roots (centre w0 w.v w2) δ (h.middle ∙ sym square))

  at_most_two : AtMost 2 (Centred w0 D w2)
  at_most_two = at-most_by (λ u h. let δ = centre w0 u.v w2 in at-most_as (centred_signs δ h.middle) (at-most_both (at_most_one (halved_once w0 _ w2)) (at_most_one (halved_once w0 _ w2))))

-- ---- the order
lower : (x y c d : ℤ) → pos 2 *ℤ x ≡ neg_ℤ d -ℤ c → pos 2 *ℤ y ≡ d -ℤ c → pos 0 <ℤ d → x <ℤ y
lower x y c d e f h = omega (linear, times_parts (pos 2) x, times_parts (pos 2) y, minus_parts (neg_ℤ d) c, minus_parts d c, negative_parts d)

level : (x y c d : ℤ) → pos 2 *ℤ x ≡ neg_ℤ d -ℤ c → pos 2 *ℤ y ≡ d -ℤ c → d ≡ pos 0 → x ≡ y
level x y c d e f h = omega (linear, times_parts (pos 2) x, times_parts (pos 2) y, minus_parts (neg_ℤ d) c, minus_parts d c, negative_parts d)

pub halves-below : (w0 w2 s δ : Pair) → FirstPositive δ.re δ.im → (u v : Triple) → Halved w0 (minus (negative δ) s) w2 u → Halved w0 (minus δ s) w2 v → Before u v
halves-below w0 w2 s δ p u v h k = inr (re-equal ends, inr (im-equal ends, by p))
  where
    ends : u.w2 ≡ v.w2
    ends = h.last ∙ sym k.last

    by : FirstPositive δ.re δ.im → Below (u.v.re ∷ u.v.im ∷ []) (v.v.re ∷ v.v.im ∷ [])
    by (inl l) = inl (lower u.v.re v.v.re s.re δ.re (re-equal h.middle) (re-equal k.middle) l)
    by (inr (e, l)) = inr (
      level u.v.re v.v.re s.re δ.re (re-equal h.middle) (re-equal k.middle) e,
      inl (lower u.v.im v.v.im s.im δ.im (im-equal h.middle) (im-equal k.middle) l),
    )

pub ends_below : (r : Pair) → FirstPositive r.re r.im → (u v : Triple) → u.w2 ≡ negative r → v.w2 ≡ r → Before u v
ends_below r p u v e f = by p
  where
    under : (x y d : ℤ) → x ≡ neg_ℤ d → y ≡ d → pos 0 <ℤ d → x <ℤ y
    under x y d e f h = omega (linear, negative_parts d)

    by : FirstPositive r.re r.im → Before u v
    by (inl l) = inl (under u.w2.re v.w2.re r.re (re-equal e) (re-equal f) l)
    by (inr (z, l)) = inr (re-equal e ∙ ap neg_ℤ z ∙ sym (re-equal f ∙ z), inl (under u.w2.im v.w2.im r.im (im-equal e) (im-equal f) l))

-- ---- the joins
-- w2 and −w2 have one discriminant but for the sign of its product
pub other_end : (f w0 r : Pair) → discriminant f (times w0 (negative r)) ≡ minus f (multiple (pos 10) (times w0 r))
other_end f w0 r = solve_pairs (f ∷ w0 ∷ r ∷ []) (the 0 ⊞ 10 ·· (the 1 ⊠ opposite (the 2))) (the 0 ⊟ 10 ·· (the 1 ⊠ the 2)) tt tt

module _ (a z T w0 : Pair) (first : times w0 w0 ≡ a) (kept : FirstPositive w0.re w0.im) where
  same_first : (w : Triple) → Join a z T w → w.w0 ≡ w0
  same_first w j = kept_roots w.w0 w0 j.kept kept (j.first ∙ sym first)

  abbrev To : Pair → Triple → Type 0
  To w2 = Centred w0 (discriminant (fixed a z T) (times w0 w2)) w2

  join_to : (w2 : Pair) → times w2 w2 ≡ z → (w : Triple) → Join a z T w → w.w2 ≡ w2 → To w2 w
  join_to w2 last w j e = record {
    first = same_first w j;
    last = e;
    middle = to_square a z T w0 w.v w2 first last (subst (λ (u : Triple). Travels u T) (triple-equal {v = triple w0 w.v w2} (same_first w j) refl e) j.travel);
    steps = legs-steps w j.legs.0 j.legs.1;
  }

  to_join : (w2 : Pair) → times w2 w2 ≡ z → (w : Triple) → To w2 w → Join a z T w
  to_join w2 last w h = record {
    first = ap (λ (x : Pair). times x x) h.first ∙ first;
    last = ap (λ (x : Pair). times x x) h.last ∙ last;
    travel = travel;
    legs = steps-legs w T travel h.steps;
    kept = subst (λ (x : Pair). FirstPositive x.re x.im) (sym h.first) kept;
  }
    where
      travel : Travels w T
      travel = subst (λ (u : Triple). Travels u T) (sym (triple-equal {v = triple w0 w.v w2} h.first refl h.last)) (of_square a z T w0 w.v w2 first last h.middle)

  module _ (r : Pair) (last : times r r ≡ z) where
    pub ends_join : (w : Triple) → Ending w0 (fixed a z T) r w → Join a z T w
    ends_join w = ⊎_elim (to_join (negative r) (negative-square r ∙ last) w) (to_join r last w)

    pub join_ends : (w : Triple) → Join a z T w → Ending w0 (fixed a z T) r w
    join_ends w j =
        ⊎_elim (λ e. inr (join_to r last w j e)) (λ e. inl (join_to (negative r) (negative-square r ∙ last) w j e)) (square_roots w.w2 r (j.last ∙ sym last))

pub at-most_four : {a z T : Pair} {ws : List Triple} → AllJoins a z T ws → length ws ≤ 4
at-most_four {a} {z} {T} {ws} l = four ws (sorted_distinct ws l.sorted) l.nothing_else
  where
    four : AtMost 4 (Join a z T)
    four = at-most_by (λ u j. at-most_as (join_ends a z T u.w0 j.first j.kept u.w2 j.last) (at-most_both (at_most_two u.w0 _ _) (at_most_two u.w0 _ _)))

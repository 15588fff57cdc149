-- Legs that meet a rule: D = κ w², with w by one greatest common divisor.
--   cubic-root, quintic-root             v² = d0 D, where v has the Bernstein coefficients e0, e1, or d0, d1, m
--   cubic_divisor, quintic_divisor       v has the greatest common divisor of e0, e1, or of d0, 2 d1, m
--   greatest_three                       such a divisor of three, by two steps
--   first_divisor                        which is not 0, the first leg not being 0
--   cubic_preimage, quintic_preimage     so v divided by it is a w
--   end_preimage                         D = t² E where d0 and d1 are 0: D = κ (t u)² where E = κ u²,
--   cubic_preimage_end                   as e2 t² where e0 is 0,
--   quintic_preimage_end                 and with E of 6 d2, 2 d3 and d4
use mathlib.Core.Path.{◌≡◌, refl, sym, ap, ◌∙◌, subst}
use mathlib.Core.List.{List, [], ◌∷◌}
use mathlib.Core.Logic.{◌≢◌, ⊎_elim}
use Prim.Native.Nat.{ℕ, zero, suc, ◌-◌, ◌≤◌}
use native.Mathlib.Omega.{arith}
use lib.IntN.{pos}
use lib.ListN.{length}
use Rattle.whole.specs.Coefficients.{at, Divides, Greatest}
use Rattle.poly.specs.Polynomials.{Same, sum, scaled, product, square}
use Rattle.whole.proofs.Divisor.{Common, common_two, divides_none, divides_plus, divides_negative, divides_trans}
use Rattle.whole.proofs.Ring.{times_none, none-times}
use Rattle.poly.proofs.Lists.{at_scaled, scaled-same, square-same}
use Rattle.poly.proofs.Shift.{square-shift}
use Rattle.pair.specs.declared.Pair.{Pair}
use Rattle.pair.specs.Pairs.{pairs, plus, minus, negative, times, multiple, one}
use Rattle.pair.proofs.Laws.{pairs_ring, pairs_domain, times_one, multiple-one}
use Rattle.pair.proofs.PairSolver.{the, ◌⊞◌, ◌⊟◌, ◌⊠◌, ◌··◌, solve_pairs}
use Rattle.divisor.proofs.Divisors.{greatest_zero}
use Rattle.bernstein.specs.Binomials.{choose}
use Rattle.bernstein.specs.Powers.{differences, kth_differences, power_form}
use Rattle.bernstein.proofs.PowerForms.{times-part, power_form-map}
use Rattle.bernstein.proofs.Products.{times_choose, power_form-lowered}
use Rattle.verdict.specs.Verdicts.{Generated}
use Rattle.curve.proofs.SquaredLegs.{cubic-legs, tripled_legs, quintic-legs}
use Rattle.verdict.specs.Rules.{CubicRule, QuinticRule, line_root, parabola_root, ByDivisor}
use Rattle.verdict.proofs.ByRoot.{root_preimage}

-- ---- v² = d0 D
line_same : (e0 e1 : Pair) → Same pairs (line_root e0 e1) (power_form (e0 ∷ e1 ∷ []))
unfolding power_form kth_differences differences choose
line_same e0 e1 zero = solve_pairs (e0 ∷ e1 ∷ []) (the 0) (1 ·· the 0) tt tt
line_same e0 e1 (suc zero) = solve_pairs (e0 ∷ e1 ∷ []) (the 1 ⊟ the 0) (1 ·· (the 1 ⊟ the 0)) tt tt
line_same e0 e1 (suc (suc k)) = refl

parabola-same : (d0 d1 m : Pair) → Same pairs (parabola_root d0 d1 m) (power_form (d0 ∷ d1 ∷ m ∷ []))
unfolding power_form kth_differences differences choose
parabola-same d0 d1 m zero = solve_pairs (d0 ∷ []) (the 0) (1 ·· the 0) tt tt
parabola-same d0 d1 m (suc zero) = refl
parabola-same d0 d1 m (suc (suc zero)) =
    solve_pairs (d0 ∷ d1 ∷ m ∷ []) (the 0 ⊟ 2 ·· the 1 ⊞ the 2) (1 ·· ((the 2 ⊟ the 1) ⊟ (the 1 ⊟ the 0))) tt tt
parabola-same d0 d1 m (suc (suc (suc k))) = refl

pub cubic-root : (e0 e1 e2 : Pair) → CubicRule e0 e1 e2 → Same pairs (square pairs (line_root e0 e1)) (scaled pairs e0 (power_form (e0 ∷ e1 ∷ e2 ∷ [])))
unfolding scaled
cubic-root e0 e1 e2 r k =
    square-same pairs_ring (line_root e0 e1) (power_form (e0 ∷ e1 ∷ [])) (line_same e0 e1) k
    ∙ sym (cubic-legs e0 e1 k)
    ∙ ap (λ x. at pairs (power_form (times e0 e0 ∷ times e0 e1 ∷ x ∷ [])) k) r
    ∙ power_form-map (times-part e0) (e0 ∷ e1 ∷ e2 ∷ []) k
    ∙ sym (at_scaled pairs_ring e0 (power_form (e0 ∷ e1 ∷ e2 ∷ [])) k)

pub quintic-root : (d0 d1 d2 d3 d4 m : Pair) → QuinticRule d0 d1 d2 d3 d4 m
    → Same pairs (square pairs (parabola_root d0 d1 m)) (scaled pairs d0 (power_form (d0 ∷ d1 ∷ d2 ∷ d3 ∷ d4 ∷ [])))
unfolding scaled
quintic-root d0 d1 d2 d3 d4 m r k =
    square-same pairs_ring (parabola_root d0 d1 m) (power_form (d0 ∷ d1 ∷ m ∷ [])) (parabola-same d0 d1 m) k
    ∙ sym ((quintic-legs d0 d1 m (times d0 d0) (times d0 d1) (times d0 d2) (times d0 d3) (times d0 d4)).1 tripled k)
    ∙ power_form-map (times-part d0) (d0 ∷ d1 ∷ d2 ∷ d3 ∷ d4 ∷ []) k
    ∙ sym (at_scaled pairs_ring d0 (power_form (d0 ∷ d1 ∷ d2 ∷ d3 ∷ d4 ∷ [])) k)
  where
    three : Pair → Pair
    three = multiple (pos 3)

    centre : three (times d0 d2) ≡ plus (multiple (pos 2) (times d1 d1)) (times d0 m)
    centre =
        solve_pairs (d0 ∷ d1 ∷ d2 ∷ []) (3 ·· (the 0 ⊠ the 2)) (2 ·· (the 1 ⊠ the 1) ⊞ (3 ·· (the 0 ⊠ the 2) ⊟ 2 ·· (the 1 ⊠ the 1))) tt tt
        ∙ ap (plus (multiple (pos 2) (times d1 d1))) (sym r.second)

    tripled : three (times d0 d0) ∷ three (times d0 d1) ∷ three (times d0 d2) ∷ three (times d0 d3) ∷ three (times d0 d4) ∷ [] ≡ tripled_legs d0 d1 m
    tripled i = three (times d0 d0) ∷ three (times d0 d1) ∷ centre i ∷ three (sym r.third i) ∷ three (sym r.fourth i) ∷ []

-- ---- the greatest common divisor
greatest_from : {p q : List Pair} {e : Pair} → ((d : Pair) → Common pairs_ring d p → Common pairs_ring d q) → ((d : Pair) → Common pairs_ring d q → Common pairs_ring d p)
    → Greatest pairs p e → Greatest pairs q e
greatest_from there back g = record { divides = there _ g.divides; greatest = λ d h. g.greatest d (back d h) }

module _ {d : Pair} where
  divides_minus : {a b : Pair} → Divides pairs d a → Divides pairs d b → Divides pairs d (plus a (negative b))
  divides_minus h k = divides_plus pairs_ring h (divides_negative pairs_ring k)

  common-three : {a b c : Pair} → Divides pairs d a → Divides pairs d b → Divides pairs d c → Common pairs_ring d (a ∷ b ∷ c ∷ [])
  common-three h i j zero = h
  common-three h i j (suc zero) = i
  common-three h i j (suc (suc zero)) = j
  common-three h i j (suc (suc (suc k))) = divides_none pairs_ring d

-- the greatest common divisor of three, by two steps
pub greatest_three : {a b c g e : Pair} → Greatest pairs (b ∷ c ∷ []) g → Greatest pairs (a ∷ g ∷ []) e → Greatest pairs (c ∷ a ∷ b ∷ []) e
greatest_three {a} {b} {c} {g} h k = record {
  divides = common-three (divides_trans pairs_ring (k.divides 1) (h.divides 1)) (k.divides 0) (divides_trans pairs_ring (k.divides 1) (h.divides 0));
  greatest = λ d i. k.greatest d ((common_two pairs_ring d a g).1 (i 1, h.greatest d ((common_two pairs_ring d b c).1 (i 2, i 0))));
}

pub cubic_divisor : (e0 e1 : Pair) {e : Pair} → Greatest pairs (e0 ∷ e1 ∷ []) e → Greatest pairs (line_root e0 e1) e
cubic_divisor e0 e1 =
    greatest_from
    (λ d h. (common_two pairs_ring d e0 (minus e1 e0)).1 (h 0, divides_minus (h 1) (h 0)))
    (λ d h. (common_two pairs_ring d e0 e1).1 (h 0, subst (Divides pairs d) back (divides_plus pairs_ring (h 1) (h 0))))
  where
    back : plus (minus e1 e0) e0 ≡ e1
    back = solve_pairs (e0 ∷ e1 ∷ []) (the 1 ⊟ the 0 ⊞ the 0) (the 1) tt tt

pub quintic_divisor : (d0 d1 m : Pair) {e : Pair} → Greatest pairs (d0 ∷ multiple (pos 2) d1 ∷ m ∷ []) e → Greatest pairs (parabola_root d0 d1 m) e
quintic_divisor d0 d1 m = greatest_from there back
  where
    step : minus (multiple (pos 2) d1) (plus d0 d0) ≡ multiple (pos 2) (minus d1 d0)
    step = solve_pairs (d0 ∷ d1 ∷ []) (2 ·· the 1 ⊟ (the 0 ⊞ the 0)) (2 ·· (the 1 ⊟ the 0)) tt tt

    there : (d : Pair) → Common pairs_ring d (d0 ∷ multiple (pos 2) d1 ∷ m ∷ []) → Common pairs_ring d (parabola_root d0 d1 m)
    there d h =
        common-three (h 0)
        (subst (Divides pairs d) step (divides_minus (h 1) (divides_plus pairs_ring (h 0) (h 0))))
        (divides_plus pairs_ring (divides_minus (h 0) (h 1)) (h 2))

    unstep : plus (multiple (pos 2) (minus d1 d0)) (plus d0 d0) ≡ multiple (pos 2) d1
    unstep = solve_pairs (d0 ∷ d1 ∷ []) (2 ·· (the 1 ⊟ the 0) ⊞ (the 0 ⊞ the 0)) (2 ·· the 1) tt tt

    all : plus (plus (plus (minus d0 (multiple (pos 2) d1)) m) (multiple (pos 2) (minus d1 d0))) d0 ≡ m
    all = solve_pairs (d0 ∷ d1 ∷ m ∷ []) (the 0 ⊟ 2 ·· the 1 ⊞ the 2 ⊞ 2 ·· (the 1 ⊟ the 0) ⊞ the 0) (the 2) tt tt

    back : (d : Pair) → Common pairs_ring d (parabola_root d0 d1 m) → Common pairs_ring d (d0 ∷ multiple (pos 2) d1 ∷ m ∷ [])
    back d h =
        common-three (h 0)
        (subst (Divides pairs d) unstep (divides_plus pairs_ring (h 1) (divides_plus pairs_ring (h 0) (h 0))))
        (subst (Divides pairs d) all (divides_plus pairs_ring (divides_plus pairs_ring (h 2) (h 1)) (h 0)))

-- ---- a first leg that is not 0
pub first_divisor : {a e : Pair} {p : List Pair} → a ≢ pairs.none → Greatest pairs (a ∷ p) e → e ≢ pairs.none
first_divisor n g z = n ((greatest_zero g).0 z 0)

pub cubic_preimage : (e0 e1 e2 e : Pair) (w : List Pair) → e0 ≢ pairs.none → CubicRule e0 e1 e2 → Greatest pairs (e0 ∷ e1 ∷ []) e
    → Same pairs (scaled pairs e w) (line_root e0 e1) → ByDivisor (power_form (e0 ∷ e1 ∷ e2 ∷ [])) e0 e w
cubic_preimage e0 e1 e2 e w n r g f =
    root_preimage (power_form (e0 ∷ e1 ∷ e2 ∷ [])) (line_root e0 e1) e0 e n (first_divisor n g) (cubic-root e0 e1 e2 r) (cubic_divisor e0 e1 g) w f

pub quintic_preimage : (d0 d1 d2 d3 d4 m e : Pair) (w : List Pair) → d0 ≢ pairs.none → QuinticRule d0 d1 d2 d3 d4 m
    → Greatest pairs (d0 ∷ multiple (pos 2) d1 ∷ m ∷ []) e → Same pairs (scaled pairs e w) (parabola_root d0 d1 m)
    → ByDivisor (power_form (d0 ∷ d1 ∷ d2 ∷ d3 ∷ d4 ∷ [])) d0 e w
quintic_preimage d0 d1 d2 d3 d4 m e w n r g f =
    root_preimage (power_form (d0 ∷ d1 ∷ d2 ∷ d3 ∷ d4 ∷ [])) (parabola_root d0 d1 m) d0 e n (first_divisor n g) (quintic-root d0 d1 d2 d3 d4 m r) (quintic_divisor d0 d1 m g) w f

-- ---- a first leg that is 0: the second is too, and D = t² E
-- E = κ u² gives t² E = κ (t u)²
raised : (E : List Pair) (κ : Pair) (u : List Pair) → Generated E κ u → Generated (pairs.none ∷ pairs.none ∷ E) κ (pairs.none ∷ u)
raised E κ u h k = shifted k ∙ sym (scaled-same pairs_ring κ (square pairs (pairs.none ∷ u)) (pairs.none ∷ pairs.none ∷ square pairs u) (square-shift pairs_ring u) k)
  where
    shifted : Same pairs (pairs.none ∷ pairs.none ∷ E) (scaled pairs κ (pairs.none ∷ pairs.none ∷ square pairs u))
    shifted zero = sym (at_scaled pairs_ring κ (pairs.none ∷ pairs.none ∷ square pairs u) 0 ∙ times_none pairs_ring κ)
    shifted (suc zero) = sym (at_scaled pairs_ring κ (pairs.none ∷ pairs.none ∷ square pairs u) 1 ∙ times_none pairs_ring κ)
    shifted (suc (suc k)) = h k ∙ at_scaled pairs_ring κ (square pairs u) k ∙ sym (at_scaled pairs_ring κ (pairs.none ∷ pairs.none ∷ square pairs u) (suc (suc k)))

end_preimage : (ds es : List Pair) → length ds - 1 ≡ suc (suc (length es - 1)) → at pairs ds 0 ≡ pairs.none → at pairs ds 1 ≡ pairs.none
    → ((k : ℕ) → k ≤ length es - 1 → times_choose es k ≡ times_choose ds (suc (suc k)))
    → (κ : Pair) (u : List Pair) → Generated (power_form es) κ u → Generated (power_form ds) κ (pairs.none ∷ u)
end_preimage ds es l y z e κ u h k = power_form-lowered ds es l y z e k ∙ raised (power_form es) κ u h k

pub cubic_preimage_end : (e0 e1 e2 : Pair) → e0 ≡ pairs.none → CubicRule e0 e1 e2 → Generated (power_form (e0 ∷ e1 ∷ e2 ∷ [])) e2 (pairs.none ∷ one ∷ [])
unfolding power_form kth_differences choose sum scaled product
cubic_preimage_end e0 e1 e2 z r = end_preimage (e0 ∷ e1 ∷ e2 ∷ []) (e2 ∷ []) refl z second_none weights e2 (one ∷ []) alone
  where
    second_none : e1 ≡ pairs.none
    second_none = ⊎_elim (λ e. e) (λ e. e) (pairs_domain.splits e1 e1 (r ∙ ap (λ x. times x e2) z ∙ none-times pairs_ring e2))

    weights : (k : ℕ) → k ≤ 0 → times_choose (e2 ∷ []) k ≡ times_choose (e0 ∷ e1 ∷ e2 ∷ []) (suc (suc k))
    weights zero l = refl
    weights (suc k) l = absurd (omega arith)

    alone : Generated (power_form (e2 ∷ [])) e2 (one ∷ [])
    alone zero = multiple-one e2 ∙ sym (times_one e2)
    alone (suc k) = refl

pub quintic_preimage_end : (d0 d1 d2 d3 d4 κ : Pair) (u : List Pair) → d0 ≡ pairs.none → d1 ≡ pairs.none
    → Generated (power_form (multiple (pos 6) d2 ∷ multiple (pos 2) d3 ∷ d4 ∷ [])) κ u → Generated (power_form (d0 ∷ d1 ∷ d2 ∷ d3 ∷ d4 ∷ [])) κ (pairs.none ∷ u)
unfolding choose
quintic_preimage_end d0 d1 d2 d3 d4 κ u y z = end_preimage (d0 ∷ d1 ∷ d2 ∷ d3 ∷ d4 ∷ []) (multiple (pos 6) d2 ∷ multiple (pos 2) d3 ∷ d4 ∷ []) refl y z weights κ u
  where
    weights : (k : ℕ) → k ≤ 2 → times_choose (multiple (pos 6) d2 ∷ multiple (pos 2) d3 ∷ d4 ∷ []) k ≡ times_choose (d0 ∷ d1 ∷ d2 ∷ d3 ∷ d4 ∷ []) (suc (suc k))
    weights zero l = multiple-one (multiple (pos 6) d2)
    weights (suc zero) l = solve_pairs (d3 ∷ []) (2 ·· (2 ·· the 0)) (4 ·· the 0) tt tt
    weights (suc (suc zero)) l = refl
    weights (suc (suc (suc k))) l = absurd (omega arith)

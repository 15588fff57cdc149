-- Squares of quadratics with fractional coefficients, over whole numbers: a denominator of 2 always serves.
--   square-over            over s the leg polynomial is a square: s² D is the square of the polynomial with the Bernstein coefficients u0, u1, u2
--   over_two               the legs of a triple are those over 2 of 2 w0, V, 2 w2
--   fractional_legs        legs whose polynomial is the square of a quadratic with fractional coefficients are those of a triple
--   two_serves             so 2 is denominator enough
use mathlib.Core.Path.{◌≡◌, sym, ap, ap₂, ◌∙◌}
use mathlib.Core.List.{List, [], ◌∷◌, map}
use mathlib.Core.Logic.{◌≢◌, ⊎_elim, ◌↔◌}
use Prim.Native.Nat.{ℕ, ◌*◌}
use native.Mathlib.Omega.{arith}
use lib.IntN.{ℤ, pos, nat_abs, ◌+ℤ◌, ◌*ℤ◌, *ℤ-zero, zero-*ℤ}
use Rattle.whole.specs.Coefficients.{at}
use Rattle.whole.proofs.Wholes.{atomsℤ, readℤ, read_pos, ringℤ}
use Rattle.poly.specs.Polynomials.{Same, scaled, square}
use Rattle.poly.proofs.Domain.{times_cancel}
use Rattle.poly.proofs.Lists.{at_scaled}
use Rattle.poly.proofs.Squares.{root_divides}
use Rattle.pair.specs.declared.Pair.{Pair}
use Rattle.pair.specs.Pairs.{pair, pairs, plus, minus, times, multiple}
use Rattle.pair.proofs.Laws.{pairs_ring, pairs_domain, multiple-times, multiple-one, multiple-multiple, multiple_cancel}
use Rattle.pair.proofs.Parts.{pair-equal, re-equal}
use Rattle.pair.proofs.PairSolver.{the, ◌⊞◌, ◌⊟◌, ◌⊠◌, ◌··◌, solve_pairs}
use Rattle.bernstein.specs.Powers.{power_form}
use Rattle.bernstein.proofs.PowerForms.{times-part, power_form-map}
use Rattle.divisor.proofs.Euclid.{pairs_bezout}
use Rattle.curve.proofs.SquaredLegs.{tripled_legs, quintic-legs}
use Rattle.join.specs.Promise.{Triple, QuinticLegs, LegsOf}
use Rattle.join.specs.Curves.{leg_list, SquareOver, FractionalSquare}
use Rattle.join.specs.Steps.{triple}

-- ---- the polynomial
-- s² as a pair
abbrev pub square_of : ℕ → Pair
square_of s = pair (pos (s * s)) (pos 0)

thrice : (s : ℕ) (x : Pair) → multiple (pos 3) (multiple (pos (s * s)) x) ≡ multiple (pos (3 * (s * s))) x
thrice s x = multiple-multiple (pos 3) (pos (s * s)) (pos (3 * (s * s))) (pos 1) x (ap pos (omega arith)) ∙ ap (multiple (pos (3 * (s * s)))) (multiple-one x)

module _ (s : ℕ) (u0 u1 u2 : Pair) (d : QuinticLegs) where
  -- the legs of s² D
  many : List Pair
  many = map (times (square_of s)) (leg_list d)

  many_is : (k : ℕ) → at pairs (scaled pairs (square_of s) (power_form (leg_list d))) k ≡ at pairs (power_form many) k
  unfolding many
  many_is k = at_scaled pairs_ring (square_of s) (power_form (leg_list d)) k ∙ sym (power_form-map (times-part (square_of s)) (leg_list d) k)

  by_legs : Same pairs (power_form many) (square pairs (power_form (u0 ∷ u1 ∷ u2 ∷ []))) ↔ (map (multiple (pos 3)) many ≡ tripled_legs u0 u1 u2)
  unfolding many
  by_legs = quintic-legs u0 u1 u2 (times (square_of s) d.d0) (times (square_of s) d.d1) (times (square_of s) d.d2) (times (square_of s) d.d3) (times (square_of s) d.d4)

  leg : (x : Pair) → multiple (pos 3) (times (square_of s) x) ≡ multiple (pos 3) (multiple (pos (s * s)) x)
  leg x = ap (multiple (pos 3)) (sym (multiple-times (pos (s * s)) x))

  pub square-over : SquareOver s u0 u1 u2 d ↔ Same pairs (scaled pairs (square_of s) (power_form (leg_list d))) (square pairs (power_form (u0 ∷ u1 ∷ u2 ∷ [])))
  unfolding many
  square-over = (λ h k. many_is k ∙ by_legs.1 (there h) k, λ h. back (by_legs.0 (λ k. sym (many_is k) ∙ h k)))
    where
      led : (x : Pair) {y : Pair} → multiple (pos (s * s)) x ≡ y → multiple (pos 3) (times (square_of s) x) ≡ multiple (pos 3) y
      led x e = leg x ∙ ap (multiple (pos 3)) e

      there : SquareOver s u0 u1 u2 d → map (multiple (pos 3)) many ≡ tripled_legs u0 u1 u2
      there h = λ i. led d.d0 h.first i ∷ led d.d1 h.second i ∷ (leg d.d2 ∙ thrice s d.d2 ∙ h.third) i ∷ led d.d3 h.fourth i ∷ led d.d4 h.fifth i ∷ []

      back : map (multiple (pos 3)) many ≡ tripled_legs u0 u1 u2 → SquareOver s u0 u1 u2 d
      back e =
          let of : (k : ℕ) → at pairs (map (multiple (pos 3)) many) k ≡ at pairs (tripled_legs u0 u1 u2) k = (λ k. ap (λ (l : List Pair). at pairs l k) e) in
          record {
            first = multiple_cancel 3 (omega arith) (sym (leg d.d0) ∙ of 0);
            second = multiple_cancel 3 (omega arith) (sym (leg d.d1) ∙ of 1);
            third = sym (thrice s d.d2) ∙ sym (leg d.d2) ∙ of 2;
            fourth = multiple_cancel 3 (omega arith) (sym (leg d.d3) ∙ of 3);
            fifth = multiple_cancel 3 (omega arith) (sym (leg d.d4) ∙ of 4);
          }

-- ---- the legs of a triple, over 2
pub over_two : (w : Triple) (d : QuinticLegs) → LegsOf w d → SquareOver 2 (multiple (pos 2) w.w0) w.v (multiple (pos 2) w.w2) d
over_two w d h = record {
  first = ap (multiple (pos 4)) h.first ∙ solve_pairs ws (4 ·· (the 0 ⊠ the 0)) (2 ·· the 0 ⊠ 2 ·· the 0) tt tt;
  second = twice d.d1 ∙ ap (multiple (pos 2)) h.second ∙ solve_pairs ws (2 ·· (the 0 ⊠ the 1)) (2 ·· the 0 ⊠ the 1) tt tt;
  third =
      solve_pairs (d.d2 ∷ []) (12 ·· the 0) (2 ·· (6 ·· the 0)) tt tt
      ∙ ap (multiple (pos 2)) h.third
      ∙ solve_pairs ws (2 ·· (the 1 ⊠ the 1 ⊞ 2 ·· (the 0 ⊠ the 2))) (2 ·· (the 1 ⊠ the 1) ⊞ 2 ·· the 0 ⊠ 2 ·· the 2) tt tt;
  fourth = twice d.d3 ∙ ap (multiple (pos 2)) h.fourth ∙ solve_pairs ws (2 ·· (the 1 ⊠ the 2)) (the 1 ⊠ 2 ·· the 2) tt tt;
  fifth = ap (multiple (pos 4)) h.fifth ∙ solve_pairs ws (4 ·· (the 2 ⊠ the 2)) (2 ·· the 2 ⊠ 2 ·· the 2) tt tt;
}
  where
    ws : List Pair
    ws = w.w0 ∷ w.v ∷ w.w2 ∷ []

    twice : (x : Pair) → multiple (pos 4) x ≡ multiple (pos 2) (multiple (pos 2) x)
    twice x = solve_pairs (x ∷ []) (4 ·· the 0) (2 ·· (2 ·· the 0)) tt tt

-- ---- any denominator
whole-square : (n : ℤ) → pair (n *ℤ n) (pos 0) ≡ times (pair n (pos 0)) (pair n (pos 0))
whole-square n =
    pair-equal (atomsℤ (n ∷ []) (λ ρ e. simp (e 0, readℤ, read_pos ρ 0) (ringℤ ρ _ _ tt))) (sym (ap₂ ◌+ℤ◌ (*ℤ-zero n) (zero-*ℤ n)))

module _ (d : QuinticLegs) (f : FractionalSquare d) where
  -- s as a pair, and its square
  S : Pair
  S = pair (pos f.s) (pos 0)

  SS : Pair
  SS = times S S

  some : S ≢ pairs.none
  unfolding S
  some e = let z : f.s ≡ 0 = ap nat_abs (re-equal e) in omega (arith, f.positive)

  cancel : {x y : Pair} → times SS x ≡ times SS y → x ≡ y
  unfolding SS
  cancel {x} {y} = times_cancel pairs_ring pairs_domain SS x y (λ e. ⊎_elim some some (pairs_domain.splits S S e))

  over : (x : Pair) → multiple (pos (f.s * f.s)) x ≡ times SS x
  unfolding S SS
  over x = multiple-times (pos (f.s * f.s)) x ∙ ap (λ (t : Pair). times t x) (whole-square (pos f.s))

  -- a square over s has a root over s
  rooted : (e u : Pair) → times SS e ≡ times u u → (w : Pair) × (times S w ≡ u)
  unfolding SS
  rooted e u h = let r = root_divides pairs_ring pairs_bezout pairs_domain S e u some h in (r.factor, r.is)

  e0 : times SS d.d0 ≡ times f.u0 f.u0
  e0 = sym (over d.d0) ∙ f.square.first

  e4 : times SS d.d4 ≡ times f.u2 f.u2
  e4 = sym (over d.d4) ∙ f.square.fifth

  w0 : Pair
  w0 = (rooted d.d0 f.u0 e0).0

  w0-is : times S w0 ≡ f.u0
  unfolding w0
  w0-is = (rooted d.d0 f.u0 e0).1

  w2 : Pair
  w2 = (rooted d.d4 f.u2 e4).0

  w2-is : times S w2 ≡ f.u2
  unfolding w2
  w2-is = (rooted d.d4 f.u2 e4).1

  -- s² x y = (s x) (s y)
  spread : (x y : Pair) → times SS (times x y) ≡ times (times S x) (times S y)
  unfolding SS
  spread x y = solve_pairs (S ∷ x ∷ y ∷ []) (the 0 ⊠ the 0 ⊠ (the 1 ⊠ the 2)) (the 0 ⊠ the 1 ⊠ (the 0 ⊠ the 2)) tt tt

  -- s² w0 w2 = u0 u2
  ends : times SS (times w0 w2) ≡ times f.u0 f.u2
  ends = spread w0 w2 ∙ ap₂ times w0-is w2-is

  -- three times the middle leg
  e2 : multiple (pos 3) (times SS d.d2) ≡ plus (multiple (pos 2) (times f.u1 f.u1)) (times f.u0 f.u2)
  e2 = ap (multiple (pos 3)) (sym (over d.d2)) ∙ thrice f.s d.d2 ∙ f.square.third

  -- (2 u1)² = s² · 2 (3 d2 − w0 w2)
  doubled : times SS (multiple (pos 2) (minus (multiple (pos 3) d.d2) (times w0 w2))) ≡ times (multiple (pos 2) f.u1) (multiple (pos 2) f.u1)
  doubled =
      solve_pairs (SS ∷ d.d2 ∷ times w0 w2 ∷ []) (the 0 ⊠ 2 ·· (3 ·· the 1 ⊟ the 2)) (2 ·· (3 ·· (the 0 ⊠ the 1)) ⊟ 2 ·· (the 0 ⊠ the 2)) tt tt
      ∙ ap₂ (λ (x y : Pair). minus (multiple (pos 2) x) (multiple (pos 2) y)) e2 ends
      ∙ solve_pairs (f.u0 ∷ f.u1 ∷ f.u2 ∷ []) (2 ·· (2 ·· (the 1 ⊠ the 1) ⊞ the 0 ⊠ the 2) ⊟ 2 ·· (the 0 ⊠ the 2)) (2 ·· the 1 ⊠ 2 ·· the 1) tt tt

  v : Pair
  v = (rooted (multiple (pos 2) (minus (multiple (pos 3) d.d2) (times w0 w2))) (multiple (pos 2) f.u1) doubled).0

  v-is : times S v ≡ multiple (pos 2) f.u1
  unfolding v
  v-is = (rooted (multiple (pos 2) (minus (multiple (pos 3) d.d2) (times w0 w2))) (multiple (pos 2) f.u1) doubled).1

  pub fractional_legs : (w : Triple) × LegsOf w d
  fractional_legs = (
    triple w0 v w2,
    record {
      first = cancel (e0 ∙ sym (ap₂ times w0-is w0-is) ∙ sym (spread w0 w0));
      second = cancel (twice d.d1 ∙ ap (multiple (pos 2)) (sym (over d.d1) ∙ f.square.second) ∙ solve_pairs us (2 ·· (the 0 ⊠ the 1)) (the 0 ⊠ 2 ·· the 1) tt tt ∙ sym (ap₂ times w0-is v-is) ∙ sym (spread w0 v));
      third = cancel third;
      fourth = cancel (twice d.d3 ∙ ap (multiple (pos 2)) (sym (over d.d3) ∙ f.square.fourth) ∙ solve_pairs us (2 ·· (the 1 ⊠ the 2)) (2 ·· the 1 ⊠ the 2) tt tt ∙ sym (ap₂ times v-is w2-is) ∙ sym (spread v w2));
      fifth = cancel (e4 ∙ sym (ap₂ times w2-is w2-is) ∙ sym (spread w2 w2));
    },
  )
    where
      us : List Pair
      us = f.u0 ∷ f.u1 ∷ f.u2 ∷ []

      twice : (x : Pair) → times SS (multiple (pos 2) x) ≡ multiple (pos 2) (times SS x)
      twice x = solve_pairs (SS ∷ x ∷ []) (the 0 ⊠ 2 ·· the 1) (2 ·· (the 0 ⊠ the 1)) tt tt

      third : times SS (multiple (pos 6) d.d2) ≡ times SS (plus (times v v) (multiple (pos 2) (times w0 w2)))
      third =
          solve_pairs (SS ∷ d.d2 ∷ []) (the 0 ⊠ 6 ·· the 1) (2 ·· (3 ·· (the 0 ⊠ the 1))) tt tt
          ∙ ap (multiple (pos 2)) e2
          ∙ solve_pairs us (2 ·· (2 ·· (the 1 ⊠ the 1) ⊞ the 0 ⊠ the 2)) (2 ·· the 1 ⊠ 2 ·· the 1 ⊞ 2 ·· (the 0 ⊠ the 2)) tt tt
          ∙ sym (ap₂ (λ (x y : Pair). plus x (multiple (pos 2) y)) (spread v v ∙ ap₂ times v-is v-is) ends)
          ∙ solve_pairs (SS ∷ times v v ∷ times w0 w2 ∷ []) (the 0 ⊠ the 1 ⊞ 2 ·· (the 0 ⊠ the 2)) (the 0 ⊠ (the 1 ⊞ 2 ·· the 2)) tt tt

pub two_serves : (d : QuinticLegs) → FractionalSquare d → (u0 : Pair) × (u1 : Pair) × (u2 : Pair) × SquareOver 2 u0 u1 u2 d
two_serves d f = let (w, h) = fractional_legs d f in (multiple (pos 2) w.w0, w.v, multiple (pos 2) w.w2, over_two w d h)

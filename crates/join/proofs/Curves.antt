-- The joins as curves: the list holds each quintic with whole legs from a to z over T whose leg polynomial is the square of a quadratic with
-- fractional complex coefficients, once.
--   legs-decide         two kept triples with the same legs are equal
--   some_leg_differs    so two different triples of the list differ in a leg
--   legs_travel         the legs of a triple go over T exactly where it travels over T
--   listed_once         such a quintic has the legs of one triple of the list, and of no other
--   each_connects          every triple of the list has whole legs from a to z over T, and they are such a quintic
use mathlib.Core.Path.{◌≡◌, refl, sym, ap, ap₂, ◌∙◌, subst}
use mathlib.Core.List.{List, [], ◌∷◌}
use mathlib.Core.Logic.{◌≢◌, ◌↔◌, ⊎_elim}
use Prim.Native.Nat.{ℕ, zero, suc}
use native.Mathlib.Omega.{arith}
use lib.IntN.{pos}
use lib.ListN.{length}
use Rattle.whole.specs.Coefficients.{at}
use Rattle.whole.specs.Number.{FirstPositive}
use Rattle.whole.proofs.Ring.{plus_cancel, zero-difference}
use Rattle.poly.proofs.Domain.{times_cancel}
use Rattle.pair.specs.declared.Pair.{Pair}
use Rattle.pair.specs.Pairs.{pairs, plus, minus, negative, times, multiple}
use Rattle.pair.proofs.Laws.{pairs_ring, pairs_domain, multiple_cancel, pair-zero?}
use Rattle.pair.proofs.PairSolver.{the, ◌⊞◌, ◌⊠◌, ◌··◌, opposite, nought, solve_pairs}
use Rattle.divisor.proofs.Roots.{first_some, first_found, kept_roots}
use Rattle.join.specs.Promise.{Triple, travelled, Travels, QuinticLegs, LegsOf, Member, AllJoins}
use Rattle.join.specs.Curves.{leg_list, travel_of, Connects, FractionalSquare, TracedOnce}
use Rattle.join.specs.Steps.{triple}
use Rattle.join.proofs.Order.{triple-equal}
use Rattle.join.proofs.Centres.{way}
use Rattle.join.proofs.Fractions.{over_two, fractional_legs}

-- ---- the legs decide a kept triple
pub legs-decide : (u v : Triple) (d : QuinticLegs) → FirstPositive u.w0.re u.w0.im → FirstPositive v.w0.re v.w0.im → LegsOf u d → LegsOf v d → u ≡ v
legs-decide u v d h k f g = triple-equal e0 e1 e2
  where
    e0 : u.w0 ≡ v.w0
    e0 = kept_roots u.w0 v.w0 h k (sym f.first ∙ g.first)

    -- a product with w0 decides the other factor
    over : (a b : Pair) → times u.w0 a ≡ times v.w0 b → a ≡ b
    over a b e = times_cancel pairs_ring pairs_domain u.w0 a b (first_some h) (e ∙ ap (λ (x : Pair). times x b) (sym e0))

    e1 : u.v ≡ v.v
    e1 = over u.v v.v (sym f.second ∙ g.second)

    e2 : u.w2 ≡ v.w2
    e2 = over u.w2 v.w2 (multiple_cancel 2 (omega arith) (plus_cancel pairs_ring (times u.v u.v)
        (sym f.third ∙ g.third ∙ ap (λ (x : Pair). plus (times x x) (multiple (pos 2) (times v.w0 v.w2))) (sym e1))))

-- two lists that are not equal differ at a place
differ : (xs ys : List Pair) → length xs ≡ length ys → xs ≢ ys → (k : ℕ) × (at pairs xs k ≢ at pairs ys k)
differ [] [] l n = absurd (n refl)
differ [] (y ∷ ys) l n = absurd (omega arith)
differ (x ∷ xs) [] l n = absurd (omega arith)
differ (x ∷ xs) (y ∷ ys) l n = by (pair-zero? (minus x y)) (differ xs ys (omega arith))
  where
    by : Dec (minus x y ≡ pairs.none) → (xs ≢ ys → (k : ℕ) × (at pairs xs k ≢ at pairs ys k)) → (k : ℕ) × (at pairs (x ∷ xs) k ≢ at pairs (y ∷ ys) k)
    by (yes z) f =
        let e = zero-difference pairs_ring x y z in
        let (k, h) = f (λ t. n (ap₂ ◌∷◌ e t)) in
        (suc k, h)
    by (no z) f = (zero, λ e. z (ap (λ (t : Pair). minus t y) e ∙ pairs_ring.plus_negative y))

legs-same : (d e : QuinticLegs) → leg_list d ≡ leg_list e → d ≡ e
legs-same d e h = λ i. record { d0 = at pairs (h i) 0; d1 = at pairs (h i) 1; d2 = at pairs (h i) 2; d3 = at pairs (h i) 3; d4 = at pairs (h i) 4 }

pub some_leg_differs : {a z T : Pair} {ws : List Triple} → AllJoins a z T ws → (u v : Triple) → Member u ws → Member v ws → u ≢ v
    → (d e : QuinticLegs) → LegsOf u d → LegsOf v e → (k : ℕ) × (at pairs (leg_list d) k ≢ at pairs (leg_list e) k)
some_leg_differs all u v m n apart d e f g =
    differ (leg_list d) (leg_list e) refl
    (λ h. apart (legs-decide u v e (all.nothing_else u m).kept (all.nothing_else v n).kept (subst (LegsOf u) (legs-same d e h) f) g))

-- ---- six times the sum of the legs
sixfold : (w : Triple) (d : QuinticLegs) → LegsOf w d → multiple (pos 6) (travel_of (leg_list d)) ≡ travelled w
sixfold w d h =
    solve_pairs (leg_list d) (6 ·· (the 0 ⊞ (the 1 ⊞ (the 2 ⊞ (the 3 ⊞ (the 4 ⊞ nought))))))
    (6 ·· the 0 ⊞ (3 ·· (2 ·· the 1) ⊞ (6 ·· the 2 ⊞ (3 ·· (2 ·· the 3) ⊞ 6 ·· the 4)))) tt tt
    ∙ (λ i. plus (multiple (pos 6) (h.first i)) (plus (multiple (pos 3) (h.second i)) (plus (h.third i) (plus (multiple (pos 3) (h.fourth i)) (multiple (pos 6) (h.fifth i))))))
    ∙ solve_pairs (w.w0 ∷ w.v ∷ w.w2 ∷ [])
    (6 ·· (the 0 ⊠ the 0) ⊞ (3 ·· (the 0 ⊠ the 1) ⊞ (the 1 ⊠ the 1 ⊞ 2 ·· (the 0 ⊠ the 2) ⊞ (3 ·· (the 1 ⊠ the 2) ⊞ 6 ·· (the 2 ⊠ the 2))))) way tt tt

pub legs_travel : (w : Triple) (d : QuinticLegs) (T : Pair) → LegsOf w d → (travel_of (leg_list d) ≡ T) ↔ Travels w T
legs_travel w d T h = (λ e. ap (multiple (pos 6)) (sym e) ∙ sixfold w d h, λ e. multiple_cancel 6 (omega arith) (sixfold w d h ∙ sym e))

-- ---- a triple and its negative have the same legs
opposed : Triple → Triple
opposed w = triple (negative w.w0) (negative w.v) (negative w.w2)

opposed_legs : (w : Triple) (d : QuinticLegs) → LegsOf w d → LegsOf (opposed w) d
unfolding opposed
opposed_legs w d h = record {
  first = h.first ∙ both w.w0 w.w0;
  second = h.second ∙ both w.w0 w.v;
  third = h.third ∙ ap₂ (λ (x y : Pair). plus x (multiple (pos 2) y)) (both w.v w.v) (both w.w0 w.w2);
  fourth = h.fourth ∙ both w.v w.w2;
  fifth = h.fifth ∙ both w.w2 w.w2;
}
  where
    both : (x y : Pair) → times x y ≡ times (negative x) (negative y)
    both x y = solve_pairs (x ∷ y ∷ []) (the 0 ⊠ the 1) (opposite (the 0) ⊠ opposite (the 1)) tt tt

-- ---- legs from a to z over T
module _ (a z T : Pair) (ws : List Triple) (all : AllJoins a z T ws) where
  -- a kept triple with such legs is in the list, and no other has them
  kept_once : (w : Triple) (d : QuinticLegs) → Connects a z T d → LegsOf w d → FirstPositive w.w0.re w.w0.im → TracedOnce ws d
  kept_once w d h l k = record {
    triple = w;
    member = all.every w (record { first = sym l.first ∙ h.first; last = sym l.fifth ∙ h.last; travel = (legs_travel w d T l).0 h.travel; legs = (d, l); kept = k });
    legs = l;
    no_other = λ v m g. legs-decide v w d (all.nothing_else v m).kept k g l;
  }

  pub listed_once : a ≢ pairs.none → (d : QuinticLegs) → Connects a z T d → FractionalSquare d → TracedOnce ws d
  unfolding opposed
  listed_once some d h f = ⊎_elim (kept_once w d h l) (kept_once (opposed w) d h (opposed_legs w d l)) (first_found w.w0 w_some)
    where
      w : Triple
      w = (fractional_legs d f).0

      l : LegsOf w d
      l = (fractional_legs d f).1

      w_some : w.w0 ≢ pairs.none
      w_some e = some (sym h.first ∙ l.first ∙ ap (λ (x : Pair). times x x) e)

  pub each_connects : (w : Triple) → Member w ws → (d : QuinticLegs) × LegsOf w d × Connects a z T d × FractionalSquare d
  each_connects w m =
      let j = all.nothing_else w m in
      let (d, l) = j.legs in (
        d,
        l,
        record { first = l.first ∙ j.first; last = l.fifth ∙ j.last; travel = (legs_travel w d T l).1 j.travel },
        record { s = 2; positive = omega arith; u0 = multiple (pos 2) w.w0; u1 = w.v; u2 = multiple (pos 2) w.w2; square = over_two w d l },
      )

-- A listed join with a whole middle coefficient is built: never THIRDS, never STILL, and what is built leads from a to z over T.
--   points_lead      the points that go by five legs lead from the first to the last over their sum
--   joins_lead       the claim
use mathlib.Core.Path.{◌≡◌, refl, sym, ap, ◌∙◌, subst}
use mathlib.Core.List.{List, [], ◌∷◌}
use mathlib.Core.Logic.{inl, inr}
use native.Mathlib.Omega.{arith}
use lib.IntN.{pos}
use Rattle.std.specs.Prelude.{Result, Ok, Err}
use Rattle.refusal.specs.declared.Refusal.{Refusal}
use Rattle.refusal.specs.declared.Refusal.TheVariants as R
use Rattle.refusal.specs.Table.{First, number_of}
use Rattle.refusal.proofs.Laws.{number_once, number_some}
use Rattle.pair.specs.declared.Pair.{Pair}
use Rattle.pair.specs.Pairs.{plus, times, multiple}
use Rattle.pair.proofs.Laws.{multiple_cancel, plus-minus}
use Rattle.pair.proofs.PairSolver.{the, ◌⊞◌, ◌⊟◌, ◌⊠◌, ◌··◌, nought, solve_pairs}
use Rattle.divisor.proofs.Roots.{first_some}
use Rattle.bernstein.specs.Powers.{differences}
use Rattle.curve.specs.declared.Curve.{Curve}
use Rattle.build.specs.Promise.{Source, quintic, pairs_of, AreLegs, points, AllZero, causes, Built}
use Rattle.build.proofs.Legs.{legs_once, third-found}
use Rattle.join.specs.Promise.{Triple, QuinticLegs, LegsOf, Member, AllJoins}
use Rattle.join.specs.Curves.{leg_list, travel_of, Connects}
use Rattle.join.proofs.Curves.{each_connects}
use Rattle.claims.specs.Joined.{Leads, Leading, JoinsLead}

points_lead : (p : Pair) (d : QuinticLegs) → Leads d.d0 d.d4 (travel_of (leg_list d)) (points p (leg_list d))
unfolding points differences
points_lead p d = record {
  six = refl;
  first = plus-minus p d.d0;
  last = plus-minus (plus (plus (plus (plus p d.d0) d.d1) d.d2) d.d3) d.d4;
  travel =
      solve_pairs (p ∷ leg_list d) (the 0 ⊞ the 1 ⊞ the 2 ⊞ the 3 ⊞ the 4 ⊞ the 5 ⊟ the 0)
      (the 1 ⊞ (the 2 ⊞ (the 3 ⊞ (the 4 ⊞ (the 5 ⊞ nought))))) tt tt;
}

module _ (a z T : Pair) (ws : List Triple) (all : AllJoins a z T ws) (w : Triple) (m : Member w ws) (w1 : Pair) (even : multiple (pos 2) w1 ≡ w.v) where
  abbrev s : Source
  s = quintic w.w0 w1 w.w2

  -- the legs of the triple
  d : QuinticLegs
  d = (each_connects a z T ws all w m).0

  legs : LegsOf w d
  unfolding d
  legs = (each_connects a z T ws all w m).1

  connects : Connects a z T d
  unfolding d
  connects = (each_connects a z T ws all w m).2

  -- three times the middle leg
  third : multiple (pos 3) d.d2 ≡ plus (multiple (pos 2) (times w1 w1)) (times w.w0 w.w2)
  third =
      multiple_cancel 2 (omega arith)
      (solve_pairs (d.d2 ∷ []) (2 ·· (3 ·· the 0)) (6 ·· the 0) tt tt
      ∙ legs.third
      ∙ ap (λ (x : Pair). plus (times x x) (multiple (pos 2) (times w.w0 w.w2))) (sym even)
      ∙ solve_pairs (w.w0 ∷ w1 ∷ w.w2 ∷ []) (2 ·· the 1 ⊠ 2 ·· the 1 ⊞ 2 ·· (the 0 ⊠ the 2)) (2 ·· (2 ·· (the 1 ⊠ the 1) ⊞ the 0 ⊠ the 2)) tt tt)

  are_legs : AreLegs s (leg_list d)
  are_legs = (d.d2, third, λ i. legs.first i ∷ e1 i ∷ d.d2 ∷ e3 i ∷ legs.fifth i ∷ [])
    where
      e1 : d.d1 ≡ times w.w0 w1
      e1 =
          multiple_cancel 2 (omega arith)
          (legs.second ∙ ap (times w.w0) (sym even) ∙ solve_pairs (w.w0 ∷ w1 ∷ []) (the 0 ⊠ 2 ·· the 1) (2 ·· (the 0 ⊠ the 1)) tt tt)

      e3 : d.d3 ≡ times w1 w.w2
      e3 =
          multiple_cancel 2 (omega arith)
          (legs.fourth ∙ ap (λ (x : Pair). times x w.w2) (sym even) ∙ solve_pairs (w1 ∷ w.w2 ∷ []) (2 ·· the 0 ⊠ the 1) (2 ·· (the 0 ⊠ the 1)) tt tt)

  some : AllZero (pairs_of s) → ⊥
  some h = first_some (all.nothing_else w m).kept (h 0)

  refused_range : (p0 : Pair) (r : Refusal) → First (causes p0 s) (number_of r) → r ≡ R.Range
  refused_range p0 r (inl (h, e)) = number_once r R.Range e
  refused_range p0 r (inr (h, inl (n, e))) = absurd (some n)
  refused_range p0 r (inr (h, inr (k, inl (n, e)))) = absurd (third-found d.d2 third n)
  refused_range p0 r (inr (h, inr (k, inr (l, inl (n, e))))) = number_once r R.Range e
  refused_range p0 r (inr (h, inr (k, inr (l, inr (n, e))))) = absurd (number_some r e)

  leading : (p0 : Pair) (r : Result Curve Refusal) → Built p0 s r → Leading a z T r
  leading p0 (Ok c) (f, b) =
      subst (Leads a z T) (sym (b.by_legs ∙ ap (points p0) (legs_once s b.legs (leg_list d) b.are_legs are_legs)))
      (subst (λ X. X) (λ i. Leads (connects.first i) (connects.last i) (connects.travel i) (points p0 (leg_list d))) (points_lead p0 d))
  leading p0 (Err r) (f, e) = refused_range p0 r f

pub joins_lead : JoinsLead
joins_lead a z T ws all w m w1 even p0 r = leading a z T ws all w m w1 even p0 r

-- `root::quartic_root` meets its contract. Where there is a root, its lead is s, up to the sign, so the search finds it.
use Rattle.std.specs.Prelude.{Option, Some, None}
use mathlib.Core.Path.{◌≡◌, sym, ap, ◌∙◌, subst}
use mathlib.Core.List.{List}
use mathlib.Core.Logic.{◌≢◌, ◌⊎◌, inl, inr}
use Prim.Native.Nat.{ℕ, ◌*◌, ◌≤◌, ◌<◌}
use native.Mathlib.Decide.{dec_lt}
use native.Mathlib.Nat.{mul-le-mul}
use native.Mathlib.Omega.{arith}
use lib.Dec.{lit<}
use lib.IntN.{ℤ, pos, neg_ℤ, nat_abs, ◌*ℤ◌}
use lib.Signed.{◌≤ℤ◌, ◌<ℤ◌}
use mir.Syntax.{w64}
use mir.Val.{to_z, of_z}
use mir.ValLaws.{to_z-of_z}
use Rattle.whole.specs.Number.{wholes, norm_size}
use Rattle.whole.specs.Coefficients.{at}
use Rattle.poly.specs.Polynomials.{Same, square}
use Rattle.whole.proofs.Bound.{fits_within}
use Rattle.whole.proofs.Integers.{abs_negative, abs_times}
use Rattle.whole.proofs.Linear.{linear}
use Rattle.whole.proofs.Order.{compare}
use Rattle.whole.proofs.Wholes.{wholes_ring}
use Rattle.poly.proofs.Lists.{square-same}
use Rattle.poly.proofs.Roots.{root_lead}
use Rattle.poly.proofs.Wholes.{wholes_domain, whole-zero?}
use Rattle.root.specs.declared.Octic.{Octic}
use Rattle.root.specs.declared.Quartic.{Quartic}
use Rattle.poly.specs.Terms.{Top}
use Rattle.root.specs.Search.{Each, UpperRoot}
use Rattle.root.specs.Promise.{octic, quartic, Sized, Small, Positive, root_size}
use Rattle.root.specs.Steps.{IsLead, IsSearch}
use Rattle.root.proofs.Candidates.{same-all, root-upper, upper_lead}
use Rattle.root.proofs.Downward.{upper-root_once}
use Rattle.root.proofs.quartic_root.Goals as goal

flipped : (a : ℤ) → Small a → Small (neg_ℤ a)
flipped a h = record { size = rw abs_negative h.size }

-- a square of at most 10^13
root-size : (k : ℕ) → k * k ≤ norm_size → k ≤ root_size
root-size k h = by (dec_lt root_size k)
  where
    by : Dec (root_size < k) → k ≤ root_size
    by (yes l) = absurd (omega (arith, mul-le-mul l l))
    by (no l) = omega arith

-- the root of the highest coefficient
module _ (m : Octic) (o : Each wholes Sized (octic m) × Top wholes (octic m) 8) where
  m8-is : to_z w64 (of_z w64 m.m8) ≡ m.m8
  m8-is = to_z-of_z w64 m.m8 (fits_within (lit< tt) (o.0 8))

  rooted : (r : Option ℤ) → IsLead (to_z w64 (of_z w64 m.m8)) r → IsLead m.m8 r
  rooted r h = subst (λ x. IsLead x r) m8-is h

  module _ (s : ℤ) (led : IsLead m.m8 (Some s)) where
    small : Small s
    small = record { size = root-size (nat_abs s) (omega (arith, sym (abs_times s s) ∙ ap nat_abs led.0, (o.0 8).size)) }

    some_lead : s ≢ pos 0
    some_lead e = o.1.lead (sym led.0 ∙ ap (λ x. x *ℤ x) e)

    some : pos 0 <ℤ s
    some = by (compare s (pos 0))
      where
        by : (s ≤ℤ pos 0) ⊎ (pos 0 <ℤ s) → pos 0 <ℤ s
        by (inl l) = let n = led.1 in absurd (some_lead (omega linear))
        by (inr l) = l

    s-is : to_z w64 (of_z w64 s) ≡ s
    s-is = to_z-of_z w64 s (fits_within (lit< tt) small)

    -- what was found below it
    searched : (r : Option Quartic) → IsSearch (octic m) (to_z w64 (of_z w64 s)) r → IsSearch (octic m) s r
    searched r h = subst (λ x. IsSearch (octic m) x r) s-is h

    -- of a root and its negative one has s at the fourth power
    signed : (x : List ℤ) → Each wholes Small x → Same wholes (square wholes x) (octic m)
        → (y : List ℤ) × UpperRoot wholes Small (octic m) 4 s y × Same wholes (square wholes y) (octic m)
    signed = root-upper wholes_ring wholes_domain whole-zero? Small flipped 4 o.1 led.0

pub returns-in_err-s : goal.returns-in_err-s
returns-in_err-s c =
    rw c.from_residual.ensures
    (λ x b h. rooted c.args.m c.requires None c.in_err-s.ensures (at wholes x 4) (root_lead wholes_ring wholes_domain whole-zero? 4 c.requires.1 x h))

pub candidate_of-requires : goal.candidate_of-requires
candidate_of-requires c =
    let m = c.args.m in
    let o = c.requires in
    let s = c.in_ok-s.s in
    let led = rooted m o (Some s) c.in_ok-s.ensures in
    rw (s-is m o s led) (o.0, small m o s led, some_lead m o s led, led.0)

pub returns-in_err-q : goal.returns-in_err-q
returns-in_err-q c =
    let m = c.args.m in
    let o = c.requires in
    let s = c.in_ok-s.s in
    let led = rooted m o (Some s) c.in_ok-s.ensures in
    rw c.from_residual-in_err-q.ensures
    (λ x b h. let (y, u, e) = signed m o s led x b h in searched m o s led None c.in_err-q.ensures y u)

pub returns-then-same_below : goal.returns-then-same_below
returns-then-same_below c =
    let m = c.args.m in
    let o = c.requires in
    let s = c.in_ok-s.s in
    let q = c.in_ok-q.q in
    let led = rooted m o (Some s) c.in_ok-s.ensures in
    let found = searched m o s led (Some q) c.in_ok-q.ensures in
    record {
      squared = same-all wholes 4 (square wholes (quartic q)) (octic m) (λ k l. c.square.ensures k ∙ c.if-same_below.ensures k l) found.squared;
      lead = upper_lead Positive found (some m o s led);
      small = found.small;
    }

pub returns-else-same_below : goal.returns-else-same_below
returns-else-same_below c x b h =
    let m = c.args.m in
    let o = c.requires in
    let s = c.in_ok-s.s in
    let q = c.in_ok-q.q in
    let led = rooted m o (Some s) c.in_ok-s.ensures in
    let found = searched m o s led (Some q) c.in_ok-q.ensures in
    let (y, u, e) = signed m o s led x b h in
    let once = upper-root_once (octic m) s (some_lead m o s led) found u in
    c.if-same_below.ensures (λ k l. sym (c.square.ensures k) ∙ square-same wholes_ring (quartic q) y once k ∙ e k)

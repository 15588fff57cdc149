-- `whole::gcd_all` meets its contract. The invariant: g and the numbers from i on have the common divisors of all numbers.
use mathlib.Core.Path.{◌≡◌, sym, ap, ◌∙◌, subst}
use mathlib.Core.List.{List, [], ◌∷◌}
use mathlib.Core.Logic.Iff
use mathlib.Core.Logic.{◌↔◌}
use Prim.Native.Nat.{ℕ, suc, ◌+◌, ◌<◌}
use native.Mathlib.Numerals.{add-one}
use native.Mathlib.Omega.{arith}
use lib.IntN.{ℤ, pos, nat_abs}
use lib.ListN.{length, drop, get_or, drop_of_length-le}
use lib.Seq.{drop-cons}
use mir.Syntax.{w64}
use mir.ValLaws.{to_z-of_z}
use Rattle.whole.specs.Coefficients.{Divides, Greatest}
use Rattle.whole.specs.Number.{wholes}
use Rattle.whole.proofs.Integers.{*ℤ-1}
use Rattle.whole.proofs.Wholes.{wholes_ring}
use Rattle.whole.proofs.Divisor.{Common, divides_none, divides_multiple, common_nil, common_cons, common_two, greatest_says, greatest_is, divides_abs}
use Rattle.whole.proofs.gcd_all.Invariants.{Rest}
use Rattle.whole.proofs.gcd_all.Goals as goal

-- one number more, x: what divides h divides just both x and g
turn_into : (d x : ℤ) (g h : ℕ) (xs : List ℤ) → Divides wholes d (pos h) ↔ (Divides wholes d x × Divides wholes d (pos g))
    → (Divides wholes d (pos h) × Common wholes_ring d xs) ↔ (Divides wholes d (pos g) × Common wholes_ring d (x ∷ xs))
turn_into d x g h xs e =
    (λ u. ((e.0 u.0).1, cons.1 ((e.0 u.0).0, u.1)), λ u. (e.1 ((cons.0 u.1).0, u.0), (cons.0 u.1).1))
  where
    cons : Common wholes_ring d (x ∷ xs) ↔ (Divides wholes d x × Common wholes_ring d xs)
    cons = common_cons wholes_ring d x xs

more : (numbers : List ℤ) (g h i : ℕ) → i < length numbers → Greatest wholes (pos (nat_abs (get_or numbers i (pos 0))) ∷ pos g ∷ []) (pos h)
    → Rest numbers g i → Rest numbers h (i + 1)
more numbers g h i l u inv d =
    rw add-one
    (Iff.trans (turn_into d x g h (drop (suc i) numbers) both)
    (subst (λ (xs : List ℤ). (Divides wholes d (pos g) × Common wholes_ring d xs) ↔ Common wholes_ring d numbers) (drop-cons numbers i (pos 0) l) (inv d)))
  where
    x : ℤ
    x = get_or numbers i (pos 0)

    both : Divides wholes d (pos h) ↔ (Divides wholes d x × Divides wholes d (pos g))
    both =
        Iff.trans (greatest_says wholes_ring u d)
        (Iff.trans (common_two wholes_ring d (pos (nat_abs x)) (pos g)) (Iff.and (divides_abs d x) Iff.rfl))

-- what divides 1 divides everything
unit_divides : (d x : ℤ) → Divides wholes d (pos 1) → Divides wholes d x
unit_divides d x h = subst (Divides wholes d) (*ℤ-1 x) (divides_multiple wholes_ring x h)

pub loop-x-init : goal.loop-x-init
loop-x-init c d = (λ h. h.1, λ h. (divides_none wholes_ring d, h))

pub returns-then-g-eq1 : goal.returns-then-g-eq1
returns-then-g-eq1 c =
    greatest_is wholes_ring (λ d.
    (λ h k. unit_divides d _ (subst (λ (n : ℕ). Divides wholes d (pos n)) c.if-g-eq1.true h), λ h. ((c.loop-x.invariant d).1 h).0))

pub loop-x-preserved : goal.loop-x-preserved
loop-x-preserved c =
    let numbers = c.args.numbers.now in
    let i = c.loop-x.x-index in
    let x : ℤ = get_or numbers i (pos 0) in
    let size : c.size.result ≡ nat_abs x = c.size.ensures ∙ ap nat_abs (to_z-of_z w64 x (record { sfits = omega arith })) in
    more numbers c.loop-x.g c.common_with-g.result i c.loop-x-test.true (rw size at c.common_with-g.ensures) c.loop-x.invariant

pub returns-after-loop-x : goal.returns-after-loop-x
returns-after-loop-x c =
    let numbers = c.args.numbers.now in
    let e : drop c.loop-x.x-index numbers ≡ [] = drop_of_length-le numbers {i = c.loop-x.x-index} (omega arith) in
    greatest_is wholes_ring (λ d.
    (λ h. (c.loop-x.invariant d).0 (h, subst (Common wholes_ring d) (sym e) (common_nil wholes_ring d)), λ h. ((c.loop-x.invariant d).1 h).0))

-- Each promise has one answer: what meets it twice is equal.
--   put_once     the writing of a record.      held_once   the curve whose record some bytes begin with
use mathlib.Core.Path.{◌≡◌, refl, sym, ap, ◌∙◌}
use mathlib.Core.List.{List}
use Prim.Native.Nat.{ℕ}
use lib.IntN.{ℤ}
use lib.ListN.{take}
use Rattle.refusal.proofs.Answers.{no_answer, refuse_once}
use Rattle.curve.proofs.Points.{curve_once}
use Rattle.record.specs.declared.kinds.Kind.{Kind}
use Rattle.record.specs.declared.points.Held.{Held}
use Rattle.std.specs.Prelude.{Option, Some, None, Result, Ok, Err}
use Rattle.refusal.specs.declared.Refusal.{Refusal}
use Rattle.record.specs.Kinds.{row_of, points_in}
use Rattle.record.specs.Promise.{BeginsCurve, IsHeld, answer_of_put, PutsAt}

put_same : (t : List ℕ) (r q : Result (Unit {0}) Refusal) → answer_of_put t r ≡ answer_of_put t q → r ≡ q
put_same t (Ok _) (Ok _) e = refl
put_same t (Ok _) (Err g) e = no_answer e
put_same t (Err f) (Ok _) e = no_answer (sym e)
put_same t (Err f) (Err g) e = ap Err (refuse_once (List ℕ) e)

pub put_once : (s : List ℕ) (at : ℕ) (k : Kind) (xs : List ℤ) (t u : List ℕ) (r q : Result (Unit {0}) Refusal) → PutsAt s at k xs t r → PutsAt s at k xs u q → (r ≡ q) × (t ≡ u)
put_once s at k xs t u r q g h =
    let e = g.leaves ∙ sym h.leaves in
    (put_same t r q (g.says ∙ sym h.says ∙ ap (λ (x : List ℕ). answer_of_put x q) (sym e)), e)

begins_once : (rest : List ℕ) (k l : Kind) → BeginsCurve rest k → BeginsCurve rest l → k ≡ l
begins_once rest k l b c = cc (sym b.name ∙ c.name)

pub held_once : (rest : List ℕ) (x y : Option Held) → IsHeld rest x → IsHeld rest y → x ≡ y
held_once rest (Some x) (Some y) (k, b, p, e) (l, a, q, f) =
    let size : x.size ≡ y.size = p ∙ ap (λ (k : Kind). (row_of k).size) (begins_once rest k l b a) ∙ sym q in
    let curve = curve_once x.curve y.curve (e ∙ ap (λ (m : ℕ). points_in (take m rest)) size ∙ sym f) in
    λ i. Some (record { curve = curve i; size = size i })
held_once rest (Some x) None (k, b, _, _) n = absurd (n k b)
held_once rest None (Some y) none (l, a, _, _) = absurd (none l a)
held_once rest None None m n = refl

-- Calls on the curve that their numbers give, answers handed over, and the one way of it.
--   wrong-count, right_count   what a call does where its numbers give no curve, and where they give one
--   handed                     an answer that the library promises, handed over as its numbers
--   numbers_once               a list of points is known by its numbers
--   by_numbers, on_curve_lem       two calls on the same numbers, which give one thing to call on, or none
--   hands_once, handed_once, counted_once    an answer is handed over in one way
use mathlib.Core.Path.{◌≡◌, refl, sym, ap, subst, ◌∙◌}
use mathlib.Core.List.{List, [], ◌∷◌}
use mathlib.Core.Logic.{◌⊎◌, inl, inr}
use Prim.Native.Nat.{ℕ, ◌<◌}
use native.Mathlib.Omega.{arith}
use lib.IntN.{ℤ, pos}
use lib.ListN.{length, get_or, drop}
use lib.Signed.{mag}
use mir.Syntax.{w64}
use mir.Val.{to_z, of_z}
use Rattle.refusal.specs.Answers.{Answer, with_given}
use Rattle.area.specs.Promise.{values_of}
use Rattle.area.proofs.Areas.{fills_once}
use Rattle.pair.specs.declared.Pair.{Pair}
use Rattle.curve.specs.declared.Curve.{Curve}
use Rattle.curve.specs.declared.Curve.TheVariants.{Cubic, Quintic}
use Rattle.curve.specs.Curves.{points_of}
use Rattle.curve.proofs.Points.{curve_once}
use Rattle.record.specs.Kinds.{numbers_of}
use Rattle.std.specs.Prelude.{Option, None, Some}
use Rattle.hand.specs.Promise.{coded, fitted, Hands, Handed, Counted, WrongCount, IsGiven, OnCurve}
use Rattle.hand.proofs.Areas.{hands_same}

module _ {p : List ℤ} {g : Option Curve} {Wrong : Type 0} {Right : Curve → Type 0} (is-given : IsGiven p g) where
  pub wrong-count : g ≡ None → Wrong → OnCurve p Wrong Right
  wrong-count e w = inl (subst (IsGiven p) e is-given, w)

  pub right_count : (c : Curve) → g ≡ Some c → Right c → OnCurve p Wrong Right
  right_count c e r = inr (c, subst (IsGiven p) e is-given, r)

-- the answer under the name that the code's match has for it
pub handed : {R A : Type 0} {Promised : R → Type 0} {answer_of : R → Answer A} {numbers : A → List ℤ} (a : R) {asked : Answer (List ℤ)} {before after : List ℤ} {n : ℤ}
    → Promised a → asked ≡ with_given numbers (answer_of a) → mag n < 9223372036854775808 → Hands asked before after n → Handed Promised answer_of numbers before after (to_z w64 (of_z w64 n))
handed a p e f h = record { answer = a; promised = p; hands = hands_same e f h }

-- ---- one answer

pub numbers_once : (ps qs : List Pair) → numbers_of ps ≡ numbers_of qs → ps ≡ qs
numbers_once [] [] e = refl
numbers_once [] (q ∷ qs) e = absurd (omega (arith, ap length e))
numbers_once (p ∷ ps) [] e = absurd (omega (arith, ap length e))
numbers_once (p ∷ ps) (q ∷ qs) e = λ i. record { re = get_or (e i) 0 (pos 0); im = get_or (e i) 1 (pos 0) } ∷ numbers_once ps qs (ap (drop 2) e) i

module _ {X : Type 0} (points : X → List Pair) (once : (c d : X) → points c ≡ points d → c ≡ d) (Misfit : List ℤ → Type 0)
    (fit : (c : X) → Misfit (numbers_of (points c)) → ⊥) where
  pub by_numbers : {p : List ℤ} {Wrong Wrong' Goal : Type 0} {Right Right' : X → Type 0} → (Wrong → Wrong' → Goal) → ((c : X) → Right c → Right' c → Goal)
      → (Misfit p × Wrong) ⊎ ((c : X) × (numbers_of (points c) ≡ p) × Right c) → (Misfit p × Wrong') ⊎ ((c : X) × (numbers_of (points c) ≡ p) × Right' c) → Goal
  by_numbers w r (inl (m, x)) (inl (n, y)) = w x y
  by_numbers w r (inl (m, x)) (inr (d, f, y)) = absurd (fit d (subst Misfit (sym f) m))
  by_numbers w r (inr (c, e, x)) (inl (n, y)) = absurd (fit c (subst Misfit (sym e) n))
  by_numbers {Right = Right} w r (inr (c, e, x)) (inr (d, f, y)) = r d (subst Right (once c d (numbers_once (points c) (points d) (e ∙ sym f))) x) y

curve_fits : (c : Curve) → WrongCount (numbers_of (points_of c)) → ⊥
curve_fits (Cubic c) m = m.0 refl
curve_fits (Quintic c) m = m.1 refl

pub on_curve_lem : {p : List ℤ} {Wrong Wrong' Goal : Type 0} {Right Right' : Curve → Type 0} → (Wrong → Wrong' → Goal) → ((c : Curve) → Right c → Right' c → Goal)
    → OnCurve p Wrong Right → OnCurve p Wrong' Right' → Goal
on_curve_lem = by_numbers points_of curve_once WrongCount curve_fits

module _ (before : List ℤ) {x y : List ℤ} {r s : ℤ} where
  pub hands_once : (asked : Answer (List ℤ)) → Hands asked before x r → Hands asked before y s → (r ≡ s) × (x ≡ y)
  hands_once asked h k =
      let vs = values_of (fitted (length before) asked) in
      (h.says ∙ sym k.says, fills_once vs vs refl (h.same_room ∙ sym k.same_room) h.leaves k.leaves)

  pub handed_once : {R A : Type 0} {Promised : R → Type 0} {answer_of : R → Answer A} {numbers : A → List ℤ} → ((a b : R) → Promised a → Promised b → a ≡ b)
      → Handed Promised answer_of numbers before x r → Handed Promised answer_of numbers before y s → (r ≡ s) × (x ≡ y)
  handed_once {R} {answer_of = answer_of} {numbers = numbers} once h k =
      hands_once (with_given numbers (answer_of k.answer))
      (subst (λ (a : R). Hands (with_given numbers (answer_of a)) before x r) (once h.answer k.answer h.promised k.promised) h.hands) k.hands

-- with whatever else the promise has one way of
pub counted_once : {R E : Type 0} {Promised Promised' : R → Type 0} (answer_of : R → Answer ℕ) {r s : ℤ} → ((a b : R) → Promised a → Promised' b → (a ≡ b) × E)
    → Counted Promised answer_of r → Counted Promised' answer_of s → (r ≡ s) × E
counted_once {R} answer_of once (a, f, e) (b, g, d) = let (same, rest) = once a b f g in (e ∙ ap (λ (t : R). coded (answer_of t)) same ∙ sym d, rest)

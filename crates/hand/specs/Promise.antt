-- How the calls for C hand an answer over: one number that is returned, and numbers in a lent area.
--   coded               what is returned: how many there are, or minus a refusal's number and 32 times its place
--   fitted              an answer in an area of so many numbers, ROOM where it is longer
--   Hands               what is returned, and what the area holds, for an answer
--   Handed              an answer that the library promises, handed over as numbers
--   Counted             an answer that the library promises and whose area it writes itself: what is returned is how many
--   WrongCount, IsGiven what the numbers of a call give: a curve, or neither 8 nor 12 are there
--   OnCurve             a call on the curve that its numbers give, and what it does where they give none
--   NoSource, IsSource  what the numbers of a call give to build from: pairs, or neither 4 nor 6 are there
use Rattle.std.specs.Prelude.{◌≡◌, Option, None, Some, List, [], ◌∷◌, ◌≢◌, ◌⊎◌, ℕ, ◌+◌, ◌*◌, ltb, ℤ, pos, neg_ℤ, length}
use Rattle.refusal.specs.declared.Refusal.TheVariants as refusal
use Rattle.refusal.specs.Table.{number_of}
use Rattle.refusal.specs.Answers.{Answer, refused, given, refuse, then_given, with_given, when◌then◌else◌}
use Rattle.area.specs.Area.{Fills}
use Rattle.area.specs.Promise.{values_of}
use Rattle.curve.specs.declared.Curve.{Curve}
use Rattle.curve.specs.Curves.{points_of}
use Rattle.record.specs.Kinds.{numbers_of}
use Rattle.hand.specs.declared.Source.{Source}
use Rattle.hand.specs.declared.Source.TheVariants as source

abbrev pub coded : Answer ℕ → ℤ
coded (refused f) = neg_ℤ (pos (number_of f.refusal + 32 * f.place))
coded (given count) = pos count

abbrev pub fitted : ℕ → Answer (List ℤ) → Answer (List ℤ)
fitted room = then_given (λ values. when ltb room (length values) then refuse refusal.Room 0 else given values)

pub record Hands (asked : Answer (List ℤ)) (before after : List ℤ) (r : ℤ) : Type 0 where
  pub says : r ≡ coded (with_given length (fitted (length before) asked))
  pub same_room : length after ≡ length before
  pub leaves : Fills (values_of (fitted (length before) asked)) after

pub record Handed {R A : Type 0} (Promised : R → Type 0) (answer_of : R → Answer A) (numbers : A → List ℤ) (before after : List ℤ) (r : ℤ) : Type 0 where
  pub answer : R
  pub promised : Promised answer
  pub hands : Hands (with_given numbers (answer_of answer)) before after r

abbrev pub Counted : {R : Type 0} → (R → Type 0) → (R → Answer ℕ) → ℤ → Type 0
Counted {R} Promised answer_of r = (a : R) × Promised a × (r ≡ coded (answer_of a))

abbrev pub WrongCount : List ℤ → Type 0
WrongCount p = (length p ≢ 8) × (length p ≢ 12)

abbrev pub IsGiven : List ℤ → Option Curve → Type 0
IsGiven p (Some c) = numbers_of (points_of c) ≡ p
IsGiven p None = WrongCount p

abbrev pub OnCurve : List ℤ → Type 0 → (Curve → Type 0) → Type 0
OnCurve p Wrong Right = (WrongCount p × Wrong) ⊎ ((c : Curve) × (numbers_of (points_of c) ≡ p) × Right c)

abbrev pub NoSource : List ℤ → Type 0
NoSource w = (length w ≢ 4) × (length w ≢ 6)

abbrev pub IsSource : List ℤ → Option Source → Type 0
IsSource w (Some (source.Cubic w0 w1)) = numbers_of (w0 ∷ w1 ∷ []) ≡ w
IsSource w (Some (source.Quintic w0 w1 w2)) = numbers_of (w0 ∷ w1 ∷ w2 ∷ []) ≡ w
IsSource w None = NoSource w

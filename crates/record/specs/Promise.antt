-- What the calls on a curve's record promise.
--   BeginsCurve         some bytes begin with the name of a kind of curve, and are long enough
--   IsHeld              the curve whose record some bytes begin with, by its kind's name; or that they begin with none
--   putting_at           the bytes that are to be left where a record is written at a place
--   answer_of_put, bytes_after, PutsAt    what is said and left: a refusal changes nothing
use Rattle.std.specs.Prelude.{◌≡◌, true, not, List, ℕ, ◌-◌, ◌≤◌, ltb, ℤ, length, take, Option, Some, None, Result}
use Rattle.refusal.specs.declared.Refusal.{Refusal}
use Rattle.refusal.specs.declared.Refusal.TheVariants as refusal
use Rattle.refusal.specs.Answers.{Answer, refused, given, refuse, with_given, answer_of, when◌then◌else◌}
use Rattle.curve.specs.Curves.{points_of}
use Rattle.record.specs.declared.kinds.Kind.{Kind}
use Rattle.record.specs.declared.points.Held.{Held}
use Rattle.record.specs.Numbers.{encoded, written}
use Rattle.record.specs.Kinds.{row_of, kinds, formed, points_in}
use Rattle.record.specs.Records.{kind_in, all_within}

-- the bytes begin with the name of a kind of curve, behind a length, and are long enough for a record of it
pub record BeginsCurve (rest : List ℕ) (k : Kind) : Type 0 where
  pub long : 4 ≤ length rest
  pub name : kind_in kinds rest ≡ Some k
  pub curve : (row_of k).curve ≡ true
  pub fits : (row_of k).size ≤ length rest

abbrev pub IsHeld : List ℕ → Option Held → Type 0
IsHeld rest (Some held) = (k : Kind) × BeginsCurve rest k × (held.size ≡ (row_of k).size) × (points_of held.curve ≡ points_in (take held.size rest))
IsHeld rest None = (k : Kind) → BeginsCurve rest k → ⊥

unfoldable pub putting_at : List ℕ → ℕ → Kind → List ℤ → Answer (List ℕ)
putting_at s at k xs =
    when not (all_within xs) then refuse refusal.Range 0
    else when ltb (length s - at) (row_of k).size then refuse refusal.Room 0
    else given (written s at (formed k (encoded xs)))

-- of a call after which the bytes are t
abbrev pub answer_of_put : List ℕ → Result (Unit {0}) Refusal → Answer (List ℕ)
answer_of_put t r = with_given (λ _. t) (answer_of r)

-- bytes s afterwards: what was asked for, and s itself where it is refused
abbrev pub bytes_after : List ℕ → Answer (List ℕ) → List ℕ
bytes_after s (refused f) = s
bytes_after s (given t) = t

pub record PutsAt (s : List ℕ) (at : ℕ) (k : Kind) (xs : List ℤ) (t : List ℕ) (r : Result (Unit {0}) Refusal) : Type 0 where
  pub says : answer_of_put t r ≡ putting_at s at k xs
  pub leaves : t ≡ bytes_after s (putting_at s at k xs)

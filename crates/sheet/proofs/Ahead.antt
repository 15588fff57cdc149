-- One pass over a sound sheet, from record to record: what a walk behind `check` knows.
--   curve_in_range    a curve of a sheet is in range
--   Ahead             where the next record stands, while there is one.      ahead_fits, ahead_near   within the sheet, and its 4,096 bytes
--   ahead_held        a curve's record is held there
--   passed            what is held there is the curve of the next number, and where it ends the record behind it stands
use mathlib.Core.Path.{◌≡◌, refl, sym, ap, subst}
use mathlib.Core.List.{List}
use Prim.Native.Nat.{ℕ, suc, ◌+◌, ◌≤◌, ◌<◌}
use native.Mathlib.Omega.{arith}
use native.Mathlib.Numerals.{add-one}
use lib.ListN.{length, drop}
use Rattle.refusal.specs.Answers.{Answer, refused, given, with_given}
use Rattle.refusal.proofs.Answers.{no_answer, given_once}
use Rattle.curve.specs.declared.Curve.{Curve}
use Rattle.curve.specs.Curves.{points_of, InRange}
use Rattle.std.specs.Prelude.{Some, None}
use Rattle.record.specs.declared.points.Held.{Held}
use Rattle.record.specs.Promise.{IsHeld}
use Rattle.record.specs.Records.{longest}
use Rattle.sheet.specs.Survey.{Entry, outcome, numbered}
use Rattle.sheet.specs.Promise.{count_of, points_of_entry, HasCurve}
use Rattle.sheet.proofs.Places.{Stands, choice, fits, held-curve, held-nothing, next_stands}
use Rattle.sheet.proofs.Laws.{numbered_in_range}

pub curve_in_range : (s : List ℕ) (number : ℕ) (c : Curve) → HasCurve s number c → InRange (points_of c)
curve_in_range s number c = by (numbered number s) refl
  where
    by : (a : Answer Entry) → numbered number s ≡ a → given (points_of c) ≡ with_given points_of_entry a → InRange (points_of c)
    by (refused f) e h = no_answer h
    by (given x) e h = subst InRange (sym (given_once h)) (numbered_in_range s number e)

-- while there are records left, the one behind the first k stands at `next`
abbrev pub Ahead : List ℕ → ℕ → ℕ → ℕ → Type 0
Ahead s count k next = k < count → (long : ℕ) × Stands s (suc k) next long

module _ (s : List ℕ) (count k next : ℕ) (l : k < count) (a : Ahead s count k next) where
  pub ahead_fits : next + (a l).0 ≤ length s
  ahead_fits = fits (a l).1

  pub ahead_near : length s ≤ longest
  ahead_near = (choice (a l).1).short

  pub ahead_held : IsHeld (drop next s) None → ⊥
  ahead_held = held-nothing (a l).1

  pub passed : with_given count_of (outcome s) ≡ given count → (x : Held) → IsHeld (drop next s) (Some x)
      → HasCurve s (suc k) x.curve × (x.size ≡ (a l).0) × Ahead s count (k + 1) (next + x.size)
  passed e x h =
      let read = held-curve (a l).1 x h in (
        read.0,
        read.1,
        λ m.
            let n = next_stands s count e {number = suc k} {place = next} {long = (a l).0} (omega arith) (a l).1 in
            (n.0, subst (λ (place : ℕ). Stands s (suc (k + 1)) place n.0) (ap (λ (m : ℕ). next + m) (sym read.1)) (rw (add-one k) n.1)),
      )

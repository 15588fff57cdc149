-- One step of a pass over a sound sheet's curves, as the code takes it: the record behind the first k curves is held, and is read.
--   next_some    a curve's record is held there
--   next_read    its curve is that of the next number, and is in range; the record behind it stands where this one ends, within the sheet
use Rattle.std.proofs.Common.{◌≡◌, subst, List, ℕ, suc, ◌+◌, ◌-◌, ◌≤◌, ◌<◌, arith, length, take, drop, Option, Some, None, refl}
use Rattle.std.specs.Option.{IsSome}
use Rattle.refusal.specs.Answers.{given, with_given}
use Rattle.curve.specs.Curves.{points_of, InRange}
use Rattle.record.specs.declared.points.Held.{Held}
use Rattle.record.specs.Promise.{IsHeld}
use Rattle.record.specs.Records.{longest}
use Rattle.sheet.specs.Survey.{outcome}
use Rattle.sheet.specs.Promise.{count_of, HasCurve}
use Rattle.sheet.proofs.Passed.{rest-is}
use Rattle.sheet.proofs.Ahead.{curve_in_range, Ahead, ahead_fits, ahead_near, ahead_held, passed}

module _ (s : List ℕ) (count k next : ℕ) (l : k < count) (a : Ahead s count k next) where
  pub next_some : (r : Option Held) → IsHeld (take (length s - next) (drop next s)) r → IsSome r
  next_some None h = absurd (ahead_held s count k next l a (subst (λ (rest : List ℕ). IsHeld rest None) (rest-is s next) h))
  next_some (Some x) h = refl

  pub next_read : with_given count_of (outcome s) ≡ given count → {r : Option Held} (x : Held) → IsHeld (take (length s - next) (drop next s)) r → r ≡ Some x
      → HasCurve s (suc k) x.curve × InRange (points_of x.curve) × (next + x.size ≤ length s) × (length s ≤ longest) × Ahead s count (k + 1) (next + x.size)
  next_read e {r} x h is =
      let there : IsHeld (drop next s) (Some x) = subst (IsHeld (drop next s)) is (subst (λ (rest : List ℕ). IsHeld rest r) (rest-is s next) h) in
      let p = passed s count k next l a e x there in
      (p.0, curve_in_range s (suc k) x.curve p.0, omega (arith, ahead_fits s count k next l a, p.1), ahead_near s count k next l a, p.2)

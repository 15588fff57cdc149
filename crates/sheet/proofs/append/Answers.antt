-- `append` meets its contract: the sheet is walked, and a curve's record put where the records end, behind the header at least.
use mathlib.Core.Path.{◌≡◌, sym, ◌∙◌, subst}
use mathlib.Core.Bool.{true}
use mathlib.Core.List.{List}
use Prim.Native.Nat.{ℕ, ◌≤◌}
use lib.ListN.{length}
use Rattle.std.specs.Prelude.{Some, Result, Ok}
use Rattle.std.proofs.lemmas.Result.{err_from_is_err_and}
use Rattle.refusal.specs.declared.Refusal.{Refusal}
use Rattle.curve.specs.declared.Curve.{Curve}
use Rattle.curve.specs.Curves.{points_of}
use Rattle.record.specs.Numbers.{mission_in}
use Rattle.record.specs.Kinds.{kind_of, numbers_of}
use Rattle.record.specs.Promise.{PutsAt}
use Rattle.sheet.specs.declared.walks.Walked.{Walked}
use Rattle.sheet.specs.Walks.{Walks}
use Rattle.sheet.specs.Survey.{survey, mission_of}
use Rattle.sheet.proofs.Missions.{mission-at}
use Rattle.sheet.proofs.Changed.{append-none, append_done, append-refused}
use Rattle.sheet.proofs.Appended.{append-kept_as, append_fault, append-sound}
use Rattle.sheet.proofs.append.Goals as goal

-- what is known of a sound sheet
module _ (s : List ℕ) {w : Walked} (h : Walks s true 0 w) (e : w.ending ≡ Ok tt) where
  sound : (survey s).ending ≡ Ok tt
  sound = sym h.ending_is ∙ e

  fits : (survey s).end ≤ length s
  fits = subst (λ (n : ℕ). n ≤ length s) h.end_is h.end_fits

  own : (w.end ≡ 0 → ⊥) → mission_of (survey s).records ≡ Some (mission_in s)
  own n = ((mission-at s).some (λ z. n (h.end_is ∙ z))).1

  -- what was put at the end of its records
  puts : (curve : Curve) {t : List ℕ} {x r : Result (Unit {0}) Refusal} → PutsAt s w.end (kind_of curve) (numbers_of (points_of curve)) t x → x ≡ r
      → PutsAt s (survey s).end (kind_of curve) (numbers_of (points_of curve)) t r
  puts curve {t} {x} g q =
      subst (PutsAt s (survey s).end (kind_of curve) (numbers_of (points_of curve)) t) q
      (subst (λ (n : ℕ). PutsAt s n (kind_of curve) (numbers_of (points_of curve)) t x) h.end_is g)

pub returns-in_err-w : goal.returns-in_err-w
returns-in_err-w c =
    let p = err_from_is_err_and c.from_residual.result c.from_residual.ensures.1 in
    rw (p.1, p.2) (append_fault c.args.sheet.now c.args.curve (sym c.walk-w.ensures.ending_is ∙ c.in_err-w.was))

pub returns-then-w-eq0 : goal.returns-then-w-eq0
returns-then-w-eq0 c =
    let s = c.args.sheet.now in
    append-kept_as s c.args.curve
    (append-none s c.args.curve (sound s c.walk-w.ensures c.in_ok-w.was) ((mission-at s).none (sym c.walk-w.ensures.end_is ∙ c.if-w-eq0.true)) c.into.ensures)

pub returns : goal.returns
returns c =
    let s = c.args.sheet.now in
    let curve = c.args.curve in
    let is = sound s c.walk-w.ensures c.in_ok-w.was in
    let m = own s c.walk-w.ensures c.in_ok-w.was c.if-w-eq0.false in
    append-sound s curve is m (fits s c.walk-w.ensures c.in_ok-w.was)
    (append_done s curve is m (puts s c.walk-w.ensures c.in_ok-w.was curve c.put_curve.ensures c.in_ok-put_curve.was))

pub returns-in_err-put_curve : goal.returns-in_err-put_curve
returns-in_err-put_curve c =
    let s = c.args.sheet.now in
    let curve = c.args.curve in
    let is = sound s c.walk-w.ensures c.in_ok-w.was in
    let m = own s c.walk-w.ensures c.in_ok-w.was c.if-w-eq0.false in
    let p = err_from_is_err_and c.from_residual-in_err-put_curve.result c.from_residual-in_err-put_curve.ensures.1 in
    rw p.1
    (append-sound s curve is m (fits s c.walk-w.ensures c.in_ok-w.was)
    (append-refused s curve is m (puts s c.walk-w.ensures c.in_ok-w.was curve c.put_curve.ensures c.in_err-put_curve.was) p.2))

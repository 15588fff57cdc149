-- `find` meets its contract: the part of the sheet where the curve's record is located.
use mathlib.Core.Path.{◌≡◌, refl, ap, ◌∙◌, subst}
use Prim.Native.Nat.{ℕ, ◌+◌, ◌-◌, ◌≤◌}
use native.Mathlib.Omega.{arith}
use mathlib.Core.List.{List}
use lib.ListN.{length, take, drop}
use Rattle.std.specs.Prelude.{Result, Ok}
use Rattle.refusal.specs.declared.Fault.{Fault}
use Rattle.record.specs.Records.{longest}
use Rattle.sheet.specs.declared.Location.{Location}
use Rattle.sheet.specs.Survey.{chosen}
use Rattle.sheet.specs.Promise.{start_of, Locates, Finds}
use Rattle.sheet.proofs.Told.{located_found}
use Rattle.sheet.proofs.find.Goals as goal

-- where the record stands
located : (s : List ℕ) (expected number : ℕ) {at : Location} {r : Result Location Fault} → Locates s expected number r → r ≡ Ok at →
    (length s ≤ longest) × (at.place + at.length ≤ length s) × Finds s expected number (take at.length (drop at.place s)) × (start_of (chosen expected number s) ≡ at.place)
located s expected number h e = located_found s expected number _ (subst (Locates s expected number) e h)

pub overflow_add-result : goal.overflow_add-result
overflow_add-result c = let h = located c.args.sheet.now c.args.mission c.args.number c.locate.ensures c.in-Ok.is in omega (arith, h.0, h.1)

pub slice_bounds-result-end : goal.slice_bounds-result-end
slice_bounds-result-end c = let h = located c.args.sheet.now c.args.mission c.args.number c.locate.ensures c.in-Ok.is in omega (arith, h.1)

pub returns-in-Ok : goal.returns-in-Ok
returns-in-Ok c =
    let at = c.in-Ok.at in
    let n : at.place + at.length - at.place ≡ at.length = omega arith in
    let h = located c.args.sheet.now c.args.mission c.args.number c.locate.ensures c.in-Ok.is in
    record {
      bytes = ap (λ (m : ℕ). take m (drop at.place c.args.sheet.now)) n ∙ h.2;
      block = refl;
      place = omega (arith, h.3);
    }

-- `find` meets its contract.
use mathlib.Core.Path.{ap, ◌∙◌, subst}
use mathlib.Core.List.{List, [], ◌∷◌}
use Prim.Native.Nat.{ℕ, ◌≤◌}
use native.Mathlib.Omega.{arith}
use lib.IntN.{ℤ, pos}
use mir.Syntax.{w64}
use mir.ValLaws.{to_z_pos}
use Rattle.std.specs.Prelude.{Ok, Err}
use Rattle.refusal.specs.Answers.{given, with_given}
use Rattle.refusal.proofs.Answers.{with_twice}
use Rattle.record.specs.Records.{longest}
use Rattle.sheet.specs.declared.Location.{Location}
use Rattle.sheet.specs.Survey.{chosen}
use Rattle.sheet.specs.Promise.{place_of, Locates}
use Rattle.sheet.proofs.Told.{located_found}
use Rattle.hand.proofs.Areas.{hands_same}
use Rattle.sheet_calls.proofs.find.Goals as goal

-- the numbers of a place
abbrev numbers : Location → List ℤ
numbers at = pos at.place ∷ pos at.length ∷ []

-- a place and a length that were found are those of a sheet
small : (s : List ℕ) (mission number : ℕ) (at : Location) → Locates s mission number (Ok at) → (at.place ≤ longest) × (at.length ≤ longest)
small s mission number at found = let h = located_found _ _ _ _ found in (omega (arith, h.0, h.1), omega (arith, h.0, h.1))

pub overflow_cast-at : goal.overflow_cast-at
overflow_cast-at c =
    let s = c.args in
    record { sfits = omega (arith, small s.s.now s.mission s.number c.in-Ok.at (subst (Locates s.s.now s.mission s.number) c.in-Ok.is c.locate.ensures)) }

pub overflow_cast-at-in-Ok : goal.overflow_cast-at-in-Ok
overflow_cast-at-in-Ok c =
    let s = c.args in
    record { sfits = omega (arith, small s.s.now s.mission s.number c.in-Ok.at (subst (Locates s.s.now s.mission s.number) c.in-Ok.is c.locate.ensures)) }

pub returns-in-Ok : goal.returns-in-Ok
returns-in-Ok c =
    let s = c.args in
    let at = c.in-Ok.at in
    let found = subst (Locates s.s.now s.mission s.number) c.in-Ok.is c.locate.ensures in
    let l = small s.s.now s.mission s.number at found in
    let p = to_z_pos w64 at.place (omega (arith, l)) in
    let n = to_z_pos w64 at.length (omega (arith, l)) in
    hands_same ((λ i. given (p i ∷ n i ∷ [])) ∙ ap (with_given numbers) found ∙ with_twice place_of numbers (chosen s.mission s.number s.s.now))
    c.hand.type_inv c.hand.ensures

pub returns-in-Err : goal.returns-in-Err
returns-in-Err c =
    let s = c.args in
    let is = subst (Locates s.s.now s.mission s.number) c.in-Err.is c.locate.ensures in
    hands_same (ap (with_given numbers) is ∙ with_twice place_of numbers (chosen s.mission s.number s.s.now))
    c.faulted.type_inv c.faulted.ensures

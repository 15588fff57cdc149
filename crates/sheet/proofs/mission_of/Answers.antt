-- `mission_of` meets its contract: the sheet's own bytes hold the number.
use mathlib.Core.Path.{◌≡◌, sym, ap, ◌∙◌}
use mathlib.Core.Bool.{not}
use mathlib.Core.List.{List}
use Prim.Native.Nat.{ℕ}
use native.Mathlib.Omega.{arith}
use lib.Dec.{eqb}
use Rattle.std.proofs.Common.{rules}
use Rattle.std.proofs.lemmas.Grind.{common_steps}
use Rattle.std.proofs.lemmas.Option.{IfSome_then}
use Rattle.std.specs.Prelude.{Option, Some, None, IfSome, is_some}
use Rattle.record.specs.Numbers.{mission_in}
use Rattle.sheet.proofs.Missions.{MissionAt, mission-at}
use Rattle.sheet.proofs.mission_of.Goals as goal

pub then-requires : goal.then-requires
then-requires c t _ _ _ _ _ _ = ((mission-at c.args.sheet.now).some (λ z. grind (arith, common_steps))).0

-- what is answered where the records end, by whether a number is read there
told : {s : List ℕ} {own : Option ℕ} (end : ℕ) → MissionAt s own end → (r : Option ℕ) → is_some r ≡ not (eqb end 0) → IfSome r (λ x. x ≡ mission_in s)
    → r ≡ own
told end m None e f = sym (m.none (grind (arith, common_steps)))
told end m (Some x) e f = ap Some f ∙ sym (m.some (λ z. grind (arith, common_steps))).1

pub returns : goal.returns
returns c =
    let there = c.then.ensures.variant ∙ ap (λ (n : ℕ). not (eqb n 0)) c.requires in
    told _ (mission-at c.args.sheet.now) c.then.result there (IfSome_then c.then.result c.then.ensures.some (λ x l. search rules))

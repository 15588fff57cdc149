-- The promise of `joins` has one answer, in the result and in the area.
--   joined_once      two answers and areas that keep it are equal
use mathlib.Core.Path.{◌≡◌}
use mathlib.Core.List.{List}
use Prim.Native.Nat.{ℕ}
use lib.IntN.{ℤ}
use Rattle.std.specs.Prelude.{Result}
use Rattle.refusal.specs.declared.Refusal.{Refusal}
use Rattle.refusal.proofs.Answers.{answer_once}
use Rattle.area.proofs.Promises.{first_or_in_once}
use Rattle.pair.specs.declared.Pair.{Pair}
use Rattle.join.specs.Promise.{Joined}
use Rattle.join.proofs.Order.{lists_once}

pub joined_once : (a z T : Pair) (before x y : List ℤ) (r s : Result ℕ Refusal) → Joined a z T before x r → Joined a z T before y s → (r ≡ s) × (x ≡ y)
joined_once a z T before x y r s p q = let (e, areas) = first_or_in_once (λ us vs. lists_once) p q in (answer_once r s e, areas)

-- `steps::is_named` meets its contract: the two bytes behind the length are compared with those of the name.
use mathlib.Core.Path.{◌≡◌, ap, ◌∙◌}
use mathlib.Core.Bool.{Bool, ◌&&◌, and-true}
use mathlib.Core.List.{List, [], ◌∷◌}
use Prim.Native.Nat.{ℕ, ◌≤◌}
use native.Mathlib.Omega.{arith}
use lib.Dec.{eqb}
use lib.ListN.{length, get_or, take, drop}
use lib.Pointwise.{pointwise}
use Rattle.record.specs.declared.kinds.Row.{Row}
use Rattle.record.specs.Records.{named}
use Rattle.record.proofs.Table.{row-known}
use Rattle.record.proofs.steps.is_named.Goals as goal

two_same : (s : List ℕ) (x y : ℕ) → 4 ≤ length s → pointwise eqb (take 2 (drop 2 s)) (x ∷ y ∷ []) ≡ eqb (get_or s 2 0) x && eqb (get_or s 3 0) y
two_same [] x y l = absurd (omega arith)
two_same (a ∷ []) x y l = absurd (omega arith)
two_same (a ∷ b ∷ []) x y l = absurd (omega arith)
two_same (a ∷ b ∷ c ∷ []) x y l = absurd (omega arith)
two_same (a ∷ b ∷ c ∷ d ∷ t) x y l = ap (λ (q : Bool). eqb c x && q) (and-true (eqb d y))

pub returns : goal.returns
unfolding named
returns c =
    let rest = c.args.rest.now in
    c.eq.ensures ∙ ap (λ (n : List ℕ). pointwise eqb (take 2 (drop 2 rest)) n) (ap (λ (r : Row). r.name) c.row_of-row.ensures ∙ (row-known c.args.kind).two) ∙ two_same rest _ _ c.requires

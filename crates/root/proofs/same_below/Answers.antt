-- `root::same_below` meets its contract: each coefficient below the fourth is compared.
use Rattle.std.proofs.Common.{rules}
use Rattle.std.proofs.lemmas.Bool.Decides.{Decides-at, Decides-and, Decides-like, Decides-int_eq}
use mathlib.Core.Path.{◌≡◌}
use Prim.Native.Nat.{zero, suc}
use native.Mathlib.Omega.{arith}
use mir.Syntax.{w64}
use mir.ValLaws.{to_z-of_z}
use Rattle.whole.specs.Number.{wholes}
use Rattle.whole.proofs.Flags.{decided}
use Rattle.root.specs.declared.Octic.{Octic}
use Rattle.root.specs.Search.{SameBelow}
use Rattle.root.specs.Promise.{octic}
use Rattle.root.proofs.same_below.Goals as goal

four : (a b : Octic) → (((a.m3 ≡ b.m3) × (a.m2 ≡ b.m2)) × (a.m1 ≡ b.m1)) × (a.m0 ≡ b.m0) → SameBelow wholes 4 (octic a) (octic b)
four a b e zero l = e.1
four a b e (suc zero) l = e.0.1
four a b e (suc (suc zero)) l = e.0.0.1
four a b e (suc (suc (suc zero))) l = e.0.0.0
four a b e (suc (suc (suc (suc k)))) l = absurd (omega arith)

pub returns : goal.returns
returns c =
    let compared = simp (
      to_z-of_z w64 c.args.a.m3 (search rules),
      to_z-of_z w64 c.args.b.m3 (search rules),
      to_z-of_z w64 c.args.a.m2 (search rules),
      to_z-of_z w64 c.args.b.m2 (search rules),
      to_z-of_z w64 c.args.a.m1 (search rules),
      to_z-of_z w64 c.args.b.m1 (search rules),
      to_z-of_z w64 c.args.a.m0 (search rules),
      to_z-of_z w64 c.args.b.m0 (search rules),
    )
    at c.eq.ensures in
    decided c.eq.result
    (Decides-like c.eq.result (four c.args.a c.args.b) (λ h. (((h 3 (omega arith), h 2 (omega arith)), h 1 (omega arith)), h 0 (omega arith)))
    (Decides-at c.eq.result _ compared
    (Decides-and _ _ (Decides-and _ _ (Decides-and _ _ (Decides-int_eq _ _) (Decides-int_eq _ _)) (Decides-int_eq _ _)) (Decides-int_eq _ _))))

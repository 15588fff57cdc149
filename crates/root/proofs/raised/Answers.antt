-- `root::raised` meets its contract: what is left out is 0.
use mathlib.Core.Path.{refl, sym}
use Prim.Native.Nat.{zero, suc}
use native.Mathlib.Omega.{arith}
use borrow.Author.Rules.{rules}
use mir.Syntax.{w64}
use mir.ValLaws.{to_z-of_z}
use Rattle.root.proofs.raised.Goals as goal

pub returns : goal.returns
returns c zero = refl
returns c (suc zero) = refl
returns c (suc (suc zero)) = to_z-of_z w64 _ (search rules)
returns c (suc (suc (suc zero))) = to_z-of_z w64 _ (search rules)
returns c (suc (suc (suc (suc zero)))) = to_z-of_z w64 _ (search rules)
returns c (suc (suc (suc (suc (suc zero))))) = to_z-of_z w64 _ (search rules)
returns c (suc (suc (suc (suc (suc (suc zero)))))) = to_z-of_z w64 _ (search rules)
returns c (suc (suc (suc (suc (suc (suc (suc zero))))))) = to_z-of_z w64 _ (search rules)
returns c (suc (suc (suc (suc (suc (suc (suc (suc zero)))))))) = to_z-of_z w64 _ (search rules)
returns c (suc (suc (suc (suc (suc (suc (suc (suc (suc zero))))))))) = sym (c.requires 7 (omega arith))
returns c (suc (suc (suc (suc (suc (suc (suc (suc (suc (suc zero)))))))))) = sym (c.requires 8 (omega arith))
returns c (suc (suc (suc (suc (suc (suc (suc (suc (suc (suc (suc k))))))))))) = refl

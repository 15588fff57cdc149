-- `roots::content` meets its contract.
use mathlib.Core.Path.{◌≡◌, subst}
use mathlib.Core.List.{List, [], ◌∷◌}
use Prim.Native.Nat.{ℕ, ◌<◌, ◌≤◌}
use native.Mathlib.Omega.{arith}
use lib.Dec.{lit<}
use lib.IntN.{ℤ, pos}
use mir.Syntax.{w64}
use mir.Val.{to_z, of_z}
use mir.ValLaws.{to_z_pos}
use Rattle.whole.specs.Coefficients.{Greatest}
use Rattle.whole.specs.Number.{wholes, norm_size}
use Rattle.whole.proofs.Bound.{read_back, fits_within}
use Rattle.whole.proofs.Linear.{linear}
use Rattle.root.specs.declared.Octic.{Octic}
use Rattle.root.specs.Promise.{octic, Sized}
use Rattle.verdict.proofs.Contents.{content-sized}
use Rattle.verdict.proofs.roots.content.Goals as goal

module _ (c : goal.After-gcd_all) where
  abbrev n : Octic
  n = c.args.n

  abbrev g : ℕ
  g = c.gcd_all.result

  abbrev bits : ℤ → ℤ
  bits x = to_z w64 (of_z w64 x)

  listed : bits n.m0 ∷ bits n.m1 ∷ bits n.m2 ∷ bits n.m3 ∷ bits n.m4 ∷ bits n.m5 ∷ bits n.m6 ∷ bits n.m7 ∷ bits n.m8 ∷ [] ≡ octic n
  listed i = let s = c.requires.0 in
      read_back tt (s 0) i ∷ read_back tt (s 1) i ∷ read_back tt (s 2) i ∷ read_back tt (s 3) i ∷ read_back tt (s 4) i ∷ read_back tt (s 5) i ∷ read_back tt (s 6) i ∷ read_back tt (s 7) i ∷ read_back tt (s 8) i ∷ []

  greatest : Greatest wholes (octic n) (pos g)
  greatest = subst (λ (p : List ℤ). Greatest wholes p (pos g)) listed c.gcd_all.ensures

  sizes : (0 < g) × (g ≤ norm_size)
  sizes = content-sized (octic n) g c.requires.0 c.requires.1 greatest

  small : Sized (pos g)
  small = record { size = sizes.1 }

pub overflow_cast-result : goal.overflow_cast-result
overflow_cast-result c = fits_within (lit< tt) (small c)

pub returns : goal.returns
returns c =
    let b = sizes c in
    rw (to_z_pos w64 (g c) (omega (arith, b.1))) (greatest c, omega (linear, b.0), small c)

-- `polynomials::weights` meets its contract: each weight is computed.
use mathlib.Core.Path.{◌≡◌, sym, ap, subst}
use Prim.Native.Nat.{ℕ, ◌/◌, ◌≤◌}
use native.Mathlib.Omega.{arith}
use mathlib.Core.List.{List, [], ◌∷◌}
use lib.IntN.{ℤ, pos}
use Rattle.whole.specs.Coefficients.{at}
use Rattle.whole.specs.Number.{wholes}
use Rattle.poly.specs.Terms.{listed}
use Rattle.poly.proofs.Top.{listed_same}
use Rattle.bernstein.specs.Binomials.{choose}
use Rattle.offset.specs.Steps.{Weights}
use Rattle.offset.proofs.Paths.{weight_above}
use Rattle.offset.proofs.polynomials.weights.Goals as goal

-- the ten numbers of a table are all weights
all-weights : (n scale : ℕ) → n ≤ 9 → (k : ℕ) → at wholes (listed 9 (λ j. pos (scale / choose n j))) k ≡ pos (scale / choose n k)
all-weights n scale few k = sym (listed_same wholes 9 (λ j. pos (scale / choose n j)) (λ j l. ap pos (weight_above scale n j (omega arith))) k)

abbrev cubic_weights : List ℤ
cubic_weights = pos 10 ∷ pos 2 ∷ pos 1 ∷ pos 1 ∷ pos 2 ∷ pos 10 ∷ pos 0 ∷ pos 0 ∷ pos 0 ∷ pos 0 ∷ []

cubic-is : (k : ℕ) → at wholes cubic_weights k ≡ pos (10 / choose 5 k)
unfolding choose
cubic-is = all-weights 5 10 (omega arith)

abbrev quintic_weights : List ℤ
quintic_weights = pos 252 ∷ pos 28 ∷ pos 7 ∷ pos 3 ∷ pos 2 ∷ pos 2 ∷ pos 3 ∷ pos 7 ∷ pos 28 ∷ pos 252 ∷ []

quintic-is : (k : ℕ) → at wholes quintic_weights k ≡ pos (252 / choose 9 k)
unfolding choose
quintic-is = all-weights 9 252 (omega arith)

pub returns-in-Cubic : goal.returns-in-Cubic
returns-in-Cubic c = subst (λ u. Weights u cubic_weights) (sym c.in-Cubic.is) cubic-is

pub returns-in-Quintic : goal.returns-in-Quintic
returns-in-Quintic c = subst (λ u. Weights u quintic_weights) (sym c.in-Quintic.is) quintic-is

-- Equations of pairs for the solver, by their two parts.
--   PairEx                             an expression of pairs: the expressions of its two parts
--   the, _⊞_, _⊟_, _⊠_, _··_, opposite, nought      the i-th pair of the environment, and the algebra of pairs
--   solve_pairs                        two expressions of pairs whose parts have equal normal forms are equal
--   swapped : (a b : Pair) → multiple (pos 3) (times a b) ≡ times b (multiple (pos 3) a)
--   swapped a b = solve_pairs (a ∷ b ∷ []) (3 ·· (the 0 ⊠ the 1)) (the 1 ⊠ (3 ·· the 0)) tt tt
use mathlib.Core.Path.{◌≡◌}
use mathlib.Core.List.{List, [], ◌∷◌}
use Prim.Native.Nat.{ℕ, suc, ◌+◌}
use lib.Dec.{T}
use lib.IntN.{ℤ, pos}
use Rattle.whole.proofs.Solver.{Ex, var, lit, minus, ◌:+◌, ◌:-◌, ◌:*◌, same?, eval, solve}
use Rattle.whole.proofs.Wholes.{wholes_ring}
use Rattle.pair.specs.declared.Pair.{Pair}
use Rattle.pair.specs.Pairs.{pair, times, multiple}
use Rattle.pair.proofs.Parts.{pair-equal}

pub record PairEx : Type 0 where
  pub re : Ex
  pub im : Ex

infixl 60 ◌⊞◌ ◌⊟◌
infixl 70 ◌⊠◌
infixr 80 ◌··◌
abbrev pub the : ℕ → PairEx
the i = record { re = var (i + i); im = var (suc (i + i)) }

abbrev pub ◌⊞◌ : PairEx → PairEx → PairEx
a ⊞ b = record { re = a.re :+ b.re; im = a.im :+ b.im }

abbrev pub ◌⊟◌ : PairEx → PairEx → PairEx
a ⊟ b = record { re = a.re :- b.re; im = a.im :- b.im }

abbrev pub ◌⊠◌ : PairEx → PairEx → PairEx
a ⊠ b = record { re = a.re :* b.re :- a.im :* b.im; im = a.re :* b.im :+ a.im :* b.re }

abbrev pub ◌··◌ : ℕ → PairEx → PairEx
n ·· a = record { re = lit n :* a.re; im = lit n :* a.im }

abbrev pub opposite : PairEx → PairEx
opposite a = record { re = minus a.re; im = minus a.im }

-- 0
abbrev pub nought : PairEx
nought = record { re = lit 0; im = lit 0 }

abbrev pub flat : List Pair → List ℤ
flat [] = []
flat (a ∷ ps) = a.re ∷ a.im ∷ flat ps

pub solve_pairs : (ps : List Pair) (p q : PairEx) → T (same? p.re q.re) → T (same? p.im q.im)
    → pair (eval wholes_ring (flat ps) p.re) (eval wholes_ring (flat ps) p.im) ≡ pair (eval wholes_ring (flat ps) q.re) (eval wholes_ring (flat ps) q.im)
solve_pairs ps p q s t = pair-equal (solve wholes_ring (flat ps) p.re q.re s) (solve wholes_ring (flat ps) p.im q.im t)

swapped : (a b : Pair) → multiple (pos 3) (times a b) ≡ times b (multiple (pos 3) a)
swapped a b = solve_pairs (a ∷ b ∷ []) (3 ·· (the 0 ⊠ the 1)) (the 1 ⊠ (3 ·· the 0)) tt tt

-- The rules by which the legs of a curve tell its verdict.
--   EndDivides n d e             |d|² divides n (d × e)², d being a leg at an end and e the one beside it
--   CubicRule e0 e1 e2           e0, e1, e2 are the Bernstein coefficients of some κ u²
--   QuinticRule d0 .. d4 m       where d0 is not 0, so are d0 .. d4 of some κ w², and m = κ w(0) w(1) shows it
--   line_root, parabola_root       the polynomials with the Bernstein coefficients e0, e1, and d0, d1, m: their squares are e0 E and d0 D
--   ByDivisor D d e w            w is coprime, d divides e², and D = κ w² for κ = e² / d
use Rattle.std.specs.Prelude.{◌≡◌, List, [], ◌∷◌, ℤ, pos, ◌*ℤ◌}
use Rattle.whole.specs.Coefficients.{Divides}
use Rattle.whole.specs.Number.{wholes}
use Rattle.pair.specs.declared.Pair.{Pair}
use Rattle.pair.specs.Pairs.{pairs, plus, minus, times, multiple, norm, cross}
use Rattle.verdict.specs.Verdicts.{Generated, Coprime}

abbrev pub EndDivides : ℤ → Pair → Pair → Type 0
EndDivides n d e = Divides wholes (norm d) (cross d e *ℤ cross d e *ℤ n)

abbrev pub CubicRule : Pair → Pair → Pair → Type 0
CubicRule e0 e1 e2 = times e1 e1 ≡ times e0 e2

pub record QuinticRule (d0 d1 d2 d3 d4 m : Pair) : Type 0 where
  pub second : times d0 m ≡ minus (multiple (pos 3) (times d0 d2)) (multiple (pos 2) (times d1 d1))
  pub third : times d1 m ≡ times d0 d3
  pub fourth : times m m ≡ times d0 d4

abbrev pub line_root : Pair → Pair → List Pair
line_root e0 e1 = e0 ∷ minus e1 e0 ∷ []

abbrev pub parabola_root : Pair → Pair → Pair → List Pair
parabola_root d0 d1 m = d0 ∷ multiple (pos 2) (minus d1 d0) ∷ plus (minus d0 (multiple (pos 2) d1)) m ∷ []

pub record ByDivisor (D : List Pair) (d e : Pair) (w : List Pair) : Type 0 where
  pub coprime : Coprime w
  pub whole : Divides pairs d (times e e)
  pub generated : (κ : Pair) → times d κ ≡ times e e → Generated D κ w

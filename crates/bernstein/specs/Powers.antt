-- From Bernstein coefficients to powers of t.
--   differences            of each two neighbours of a list, the second less the first: of points, the legs
--   kth_differences k ds    the differences of the differences, .. of ds: k times
--   power_form ds           the power coefficients of the polynomial of degree m whose m + 1 Bernstein coefficients are ds:
--                          the k-th, for k from 0 to m, is C(m, k) times the first of the k-th differences
use Rattle.std.specs.Prelude.{List, [], ◌∷◌, ℕ, zero, suc, ◌-◌, pos, length}
use Rattle.whole.specs.Coefficients.{at}
use Rattle.poly.specs.Terms.{listed}
use Rattle.pair.specs.declared.Pair.{Pair}
use Rattle.pair.specs.Pairs.{pairs, minus, multiple}
use Rattle.bernstein.specs.Binomials.{choose}

unfoldable pub differences : List Pair → List Pair
differences [] = []
differences (p ∷ []) = []
differences (p ∷ q ∷ ps) = minus q p ∷ differences (q ∷ ps)

unfoldable pub kth_differences : ℕ → List Pair → List Pair
kth_differences zero ds = ds
kth_differences (suc k) ds = kth_differences k (differences ds)

unfoldable pub power_form : List Pair → List Pair
power_form ds = let m = length ds - 1 in listed m (λ k. multiple (pos (choose m k)) (at pairs (kth_differences k ds) 0))

-- The first numbers of an area are its state.
--   state-first     what stands behind them is not read
use mathlib.Core.Path.{◌≡◌, ap}
use mathlib.Core.List.{List, [], ◌∷◌}
use Prim.Native.Nat.{ℕ, ◌<◌}
use native.Mathlib.Omega.{arith}
use lib.IntN.{ℤ, pos}
use lib.ListN.{take}
use lib.Seq.{get_or-take}
use Rattle.parts_calls.specs.Numbers.{unsigned, number_at, state_in}

module _ (area : List ℤ) where
  here : (i : ℕ) → i < 13 → number_at (take 13 area) i ≡ number_at area i
  here i l = ap unsigned (get_or-take 13 area i (pos 0) l)

  pub state-first : state_in (take 13 area) ≡ state_in area
  state-first = λ i. record {
    ended = here 0 (omega arith) i;
    count = here 1 (omega arith) i;
    mission = here 2 (omega arith) i;
    curves = here 3 (omega arith) i;
    place = here 4 (omega arith) i;
    erased = here 5 (omega arith) i;
    words =
        here 6 (omega arith) i
        ∷ here 7 (omega arith) i
        ∷ here 8 (omega arith) i
        ∷ here 9 (omega arith) i
        ∷ here 10 (omega arith) i
        ∷ here 11 (omega arith) i
        ∷ here 12 (omega arith) i
        ∷ [];
  }

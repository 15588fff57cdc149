-- Legs whose polynomial is the square of the polynomial with the Bernstein coefficients w: two cases of one law (multiple-square).
--   crossed_legs         the sum of C(m, i) wᵢ C(m, j) wⱼ over i + j = k, as an expression of the solver, over w0, w1, ..
--   cubic-legs           w0², w0 w1 and w1² are the legs of the square of w0, w1
--   t0, t1, t2, t3, t4   three times each leg of the square of w0, w1, w2, as expressions of the solver: so they are whole
--   tripled_legs          these legs
--   quintic-legs         five legs are those of the square of w0, w1, w2 exactly when three times each is what w makes
use mathlib.Core.Path.{◌≡◌, refl, sym, ap, ◌∙◌}
use mathlib.Core.List.{List, [], ◌∷◌, map}
use mathlib.Core.Logic.{◌↔◌}
use Prim.Native.Nat.{ℕ, zero, suc, ◌≤◌}
use native.Mathlib.Omega.{arith}
use lib.IntN.{pos}
use lib.ListN.{get_or, get_or-map}
use Rattle.whole.specs.Coefficients.{at}
use Rattle.poly.specs.Polynomials.{Same, square}
use Rattle.poly.proofs.Series.{conv}
use Rattle.pair.specs.declared.Pair.{Pair}
use Rattle.pair.specs.Pairs.{pairs, plus, times, multiple}
use Rattle.pair.proofs.PairSolver.{PairEx, the, ◌⊞◌, ◌⊠◌, ◌··◌, nought, solve_pairs}
use Rattle.bernstein.specs.Binomials.{choose}
use Rattle.bernstein.specs.Powers.{power_form}
use Rattle.bernstein.proofs.Products.{crossed, power_form-square, multiple-square}

-- ---- expressions of the solver
abbrev crossing : (ℕ → PairEx) → (ℕ → PairEx) → ℕ → PairEx
crossing f g zero = f zero ⊠ g zero
crossing f g (suc k) = f zero ⊠ g (suc k) ⊞ crossing (λ i. f (suc i)) g k

abbrev pub crossed_legs : List PairEx → ℕ → PairEx
crossed_legs ws = crossing (λ i. get_or ws i nought) (λ i. get_or ws i nought)

-- ---- cubics
abbrev line : List PairEx
line = 1 ·· the 0 ∷ 1 ·· the 1 ∷ []

pub cubic-legs : (w0 w1 : Pair) → Same pairs (power_form (times w0 w0 ∷ times w0 w1 ∷ times w1 w1 ∷ [])) (square pairs (power_form (w0 ∷ w1 ∷ [])))
unfolding choose conv
cubic-legs w0 w1 = (power_form-square (times w0 w0 ∷ times w0 w1 ∷ times w1 w1 ∷ []) (w0 ∷ w1 ∷ []) refl).1 leg
  where
    leg : (k : ℕ) → k ≤ 2 → multiple (pos (choose 2 k)) (at pairs (times w0 w0 ∷ times w0 w1 ∷ times w1 w1 ∷ []) k) ≡ crossed (times w0 w0 ∷ times w0 w1 ∷ times w1 w1 ∷ []) (w0 ∷ w1 ∷ []) refl k
    leg zero l = solve_pairs (w0 ∷ w1 ∷ []) (1 ·· (the 0 ⊠ the 0)) (crossed_legs line 0) tt tt
    leg (suc zero) l = solve_pairs (w0 ∷ w1 ∷ []) (2 ·· (the 0 ⊠ the 1)) (crossed_legs line 1) tt tt
    leg (suc (suc zero)) l = solve_pairs (w0 ∷ w1 ∷ []) (1 ·· (the 1 ⊠ the 1)) (crossed_legs line 2) tt tt
    leg (suc (suc (suc k))) l = absurd (omega arith)

-- ---- quintics, three times
abbrev pub t0 : PairEx
t0 = 3 ·· (the 0 ⊠ the 0)

abbrev pub t1 : PairEx
t1 = 3 ·· (the 0 ⊠ the 1)

abbrev pub t2 : PairEx
t2 = 2 ·· (the 1 ⊠ the 1) ⊞ the 0 ⊠ the 2

abbrev pub t3 : PairEx
t3 = 3 ·· (the 1 ⊠ the 2)

abbrev pub t4 : PairEx
t4 = 3 ·· (the 2 ⊠ the 2)

abbrev parabola : List PairEx
parabola = 1 ·· the 0 ∷ 2 ·· the 1 ∷ 1 ·· the 2 ∷ []

module _ (w0 w1 w2 : Pair) where
  abbrev pub tripled_legs : List Pair
  tripled_legs =
      multiple (pos 3) (times w0 w0) ∷
      multiple (pos 3) (times w0 w1) ∷
      plus (multiple (pos 2) (times w1 w1)) (times w0 w2) ∷
      multiple (pos 3) (times w1 w2) ∷
      multiple (pos 3) (times w2 w2) ∷ []

  abbrev ws : List Pair
  ws = w0 ∷ w1 ∷ w2 ∷ []

  module _ (d0 d1 d2 d3 d4 : Pair) where
    abbrev ds : List Pair
    ds = d0 ∷ d1 ∷ d2 ∷ d3 ∷ d4 ∷ []

    tripled : (k : ℕ) → k ≤ 4 → multiple (pos (choose 4 k)) (at pairs tripled_legs k) ≡ multiple (pos 3) (crossed ds ws refl k)
    unfolding choose conv
    tripled zero l = solve_pairs ws (1 ·· t0) (3 ·· crossed_legs parabola 0) tt tt
    tripled (suc zero) l = solve_pairs ws (4 ·· t1) (3 ·· crossed_legs parabola 1) tt tt
    tripled (suc (suc zero)) l = solve_pairs ws (6 ·· t2) (3 ·· crossed_legs parabola 2) tt tt
    tripled (suc (suc (suc zero))) l = solve_pairs ws (4 ·· t3) (3 ·· crossed_legs parabola 3) tt tt
    tripled (suc (suc (suc (suc zero)))) l = solve_pairs ws (1 ·· t4) (3 ·· crossed_legs parabola 4) tt tt
    tripled (suc (suc (suc (suc (suc k))))) l = absurd (omega arith)

    pub quintic-legs : Same pairs (power_form ds) (square pairs (power_form ws)) ↔ (map (multiple (pos 3)) ds ≡ tripled_legs)
    quintic-legs =
        let law = multiple-square ds ws refl 3 (omega arith) (at pairs tripled_legs) tripled in (
          λ h.
              let e = law.0 h in
              λ i. e 0 (omega arith) i ∷ e 1 (omega arith) i ∷ e 2 (omega arith) i ∷ e 3 (omega arith) i ∷ e 4 (omega arith) i ∷ [],
          λ h. law.1 (leg h),
        )
      where
        leg : map (multiple (pos 3)) ds ≡ tripled_legs → (k : ℕ) → k ≤ 4 → multiple (pos 3) (at pairs ds k) ≡ at pairs tripled_legs k
        leg h k l = sym (get_or-map (multiple (pos 3)) ds k pairs.none) ∙ ap (λ (p : List Pair). at pairs p k) h

-- W x + h D by powers of W, from the highest down, and its size.
--   row_of                   the coefficients of w x + h d
--   row_size                 where the coefficients of w, x, h and d are within their bounds, those of w x + h d are within these
--   row_size-most            of which none is above n · 3.2 · 10¹³ and the size of h d, for n powers of w
--   Stage                   ten coefficients that are those of w x + h d, where w and d have n
--   stage_none, stage_step, stage_within     `joined` makes the next stage of it; its size
--   stage_row               the last stage is the row
--   row_sized               so a row that is asked for is within these sizes
use mathlib.Core.Path.{◌≡◌, refl, sym, ap, ap₂, ◌∙◌, subst, fun_ext}
use mathlib.Core.List.{List, [], ◌∷◌}
use Prim.Native.Nat.{ℕ, zero, suc, ◌+◌, ◌*◌, ◌≤◌, zero-le}
use native.Mathlib.Nat.{mul-le-mul}
use native.Mathlib.Decide.{dec_le}
use native.Mathlib.Omega.{arith}
use lib.IntN.{ℤ, pos, ◌+ℤ◌, ◌*ℤ◌, +ℤ_assoc, *ℤ-zero}
use lib.ListN.{length, replicate, get_or, get_or-eq_default}
use Rattle.whole.specs.Coefficients.{at}
use Rattle.poly.specs.Polynomials.{scaled, product}
use Rattle.whole.specs.Number.{wholes, Within}
use Rattle.whole.proofs.Integers.{abs_times, abs_zero}
use Rattle.whole.proofs.Wholes.{wholes_ring}
use Rattle.whole.proofs.Bound.{abs_plus}
use Rattle.poly.proofs.Series.{Series, tail, conv, conv-none, conv-suc}
use Rattle.poly.proofs.Lists.{at_sum, at_scaled, at-product}
use Rattle.poly.proofs.Zeros.{at-zeros}
use Rattle.root.specs.Promise.{root_size}
use Rattle.curve.specs.Sizes.{coordinate_reach}
use Rattle.offset.specs.Steps.{IsJoined, RowAsked, IsRow}

abbrev pub row_of : Series ℤ → Series ℤ → ℤ → Series ℤ → Series ℤ
row_of w x h d k = conv wholes w x k +ℤ h *ℤ d k

row-suc : (w x : Series ℤ) (h : ℤ) (d : Series ℤ) (k : ℕ) → row_of w x h d (suc k) ≡ w zero *ℤ x (suc k) +ℤ row_of (tail w) x h (tail d) k
row-suc w x h d k =
    ap (λ z. z +ℤ h *ℤ d (suc k)) (conv-suc wholes_ring w x k) ∙ +ℤ_assoc (w zero *ℤ x (suc k)) (conv wholes (tail w) x k) (h *ℤ d (suc k))

-- ---- sizes
abbrev x_size : ℕ → ℕ
x_size k = get_or (1600000 ∷ 1600000 ∷ 1600000 ∷ 1600000 ∷ 1600000 ∷ 1600000 ∷ []) k 0

abbrev pub row_size : ℕ → ℕ → ℕ
row_size zero k = 0
row_size (suc n) zero = root_size * x_size zero + 25600000000
row_size (suc n) (suc k) = root_size * x_size (suc k) + row_size n k

term_within : {a b z : ℤ} {A B Z : ℕ} → Within A a → Within B b → Within Z z → Within (A * B + Z) (a *ℤ b +ℤ z)
term_within {a} {b} {z} h k l = record { size = omega (arith, abs_plus (a *ℤ b) z, abs_times a b, mul-le-mul h.size k.size, l.size) }

times-within : {a b : ℤ} {A B : ℕ} → Within A a → Within B b → Within (A * B) (a *ℤ b)
times-within {a} {b} h k = record { size = omega (arith, abs_times a b, mul-le-mul h.size k.size) }

module _ {x : Series ℤ} {h : ℤ} (hx : (k : ℕ) → Within (x_size k) (x k)) (hh : Within coordinate_reach h) where
  row_within : (n : ℕ) (w d : Series ℤ) → ((k : ℕ) → Within root_size (w k)) → ((k : ℕ) → Within 1280000 (d k)) → ((k : ℕ) → n ≤ k → w k ≡ pos 0)
      → ((k : ℕ) → n ≤ k → d k ≡ pos 0) → (k : ℕ) → Within (row_size n k) (row_of w x h d k)
  unfolding conv
  row_within zero w d hw hd zw zd k =
      let e : row_of w x h d k ≡ pos 0 = ap₂ (λ f z. conv wholes f x k +ℤ h *ℤ z) (fun_ext (λ i. zw i zero-le)) (zd k zero-le) ∙ ap₂ ◌+ℤ◌ (conv-none wholes_ring x k) (*ℤ-zero h) in
      rw e (record { size = zero-le })
  row_within (suc n) w d hw hd zw zd zero = term_within (hw zero) (hx zero) (times-within hh (hd zero))
  row_within (suc n) w d hw hd zw zd (suc k) =
      rw (row-suc w x h d k)
      (term_within (hw zero) (hx (suc k)) (row_within n (tail w) (tail d) (λ i. hw (suc i)) (λ i. hd (suc i)) (λ i l. zw (suc i) (omega arith)) (λ i l. zd (suc i) (omega arith)) k))

x_size-most : (k : ℕ) → x_size k ≤ 1600000
x_size-most zero = omega arith
x_size-most (suc zero) = omega arith
x_size-most (suc (suc zero)) = omega arith
x_size-most (suc (suc (suc zero))) = omega arith
x_size-most (suc (suc (suc (suc zero)))) = omega arith
x_size-most (suc (suc (suc (suc (suc zero))))) = omega arith
x_size-most (suc (suc (suc (suc (suc (suc k)))))) = zero-le

pub row_size-most : (n k : ℕ) → row_size n k ≤ n * 32000000000000 + 25600000000
row_size-most zero k = zero-le
row_size-most (suc n) zero = omega arith
row_size-most (suc n) (suc k) = omega (arith, x_size-most (suc k), row_size-most n k)

-- ---- the steps
-- ten coefficients that are those of the row of w and d
pub record Stage (x : List ℤ) (h : ℤ) (n : ℕ) (p w d : List ℤ) : Type 0 where
  pub long : length p ≡ 10
  pub w_long : length w ≡ n
  pub d_long : length d ≡ n
  pub w_small : (k : ℕ) → Within root_size (at wholes w k)
  pub d_small : (k : ℕ) → Within 1280000 (at wholes d k)
  pub row : (k : ℕ) → at wholes p k ≡ row_of (at wholes w) (at wholes x) h (at wholes d) k

pub stage_none : (x : List ℤ) (h : ℤ) → Stage x h 0 (replicate 10 (pos 0)) [] []
stage_none x h = record {
  long = refl;
  w_long = refl;
  d_long = refl;
  w_small = λ k. record { size = zero-le };
  d_small = λ k. record { size = zero-le };
  row = λ k. at-zeros wholes 10 k ∙ sym (ap₂ ◌+ℤ◌ (conv-none wholes_ring (at wholes x) k) (*ℤ-zero h));
}

row_ninth : (n : ℕ) → n ≤ 4 → row_size n 9 ≡ 0
row_ninth zero l = refl
row_ninth (suc zero) l = refl
row_ninth (suc (suc zero)) l = refl
row_ninth (suc (suc (suc zero))) l = refl
row_ninth (suc (suc (suc (suc zero)))) l = refl
row_ninth (suc (suc (suc (suc (suc n))))) l = absurd (omega arith)

module _ (x : List ℤ) {h : ℤ} (short : length x ≤ 6) (hx : (k : ℕ) → Within 1600000 (at wholes x k)) (hh : Within coordinate_reach h) where
  x-sized : (k : ℕ) → Within (x_size k) (at wholes x k)
  x-sized zero = hx 0
  x-sized (suc zero) = hx 1
  x-sized (suc (suc zero)) = hx 2
  x-sized (suc (suc (suc zero))) = hx 3
  x-sized (suc (suc (suc (suc zero)))) = hx 4
  x-sized (suc (suc (suc (suc (suc zero))))) = hx 5
  x-sized (suc (suc (suc (suc (suc (suc k)))))) = rw (get_or-eq_default x (pos 0) {n = suc (suc (suc (suc (suc (suc k)))))} (omega arith)) (record { size = zero-le })

  pub stage_within : (n : ℕ) (p w d : List ℤ) → Stage x h n p w d → (k : ℕ) → Within (row_size n k) (at wholes p k)
  stage_within n p w d s k =
      rw (s.row k)
      (row_within (λ i. x-sized i) hh n (at wholes w) (at wholes d) s.w_small s.d_small
      (λ i l. get_or-eq_default w (pos 0) {n = i} (omega (arith, s.w_long))) (λ i l. get_or-eq_default d (pos 0) {n = i} (omega (arith, s.d_long))) k)

  pub stage_step : (n : ℕ) (p w d r : List ℤ) (a b : ℤ) → n ≤ 4 → Within root_size a → Within 1280000 b → Stage x h n p w d → length r ≡ 10 → IsJoined p a x (h *ℤ b) r
      → Stage x h (suc n) r (a ∷ w) (b ∷ d)
  unfolding conv
  stage_step n p w d r a b l ha hb s long joined = record {
    long = long;
    w_long = ap suc s.w_long;
    d_long = ap suc s.d_long;
    w_small = first a w ha s.w_small;
    d_small = first b d hb s.d_small;
    row = step;
  }
    where
      first : {B : ℕ} (a : ℤ) (w : List ℤ) → Within B a → ((k : ℕ) → Within B (at wholes w k)) → (k : ℕ) → Within B (at wholes (a ∷ w) k)
      first a w h t zero = h
      first a w h t (suc k) = t k

      -- there is nothing in p from its last coefficient on
      last : (k : ℕ) → 9 ≤ k → at wholes p k ≡ pos 0
      last k m = by (dec_le 10 k)
        where
          by : Dec (10 ≤ k) → at wholes p k ≡ pos 0
          by (yes i) = get_or-eq_default p (pos 0) {n = k} (omega (arith, s.long))
          by (no i) =
              let ninth : k ≡ 9 = omega arith in
              rw ninth (abs_zero (at wholes p 9) (omega (arith, (stage_within n p w d s 9).size, row_ninth n l)))

      moved : (k : ℕ) → at wholes r (suc k) ≡ a *ℤ at wholes x (suc k) +ℤ at wholes p k
      moved k = by (dec_le 9 k)
        where
          by : Dec (9 ≤ k) → at wholes r (suc k) ≡ a *ℤ at wholes x (suc k) +ℤ at wholes p k
          by (yes m) =
              get_or-eq_default r (pos 0) {n = suc k} (omega arith)
              ∙ sym (ap₂ (λ (u v : ℤ). a *ℤ u +ℤ v) (get_or-eq_default x (pos 0) {n = suc k} (omega arith)) (last k m) ∙ ap (λ (u : ℤ). u +ℤ pos 0) (*ℤ-zero a))
          by (no m) = joined (suc k) (omega arith)

      step : (k : ℕ) → at wholes r k ≡ row_of (at wholes (a ∷ w)) (at wholes x) h (at wholes (b ∷ d)) k
      step zero = joined 0 (omega arith)
      step (suc k) =
          moved k
          ∙ ap (λ t. a *ℤ at wholes x (suc k) +ℤ t) (s.row k)
          ∙ sym (row-suc (at wholes (a ∷ w)) (at wholes x) h (at wholes (b ∷ d)) k)

pub stage_row : {x : List ℤ} {h : ℤ} {n : ℕ} {p w d : List ℤ} → Stage x h n p w d → IsRow w x h d p
stage_row {x} {h} {w} {d} s k =
    s.row k
    ∙ sym (at_sum wholes_ring (product wholes w x) (scaled wholes h d) k
    ∙ ap₂ ◌+ℤ◌ (at-product wholes_ring w x k) (at_scaled wholes_ring h d k))

pub row_sized : {x : List ℤ} {h : ℤ} {w d : List ℤ} (r : List ℤ) → RowAsked w x h d → length x ≤ 6 → length w ≤ 5 → length d ≤ 5 → IsRow w x h d r → (k : ℕ) → Within (row_size 5 k) (at wholes r k)
row_sized {x} {h} {w} {d} r a lx lw ld e k =
    subst (Within (row_size 5 k))
    (sym (e k ∙ at_sum wholes_ring (product wholes w x) (scaled wholes h d) k ∙ ap₂ ◌+ℤ◌ (at-product wholes_ring w x k) (at_scaled wholes_ring h d k)))
    (row_within (x-sized x lx a.x_small a.h_small) a.h_small 5 (at wholes w) (at wholes d) a.w_small a.d_small
    (λ i l. get_or-eq_default w (pos 0) {n = i} (omega arith)) (λ i l. get_or-eq_default d (pos 0) {n = i} (omega arith)) k)

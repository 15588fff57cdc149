-- What the loop that writes the points carries from turn to turn.
--   numbers                     the numbers of so many points, from the rows of W, X and Y
--   Doubled, doubled_fits       a row after so many turns, and that one more fits
--   Turn                        so many points are left; the numbers written so far, and those of the points left, are all numbers
--   turn-start, turn_more, turn_end      it holds at first and after each turn, and at the end all is written
--   few_points                  an offset has at most ten points
--   rows-numbers                from the rows of a curve, these are the numbers of its offset
use mathlib.Core.Path.{◌≡◌, refl, sym, ap, ◌∙◌, fun_ext}
use mathlib.Core.List.{List, [], ◌∷◌, ◌++◌, append_assoc}
use Prim.Native.Nat.{ℕ, zero, suc, ◌+◌, ◌*◌, ◌^◌, ◌<◌, ◌≤◌}
use native.Mathlib.Nat.{pow-succ', pow-le-pow_right}
use native.Mathlib.Omega.{arith}
use lib.IntN.{ℤ}
use borrow.Rule.Slice.PartMut.{put_mid}
use lib.ListN.{length, drop, length-append, drop_of_length-le}
use Rattle.std.proofs.Common.{add-one}
use Rattle.std.proofs.lemmas.List.{take_at, drop_at, drop-drop}
use Rattle.whole.specs.Coefficients.{at}
use Rattle.whole.specs.Number.{wholes, Within}
use Rattle.whole.proofs.Bound.{abs_plus}
use Rattle.root.specs.Search.{Each}
use Rattle.bernstein.specs.Binomials.{binomial_sum}
use Rattle.bernstein.proofs.Sums.{binomial_sum-first, binomial_sum-next}
use Rattle.curve.specs.declared.Curve.{Curve}
use Rattle.curve.specs.declared.Curve.TheVariants.{Cubic, Quintic}
use Rattle.offset.specs.declared.Rows.{Rows}
use Rattle.offset.specs.Promise.{Rational, point_numbers, offset_degree, offset_numbers}
use Rattle.offset.specs.Steps.{IsNext, RowsOf}

-- the numbers of so many points, from rows
abbrev pub numbers : ℕ → List ℤ → List ℤ → List ℤ → List ℤ
numbers points w x y = point_numbers points (binomial_sum (at wholes w)) (binomial_sum (at wholes x)) (binomial_sum (at wholes y))

-- after so many turns a row is at most that many times doubled
abbrev pub Doubled : ℕ → List ℤ → Type 0
Doubled turns e = Each wholes (Within (2 ^ turns * 8700000000000000)) e

pub record Turn (count : ℕ) (all before area w x y : List ℤ) (k : ℕ) : Type 0 where
  pub left : ℕ
  pub counts : k + left ≡ count
  pub w_small : Doubled k w
  pub x_small : Doubled k x
  pub y_small : Doubled k y
  pub written : List ℤ
  pub place : length written ≡ 3 * k
  pub area_is : area ≡ written ++ drop (3 * k) before
  pub rest : written ++ numbers left w x y ≡ all

-- ---- a turn
doubled_next : (turns : ℕ) (e r : List ℤ) → Doubled turns e → IsNext e r → Doubled (suc turns) r
doubled_next turns e r h n k =
    rw (n k) (record { size = omega (arith, pow-succ' 2 turns, abs_plus (at wholes e k) (at wholes e (suc k)), (h k).size, (h (suc k)).size) })

-- a row that a turn is left for can be added up once more
pub doubled_fits : (turns : ℕ) (e : List ℤ) → turns < 10 → Doubled turns e → Each wholes (Within 4500000000000000000) e
doubled_fits turns e l h k =
    let p : 2 ^ turns ≤ 2 ^ 9 = pow-le-pow_right {n = 2} (omega arith) {i = turns} {j = 9} (omega arith) in
    record { size = omega (arith, (h k).size) }

sums_next : (e r : List ℤ) → IsNext e r → (λ k. binomial_sum (at wholes e) (suc k)) ≡ binomial_sum (at wholes r)
sums_next e r n = fun_ext (binomial_sum-next (at wholes e) (at wholes r) n)

numbers-next : (left : ℕ) (w x y w' x' y' : List ℤ) → IsNext w w' → IsNext x x' → IsNext y y'
    → numbers (suc left) w x y ≡ at wholes w 0 ∷ at wholes x 0 ∷ at wholes y 0 ∷ numbers left w' x' y'
unfolding point_numbers
numbers-next left w x y w' x' y' h k l = λ i.
    binomial_sum-first (at wholes w) i ∷ binomial_sum-first (at wholes x) i ∷ binomial_sum-first (at wholes y) i
    ∷ point_numbers left (sums_next w w' h i) (sums_next x x' k i) (sums_next y y' l i)

pub turn-start : (area : List ℤ) (count : ℕ) (w x y : List ℤ) → Each wholes (Within 8700000000000000) w → Each wholes (Within 8700000000000000) x → Each wholes (Within 8700000000000000) y
    → Turn count (numbers count w x y) area area w x y 0
turn-start area count w x y hw hx hy = record {
  left = count;
  counts = omega arith;
  w_small = λ k. record { size = omega (arith, (hw k).size) };
  x_small = λ k. record { size = omega (arith, (hx k).size) };
  y_small = λ k. record { size = omega (arith, (hy k).size) };
  written = [];
  place = refl;
  area_is = refl;
  rest = refl;
}

-- the numbers of a point, written behind the others
put_behind : (vs ys before : List ℤ) (i n m : ℕ) → length ys ≡ i → i + n ≡ m → put_mid i n (ys ++ drop i before) vs ≡ (ys ++ vs) ++ drop m before
put_behind vs ys before i n m e f =
    (λ j. take_at ys (drop i before) i e j ++ (vs ++ drop n (drop_at ys (drop i before) i e j)))
    ∙ ap (λ (d : List ℤ). ys ++ (vs ++ d)) (drop-drop n i before ∙ ap (λ (k : ℕ). drop k before) f)
    ∙ sym (append_assoc ys vs (drop m before))

module _ {count : ℕ} {all before area w x y : List ℤ} {k : ℕ} (t : Turn count all before area w x y k) where
  pub turn_more : {w' x' y' vs : List ℤ} (n : ℕ) → k < count → n ≡ 3 → vs ≡ at wholes w 0 ∷ at wholes x 0 ∷ at wholes y 0 ∷ [] → IsNext w w' → IsNext x x' → IsNext y y'
      → Turn count all before (put_mid (3 * k) n area vs) w' x' y' (k + 1)
  turn_more {w'} {x'} {y'} {vs} n l three e h i j = by t.left refl
    where
      by : (left : ℕ) → t.left ≡ left → Turn count all before (put_mid (3 * k) n area vs) w' x' y' (k + 1)
      by zero z = absurd (omega (arith, t.counts))
      by (suc left) z = rw (add-one k) (record {
        left = left;
        counts = omega (arith, t.counts);
        w_small = doubled_next k w w' t.w_small h;
        x_small = doubled_next k x x' t.x_small i;
        y_small = doubled_next k y y' t.y_small j;
        written = t.written ++ vs;
        place = omega (arith, length-append t.written vs, t.place, ap length e);
        area_is =
            ap (λ (a : List ℤ). put_mid (3 * k) n a vs) t.area_is
            ∙ put_behind vs t.written before (3 * k) n (3 * suc k) t.place (omega arith);
        rest =
            append_assoc t.written vs (numbers left w' x' y')
            ∙ ap (λ (us : List ℤ). t.written ++ (us ++ numbers left w' x' y')) e
            ∙ ap (λ (us : List ℤ). t.written ++ us) (sym (numbers-next left w x y w' x' y' h i j))
            ∙ ap (λ (m : ℕ). t.written ++ numbers m w x y) (sym z)
            ∙ t.rest;
      })

  pub turn_end : count ≤ k → length before ≡ 3 * count → area ≡ all
  unfolding point_numbers
  turn_end l e =
      let none : 0 ≡ t.left = omega (arith, t.counts) in
      t.area_is
      ∙ ap (λ (d : List ℤ). t.written ++ d) (drop_of_length-le before {i = 3 * k} (omega arith))
      ∙ ap (λ (m : ℕ). t.written ++ numbers m w x y) none
      ∙ t.rest

-- ---- the rows of a curve
pub few_points : (curve : Curve) → suc (offset_degree curve) ≤ 10
few_points (Cubic c) = omega arith
few_points (Quintic c) = omega arith

pub rows-numbers : (curve : Curve) {o : Rational} (r : Rows) → RowsOf curve o r → {count : ℕ} → count ≡ suc (offset_degree curve) → numbers count r.w r.x r.y ≡ offset_numbers curve o
rows-numbers curve r h e = λ i. point_numbers (e i) (binomial_sum (λ j. h.w.weighted j i)) (binomial_sum (λ j. h.x.weighted j i)) (binomial_sum (λ j. h.y.weighted j i))

-- The content of a list of numbers within a bound.
--   content-sized      it is positive, and within the bound
--   octic_each          what holds of nine numbers holds of every coefficient
--   octic-shared        nine exact quotients are the coefficients of the quotient
use mathlib.Core.Path.{◌≡◌, refl, sym, ap, ◌∙◌}
use mathlib.Core.List.{List, []}
use mathlib.Core.Logic.{◌≢◌, ⊎_elim}
use Prim.Native.Nat.{ℕ, zero, suc, ◌*◌, ◌<◌, ◌≤◌, zero-le}
use native.Mathlib.Nat.{le_refl, mul-le-mul, pos_of_ne-zero, mul-zero, zero-mul}
use native.Mathlib.Omega.{arith}
use lib.IntN.{ℤ, pos, nat_abs, ◌*ℤ◌}
use Rattle.whole.specs.Coefficients.{at, Greatest}
use Rattle.poly.specs.Polynomials.{Same, scaled}
use Rattle.whole.specs.Number.{wholes, Within}
use Rattle.whole.proofs.Integers.{abs_times, abs_zero}
use Rattle.poly.specs.Terms.{Top}
use Rattle.poly.proofs.Top.{find-top}
use Rattle.poly.proofs.Wholes.{whole-zero?}
use Rattle.root.specs.declared.Octic.{Octic}
use Rattle.root.specs.Promise.{octic, Sized}
use Rattle.root.specs.Search.{Each}

pub content-sized : {B : ℕ} (n : List ℤ) (g : ℕ) → Each wholes (Within B) n → (Same wholes n [] → ⊥) → Greatest wholes n (pos g) → (0 < g) × (g ≤ B)
content-sized {B} n g sized moves h = ⊎_elim (λ z. absurd (moves z)) (λ t. by t.0 t.1) (find-top whole-zero? n)
  where
    by : (l : ℕ) → Top wholes n l → (0 < g) × (g ≤ B)
    by l t = (pos_of_ne-zero g_some, omega (arith, same, (sized l).size, mul-le-mul (le_refl g) (pos_of_ne-zero x_some)))
      where
        x : ℕ
        x = nat_abs (h.divides l).factor

        same : g * x ≡ nat_abs (at wholes n l)
        same = sym (abs_times (pos g) (h.divides l).factor) ∙ ap nat_abs (h.divides l).is

        some : nat_abs (at wholes n l) ≢ 0
        some z = t.lead (abs_zero (at wholes n l) z)

        x_some : x ≢ 0
        x_some z = some (sym same ∙ ap (λ (k : ℕ). g * k) z ∙ mul-zero g)

        g_some : g ≢ 0
        g_some z = some (sym same ∙ ap (λ (k : ℕ). k * x) z ∙ zero-mul x)

pub octic_each : (r : Octic) → Sized r.m0 → Sized r.m1 → Sized r.m2 → Sized r.m3 → Sized r.m4 → Sized r.m5 → Sized r.m6 → Sized r.m7 → Sized r.m8
    → Each wholes Sized (octic r)
octic_each r a b c d e f g h i zero = a
octic_each r a b c d e f g h i (suc zero) = b
octic_each r a b c d e f g h i (suc (suc zero)) = c
octic_each r a b c d e f g h i (suc (suc (suc zero))) = d
octic_each r a b c d e f g h i (suc (suc (suc (suc zero)))) = e
octic_each r a b c d e f g h i (suc (suc (suc (suc (suc zero))))) = f
octic_each r a b c d e f g h i (suc (suc (suc (suc (suc (suc zero)))))) = g
octic_each r a b c d e f g h i (suc (suc (suc (suc (suc (suc (suc zero))))))) = h
octic_each r a b c d e f g h i (suc (suc (suc (suc (suc (suc (suc (suc zero)))))))) = i
octic_each r a b c d e f g h i (suc (suc (suc (suc (suc (suc (suc (suc (suc k))))))))) = record { size = zero-le }

pub octic-shared : (x : ℤ) (r n : Octic) → x *ℤ r.m0 ≡ n.m0 → x *ℤ r.m1 ≡ n.m1 → x *ℤ r.m2 ≡ n.m2 → x *ℤ r.m3 ≡ n.m3 → x *ℤ r.m4 ≡ n.m4
    → x *ℤ r.m5 ≡ n.m5 → x *ℤ r.m6 ≡ n.m6 → x *ℤ r.m7 ≡ n.m7 → x *ℤ r.m8 ≡ n.m8 → Same wholes (scaled wholes x (octic r)) (octic n)
unfolding scaled
octic-shared x r n a b c d e f g h i zero = a
octic-shared x r n a b c d e f g h i (suc zero) = b
octic-shared x r n a b c d e f g h i (suc (suc zero)) = c
octic-shared x r n a b c d e f g h i (suc (suc (suc zero))) = d
octic-shared x r n a b c d e f g h i (suc (suc (suc (suc zero)))) = e
octic-shared x r n a b c d e f g h i (suc (suc (suc (suc (suc zero))))) = f
octic-shared x r n a b c d e f g h i (suc (suc (suc (suc (suc (suc zero)))))) = g
octic-shared x r n a b c d e f g h i (suc (suc (suc (suc (suc (suc (suc zero))))))) = h
octic-shared x r n a b c d e f g h i (suc (suc (suc (suc (suc (suc (suc (suc zero)))))))) = i
octic-shared x r n a b c d e f g h i (suc (suc (suc (suc (suc (suc (suc (suc (suc k))))))))) = refl

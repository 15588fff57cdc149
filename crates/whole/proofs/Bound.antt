-- Bounds of signed code. A local of the machine holds bits, so a need of nested code speaks of `to_z w64 (of_z w64 z)`, once for each operation.
-- The reader of Wholes goes through that too: where the bound of an expression, computed from the bounds of its variables, is within the
-- width, the bits read back are the number.
--   Bounded Bs σ      each number of σ is within its bound: `h₀ ▸ h₁ ▸ done`, each h a `Within`
--   bounds            `atomsℤ` with these facts at hand
--   kept k            a rule for `simp`, beside `readℤ`: an expression put into the bits of an i64 and read back is itself
--   fits k _ refl     what has been read fits its width
--   within k _ refl   what has been read is at most a bound
--   abs_plus          the triangle inequality
--   scaled-within     the bound of a multiple
--   fits_within       what a bound says of the width
--   read_back tt h    a number with a bound is read back from the bits of an i64
-- A need of `x * y - 3 * z`, whatever stands between, is one line, and so is what the code returns (`simp` closes an equation by itself).
-- Each literal of the code is listed by its value, as bits have literals of their own:
--   sub_result c = bounds (hx ▸ hy ▸ hz ▸ done) (λ ρ e k. simp (e 0, e 1, e 2, readℤ, read_pos ρ 3, kept k) (fits k _ refl))
use mathlib.Core.Path.{◌≡◌, sym, subst}
use mathlib.Core.Bool.{true}
use mathlib.Core.List.{List, [], ◌∷◌}
use Prim.Native.Nat.{ℕ, zero, suc, ◌+◌, ◌*◌, ◌^◌, ◌≤◌, ◌<◌, zero-le}
use native.Mathlib.Nat.{le_refl, le_trans, le_of_eq, add-le-add, mul-le-mul}
use lib.Dec.{T, leb, ltb, ltb→lt}
use lib.IntN.{ℤ, pos, nat_abs, ◌+ℤ◌, ◌*ℤ◌}
use borrow.Author.Tests.{leb-true, ltb-true}
use mir.Syntax.{Width, w64}
use mir.Val.{SFits, hbits, to_z, of_z}
use mir.ValLaws.{to_z-of_z}
use Rattle.whole.specs.Number.{Within}
use Rattle.whole.proofs.Integers.{abs_negative, abs_times}
use Rattle.whole.proofs.Solver.{Ex, var, lit, lit⁻, plus, times, minus, nth, eval, val_is}
use Rattle.whole.proofs.Wholes.{wholes_ring, valℤ}
use Rattle.whole.proofs.Linear.{linear, abs_parts, plus_parts, one-part}

infixr 50 ◌▸◌
pub data Bounded : List ℕ → List ℤ → Type 0 where
  done : Bounded [] []
  ◌▸◌ : {b : ℕ} {x : ℤ} {Bs : List ℕ} {σ : List ℤ} → Within b x → Bounded Bs σ → Bounded (b ∷ Bs) (x ∷ σ)

-- ---- the bound of an expression
abbrev bound_at : List ℕ → ℕ → ℕ
bound_at [] i = 0
bound_at (b ∷ Bs) zero = b
bound_at (b ∷ Bs) (suc i) = bound_at Bs i

abbrev pub bound : List ℕ → Ex → ℕ
bound Bs (var i) = bound_at Bs i
bound Bs (lit n) = n
bound Bs (lit⁻ n) = suc n
bound Bs (plus a b) = bound Bs a + bound Bs b
bound Bs (times a b) = bound Bs a * bound Bs b
bound Bs (minus a) = bound Bs a

pub abs_plus : (a b : ℤ) → nat_abs (a +ℤ b) ≤ nat_abs a + nat_abs b
abs_plus a b = omega (linear, abs_parts a, abs_parts b, abs_parts (a +ℤ b), plus_parts a b, one-part (a +ℤ b))

variable-bound : {Bs : List ℕ} {ρ : List ℤ} → Bounded Bs ρ → (i : ℕ) → nat_abs (nth wholes_ring ρ i) ≤ bound_at Bs i
variable-bound done zero = zero-le
variable-bound done (suc i) = variable-bound done i
variable-bound (h ▸ k) zero = h.size
variable-bound (h ▸ k) (suc i) = variable-bound k i

eval-bound : {Bs : List ℕ} {ρ : List ℤ} → Bounded Bs ρ → (e : Ex) → nat_abs (eval wholes_ring ρ e) ≤ bound Bs e
eval-bound k (var i) = variable-bound k i
eval-bound k (lit n) = le_refl n
eval-bound k (lit⁻ n) = le_refl (suc n)
eval-bound {ρ} k (plus a b) = le_trans (abs_plus (eval wholes_ring ρ a) (eval wholes_ring ρ b)) (add-le-add (eval-bound k a) (eval-bound k b))
eval-bound {ρ} k (times a b) = le_trans (le_of_eq (abs_times (eval wholes_ring ρ a) (eval wholes_ring ρ b))) (mul-le-mul (eval-bound k a) (eval-bound k b))
eval-bound {ρ} k (minus a) = le_trans (le_of_eq (abs_negative (eval wholes_ring ρ a))) (eval-bound k a)

val_bound : {Bs : List ℕ} {ρ : List ℤ} → Bounded Bs ρ → (e : Ex) → nat_abs (valℤ ρ e) ≤ bound Bs e
val_bound {Bs} {ρ} k e = subst (λ z. nat_abs z ≤ bound Bs e) (sym (val_is wholes_ring ρ e)) (eval-bound k e)

-- ---- widths
pub scaled-within : {b : ℕ} {x : ℤ} (n : ℕ) → Within b x → Within (n * b) (pos n *ℤ x)
scaled-within {x} n h = record { size = le_trans (le_of_eq (abs_times (pos n) x)) (mul-le-mul (le_refl n) h.size) }

pub fits_within : {w : Width} {b : ℕ} {x : ℤ} → b < 2 ^ hbits w → Within b x → SFits w x
fits_within {x} l h = omega (linear, h.size, abs_parts x)

pub read_back : {b : ℕ} {x : ℤ} → T (ltb b (2 ^ 63)) → Within b x → to_z w64 (of_z w64 x) ≡ x
read_back {b} {x} t h = to_z-of_z w64 x (fits_within (ltb→lt b (2 ^ 63) t) h)

-- ---- what has been read
pub bounds : {G : Type 0} {σ : List ℤ} {Bs : List ℕ} → Bounded Bs σ → ((ρ : List ℤ) → ((i : ℕ) → nth wholes_ring σ i ≡ valℤ ρ (var i)) → Bounded Bs ρ → G) → G
bounds {σ} k f = f σ (λ i. sym (val_is wholes_ring σ (var i))) k

pub within : {n : ℕ} {Bs : List ℕ} {ρ : List ℤ} → Bounded Bs ρ → (e : Ex) → leb (bound Bs e) n ≡ true → Within n (valℤ ρ e)
within {n} {Bs} k e t = record { size = le_trans (val_bound k e) (leb-true (bound Bs e) n t) }

pub fits : {w : Width} {Bs : List ℕ} {ρ : List ℤ} → Bounded Bs ρ → (e : Ex) → ltb (bound Bs e) (2 ^ hbits w) ≡ true → SFits w (valℤ ρ e)
fits {w} {Bs} k e t = fits_within (ltb-true (bound Bs e) (2 ^ hbits w) t) (record { size = val_bound k e })

pub kept : {Bs : List ℕ} {ρ : List ℤ} → Bounded Bs ρ → (e : Ex) → ltb (bound Bs e) (2 ^ 63) ≡ true → to_z w64 (of_z w64 (valℤ ρ e)) ≡ valℤ ρ e
kept {ρ} k e t = to_z-of_z w64 (valℤ ρ e) (fits k e t)

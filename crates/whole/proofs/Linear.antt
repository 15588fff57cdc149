-- Linear arithmetic on ℤ, and on what the machine's tests tell, by `omega`, which reads only ℕ. A whole number z is `up z` less `dn z`,
-- two natural numbers of which one is 0, so an equation, an order or a bound of ℤ is one of ℕ.
--   linear           `omega linear` for `omega arith`: it reads and proves x ≡ y, x ≤ℤ y, x <ℤ y and SFits w x, and reads the flags of tests.
--                    Anything but a variable is an unknown to it, and each compound term that matters is listed with its law:
--   plus_parts, minus_parts, times_parts, negative_parts, abs_parts     the law of x +ℤ y, x -ℤ y, x *ℤ y, neg_ℤ x, nat_abs x
--   one-part         that one of the two parts is 0, where a sign or a size matters
--   equal_parts, le_parts, lt_parts, lt_true, lt_false, le_true, le_false, fits_parts      a hypothesis, as one of ℕ
--   parts_equal, parts_le, parts_lt, parts_fits                                            a goal
--   between : (x y z : ℤ) → (x +ℤ y) ≤ℤ pos 10 → z <ℤ (x -ℤ y) → y ≡ z +ℤ pos 1 → z ≤ℤ pos 2
--   between x y z h k l = omega (linear, plus_parts x y, minus_parts x y, plus_parts z (pos 1))
use mathlib.Core.Path.{◌≡◌, refl, sym, ap, subst}
use mathlib.Core.Bool.{Bool, true, false, not, cond}
use Prim.Native.Nat.{ℕ, zero, suc, ◌+◌, ◌*◌, ◌-◌, ◌<◌, ◌≤◌, ◌^◌, min}
use native.Mathlib.Omega.{arith}
use lib.Dec.{T, ltb, ltb→lt, nltb→le, leb→le, le→leb, lt→ltb}
use lib.IntN.{ℤ, pos, negsuc, neg_ℤ, sub_ℕ, nat_abs, ◌+ℤ◌, ◌-ℤ◌, ◌*ℤ◌}
use lib.Signed.{le_z, lt_z, lt_z_no, ◌≤ℤ◌, ◌<ℤ◌}
use borrow.Author.Tests.{leb-false}
use mir.Syntax.{Width}
use mir.Val.{SFits, hbits}

abbrev pub up : ℤ → ℕ
up (pos n) = n
up (negsuc n) = 0

abbrev pub dn : ℤ → ℕ
dn (pos n) = 0
dn (negsuc n) = suc n

-- ---- operations
cond_parts : (a b : ℕ) (t : Bool) → (T t → a < b) → (T (not t) → b ≤ a) → up (cond t (negsuc (b - suc a)) (pos (a - b))) + b ≡ dn (cond t (negsuc (b - suc a)) (pos (a - b))) + a
cond_parts a b true f g = let h = f tt in omega arith
cond_parts a b false f g = let h = g tt in omega arith

subℕ-parts : (a b : ℕ) → up (sub_ℕ a b) + b ≡ dn (sub_ℕ a b) + a
subℕ-parts a b = cond_parts a b (ltb a b) (ltb→lt a b) (nltb→le a b)

pub negative_parts : (x : ℤ) → (up (neg_ℤ x) ≡ dn x) × (dn (neg_ℤ x) ≡ up x)
negative_parts (pos zero) = (refl, refl)
negative_parts (pos (suc n)) = (refl, refl)
negative_parts (negsuc n) = (refl, refl)

pub plus_parts : (x y : ℤ) → up (x +ℤ y) + (dn x + dn y) ≡ dn (x +ℤ y) + (up x + up y)
plus_parts (pos a) (pos b) = omega arith
plus_parts (pos a) (negsuc b) = omega (arith, subℕ-parts a (suc b))
plus_parts (negsuc a) (pos b) = omega (arith, subℕ-parts b (suc a))
plus_parts (negsuc a) (negsuc b) = omega arith

pub minus_parts : (x y : ℤ) → up (x -ℤ y) + (dn x + up y) ≡ dn (x -ℤ y) + (up x + dn y)
minus_parts x y = omega (arith, plus_parts x (neg_ℤ y), negative_parts y)

pub times_parts : (x y : ℤ) → up (x *ℤ y) + (up x * dn y + dn x * up y) ≡ dn (x *ℤ y) + (up x * up y + dn x * dn y)
times_parts (pos a) (pos b) = omega arith
times_parts (pos a) (negsuc b) = omega (arith, negative_parts (pos (a * suc b)))
times_parts (negsuc a) (pos b) = omega (arith, negative_parts (pos (suc a * b)))
times_parts (negsuc a) (negsuc b) = omega arith

pub abs_parts : (z : ℤ) → nat_abs z ≡ up z + dn z
abs_parts (pos n) = omega arith
abs_parts (negsuc n) = omega arith

pub one-part : (z : ℤ) → min (up z) (dn z) ≡ 0
one-part (pos n) = omega arith
one-part (negsuc n) = omega arith

-- ---- equations and orders, to parts and back
pub equal_parts : {x y : ℤ} → x ≡ y → up x + dn y ≡ up y + dn x
equal_parts {x} {y} e = omega (arith, ap up e, ap dn e)

pub le_parts : {x y : ℤ} → x ≤ℤ y → up x + dn y ≤ up y + dn x
le_parts {x = pos a} {y = pos b} h = omega (arith, leb→le a b h.le)
le_parts {x = pos a} {y = negsuc b} h = absurd h.le
le_parts {x = negsuc a} {y = pos b} h = omega arith
le_parts {x = negsuc a} {y = negsuc b} h = omega (arith, leb→le b a h.le)

pub lt_parts : {x y : ℤ} → x <ℤ y → up x + dn y < up y + dn x
lt_parts {x = pos a} {y = pos b} h = omega (arith, ltb→lt a b h.lt)
lt_parts {x = pos a} {y = negsuc b} h = absurd h.lt
lt_parts {x = negsuc a} {y = pos b} h = omega arith
lt_parts {x = negsuc a} {y = negsuc b} h = omega (arith, ltb→lt b a h.lt)

pub parts_equal : (x y : ℤ) → up x + dn y ≡ up y + dn x → x ≡ y
parts_equal (pos a) (pos b) h = ap pos (omega arith)
parts_equal (pos a) (negsuc b) h = absurd (omega arith)
parts_equal (negsuc a) (pos b) h = absurd (omega arith)
parts_equal (negsuc a) (negsuc b) h = ap negsuc (omega arith)

leb_parts : (x y : ℤ) → up x + dn y ≤ up y + dn x → T (le_z x y)
leb_parts (pos a) (pos b) h = le→leb a b (omega arith)
leb_parts (pos a) (negsuc b) h = absurd (omega arith)
leb_parts (negsuc a) (pos b) h = tt
leb_parts (negsuc a) (negsuc b) h = le→leb b a (omega arith)

pub parts_le : (x y : ℤ) → up x + dn y ≤ up y + dn x → x ≤ℤ y
parts_le x y h = record { le = leb_parts x y h }

ltb_parts : (x y : ℤ) → up x + dn y < up y + dn x → T (lt_z x y)
ltb_parts (pos a) (pos b) h = lt→ltb a b (omega arith)
ltb_parts (pos a) (negsuc b) h = absurd (omega arith)
ltb_parts (negsuc a) (pos b) h = tt
ltb_parts (negsuc a) (negsuc b) h = lt→ltb b a (omega arith)

pub parts_lt : (x y : ℤ) → up x + dn y < up y + dn x → x <ℤ y
parts_lt x y h = record { lt = ltb_parts x y h }

-- ---- what a test of the code tells: its flag is true, or false
pub lt_true : (x y : ℤ) → lt_z x y ≡ true → up x + dn y < up y + dn x
lt_true x y e = lt_parts {x = x} {y = y} (record { lt = subst T (sym e) tt })

pub lt_false : (x y : ℤ) → lt_z x y ≡ false → up y + dn x ≤ up x + dn y
lt_false x y e = le_parts {x = y} {y = x} (lt_z_no {a = x} {b = y} (subst (λ (b : Bool). T (not b)) (sym e) tt))

pub le_true : (x y : ℤ) → le_z x y ≡ true → up x + dn y ≤ up y + dn x
le_true x y e = le_parts {x = x} {y = y} (record { le = subst T (sym e) tt })

pub le_false : (x y : ℤ) → le_z x y ≡ false → up y + dn x < up x + dn y
le_false (pos a) (pos b) e = omega (arith, leb-false a b e)
le_false (pos a) (negsuc b) e = omega arith
le_false (negsuc a) (pos b) e = absurd (subst (λ (b : Bool). T (not b)) (sym e) tt)
le_false (negsuc a) (negsuc b) e = omega (arith, leb-false b a e)

-- ---- a number that fits a signed width
pub fits_parts : {w : Width} {z : ℤ} → SFits w z → up z + (dn z - 1) < 2 ^ hbits w
fits_parts {z = pos n} f = omega (arith, f.sfits)
fits_parts {z = negsuc n} f = omega (arith, f.sfits)

pub parts_fits : {w : Width} (z : ℤ) → up z + (dn z - 1) < 2 ^ hbits w → SFits w z
parts_fits (pos n) h = record { sfits = omega arith }
parts_fits (negsuc n) h = record { sfits = omega arith }

pub ruleset linear = (arith, equal_parts, le_parts, lt_parts, parts_equal, parts_le, parts_lt, lt_true, lt_false, le_true, le_false, fits_parts, parts_fits)

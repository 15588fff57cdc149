-- The parts of pairs, for the bounds of signed code.
--   parts, parts_two     a pair's parts, or two pairs', as bounded numbers for `bounds`
--   operations           rules for `search`: a sum, difference, negative or product of two numbers that are known to be small fits
--   pair-equal           two pairs with equal parts are equal,
--   re-equal, im-equal   and the parts of equal pairs are
--   three-none           three pairs that are all 0
--   turned_parts         the parts of i a
--   zero-within          0 is within every bound
--   wider                a bound may be taken larger
--   conjugate-within, negative-within, turned-within       a conjugate, −a and i a are no larger than a
--   plus-within, minus-within, times-within, multiple-within       bounds of a sum, a difference, a product and a multiple
use mathlib.Core.Path.{◌≡◌, refl, ap, ap₂, ◌∙◌}
use mathlib.Core.List.{[], ◌∷◌}
use Prim.Native.Nat.{ℕ, zero, suc, ◌+◌, ◌*◌, ◌^◌, ◌≤◌, zero-le}
use native.Mathlib.Nat.{le_refl, le_trans, le_of_eq}
use borrow.Author.Rules.{rules}
use borrow.Author.Tests.{le-leb}
use lib.IntN.{ℤ, pos, neg_ℤ, ◌+ℤ◌, ◌-ℤ◌, ◌*ℤ◌, +ℤ_idl, *ℤ_comm, zero-*ℤ}
use mir.Syntax.{w64}
use mir.Val.{SFits, to_z, of_z}
use Rattle.whole.specs.Number.{Within}
use Rattle.poly.specs.Polynomials.{Same}
use Rattle.whole.proofs.Integers.{*ℤ-1, abs_negative}
use Rattle.whole.proofs.Wholes.{readℤ}
use Rattle.whole.proofs.Bound.{Bounded, done, ◌▸◌, bounds, within, fits, kept, scaled-within}
use Rattle.pair.specs.declared.Pair.{Pair}
use Rattle.pair.specs.Pairs.{pair, pairs, plus, minus, negative, times, multiple, conjugate, imaginary, PartsWithin}

pub parts : {B : ℕ} {a : Pair} → PartsWithin B a → Bounded (B ∷ B ∷ []) (a.re ∷ a.im ∷ [])
parts h = h.re ▸ h.im ▸ done

pub parts_two : {B C : ℕ} {a b : Pair} → PartsWithin B a → PartsWithin C b → Bounded (B ∷ B ∷ C ∷ C ∷ []) (a.re ∷ a.im ∷ b.re ∷ b.im ∷ [])
parts_two h k = h.re ▸ h.im ▸ k.re ▸ k.im ▸ done

-- ---- what one operation of the code asks: rules for `search`, which finds the bounds among what is known at the place
pub sum_fits : {x y : ℤ} → Within (2 ^ 61) x → Within (2 ^ 61) y → SFits w64 (to_z w64 (of_z w64 x) +ℤ to_z w64 (of_z w64 y))
sum_fits h k = bounds (h ▸ k ▸ done) (λ ρ e k. simp (e 0, e 1, readℤ, kept k) (fits k _ refl))

pub difference_fits : {x y : ℤ} → Within (2 ^ 61) x → Within (2 ^ 61) y → SFits w64 (to_z w64 (of_z w64 x) -ℤ to_z w64 (of_z w64 y))
difference_fits h k = bounds (h ▸ k ▸ done) (λ ρ e k. simp (e 0, e 1, readℤ, kept k) (fits k _ refl))

pub negative_fits : {x : ℤ} → Within (2 ^ 61) x → SFits w64 (pos 0 -ℤ to_z w64 (of_z w64 x))
negative_fits h = bounds (h ▸ done) (λ ρ e k. simp (e 0, +ℤ_idl, readℤ, kept k) (fits k _ refl))

pub product_fits : {x y : ℤ} → Within (2 ^ 30) x → Within (2 ^ 30) y → SFits w64 (to_z w64 (of_z w64 x) *ℤ to_z w64 (of_z w64 y))
product_fits h k = bounds (h ▸ k ▸ done) (λ ρ e k. simp (e 0, e 1, readℤ, kept k) (fits k _ refl))

pub ruleset operations = (rules, sum_fits, difference_fits, negative_fits, product_fits)

pub pair-equal : {a b : Pair} → a.re ≡ b.re → a.im ≡ b.im → a ≡ b
pair-equal p q = λ i. record { re = p i; im = q i }

pub re-equal : {a b : Pair} → a ≡ b → a.re ≡ b.re
re-equal e = ap (λ (p : Pair). p.re) e

pub im-equal : {a b : Pair} → a ≡ b → a.im ≡ b.im
im-equal e = ap (λ (p : Pair). p.im) e

pub three-none : {a b c : Pair} → a ≡ pairs.none → b ≡ pairs.none → c ≡ pairs.none → Same pairs (a ∷ b ∷ c ∷ []) []
three-none x y z zero = x
three-none x y z (suc zero) = y
three-none x y z (suc (suc zero)) = z
three-none x y z (suc (suc (suc k))) = refl

pub turned_parts : (a : Pair) → times imaginary a ≡ pair (neg_ℤ a.im) a.re
turned_parts a =
    pair-equal
    (ap₂ ◌-ℤ◌ (zero-*ℤ a.re) (one-times a.im) ∙ +ℤ_idl (neg_ℤ a.im))
    (ap₂ ◌+ℤ◌ (zero-*ℤ a.im) (one-times a.re) ∙ +ℤ_idl a.re)
  where
    one-times : (x : ℤ) → pos 1 *ℤ x ≡ x
    one-times x = *ℤ_comm (pos 1) x ∙ *ℤ-1 x

pub zero-within : {B : ℕ} → PartsWithin B pairs.none
zero-within = record { re = record { size = zero-le }; im = record { size = zero-le } }

pub wider : {B C : ℕ} {a : Pair} → B ≤ C → PartsWithin B a → PartsWithin C a
wider l h = record { re = record { size = le_trans h.re.size l }; im = record { size = le_trans h.im.size l } }

pub conjugate-within : {B : ℕ} {a : Pair} → PartsWithin B a → PartsWithin B (conjugate a)
conjugate-within {a} h = record { re = h.re; im = record { size = le_trans (le_of_eq (abs_negative a.im)) h.im.size } }

pub negative-within : {B : ℕ} {a : Pair} → PartsWithin B a → PartsWithin B (negative a)
negative-within {a} h = record {
  re = record { size = le_trans (le_of_eq (abs_negative a.re)) h.re.size };
  im = record { size = le_trans (le_of_eq (abs_negative a.im)) h.im.size };
}

pub turned-within : {B : ℕ} {a : Pair} → PartsWithin B a → PartsWithin B (times imaginary a)
turned-within {a} h = rw (turned_parts a) (record { re = (negative-within h).im; im = h.re })

pub plus-within : {B C : ℕ} {a b : Pair} → PartsWithin B a → PartsWithin C b → PartsWithin (B + C) (plus a b)
plus-within {B} {C} h k = record {
  re = bounds (parts_two h k) (λ ρ e k. simp (e 0, e 2, readℤ) (within k _ (le-leb (B + C) _ (le_refl (B + C)))));
  im = bounds (parts_two h k) (λ ρ e k. simp (e 1, e 3, readℤ) (within k _ (le-leb (B + C) _ (le_refl (B + C)))));
}

pub minus-within : {B C : ℕ} {a b : Pair} → PartsWithin B a → PartsWithin C b → PartsWithin (B + C) (minus a b)
minus-within {B} {C} h k = record {
  re = bounds (parts_two h k) (λ ρ e k. simp (e 0, e 2, readℤ) (within k _ (le-leb (B + C) _ (le_refl (B + C)))));
  im = bounds (parts_two h k) (λ ρ e k. simp (e 1, e 3, readℤ) (within k _ (le-leb (B + C) _ (le_refl (B + C)))));
}

pub multiple-within : {B : ℕ} {a : Pair} (n : ℕ) → PartsWithin B a → PartsWithin (n * B) (multiple (pos n) a)
multiple-within n h = record { re = scaled-within n h.re; im = scaled-within n h.im }

pub times-within : {B C : ℕ} {a b : Pair} → PartsWithin B a → PartsWithin C b → PartsWithin (B * C + B * C) (times a b)
times-within {B} {C} h k = record {
  re = bounds (parts_two h k) (λ ρ e k. simp (e 0, e 1, e 2, e 3, readℤ) (within k _ (le-leb (B * C + B * C) _ (le_refl (B * C + B * C)))));
  im = bounds (parts_two h k) (λ ρ e k. simp (e 0, e 1, e 2, e 3, readℤ) (within k _ (le-leb (B * C + B * C) _ (le_refl (B * C + B * C)))));
}

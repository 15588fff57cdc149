-- Commutative rings over `Coefficients`: the record of laws that the solver and the theory of polynomials ask for, and what any ring has.
--   Ring C          the laws; `number` says how a whole number is read in the ring, so that literals can be solved with
--   none-plus, plus_times, times_none, none-times, minus_one        the laws turned round, and products with 0 and −1
--   zero-difference  a − b = 0 gives a = b
-- There is no law that the carrier is a set: none is needed.
use mathlib.Core.Path.{◌≡◌, sym, ap, ap₂, ◌∙◌}
use lib.IntN.{ℤ, pos, negsuc, ◌+ℤ◌, ◌*ℤ◌}
use Rattle.whole.specs.Coefficients.{Coefficients}

pub record Ring {A : Type 0} (C : Coefficients A) : Type 0 where
  pub negative : A → A
  pub number : ℤ → A
  pub plus_assoc : (a b c : A) → C.plus (C.plus a b) c ≡ C.plus a (C.plus b c)
  pub plus_comm : (a b : A) → C.plus a b ≡ C.plus b a
  pub plus_none : (a : A) → C.plus a C.none ≡ a
  pub plus_negative : (a : A) → C.plus a (negative a) ≡ C.none
  pub times_assoc : (a b c : A) → C.times (C.times a b) c ≡ C.times a (C.times b c)
  pub times_comm : (a b : A) → C.times a b ≡ C.times b a
  pub times_one : (a : A) → C.times a (number (pos 1)) ≡ a
  pub times_plus : (a b c : A) → C.times a (C.plus b c) ≡ C.plus (C.times a b) (C.times a c)
  pub number_none : number (pos 0) ≡ C.none
  pub number_plus : (m n : ℤ) → number (m +ℤ n) ≡ C.plus (number m) (number n)
  pub number_times : (m n : ℤ) → number (m *ℤ n) ≡ C.times (number m) (number n)

module _ {A : Type 0} {C : Coefficients A} (R : Ring C) where
  open C use {none as 𝟎, plus as ◌⊕◌, times as ◌⊗◌}
  open R use {negative, number, plus_assoc, plus_comm, plus_none, plus_negative, times_assoc, times_comm, times_one, times_plus, number_none, number_plus}

  infixl 60 ◌⊕◌
  infixl 70 ◌⊗◌
  pub none-plus : (a : A) → 𝟎 ⊕ a ≡ a
  none-plus a = plus_comm 𝟎 a ∙ plus_none a

  pub plus_times : (a b c : A) → (a ⊕ b) ⊗ c ≡ a ⊗ c ⊕ b ⊗ c
  plus_times a b c = times_comm (a ⊕ b) c ∙ times_plus c a b ∙ ap₂ ◌⊕◌ (times_comm c a) (times_comm c b)

  -- what is added on the left can be taken off again
  negative-plus-left : (a b : A) → negative a ⊕ (a ⊕ b) ≡ b
  negative-plus-left a b =
      sym (plus_assoc (negative a) a b) ∙ ap (λ x. x ⊕ b) (plus_comm (negative a) a ∙ plus_negative a) ∙ none-plus b

  pub plus_cancel : (a : A) {b c : A} → a ⊕ b ≡ a ⊕ c → b ≡ c
  plus_cancel a {b} {c} e = sym (negative-plus-left a b) ∙ ap (λ x. negative a ⊕ x) e ∙ negative-plus-left a c

  pub times_none : (a : A) → a ⊗ 𝟎 ≡ 𝟎
  times_none a = plus_cancel (a ⊗ 𝟎) (sym (times_plus a 𝟎 𝟎) ∙ ap (λ x. a ⊗ x) (plus_none 𝟎) ∙ sym (plus_none (a ⊗ 𝟎)))

  pub none-times : (a : A) → 𝟎 ⊗ a ≡ 𝟎
  none-times a = times_comm 𝟎 a ∙ times_none a

  pub minus_one : (a : A) → number (negsuc 0) ⊗ a ≡ negative a
  minus_one a = plus_cancel a
      (ap (λ x. x ⊕ number (negsuc 0) ⊗ a) (sym (times_one a) ∙ times_comm a (number (pos 1)))
      ∙ sym (plus_times (number (pos 1)) (number (negsuc 0)) a)
      ∙ ap (λ x. x ⊗ a) (sym (number_plus (pos 1) (negsuc 0)) ∙ number_none)
      ∙ none-times a
      ∙ sym (plus_negative a))

  pub zero-difference : (a b : A) → a ⊕ negative b ≡ 𝟎 → a ≡ b
  zero-difference a b e =
      plus_cancel (negative b) (plus_comm (negative b) a ∙ e ∙ sym (plus_comm (negative b) b ∙ plus_negative b))

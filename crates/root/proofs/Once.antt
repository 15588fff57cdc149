-- Each promise has one answer.
--   small_root_once     over any domain, where of a and −a at most one is positive and 0 is not: two small roots of M are the same
--   square_once         a square has one set of coefficients
--   quartic-same        a struct is decided by its polynomial
--   coefficient_once    `IsCoefficient` has one answer, for a divisor other than 0
--   lead_once           `IsLead` has one answer
--   search_once         and so has `IsSearch`, for a lead other than 0
--   whole-root_once     and `IsWholeRoot`
use Rattle.std.specs.Prelude.{Option, Some, Result, Ok, Err}
use mathlib.Core.Path.{◌≡◌, refl, sym, ap, ◌∙◌}
use mathlib.Core.List.{List}
use mathlib.Core.Logic.{◌≢◌, ◌⊎◌, inl, inr}
use lib.IntN.{ℤ, pos, neg_ℤ, ◌*ℤ◌}
use Rattle.whole.specs.Number.{wholes}
use Rattle.whole.specs.Coefficients.{Coefficients}
use Rattle.poly.specs.Polynomials.{Same}
use Rattle.whole.proofs.Ring.{Ring}
use Rattle.whole.proofs.Linear.{linear, negative_parts}
use Rattle.whole.proofs.Options.{option_once}
use Rattle.whole.proofs.Wholes.{wholes_ring, *ℤ-cancel}
use Rattle.poly.proofs.Domain.{Domain, roots_agree, squares_agree, UpToSign}
use Rattle.poly.proofs.Wholes.{wholes_domain}
use Rattle.root.specs.declared.NoCoefficient.{NoCoefficient}
use Rattle.root.specs.declared.NoCoefficient.TheVariants.{Fraction, TooLarge}
use Rattle.root.specs.declared.Octic.{Octic}
use Rattle.root.specs.declared.Quartic.{Quartic}
use Rattle.root.specs.Search.{Lead, SmallRoot}
use Rattle.root.specs.Promise.{quartic, Small, IsSquare, IsWholeRoot}
use Rattle.root.specs.Steps.{IsCoefficient, IsLead, IsSearch}
use Rattle.root.proofs.Squared.{square_only}
use Rattle.root.proofs.Downward.{coefficient_or, upper-root_once}
use Rattle.root.proofs.Leads.{positive_lead_once}

module _ {A : Type 0} {C : Coefficients A} (R : Ring C) (D : Domain C) {Positive : A → Type 0}
    (once : (p q : List A) → Lead C Positive p → Lead C Positive q → UpToSign R p q → Same C p q) where
  pub small_root_once : {Small : A → Type 0} (M p q : List A) → SmallRoot C Positive Small M p → SmallRoot C Positive Small M q → Same C p q
  small_root_once M p q h k = once p q h.lead k.lead (squares_agree R D p q (λ i. h.squared i ∙ sym (k.squared i)))

pub square_once : (q : Quartic) (a b : Octic) → IsSquare q a → IsSquare q b → a ≡ b
square_once q a b h k = square_only q a h ∙ sym (square_only q b k)

pub quartic-same : (p q : Quartic) → Same wholes (quartic p) (quartic q) → p ≡ q
quartic-same p q e i = record { q0 = e 0 i; q1 = e 1 i; q2 = e 2 i; q3 = e 3 i; q4 = e 4 i }

no_cause : (n t : ℤ) → t ≢ pos 0 → (e : NoCoefficient) → IsCoefficient n t (Err e) → (x : ℤ) → t *ℤ x ≡ n → Small x → ⊥
no_cause n t some e = coefficient_or n t some (Err e)

pub coefficient_once : (n t : ℤ) → t ≢ pos 0 → (r s : Result ℤ NoCoefficient) → IsCoefficient n t r → IsCoefficient n t s → r ≡ s
coefficient_once n t some (Ok x) (Ok y) h k = ap Ok (*ℤ-cancel t some (h.0 ∙ sym k.0))
coefficient_once n t some (Ok x) (Err e) h k = absurd (no_cause n t some e k x h.0 h.1)
coefficient_once n t some (Err e) (Ok y) h k = absurd (no_cause n t some e h y k.0 k.1)
coefficient_once n t some (Err Fraction) (Err Fraction) h k = refl
coefficient_once n t some (Err Fraction) (Err TooLarge) h k = absurd (h (record { factor = k.0; is = k.1 }))
coefficient_once n t some (Err TooLarge) (Err Fraction) h k = absurd (k (record { factor = h.0; is = h.1 }))
coefficient_once n t some (Err TooLarge) (Err TooLarge) h k = refl

pub lead_once : (m : ℤ) (r s : Option ℤ) → IsLead m r → IsLead m s → r ≡ s
lead_once m = option_once (IsLead m) same (λ x h none. none x h.0)
  where
    same : (x y : ℤ) → IsLead m (Some x) → IsLead m (Some y) → x ≡ y
    same x y h k = by (roots_agree wholes_ring wholes_domain x y (h.0 ∙ sym k.0))
      where
        by : (x ≡ y) ⊎ (x ≡ neg_ℤ y) → x ≡ y
        by (inl e) = e
        by (inr e) = omega (linear, e, h.1, k.1, negative_parts y)

pub search_once : (M : List ℤ) (s : ℤ) → s ≢ pos 0 → (r t : Option Quartic) → IsSearch M s r → IsSearch M s t → r ≡ t
search_once M s some = option_once (IsSearch M s) (λ p q h k. quartic-same p q (upper-root_once M s some h k)) (λ q h none. none (quartic q) h)

pub whole-root_once : (M : List ℤ) (r s : Option Quartic) → IsWholeRoot M r → IsWholeRoot M s → r ≡ s
whole-root_once M =
    option_once (IsWholeRoot M)
    (λ p q h k. quartic-same p q (small_root_once wholes_ring wholes_domain positive_lead_once M (quartic p) (quartic q) h k))
    (λ q h none. none (quartic q) h.small h.squared)

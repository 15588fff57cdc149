-- Polynomials with a positive lead, over any ring; "positive" is any rule that does not hold of 0, nor of a number and its negative.
--   lead_same      the rule holds of a polynomial, however it is written
--   lead_top       the highest power that it speaks of
--   lead_once      p = q or p = −q, both with a positive lead: p = q
--   positive_lead_once      so it is for whole numbers
use mathlib.Core.Path.{◌≡◌, sym, ◌∙◌, subst}
use mathlib.Core.List.{List}
use lib.IntN.{ℤ}
use Rattle.whole.specs.Coefficients.{Coefficients, at}
use Rattle.poly.specs.Polynomials.{Same}
use Rattle.whole.proofs.Ring.{Ring}
use Rattle.whole.proofs.Linear.{linear, negative_parts}
use Rattle.whole.proofs.Wholes.{wholes_ring}
use Rattle.whole.specs.Number.{wholes}
use Rattle.poly.specs.Terms.{Top}
use Rattle.poly.proofs.Domain.{UpToSign}
use Rattle.poly.proofs.Top.{up_to_sign-same}
use Rattle.root.specs.Search.{Lead}
use Rattle.root.specs.Promise.{LeadPositive}

module _ {A : Type 0} {C : Coefficients A} {Positive : A → Type 0} where
  pub lead_same : {p q : List A} → Same C p q → Lead C Positive p → Lead C Positive q
  lead_same e h = record { power = h.power; positive = subst Positive (e h.power) h.positive; above = λ k l. sym (e k) ∙ h.above k l }

  module _ (none : Positive C.none → ⊥) where
    pub lead_top : {q : List A} (h : Lead C Positive q) → Top C q h.power
    lead_top h = record { lead = λ z. none (subst Positive z h.positive); above = h.above }

    pub lead_once : (R : Ring C) → ((a b : A) → Positive a → Positive b → a ≡ R.negative b → ⊥)
        → (p q : List A) → Lead C Positive p → Lead C Positive q → UpToSign R p q → Same C p q
    lead_once R one p q h k = up_to_sign-same R (lead_top h) (lead_top k) (one (at C p h.power) (at C q k.power) h.positive k.positive)

pub positive_lead_once : (p q : List ℤ) → LeadPositive p → LeadPositive q → UpToSign wholes_ring p q → Same wholes p q
positive_lead_once = lead_once (λ z. z.lt) wholes_ring (λ a b h k e. omega (linear, negative_parts b))

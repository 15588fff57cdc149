-- The sign rules: of a polynomial and its negative they keep one.
--   kept-none, kept_lead_once   0 keeps no sign, and of w and −w one does
--   first-top                   the highest power that the sign rule for pairs speaks of
--   norm_polynomial-lead_positive   N has a positive lead
--   lead_found                  a polynomial other than 0, or its negative, has a positive lead
--   lead_first-found            the same for pairs
use mathlib.Core.Path.{sym, ap, ◌∙◌, subst}
use mathlib.Core.List.{List}
use mathlib.Core.Logic.{◌⊎◌, inl, inr}
use Prim.Native.Nat.{ℕ, ◌+◌}
use lib.IntN.{ℤ, pos, negsuc, neg_ℤ}
use lib.Signed.{◌≤ℤ◌, ◌<ℤ◌}
use Rattle.whole.specs.Coefficients.{at}
use Rattle.poly.specs.Polynomials.{Same, scaled}
use Rattle.whole.specs.Number.{wholes, FirstPositive}
use Rattle.whole.proofs.Order.{compare}
use Rattle.whole.proofs.Wholes.{wholes_ring}
use Rattle.whole.proofs.Signs.{negated_positive}
use Rattle.poly.specs.Terms.{Top}
use Rattle.poly.proofs.Domain.{UpToSign}
use Rattle.poly.proofs.Lists.{at-opposite}
use Rattle.pair.specs.declared.Pair.{Pair}
use Rattle.pair.specs.Pairs.{pair, pairs, negative}
use Rattle.pair.proofs.Laws.{pairs_ring, norm_some}
use Rattle.divisor.proofs.Roots.{first_found, not_both}
use Rattle.root.specs.Promise.{LeadPositive}
use Rattle.verdict.specs.Verdicts.{Kept, LeadKept}
use Rattle.root.proofs.Leads.{lead_top, lead_once}
use Rattle.curve.specs.Curves.{norm_polynomial}
use Rattle.curve.proofs.Norms.{norm_polynomial-lead, norm_polynomial-above}

pub kept-none : Kept pairs.none → ⊥
kept-none (inl h) = h.lt
kept-none (inr (e, h)) = h.lt

pub kept_lead_once : (w v : List Pair) → LeadKept w → LeadKept v → UpToSign pairs_ring w v → Same pairs w v
kept_lead_once = lead_once kept-none pairs_ring not_both

pub first-top : {w : List Pair} (h : LeadKept w) → Top pairs w h.power
first-top = lead_top kept-none

-- ---- one of the two signs fits
pub lead_found : (q : List ℤ) (m : ℕ) → Top wholes q m → LeadPositive q ⊎ LeadPositive (scaled wholes (negsuc 0) q)
lead_found q m t = by (compare (at wholes q m) (pos 0))
  where
    by : (at wholes q m ≤ℤ pos 0) ⊎ (pos 0 <ℤ at wholes q m) → LeadPositive q ⊎ LeadPositive (scaled wholes (negsuc 0) q)
    by (inr h) = inl (record { power = m; positive = h; above = t.above })
    by (inl h) = inr (record {
      power = m;
      positive = rw (at-opposite wholes_ring q m) (negated_positive (at wholes q m) h t.lead);
      above = λ k l. at-opposite wholes_ring q k ∙ ap neg_ℤ (t.above k l);
    })

pub lead_first-found : (w : List Pair) (m : ℕ) → Top pairs w m → LeadKept w ⊎ LeadKept (scaled pairs (pair (negsuc 0) (pos 0)) w)
lead_first-found w m t = by (first_found (at pairs w m) t.lead)
  where
    by : FirstPositive (at pairs w m).re (at pairs w m).im ⊎ FirstPositive (neg_ℤ (at pairs w m).re) (neg_ℤ (at pairs w m).im)
        → LeadKept w ⊎ LeadKept (scaled pairs (pair (negsuc 0) (pos 0)) w)
    by (inl h) = inl (record { power = m; positive = h; above = t.above })
    by (inr h) = inr (record {
      power = m;
      positive = subst (λ z. FirstPositive z.re z.im) (sym (at-opposite pairs_ring w m)) h;
      above = λ k l. at-opposite pairs_ring w k ∙ ap negative (t.above k l);
    })

-- ---- N
pub norm_polynomial-lead_positive : {D : List Pair} {L : ℕ} → Top pairs D L → LeadPositive (norm_polynomial D)
norm_polynomial-lead_positive {D} {L} t = record {
  power = L + L;
  positive = rw (norm_polynomial-lead D L t.above) (norm_some (at pairs D L) t.lead);
  above = norm_polynomial-above D L t.above;
}

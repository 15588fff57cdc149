-- The root of t² M is t times the root of M, so that one degree serves the lower ones. N is t² M throughout.
--   raised_each            what holds of 0 and of every coefficient of M holds of every coefficient of N
--   raised-top             M's highest power goes up by two
--   root-constant          a root of N has no constant coefficient
--   lowered-root           the small root of N, divided by t, is that of M
--   no_lowered-root        where N has no small root, M has none
use mathlib.Core.Path.{◌≡◌, sym, ◌∙◌, subst}
use mathlib.Core.List.{List, ◌∷◌}
use Prim.Native.Nat.{ℕ, zero, suc, ◌+◌}
use native.Mathlib.Numerals.{add-two}
use native.Mathlib.Omega.{arith}
use Rattle.whole.specs.Coefficients.{Coefficients, at}
use Rattle.poly.specs.Polynomials.{Same, square}
use Rattle.whole.proofs.Ring.{Ring}
use Rattle.poly.specs.Terms.{Above, Top}
use Rattle.poly.proofs.Domain.{Domain}
use Rattle.poly.proofs.Lists.{square-same}
use Rattle.poly.proofs.Shift.{square-shift, root-shift}
use Rattle.poly.proofs.Top.{top-same}
use Rattle.root.specs.Search.{Each, Lead, SmallRoot, NoSmallRoot}

module _ {A : Type 0} (C : Coefficients A) where
  each_cons : (P : A → Type 0) (q : List A) → P C.none → Each C P q → Each C P (C.none ∷ q)
  each_cons P q z h zero = z
  each_cons P q z h (suc k) = h k

  lead_down : {Positive : A → Type 0} → (Positive C.none → ⊥) → (p q : List A) → Same C q (C.none ∷ p) → Lead C Positive q → Lead C Positive p
  lead_down {Positive} none p q e l = by l.power (subst Positive (e l.power) l.positive) (λ k h. sym (e k) ∙ l.above k h)
    where
      by : (j : ℕ) → Positive (at C (C.none ∷ p) j) → Above C (at C (C.none ∷ p)) j → Lead C Positive p
      by zero h u = absurd (none h)
      by (suc j) h u = record { power = j; positive = h; above = λ k i. u (suc k) (omega arith) }

module _ {A : Type 0} {C : Coefficients A} (R : Ring C) (M N : List A) (n : Same C N (C.none ∷ C.none ∷ M)) where
  pub raised_each : (P : A → Type 0) → P C.none → Each C P M → Each C P N
  raised_each P z h k = subst P (sym (n k)) (each_cons C P (C.none ∷ M) z (each_cons C P M z h) k)

  pub raised-top : (l : ℕ) → Top C M l → Top C N (l + 2)
  raised-top l t = rw add-two (top-same {p = C.none ∷ C.none ∷ M} (λ k. sym (n k)) (record { lead = t.lead; above = above }))
    where
      above : Above C (at C (C.none ∷ C.none ∷ M)) (suc (suc l))
      above zero h = absurd (omega arith)
      above (suc zero) h = absurd (omega arith)
      above (suc (suc k)) h = t.above k (omega arith)

  root-up : (q : List A) → Same C (square C q) M → Same C (square C (C.none ∷ q)) N
  root-up q h zero = square-shift R q zero ∙ sym (n zero)
  root-up q h (suc zero) = square-shift R q (suc zero) ∙ sym (n (suc zero))
  root-up q h (suc (suc k)) = square-shift R q (suc (suc k)) ∙ h k ∙ sym (n (suc (suc k)))

  root_down : (p q : List A) → Same C q (C.none ∷ p) → Same C (square C q) N → Same C (square C p) M
  root_down p q e h k =
      sym (square-shift R p (suc (suc k))) ∙ sym (square-same R q (C.none ∷ p) e (suc (suc k))) ∙ h (suc (suc k)) ∙ n (suc (suc k))

  pub root-constant : Domain C → (q : List A) → Same C (square C q) N → at C q 0 ≡ C.none
  root-constant D q h = (root-shift R D q M (λ k. h k ∙ n k)).1 0

  pub lowered-root : {Positive Small : A → Type 0} → (Positive C.none → ⊥) → (p q : List A) → Same C q (C.none ∷ p)
      → SmallRoot C Positive Small N q → SmallRoot C Positive Small M p
  lowered-root {Small} none p q e r = record {
    squared = root_down p q e r.squared;
    lead = lead_down C none p q e r.lead;
    small = λ k. subst Small (e (suc k)) (r.small (suc k));
  }

  pub no_lowered-root : (Small : A → Type 0) → Small C.none → NoSmallRoot C Small N → NoSmallRoot C Small M
  no_lowered-root Small z h q b e = h (C.none ∷ q) (each_cons C Small q z b) (root-up q e)

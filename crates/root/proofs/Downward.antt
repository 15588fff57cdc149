-- A root of a polynomial M of degree 8 from the top down: with s at the fourth power, each coefficient is a quotient by 2 s of what those above
-- it leave of a coefficient of M.
--   rest                what the coefficients above the k-th, without s, give to the power k + 4 of the square
--   CoefficientOr n t   the small x with t x = n, or that there is none, whatever the cause
--   coefficient_or      what a coefficient or its cause promises of that
--   Step, Begun         what the answer for the k-th coefficient promises; the coefficients from the k-th up are answers
--   begun_none, begun_more      nothing is begun at the fourth power, and each answer that is whole goes one power down
--   search_ends         where an answer is none, there is no root of the upper part
--   search_finds        four answers that are whole make that root
--   upper-root_once     and there is one at most
use Rattle.std.specs.Prelude.{Option, Some, None, Result, Ok, Err}
use Rattle.std.specs.Result.{result_ok}
use mathlib.Core.Path.{◌≡◌, refl, sym, ap, ◌∙◌, subst}
use mathlib.Core.List.{List}
use mathlib.Core.Logic.{◌≢◌}
use Prim.Native.Nat.{ℕ, zero, suc, ◌+◌, ◌≤◌, ◌<◌}
use native.Mathlib.Decide.{dec_lt}
use native.Mathlib.Omega.{arith}
use lib.Dec.{lit≤, lit<}
use lib.IntN.{ℤ, pos, ◌+ℤ◌, ◌-ℤ◌, ◌*ℤ◌, +ℤ_idr}
use Rattle.whole.specs.Number.{wholes}
use Rattle.whole.specs.Coefficients.{at}
use Rattle.poly.specs.Polynomials.{Same, square}
use Rattle.whole.proofs.Linear.{linear, minus_parts}
use Rattle.whole.proofs.Wholes.{wholes_ring, *ℤ-cancel}
use Rattle.poly.specs.Terms.{Above, RootAt, twice}
use Rattle.poly.proofs.Roots.{root-1, root-2, root-3, root-4}
use Rattle.poly.proofs.Top.{length_above}
use Rattle.poly.proofs.Wholes.{twice-whole_some}
use Rattle.root.specs.declared.NoCoefficient.{NoCoefficient}
use Rattle.root.specs.declared.NoCoefficient.TheVariants.{Fraction, TooLarge}
use Rattle.root.specs.declared.Octic.{Octic}
use Rattle.root.specs.declared.Quartic.{Quartic}
use Rattle.root.specs.Search.{Each, SameFrom, UpperRoot}
use Rattle.root.specs.Promise.{octic, quartic, Small}
use Rattle.root.specs.Steps.{IsCoefficient}
use Rattle.root.proofs.Squared.{square_is}

abbrev pub rest : List ℤ → ℕ → ℤ
rest q zero = twice wholes (at wholes q 1 *ℤ at wholes q 3) +ℤ at wholes q 2 *ℤ at wholes q 2
rest q (suc zero) = twice wholes (at wholes q 2 *ℤ at wholes q 3)
rest q (suc (suc zero)) = at wholes q 3 *ℤ at wholes q 3
rest q (suc (suc (suc k))) = pos 0

same_rest : (p q : List ℤ) (k : ℕ) → ((i : ℕ) → k < i → i < 4 → at wholes p i ≡ at wholes q i) → rest p k ≡ rest q k
same_rest p q zero h =
    let e1 = h 1 (lit< tt) (lit< tt) in
    let e2 = h 2 (lit< tt) (lit< tt) in
    let e3 = h 3 (lit< tt) (lit< tt) in
    λ i. twice wholes (e1 i *ℤ e3 i) +ℤ e2 i *ℤ e2 i
same_rest p q (suc zero) h =
    let e2 = h 2 (lit< tt) (lit< tt) in
    let e3 = h 3 (lit< tt) (lit< tt) in
    λ i. twice wholes (e2 i *ℤ e3 i)
same_rest p q (suc (suc zero)) h = let e3 = h 3 (lit< tt) (lit< tt) in λ i. e3 i *ℤ e3 i
same_rest p q (suc (suc (suc k))) h = refl

-- a polynomial is a root of its own square
itself : (q : List ℤ) → Above wholes (at wholes q) 4 → RootAt wholes (square wholes q) 4 (at wholes q 4) q
itself q u = record { above = u; lead = refl; squared = λ k. refl }

downward : (q : List ℤ) → Above wholes (at wholes q) 4 → (k : ℕ) → k < 4
    → twice wholes (at wholes q 4) *ℤ at wholes q k ≡ at wholes (square wholes q) (k + 4) -ℤ rest q k
downward q u zero l = root-4 wholes_ring 0 (itself q u)
downward q u (suc zero) l = root-3 wholes_ring 1 (itself q u)
downward q u (suc (suc zero)) l = root-2 wholes_ring 2 (itself q u)
downward q u (suc (suc (suc zero))) l = root-1 wholes_ring 3 (itself q u) ∙ sym (+ℤ_idr _)
downward q u (suc (suc (suc (suc k)))) l = absurd (omega arith)

abbrev pub CoefficientOr : ℤ → ℤ → Option ℤ → Type 0
CoefficientOr n t (Some x) = (t *ℤ x ≡ n) × Small x
CoefficientOr n t None = (x : ℤ) → t *ℤ x ≡ n → Small x → ⊥

pub coefficient_or : (n t : ℤ) → t ≢ pos 0 → (r : Result ℤ NoCoefficient) → IsCoefficient n t r → CoefficientOr n t (result_ok r)
coefficient_or n t some (Ok x) h = h
coefficient_or n t some (Err Fraction) h = λ x e l. h (record { factor = x; is = e })
coefficient_or n t some (Err TooLarge) h = λ x e l. h.2 (subst Small (*ℤ-cancel t some (e ∙ sym h.1)) l)

module _ (M : List ℤ) (s : ℤ) where
  abbrev pub Step : List ℤ → ℕ → Option ℤ → Type 0
  Step q k r = CoefficientOr (at wholes M (k + 4) -ℤ rest q k) (twice wholes s) r

  pub record Begun (q : List ℤ) (k : ℕ) : Type 0 where
    pub answer : (i : ℕ) → k ≤ i → i < 4 → Step q i (Some (at wholes q i))

pub begun_none : {M : List ℤ} {s : ℤ} {q : List ℤ} → Begun M s q 4
begun_none = record { answer = λ i l h. absurd (omega arith) }

pub begun_more : {M : List ℤ} {s : ℤ} {q : List ℤ} {k : ℕ} → Begun M s q (suc k) → Step M s q k (Some (at wholes q k)) → Begun M s q k
begun_more {M} {s} {q} {k} b f = record { answer = λ i l h. by i h (dec_lt k i) l }
  where
    by : (i : ℕ) → i < 4 → Dec (k < i) → k ≤ i → Step M s q i (Some (at wholes q i))
    by i h (yes j) l = b.answer i (omega arith) h
    by i h (no j) l = let e : k ≡ i = omega arith in subst (λ (n : ℕ). Step M s q n (Some (at wholes q n))) e f

module _ (M : List ℤ) (s : ℤ) (some : s ≢ pos 0) where
  -- the coefficients of a root of the upper part are the answers
  step_of_lem : {x : List ℤ} → UpperRoot wholes Small M 4 s x → (q : List ℤ) (k : ℕ) → k < 4
      → ((i : ℕ) → k < i → i < 4 → at wholes x i ≡ at wholes q i) → Step M s q k (Some (at wholes x k))
  step_of_lem {x} u q k l h = (
    ap (λ z. twice wholes z *ℤ at wholes x k) (sym u.lead)
        ∙ downward x u.above k l
        ∙ (λ i. u.squared (k + 4) (omega arith) i -ℤ same_rest x q k h i),
    u.small k,
  )

  -- and so agree with those that are found, from the third down
  agrees : {x : List ℤ} → UpperRoot wholes Small M 4 s x → (q : List ℤ) (k : ℕ) → Begun M s q k
      → (n i : ℕ) → 4 ≤ i + n → k ≤ i → i < 4 → at wholes x i ≡ at wholes q i
  agrees u q k b zero i e l h = absurd (omega arith)
  agrees u q k b (suc n) i e l h =
      *ℤ-cancel (twice wholes s) (twice-whole_some s some)
      ((step_of_lem u q i h (λ j a c. agrees u q k b n j (omega arith) (omega arith) c)).0 ∙ sym (b.answer i l h).0)

  pub search_ends : (q : List ℤ) (k : ℕ) → k < 4 → Begun M s q (suc k) → Step M s q k None → (x : List ℤ) → UpperRoot wholes Small M 4 s x → ⊥
  search_ends q k l b h x u = let e = step_of_lem u q k l (λ i a c. agrees u q (suc k) b 4 i (omega arith) a c) in h (at wholes x k) e.0 e.1

  pub upper-root_once : {p q : List ℤ} → UpperRoot wholes Small M 4 s p → UpperRoot wholes Small M 4 s q → Same wholes p q
  upper-root_once {p} {q} u v k = by (dec_lt k 4) (dec_lt 4 k)
    where
      by : Dec (k < 4) → Dec (4 < k) → at wholes p k ≡ at wholes q k
      by (yes l) d = agrees u q 0 (record { answer = λ i a h. step_of_lem v q i h (λ j b c. refl) }) 4 k (omega arith) (omega arith) l
      by (no l) (yes h) = u.above k h ∙ sym (v.above k h)
      by (no l) (no h) = let e : 4 ≡ k = omega arith in subst (λ i. at wholes p i ≡ at wholes q i) e (u.lead ∙ sym v.lead)

quartic_above : (q : Quartic) → Above wholes (at wholes (quartic q)) 4
quartic_above q = length_above wholes (quartic q) 4 (lit≤ tt)

less_same : (a b r : ℤ) → a -ℤ r ≡ b -ℤ r → a ≡ b
less_same a b r e = omega (linear, minus_parts a r, minus_parts b r)

module _ (m : Octic) (q : Quartic) (lead : q.q4 *ℤ q.q4 ≡ m.m8) (lead_small : Small q.q4) (b : Begun (octic m) q.q4 (quartic q) 0) where
  small : Each wholes Small (quartic q)
  small zero = (b.answer 0 (lit≤ tt) (lit< tt)).1
  small (suc zero) = (b.answer 1 (lit≤ tt) (lit< tt)).1
  small (suc (suc zero)) = (b.answer 2 (lit≤ tt) (lit< tt)).1
  small (suc (suc (suc zero))) = (b.answer 3 (lit≤ tt) (lit< tt)).1
  small (suc (suc (suc (suc zero)))) = lead_small
  small (suc (suc (suc (suc (suc k))))) = record { size = lit≤ tt }

  power : (k : ℕ) → k < 4 → at wholes (square wholes (quartic q)) (k + 4) ≡ at wholes (octic m) (k + 4)
  power k l = less_same _ _ (rest (quartic q) k) (sym (downward (quartic q) (quartic_above q) k l) ∙ (b.answer k (omega arith) l).0)

  squared : SameFrom wholes 4 (square wholes (quartic q)) (octic m)
  squared zero l = absurd (omega arith)
  squared (suc zero) l = absurd (omega arith)
  squared (suc (suc zero)) l = absurd (omega arith)
  squared (suc (suc (suc zero))) l = absurd (omega arith)
  squared (suc (suc (suc (suc zero)))) l = power 0 (lit< tt)
  squared (suc (suc (suc (suc (suc zero))))) l = power 1 (lit< tt)
  squared (suc (suc (suc (suc (suc (suc zero)))))) l = power 2 (lit< tt)
  squared (suc (suc (suc (suc (suc (suc (suc zero))))))) l = power 3 (lit< tt)
  squared (suc (suc (suc (suc (suc (suc (suc (suc zero)))))))) l = square_is q 8 ∙ lead
  squared (suc (suc (suc (suc (suc (suc (suc (suc (suc k))))))))) l = square_is q (suc (suc (suc (suc (suc (suc (suc (suc (suc k)))))))))

  pub search_finds : UpperRoot wholes Small (octic m) 4 q.q4 (quartic q)
  search_finds = record { small = small; above = quartic_above q; lead = refl; squared = squared }

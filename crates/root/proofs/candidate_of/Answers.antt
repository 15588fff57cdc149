-- `root::candidate_of` meets its contract: every number of it fits, and each answer is that for the numbers which the machine's stand for.
use Rattle.std.specs.Prelude.{Option, Some, None, Result}
use Rattle.std.specs.Result.{result_ok}
use mathlib.Core.Path.{◌≡◌, refl, sym, ◌∙◌, subst, subst₂}
use mathlib.Core.List.{List, [], ◌∷◌}
use mathlib.Core.Logic.{◌≢◌}
use Prim.Native.Nat.{ℕ, ◌+◌}
use lib.Dec.{lit<}
use lib.IntN.{ℤ, pos, ◌+ℤ◌, ◌-ℤ◌, ◌*ℤ◌, +ℤ_idr}
use mir.Syntax.{w64}
use mir.Val.{to_z, of_z}
use Rattle.whole.specs.Number.{wholes, norm_size}
use Rattle.whole.specs.Coefficients.{at}
use Rattle.whole.specs.Promise.{Divisible}
use Rattle.whole.proofs.Bound.{Bounded, done, ◌▸◌, bounds, fits, kept, read_back}
use Rattle.whole.proofs.Linear.{linear, plus_parts}
use Rattle.whole.proofs.Wholes.{readℤ, read_pos, ringℤ}
use Rattle.poly.specs.Terms.{twice}
use Rattle.poly.proofs.Wholes.{twice-whole_some}
use Rattle.root.specs.declared.NoCoefficient.{NoCoefficient}
use Rattle.root.specs.declared.Octic.{Octic}
use Rattle.root.specs.declared.Quartic.{Quartic}
use Rattle.root.specs.Search.{Each, UpperRoot}
use Rattle.root.specs.Promise.{octic, quartic, Sized, Small, root_size}
use Rattle.root.specs.Steps.{IsCoefficient}
use Rattle.root.proofs.Downward.{CoefficientOr, coefficient_or, rest, Step, Begun, begun_none, begun_more, search_ends, search_finds}
use Rattle.root.proofs.candidate_of.Goals as goal

-- what the machine reads of a number
abbrev rd : ℤ → ℤ
rd z = to_z w64 (of_z w64 z)

module _ (m : Octic) (s : ℤ) (o : Each wholes Sized (octic m) × Small s × (s ≢ pos 0) × (s *ℤ s ≡ m.m8)) where
  t-is : rd (rd s +ℤ rd s) ≡ twice wholes s
  t-is = bounds (o.1 ▸ done) (λ ρ e k. simp (e 0, readℤ, kept k))

  divisible : (n : ℤ) → Divisible n (rd (rd s +ℤ rd s))
  divisible n = rw t-is (record { nonzero = twice-whole_some s o.2; not_least = λ _ f. omega (linear, plus_parts s s) })

  -- what is left of an answer whose cause is passed over
  heard : (r : Result ℤ NoCoefficient) (q : Option ℤ) (n : ℤ) → IsCoefficient n (rd (rd s +ℤ rd s)) r → q ≡ result_ok r → CoefficientOr n (rd (rd s +ℤ rd s)) q
  heard r q n h e = subst (CoefficientOr n (rd (rd s +ℤ rd s))) (sym e) (coefficient_or n (rd (rd s +ℤ rd s)) (divisible (pos 0)).nonzero r h)

  -- what the answer for the k-th coefficient says
  step : (q : List ℤ) (k : ℕ) (r : Option ℤ) {n : ℤ} → n ≡ at wholes (octic m) (k + 4) -ℤ rest q k → CoefficientOr n (rd (rd s +ℤ rd s)) r
      → Step (octic m) s q k r
  step q k r e h = subst₂ (λ n t. CoefficientOr n t r) e t-is h

  told₃ : (r : Option ℤ) → CoefficientOr (rd m.m7) (rd (rd s +ℤ rd s)) r → Step (octic m) s [] 3 r
  told₃ r = step [] 3 r (read_back tt (o.0 7) ∙ sym (+ℤ_idr _))

  -- ---- with the coefficient at the third power
  module _ (q₃ : ℤ) (h₃ : CoefficientOr (rd m.m7) (rd (rd s +ℤ rd s)) (Some q₃)) where
    f₃ : Step (octic m) s [] 3 (Some q₃)
    f₃ = told₃ (Some q₃) h₃

    sizes₃ : Bounded (norm_size ∷ root_size ∷ []) (m.m6 ∷ q₃ ∷ [])
    sizes₃ = o.0 6 ▸ f₃.1 ▸ done

    abbrev known₃ : List ℤ
    known₃ = pos 0 ∷ pos 0 ∷ pos 0 ∷ q₃ ∷ []

    begun₃ : (x₀ x₁ x₂ : ℤ) (p : List ℤ) → Begun (octic m) s (x₀ ∷ x₁ ∷ x₂ ∷ q₃ ∷ p) 3
    begun₃ x₀ x₁ x₂ p = begun_more begun_none f₃

    told₂ : (r : Option ℤ) → CoefficientOr (rd (rd m.m6 -ℤ rd (rd q₃ *ℤ rd q₃))) (rd (rd s +ℤ rd s)) r → Step (octic m) s known₃ 2 r
    told₂ r = step known₃ 2 r (bounds sizes₃ (λ ρ e k. simp (e 0, e 1, readℤ, kept k)))

    -- ---- and that at the second
    module _ (q₂ : ℤ) (h₂ : CoefficientOr (rd (rd m.m6 -ℤ rd (rd q₃ *ℤ rd q₃))) (rd (rd s +ℤ rd s)) (Some q₂)) where
      f₂ : Step (octic m) s known₃ 2 (Some q₂)
      f₂ = told₂ (Some q₂) h₂

      sizes₂ : Bounded (norm_size ∷ root_size ∷ root_size ∷ []) (m.m5 ∷ q₃ ∷ q₂ ∷ [])
      sizes₂ = o.0 5 ▸ f₃.1 ▸ f₂.1 ▸ done

      abbrev known₂ : List ℤ
      known₂ = pos 0 ∷ pos 0 ∷ q₂ ∷ q₃ ∷ []

      begun₂ : (x₀ x₁ : ℤ) (p : List ℤ) → Begun (octic m) s (x₀ ∷ x₁ ∷ q₂ ∷ q₃ ∷ p) 2
      begun₂ x₀ x₁ p = begun_more (begun₃ x₀ x₁ q₂ p) f₂

      told₁ : (r : Option ℤ) → CoefficientOr (rd (rd m.m5 -ℤ rd (pos 2 *ℤ rd (rd q₂ *ℤ rd q₃)))) (rd (rd s +ℤ rd s)) r → Step (octic m) s known₂ 1 r
      told₁ r = step known₂ 1 r (bounds sizes₂ (λ ρ e k. simp (e 0, e 1, e 2, readℤ, read_pos ρ 2, kept k) (ringℤ ρ _ _ tt)))

      -- ---- and that at the first
      module _ (q₁ : ℤ) (h₁ : CoefficientOr (rd (rd m.m5 -ℤ rd (pos 2 *ℤ rd (rd q₂ *ℤ rd q₃)))) (rd (rd s +ℤ rd s)) (Some q₁)) where
        f₁ : Step (octic m) s known₂ 1 (Some q₁)
        f₁ = told₁ (Some q₁) h₁

        sizes₁ : Bounded (norm_size ∷ root_size ∷ root_size ∷ root_size ∷ []) (m.m4 ∷ q₃ ∷ q₂ ∷ q₁ ∷ [])
        sizes₁ = o.0 4 ▸ f₃.1 ▸ f₂.1 ▸ f₁.1 ▸ done

        abbrev known₁ : List ℤ
        known₁ = pos 0 ∷ q₁ ∷ q₂ ∷ q₃ ∷ []

        begun₁ : (x₀ : ℤ) (p : List ℤ) → Begun (octic m) s (x₀ ∷ q₁ ∷ q₂ ∷ q₃ ∷ p) 1
        begun₁ x₀ p = begun_more (begun₂ x₀ q₁ p) f₁

        told₀ : (r : Option ℤ) → CoefficientOr (rd (rd m.m4 -ℤ rd (rd (pos 2 *ℤ rd (rd q₁ *ℤ rd q₃)) +ℤ rd (rd q₂ *ℤ rd q₂)))) (rd (rd s +ℤ rd s)) r
            → Step (octic m) s known₁ 0 r
        told₀ r = step known₁ 0 r (bounds sizes₁ (λ ρ e k. simp (e 0, e 1, e 2, e 3, readℤ, read_pos ρ 2, kept k) (ringℤ ρ _ _ tt)))

pub returns-in_err-q3 : goal.returns-in_err-q3
returns-in_err-q3 c =
    rw c.from_residual.ensures (search_ends (octic c.args.m) c.args.s c.requires.2 [] 3 (lit< tt) begun_none (told₃ c.args.m c.args.s c.requires None (heard _ _ c.requires _ _ _ c.coefficient_of.ensures c.in_err-q3.ensures.value)))

pub overflow_mul-q3 : goal.overflow_mul-q3
overflow_mul-q3 c = bounds (sizes₃ _ _ c.requires _ (heard _ _ c.requires _ _ _ c.coefficient_of.ensures c.in_ok-q3.ensures.value)) (λ ρ e k. simp (e 1, readℤ, kept k) (fits k _ refl))

pub overflow_sub-m : goal.overflow_sub-m
overflow_sub-m c = bounds (sizes₃ _ _ c.requires _ (heard _ _ c.requires _ _ _ c.coefficient_of.ensures c.in_ok-q3.ensures.value)) (λ ρ e k. simp (e 0, e 1, readℤ, kept k) (fits k _ refl))

pub coefficient_of-requires-2 : goal.coefficient_of-requires-2
coefficient_of-requires-2 c = divisible c.args.m c.args.s c.requires _

pub returns-in_err-q2 : goal.returns-in_err-q2
returns-in_err-q2 c =
    rw c.from_residual-in_err-q2.ensures
    (search_ends (octic c.args.m) c.args.s c.requires.2 (known₃ _ _ c.requires _ (heard _ _ c.requires _ _ _ c.coefficient_of.ensures c.in_ok-q3.ensures.value)) 2 (lit< tt)
    (begun₃ _ _ c.requires _ (heard _ _ c.requires _ _ _ c.coefficient_of.ensures c.in_ok-q3.ensures.value) (pos 0) (pos 0) (pos 0) [])
    (told₂ _ _ c.requires _ (heard _ _ c.requires _ _ _ c.coefficient_of.ensures c.in_ok-q3.ensures.value) None (heard _ _ c.requires _ _ _ c.coefficient_of-2.ensures c.in_err-q2.ensures.value)))

pub overflow_mul-q2 : goal.overflow_mul-q2
overflow_mul-q2 c = bounds (sizes₂ _ _ c.requires _ (heard _ _ c.requires _ _ _ c.coefficient_of.ensures c.in_ok-q3.ensures.value) _ (heard _ _ c.requires _ _ _ c.coefficient_of-2.ensures c.in_ok-q2.ensures.value)) (λ ρ e k. simp (e 1, e 2, readℤ, kept k) (fits k _ refl))

pub overflow_mul-q2-2 : goal.overflow_mul-q2-2
overflow_mul-q2-2 c = bounds (sizes₂ _ _ c.requires _ (heard _ _ c.requires _ _ _ c.coefficient_of.ensures c.in_ok-q3.ensures.value) _ (heard _ _ c.requires _ _ _ c.coefficient_of-2.ensures c.in_ok-q2.ensures.value)) (λ ρ e k. simp (e 1, e 2, readℤ, read_pos ρ 2, kept k) (fits k _ refl))

pub overflow_sub-m-2 : goal.overflow_sub-m-2
overflow_sub-m-2 c = bounds (sizes₂ _ _ c.requires _ (heard _ _ c.requires _ _ _ c.coefficient_of.ensures c.in_ok-q3.ensures.value) _ (heard _ _ c.requires _ _ _ c.coefficient_of-2.ensures c.in_ok-q2.ensures.value)) (λ ρ e k. simp (e 0, e 1, e 2, readℤ, read_pos ρ 2, kept k) (fits k _ refl))

pub coefficient_of-requires-3 : goal.coefficient_of-requires-3
coefficient_of-requires-3 c = divisible c.args.m c.args.s c.requires _

pub returns-in_err-q1 : goal.returns-in_err-q1
returns-in_err-q1 c =
    rw c.from_residual-in_err-q1.ensures
    (search_ends (octic c.args.m) c.args.s c.requires.2 (known₂ _ _ c.requires _ (heard _ _ c.requires _ _ _ c.coefficient_of.ensures c.in_ok-q3.ensures.value) _ (heard _ _ c.requires _ _ _ c.coefficient_of-2.ensures c.in_ok-q2.ensures.value)) 1 (lit< tt)
    (begun₂ _ _ c.requires _ (heard _ _ c.requires _ _ _ c.coefficient_of.ensures c.in_ok-q3.ensures.value) _ (heard _ _ c.requires _ _ _ c.coefficient_of-2.ensures c.in_ok-q2.ensures.value) (pos 0) (pos 0) [])
    (told₁ _ _ c.requires _ (heard _ _ c.requires _ _ _ c.coefficient_of.ensures c.in_ok-q3.ensures.value) _ (heard _ _ c.requires _ _ _ c.coefficient_of-2.ensures c.in_ok-q2.ensures.value) None (heard _ _ c.requires _ _ _ c.coefficient_of-3.ensures c.in_err-q1.ensures.value)))

pub overflow_mul-q1 : goal.overflow_mul-q1
overflow_mul-q1 c = bounds (sizes₁ _ _ c.requires _ (heard _ _ c.requires _ _ _ c.coefficient_of.ensures c.in_ok-q3.ensures.value) _ (heard _ _ c.requires _ _ _ c.coefficient_of-2.ensures c.in_ok-q2.ensures.value) _ (heard _ _ c.requires _ _ _ c.coefficient_of-3.ensures c.in_ok-q1.ensures.value)) (λ ρ e k. simp (e 1, e 3, readℤ, kept k) (fits k _ refl))

pub overflow_mul-q1-2 : goal.overflow_mul-q1-2
overflow_mul-q1-2 c = bounds (sizes₁ _ _ c.requires _ (heard _ _ c.requires _ _ _ c.coefficient_of.ensures c.in_ok-q3.ensures.value) _ (heard _ _ c.requires _ _ _ c.coefficient_of-2.ensures c.in_ok-q2.ensures.value) _ (heard _ _ c.requires _ _ _ c.coefficient_of-3.ensures c.in_ok-q1.ensures.value)) (λ ρ e k. simp (e 1, e 3, readℤ, read_pos ρ 2, kept k) (fits k _ refl))

pub overflow_mul-q2-3 : goal.overflow_mul-q2-3
overflow_mul-q2-3 c = bounds (sizes₁ _ _ c.requires _ (heard _ _ c.requires _ _ _ c.coefficient_of.ensures c.in_ok-q3.ensures.value) _ (heard _ _ c.requires _ _ _ c.coefficient_of-2.ensures c.in_ok-q2.ensures.value) _ (heard _ _ c.requires _ _ _ c.coefficient_of-3.ensures c.in_ok-q1.ensures.value)) (λ ρ e k. simp (e 2, readℤ, kept k) (fits k _ refl))

pub overflow_add-q1 : goal.overflow_add-q1
overflow_add-q1 c = bounds (sizes₁ _ _ c.requires _ (heard _ _ c.requires _ _ _ c.coefficient_of.ensures c.in_ok-q3.ensures.value) _ (heard _ _ c.requires _ _ _ c.coefficient_of-2.ensures c.in_ok-q2.ensures.value) _ (heard _ _ c.requires _ _ _ c.coefficient_of-3.ensures c.in_ok-q1.ensures.value)) (λ ρ e k. simp (e 1, e 2, e 3, readℤ, read_pos ρ 2, kept k) (fits k _ refl))

pub overflow_sub-m-3 : goal.overflow_sub-m-3
overflow_sub-m-3 c = bounds (sizes₁ _ _ c.requires _ (heard _ _ c.requires _ _ _ c.coefficient_of.ensures c.in_ok-q3.ensures.value) _ (heard _ _ c.requires _ _ _ c.coefficient_of-2.ensures c.in_ok-q2.ensures.value) _ (heard _ _ c.requires _ _ _ c.coefficient_of-3.ensures c.in_ok-q1.ensures.value)) (λ ρ e k. simp (e 0, e 1, e 2, e 3, readℤ, read_pos ρ 2, kept k) (fits k _ refl))

pub coefficient_of-requires-4 : goal.coefficient_of-requires-4
coefficient_of-requires-4 c = divisible c.args.m c.args.s c.requires _

pub returns-in_err-q0 : goal.returns-in_err-q0
returns-in_err-q0 c =
    rw c.from_residual-in_err-q0.ensures
    (search_ends (octic c.args.m) c.args.s c.requires.2 (known₁ _ _ c.requires _ (heard _ _ c.requires _ _ _ c.coefficient_of.ensures c.in_ok-q3.ensures.value) _ (heard _ _ c.requires _ _ _ c.coefficient_of-2.ensures c.in_ok-q2.ensures.value) _ (heard _ _ c.requires _ _ _ c.coefficient_of-3.ensures c.in_ok-q1.ensures.value)) 0 (lit< tt)
    (begun₁ _ _ c.requires _ (heard _ _ c.requires _ _ _ c.coefficient_of.ensures c.in_ok-q3.ensures.value) _ (heard _ _ c.requires _ _ _ c.coefficient_of-2.ensures c.in_ok-q2.ensures.value) _ (heard _ _ c.requires _ _ _ c.coefficient_of-3.ensures c.in_ok-q1.ensures.value) (pos 0) [])
    (told₀ _ _ c.requires _ (heard _ _ c.requires _ _ _ c.coefficient_of.ensures c.in_ok-q3.ensures.value) _ (heard _ _ c.requires _ _ _ c.coefficient_of-2.ensures c.in_ok-q2.ensures.value) _ (heard _ _ c.requires _ _ _ c.coefficient_of-3.ensures c.in_ok-q1.ensures.value) None (heard _ _ c.requires _ _ _ c.coefficient_of-4.ensures c.in_err-q0.ensures.value)))

pub returns : goal.returns
returns c =
    let q : Quartic = record { q0 = c.in_ok-q0.q0; q1 = c.in_ok-q1.q1; q2 = c.in_ok-q2.q2; q3 = c.in_ok-q3.q3; q4 = c.args.s } in
    let u = search_finds c.args.m q c.requires.3 c.requires.1
    (begun_more (begun₁ _ _ c.requires _ (heard _ _ c.requires _ _ _ c.coefficient_of.ensures c.in_ok-q3.ensures.value) _ (heard _ _ c.requires _ _ _ c.coefficient_of-2.ensures c.in_ok-q2.ensures.value) _ (heard _ _ c.requires _ _ _ c.coefficient_of-3.ensures c.in_ok-q1.ensures.value) q.q0 (c.args.s ∷ []))
    (told₀ _ _ c.requires _ (heard _ _ c.requires _ _ _ c.coefficient_of.ensures c.in_ok-q3.ensures.value) _ (heard _ _ c.requires _ _ _ c.coefficient_of-2.ensures c.in_ok-q2.ensures.value) _ (heard _ _ c.requires _ _ _ c.coefficient_of-3.ensures c.in_ok-q1.ensures.value) (Some q.q0) (heard _ _ c.requires _ _ _ c.coefficient_of-4.ensures c.in_ok-q0.ensures.value))) in
    let small = u.small in
    subst (λ (q : Quartic). UpperRoot wholes Small (octic c.args.m) 4 c.args.s (quartic q))
    (bounds (small 0 ▸ small 1 ▸ small 2 ▸ small 3 ▸ small 4 ▸ done) (λ ρ e k. simp (e 0, e 1, e 2, e 3, e 4, kept k)))
    u

-- The count of the changes of sign, from a = f(0), c = f(1), b = 2 f(0) + f'(0) and the discriminant b² − 4 a c.
--   count_apart      a c < 0: one
--   count_level      a c ≥ 0 and b (a + c) ≥ 0: none
--   count_edge       a c = 0 and b (a + c) < 0: one
--   count_deep       a c > 0, b (a + c) < 0 and b² > 4 a c: two
--   count-flat       a c > 0 and b² ≤ 4 a c: none
use mathlib.Core.Path.{◌≡◌, refl, ap}
use mathlib.Core.List.{[], ◌∷◌}
use mathlib.Core.Logic.{◌⊎◌, inl, inr, ⊎_map}
use Prim.Native.Nat.{ℕ, ◌<◌}
use native.Mathlib.Nat.{le_refl}
use native.Mathlib.Omega.{arith}
use lib.IntN.{ℤ, pos, ◌+ℤ◌, ◌-ℤ◌, ◌*ℤ◌, +ℤ_comm, *ℤ_comm, *ℤ-zero, zero-*ℤ}
use lib.Signed.{◌≤ℤ◌, ◌<ℤ◌}
use Rattle.whole.proofs.Integers.{*ℤ-domain, *ℤ-plus}
use Rattle.whole.proofs.Wholes.{atomsℤ, readℤ, ringℤ}
use Rattle.whole.proofs.Linear.{linear, plus_parts, minus_parts}
use Rattle.whole.proofs.Order.{nonneg_times, nonneg_square, compare}
use Rattle.whole.proofs.Signs.{Like, Unlike, mixed_times, unlike_flip, like_unlike, unlike_unlike}
use Rattle.measure.specs.declared.Turning.{Turning}
use Rattle.measure.specs.Turns.{CountIs}
use Rattle.measure.proofs.Blends.{level_like, flat_like}
use Rattle.measure.proofs.Most.{start_of, middle_of, end_of, blend_of, at_place, at-most-0, at-most-1, at-most-2}
use Rattle.measure.proofs.Seen.{Far, enough, enough-far, near, near-zero, near-end, near-end-zero, seen_none, seen_once, seen_twice}

spread : (a b c : ℤ) → b *ℤ (a +ℤ c) ≡ a *ℤ b +ℤ b *ℤ c
spread a b c = atomsℤ (a ∷ b ∷ c ∷ []) (λ ρ e. simp (e 0, e 1, e 2, readℤ) (ringℤ ρ _ _ tt))

folded : (a b c : ℤ) → a *ℤ b *ℤ (b *ℤ c) ≡ b *ℤ b *ℤ (a *ℤ c)
folded a b c = atomsℤ (a ∷ b ∷ c ∷ []) (λ ρ e. simp (e 0, e 1, e 2, readℤ) (ringℤ ρ _ _ tt))

-- of two numbers with a sum and a product that are not negative, neither is
not_negative : (u v : ℤ) → pos 0 ≤ℤ (u +ℤ v) → pos 0 ≤ℤ (u *ℤ v) → pos 0 ≤ℤ u
not_negative u v h k = by (compare (pos 0) u)
  where
    by : (pos 0 ≤ℤ u) ⊎ (u <ℤ pos 0) → pos 0 ≤ℤ u
    by (inl l) = l
    by (inr l) =
        let v_above : pos 0 <ℤ v = omega (linear, plus_parts u v) in
        let below = mixed_times v_above l in
        absurd (omega (linear, *ℤ_comm u v))

module _ (x : Turning) where
  abbrev a : ℤ
  a = start_of x

  abbrev b : ℤ
  b = middle_of x

  abbrev c : ℤ
  c = end_of x

  -- ---- none
  none : ((s p q : ℕ) → p < q → q < s → Unlike (at_place x s p) (at_place x s q) → ⊥) → CountIs x 0
  none never = record { reached = ⊎_map (λ s. (s, refl)) (λ s. s) (seen_none x); most = at-most-0 x never }

  pub count_level : pos 0 ≤ℤ (a *ℤ c) → pos 0 ≤ℤ (b *ℤ (a +ℤ c)) → CountIs x 0
  count_level h k =
      let sum = rw (spread a b c) at k in
      let product : pos 0 ≤ℤ (a *ℤ b *ℤ (b *ℤ c)) = rw (folded a b c) (nonneg_times (nonneg_square b) h) in
      let ab = not_negative (a *ℤ b) (b *ℤ c) sum product in
      let bc = not_negative (b *ℤ c) (a *ℤ b) (rw (+ℤ_comm (b *ℤ c) (a *ℤ b)) sum) (rw (*ℤ_comm (b *ℤ c) (a *ℤ b)) product) in
      none (λ s p q l m u.
      let n =
      level_like a b c (pos s -ℤ pos p) (pos p) (pos s -ℤ pos q) (pos q)
      (omega (linear, minus_parts (pos s) (pos p))) (omega linear) (omega (linear, minus_parts (pos s) (pos q))) (omega linear) ab h bc in
      omega linear)

  pub count-flat : pos 0 <ℤ (a *ℤ c) → (b *ℤ b) ≤ℤ (a *ℤ c *ℤ pos 4) → CountIs x 0
  count-flat h d = none (λ s p q l m u. flat_like a b c (pos s -ℤ pos p) (pos p) (pos s -ℤ pos q) (pos q) h d u)

  -- ---- one: beside the start the value has the sign of p, and beside the end that of q
  one : (p q : ℤ) → Like p (blend_of x (pos (enough a b c)) (pos 1)) → Like q (blend_of x (pos 1) (pos (enough a b c))) → Unlike p q → (a *ℤ c) ≤ℤ pos 0 → CountIs x 1
  one p q h k u l = record { reached = inr (seen_once x (enough a b c) p q (omega arith) h k u); most = at-most-1 x (λ m. omega linear) }

  abbrev far : Far a b c (enough a b c)
  far = enough-far a b c (le_refl (enough a b c))

  pub count_apart : (a *ℤ c) <ℤ pos 0 → CountIs x 1
  count_apart h =
      one a c (near a b c (enough a b c) far (unlike_unlike a c a h (unlike_flip a c h))) (near-end a b c (enough a b c) far (unlike_unlike c a c (unlike_flip a c h) h)) h (omega linear)

  pub count_edge : a *ℤ c ≡ pos 0 → (b *ℤ (a +ℤ c)) <ℤ pos 0 → CountIs x 1
  count_edge z h = by (*ℤ-domain a c z)
    where
      by : (a ≡ pos 0) ⊎ (c ≡ pos 0) → CountIs x 1
      by (inl e) =
          let u : Unlike b c = omega (linear, spread a b c, plus_parts (a *ℤ b) (b *ℤ c), ap (λ y. y *ℤ b) e, zero-*ℤ b) in
          one b c (near-zero a b c (enough a b c) far e (unlike_unlike b c b u (unlike_flip b c u)))
          (near-end a b c (enough a b c) far (unlike_unlike c b c (unlike_flip b c u) u)) u (omega linear)
      by (inr e) =
          let u : Unlike a b = omega (linear, spread a b c, plus_parts (a *ℤ b) (b *ℤ c), ap (λ y. b *ℤ y) e, *ℤ-zero b) in
          one a b (near a b c (enough a b c) far (unlike_unlike a b a u (unlike_flip a b u)))
          (near-end-zero a b c (enough a b c) far e (unlike_unlike b a b (unlike_flip a b u) u)) u (omega linear)

  -- ---- two
  pub count_deep : pos 0 <ℤ (a *ℤ c) → (b *ℤ (a +ℤ c)) <ℤ pos 0 → (a *ℤ c *ℤ pos 4) <ℤ (b *ℤ b) → CountIs x 2
  count_deep h k d = record { reached = inr (seen_twice x h u d); most = at-most-2 x }
    where
      total : Like a (a +ℤ c)
      total = omega (linear, *ℤ-plus a a c, plus_parts (a *ℤ a) (a *ℤ c), nonneg_square a)

      u : Unlike a b
      u = like_unlike a (a +ℤ c) b total (unlike_flip b (a +ℤ c) k)

-- A quadratic by its values at the ends: a v² + b v e + c e², where v and e are the distances of a place from the end and from the start.
--   blend, blend_flip         the value, up to a positive factor; seen from the other end
--   along                     the same along 0 .. s, at e
--   start_like, ends_like     where three values alternate, a has the sign of the first, and c too
--   level_like, flat_like     where no two values have opposite signs: no two of a, b, c have; or b² ≤ 4 a c
use mathlib.Core.Path.{◌≡◌, sym, subst, subst₂}
use mathlib.Core.List.{[], ◌∷◌}
use lib.IntN.{ℤ, pos, neg_ℤ, ◌+ℤ◌, ◌-ℤ◌, ◌*ℤ◌}
use lib.Signed.{◌≤ℤ◌, ◌<ℤ◌}
use Rattle.whole.proofs.Wholes.{atomsℤ, readℤ, read_pos, ringℤ}
use Rattle.whole.proofs.Linear.{linear, plus_parts, minus_parts, times_parts, negative_parts}
use Rattle.whole.proofs.Order.{le_by, nonneg_plus, nonneg_times, nonneg_square, positive_times}
use Rattle.whole.proofs.Signs.{Like, Unlike, mixed_times, positive_cancel, like_flip, like_like, unlike_flip, unlike_unlike}

abbrev pub blend : ℤ → ℤ → ℤ → ℤ → ℤ → ℤ
blend a b c v e = a *ℤ (v *ℤ v) +ℤ b *ℤ (v *ℤ e) +ℤ c *ℤ (e *ℤ e)

pub blend_flip : (a b c v e : ℤ) → blend a b c v e ≡ blend c b a e v
blend_flip a b c v e = atomsℤ (a ∷ b ∷ c ∷ v ∷ e ∷ []) (λ ρ r. simp (r 0, r 1, r 2, r 3, r 4, readℤ) (ringℤ ρ _ _ tt))

-- the value at e of 0 .. s
abbrev pub along : ℤ → ℤ → ℤ → ℤ → ℤ → ℤ
along a b c s e = blend a b c (s -ℤ e) e

along_flip : (a b c s e : ℤ) → along c b a s (s -ℤ e) ≡ along a b c s e
along_flip a b c s e = atomsℤ (a ∷ b ∷ c ∷ s ∷ e ∷ []) (λ ρ r. simp (r 0, r 1, r 2, r 3, r 4, readℤ) (ringℤ ρ _ _ tt))

weak : {z : ℤ} → pos 0 <ℤ z → pos 0 ≤ℤ z
weak h = omega linear

gap : {a b : ℤ} → a <ℤ b → pos 0 <ℤ (b -ℤ a)
gap {a} {b} h = omega (linear, minus_parts b a)

-- ---- three values that alternate
-- a mean of them, with weights x, y and z, has the sign of the first
mean : (f1 f2 f3 : ℤ) {k s x y z : ℤ} → Unlike f1 f2 → Unlike f2 f3 → pos 0 ≤ℤ k → pos 0 ≤ℤ x → pos 0 <ℤ y → pos 0 ≤ℤ z
    → k *ℤ s ≡ f1 *ℤ f1 *ℤ x +ℤ (neg_ℤ (f1 *ℤ f2) *ℤ y +ℤ f1 *ℤ f3 *ℤ z) → pos 0 <ℤ s
mean f1 f2 f3 {k} {s} {x} {y} {z} h l kk xx yy zz is =
    let negative : pos 0 <ℤ neg_ℤ (f1 *ℤ f2) = omega (linear, negative_parts (f1 *ℤ f2)) in
    let first = nonneg_times (nonneg_square f1) xx in
    let second = positive_times negative yy in
    let third = nonneg_times (weak (unlike_unlike f1 f2 f3 h l)) zz in
    positive_cancel kk (omega (
      linear,
      plus_parts (f1 *ℤ f1 *ℤ x) (neg_ℤ (f1 *ℤ f2) *ℤ y +ℤ f1 *ℤ f3 *ℤ z),
      plus_parts (neg_ℤ (f1 *ℤ f2) *ℤ y) (f1 *ℤ f3 *ℤ z),
    ))

-- the mean is Lagrange's: the value at 0 is a s²
pub start_like : (a b c s p q r : ℤ) → pos 0 <ℤ p → p <ℤ q → q <ℤ r → r <ℤ s
    → Unlike (along a b c s p) (along a b c s q) → Unlike (along a b c s q) (along a b c s r) → Like a (along a b c s p)
start_like a b c s p q r hp hq hr hs u w =
    let q_above : pos 0 <ℤ q = omega linear in
    let r_above : pos 0 <ℤ r = omega linear in
    let both : p <ℤ r = omega linear in
    mean (along a b c s p) (along a b c s q) (along a b c s r) u w
    (nonneg_times (weak (positive_times (positive_times (gap hq) (gap hr)) (gap both))) (nonneg_square s))
    (weak (positive_times (positive_times q_above r_above) (gap hr)))
    (positive_times (positive_times hp r_above) (gap both))
    (weak (positive_times (positive_times hp q_above) (gap hq)))
    (atomsℤ (a ∷ b ∷ c ∷ s ∷ p ∷ q ∷ r ∷ []) (λ ρ x. simp (x 0, x 1, x 2, x 3, x 4, x 5, x 6, readℤ) (ringℤ ρ _ _ tt)))

-- seen from the other end: c has the sign of the last
end_like : (a b c s p q r : ℤ) → pos 0 <ℤ p → p <ℤ q → q <ℤ r → r <ℤ s
    → Unlike (along a b c s p) (along a b c s q) → Unlike (along a b c s q) (along a b c s r) → Like c (along a b c s r)
end_like a b c s p q r hp hq hr hs u w =
    subst (Like c) (along_flip a b c s r)
    (start_like c b a s (s -ℤ r) (s -ℤ q) (s -ℤ p) (gap hs) (back hr) (back hq) (omega (linear, minus_parts s p)) (turned q r w) (turned p q u))
  where
    back : {d e : ℤ} → d <ℤ e → (s -ℤ e) <ℤ (s -ℤ d)
    back {d} {e} h = omega (linear, minus_parts s d, minus_parts s e)

    turned : (d e : ℤ) → Unlike (along a b c s d) (along a b c s e) → Unlike (along c b a s (s -ℤ e)) (along c b a s (s -ℤ d))
    turned d e h =
        unlike_flip (along c b a s (s -ℤ d)) (along c b a s (s -ℤ e)) (subst₂ Unlike (sym (along_flip a b c s d)) (sym (along_flip a b c s e)) h)

pub ends_like : (a b c s p q r : ℤ) → pos 0 <ℤ p → p <ℤ q → q <ℤ r → r <ℤ s
    → Unlike (along a b c s p) (along a b c s q) → Unlike (along a b c s q) (along a b c s r) → Like a c
ends_like a b c s p q r hp hq hr hs u w =
    let f = along a b c s p in
    let g = along a b c s r in
    like_like a g c (like_like a f g (start_like a b c s p q r hp hq hr hs u w) (unlike_unlike f (along a b c s q) g u w))
    (like_flip c g (end_like a b c s p q r hp hq hr hs u w))

-- ---- two values that cannot have opposite signs
pub level_like : (a b c v1 e1 v2 e2 : ℤ) → pos 0 ≤ℤ v1 → pos 0 ≤ℤ e1 → pos 0 ≤ℤ v2 → pos 0 ≤ℤ e2
    → pos 0 ≤ℤ (a *ℤ b) → pos 0 ≤ℤ (a *ℤ c) → pos 0 ≤ℤ (b *ℤ c) → pos 0 ≤ℤ (blend a b c v1 e1 *ℤ blend a b c v2 e2)
level_like a b c v1 e1 v2 e2 hv1 he1 hv2 he2 ab ac bc =
    let vv = nonneg_times hv1 hv2 in
    let ve = nonneg_times hv1 he2 in
    let ev = nonneg_times he1 hv2 in
    let ee = nonneg_times he1 he2 in
    let across = nonneg_plus ve ev in
    le_by
    (nonneg_plus
    (nonneg_plus (nonneg_plus (nonneg_square (a *ℤ (v1 *ℤ v2))) (nonneg_times (nonneg_square b) (nonneg_times vv ee))) (nonneg_square (c *ℤ (e1 *ℤ e2))))
    (nonneg_plus (nonneg_plus (nonneg_times ab (nonneg_times vv across)) (nonneg_times ac (nonneg_plus (nonneg_times ve ve) (nonneg_times ev ev)))) (nonneg_times bc (nonneg_times ee across))))
    (atomsℤ (a ∷ b ∷ c ∷ v1 ∷ e1 ∷ v2 ∷ e2 ∷ []) (λ ρ r. simp (r 0, r 1, r 2, r 3, r 4, r 5, r 6, readℤ, read_pos ρ) (ringℤ ρ _ _ tt)))

-- 4 a times the value is a sum of squares
squares : (a b c v e : ℤ) → (b *ℤ b) ≤ℤ (a *ℤ c *ℤ pos 4) → pos 0 ≤ℤ (a *ℤ pos 4 *ℤ blend a b c v e)
squares a b c v e h =
    let rest : pos 0 ≤ℤ (a *ℤ c *ℤ pos 4 -ℤ b *ℤ b) = omega (linear, minus_parts (a *ℤ c *ℤ pos 4) (b *ℤ b)) in
    le_by (nonneg_plus (nonneg_square (a *ℤ v *ℤ pos 2 +ℤ b *ℤ e)) (nonneg_times rest (nonneg_square e)))
    (atomsℤ (a ∷ b ∷ c ∷ v ∷ e ∷ []) (λ ρ r. simp (r 0, r 1, r 2, r 3, r 4, readℤ, read_pos ρ) (ringℤ ρ _ _ tt)))

pub flat_like : (a b c v1 e1 v2 e2 : ℤ) → Like a c → (b *ℤ b) ≤ℤ (a *ℤ c *ℤ pos 4) → Unlike (blend a b c v1 e1) (blend a b c v2 e2) → ⊥
flat_like a b c v1 e1 v2 e2 h d u =
    let f1 = blend a b c v1 e1 in
    let f2 = blend a b c v2 e2 in
    let below : (a *ℤ a *ℤ (f1 *ℤ f2)) <ℤ pos 0 = mixed_times (like_like a c a h (like_flip a c h)) u in
    let above = nonneg_times (squares a b c v1 e1 d) (squares a b c v2 e2 d) in
    omega (linear, gathered f1 f2, times_parts (a *ℤ a *ℤ (f1 *ℤ f2)) (pos 16))
  where
    gathered : (f1 f2 : ℤ) → a *ℤ pos 4 *ℤ f1 *ℤ (a *ℤ pos 4 *ℤ f2) ≡ a *ℤ a *ℤ (f1 *ℤ f2) *ℤ pos 16
    gathered f1 f2 = atomsℤ (a ∷ f1 ∷ f2 ∷ []) (λ ρ r. simp (r 0, r 1, r 2, readℤ, read_pos ρ) (ringℤ ρ _ _ tt))

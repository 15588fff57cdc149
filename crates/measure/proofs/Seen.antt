-- Fractions at which a turning polynomial shows its changes of sign: beside the ends, and one between.
--   Far, enough-far              a number so large that one step from an end is close enough
--   near, near-zero              one step from the start the value has the sign of a; where a is 0, that of b
--   near-end, near-end-zero      one step from the end that of c; where c is 0, that of b
--   seen_none                    a value that is not 0, or none
--   seen_once, seen_twice        one change; two
use mathlib.Core.Path.{◌≡◌, refl, sym, ap₂, ◌∙◌, subst}
use mathlib.Core.List.{[], ◌∷◌}
use mathlib.Core.Logic.{◌⊎◌, inl, inr}
use Prim.Native.Nat.{ℕ, ◌+◌, ◌*◌, ◌-◌, ◌≤◌, ◌<◌}
use native.Mathlib.Nat.{le-mul_of_pos_right}
use native.Mathlib.Omega.{arith}
use lib.IntN.{ℤ, pos, neg_ℤ, nat_abs, ◌+ℤ◌, ◌-ℤ◌, ◌*ℤ◌, *ℤ_comm}
use lib.Signed.{◌≤ℤ◌, ◌<ℤ◌}
use Rattle.whole.proofs.Wholes.{atomsℤ, readℤ, read_pos, read-negsuc, ringℤ}
use Rattle.whole.proofs.Linear.{linear, up, dn, plus_parts, minus_parts, times_parts, negative_parts, abs_parts}
use Rattle.whole.proofs.Order.{nonneg_times, positive_times, nonneg_square, nonneg_is}
use Rattle.whole.proofs.Signs.{Like, Unlike, like_flip, unlike_flip, like_like, like_unlike, mixed_times, carried, unlike_some}
use Rattle.poly.proofs.Wholes.{whole-zero?}
use Rattle.measure.specs.declared.Turning.{Turning}
use Rattle.measure.specs.Turns.{turn_at, SignChanges, Straight}
use Rattle.measure.proofs.Blends.{blend, blend_flip}
use Rattle.measure.proofs.Most.{start_of, middle_of, end_of, blend_of, turn_is}

-- ---- beside an end
pub record Far (a b c : ℤ) (m : ℕ) : Type 0 where
  pub ab : nat_abs (a *ℤ b) < m
  pub ac : nat_abs (a *ℤ c) < m
  pub bc : nat_abs (b *ℤ c) < m

far_flip : {m : ℕ} (a b c : ℤ) → Far a b c m → Far c b a m
far_flip {m} a b c f = record {
  ab = subst (λ z. nat_abs z < m) (*ℤ_comm b c) f.bc;
  ac = subst (λ z. nat_abs z < m) (*ℤ_comm a c) f.ac;
  bc = subst (λ z. nat_abs z < m) (*ℤ_comm a b) f.ab;
}

abbrev pub enough : ℤ → ℤ → ℤ → ℕ
enough a b c = nat_abs (a *ℤ b) + nat_abs (a *ℤ c) + nat_abs (b *ℤ c) + 2

pub enough-far : {m : ℕ} (a b c : ℤ) → enough a b c ≤ m → Far a b c m
enough-far a b c h = record { ab = omega arith; ac = omega arith; bc = omega arith }

-- y has the sign of a: so has y m + c, where m is large
lead : (a y c : ℤ) (m : ℕ) → Like a y → nat_abs (a *ℤ c) < m → Like a (y *ℤ pos m +ℤ c)
lead a y c m h l =
    let rest : pos 0 ≤ℤ ((a *ℤ y -ℤ pos 1) *ℤ pos m) = nonneg_times {s = a *ℤ y -ℤ pos 1} {t = pos m} (omega (linear, minus_parts (a *ℤ y) (pos 1))) (omega linear) in
    omega (
      linear,
      apart (pos m),
      plus_parts ((a *ℤ y -ℤ pos 1) *ℤ pos m) (pos m),
      plus_parts ((a *ℤ y -ℤ pos 1) *ℤ pos m +ℤ pos m) (a *ℤ c),
      abs_parts (a *ℤ c),
    )
  where
    apart : (m : ℤ) → a *ℤ (y *ℤ m +ℤ c) ≡ (a *ℤ y -ℤ pos 1) *ℤ m +ℤ m +ℤ a *ℤ c
    apart m = atomsℤ (a ∷ y ∷ c ∷ m ∷ []) (λ ρ e. simp (e 0, e 1, e 2, e 3, readℤ, read-negsuc ρ) (ringℤ ρ _ _ tt))

pub near : (a b c : ℤ) (m : ℕ) → Far a b c m → Like a a → Like a (blend a b c (pos m) (pos 1))
near a b c m f h = rw (steps (pos m)) (lead a (a *ℤ pos m +ℤ b) c m (lead a a b m h f.ab) f.ac)
  where
    steps : (m : ℤ) → blend a b c m (pos 1) ≡ (a *ℤ m +ℤ b) *ℤ m +ℤ c
    steps m = atomsℤ (a ∷ b ∷ c ∷ m ∷ []) (λ ρ e. simp (e 0, e 1, e 2, e 3, readℤ, read_pos ρ) (ringℤ ρ _ _ tt))

pub near-zero : (a b c : ℤ) (m : ℕ) → Far a b c m → a ≡ pos 0 → Like b b → Like b (blend a b c (pos m) (pos 1))
near-zero a b c m f z h = subst (λ y. Like b (blend y b c (pos m) (pos 1))) (sym z) (rw (steps (pos m)) (lead b b c m h f.bc))
  where
    steps : (m : ℤ) → blend (pos 0) b c m (pos 1) ≡ b *ℤ m +ℤ c
    steps m = atomsℤ (b ∷ c ∷ m ∷ []) (λ ρ e. simp (e 0, e 1, e 2, readℤ, read_pos ρ) (ringℤ ρ _ _ tt))

-- the same from the other end
pub near-end : (a b c : ℤ) (m : ℕ) → Far a b c m → Like c c → Like c (blend a b c (pos 1) (pos m))
near-end a b c m f h = rw (blend_flip a b c (pos 1) (pos m)) (near c b a m (far_flip a b c f) h)

pub near-end-zero : (a b c : ℤ) (m : ℕ) → Far a b c m → c ≡ pos 0 → Like b b → Like b (blend a b c (pos 1) (pos m))
near-end-zero a b c m f z h = rw (blend_flip a b c (pos 1) (pos m)) (near-zero c b a m (far_flip a b c f) z h)

-- ---- between the ends: the value at e : v = 2 a² : − a b has the other sign than a
lowest : (a b c k w z : ℤ) → w ≡ neg_ℤ (a *ℤ b) → z ≡ a *ℤ a → pos 0 <ℤ k → Like a a → (a *ℤ c *ℤ pos 4) <ℤ (b *ℤ b)
    → Unlike a (blend a b c (k *ℤ w) (k *ℤ (z *ℤ pos 2)))
lowest a b c k w z w-is z-is h some d =
    let below : (a *ℤ c *ℤ pos 4 -ℤ b *ℤ b) <ℤ pos 0 = omega (linear, minus_parts (a *ℤ c *ℤ pos 4) (b *ℤ b)) in
    subst (λ y. y <ℤ pos 0)
    (sym (ap₂ (λ s t. a *ℤ blend a b c (k *ℤ s) (k *ℤ (t *ℤ pos 2))) w-is z-is ∙ gathered))
    (mixed_times (positive_times (positive_times h h) (positive_times some some)) below)
  where
    gathered : a *ℤ blend a b c (k *ℤ neg_ℤ (a *ℤ b)) (k *ℤ (a *ℤ a *ℤ pos 2)) ≡ k *ℤ k *ℤ (a *ℤ a *ℤ (a *ℤ a)) *ℤ (a *ℤ c *ℤ pos 4 -ℤ b *ℤ b)
    gathered = atomsℤ (a ∷ b ∷ c ∷ k ∷ []) (λ ρ e. simp (e 0, e 1, e 2, e 3, readℤ, read_pos ρ) (ringℤ ρ _ _ tt))

-- ---- no change: of three values one is not 0, or the polynomial is
zero_parts : (t0 t1 t2 : ℤ) (i j k : ℕ) → t0 *ℤ pos i +ℤ t1 *ℤ pos j +ℤ t2 *ℤ pos k ≡ pos 0
    → up t0 * i + up t1 * j + up t2 * k ≡ dn t0 * i + dn t1 * j + dn t2 * k
zero_parts t0 t1 t2 i j k h = omega (
  linear,
  plus_parts (t0 *ℤ pos i +ℤ t1 *ℤ pos j) (t2 *ℤ pos k),
  plus_parts (t0 *ℤ pos i) (t1 *ℤ pos j),
  times_parts t0 (pos i),
  times_parts t1 (pos j),
  times_parts t2 (pos k),
)

pub seen_none : (x : Turning) → Straight x ⊎ SignChanges x 0
seen_none x =
    seen 1 (omega arith) (omega arith) (λ h. seen 2 (omega arith) (omega arith) (λ k. seen 3 (omega arith) (omega arith) (λ l. inl (straight h k l))))
  where
    straight : turn_at x 4 1 ≡ pos 0 → turn_at x 4 2 ≡ pos 0 → turn_at x 4 3 ≡ pos 0 → Straight x
    straight h k l =
        let a = zero_parts x.t0 x.t1 x.t2 16 4 1 h in
        let b = zero_parts x.t0 x.t1 x.t2 16 8 4 k in
        let c = zero_parts x.t0 x.t1 x.t2 16 12 9 l in
        (omega linear, omega linear, omega linear)

    seen : (e : ℕ) → 0 < e → e < 4 → (turn_at x 4 e ≡ pos 0 → Straight x ⊎ SignChanges x 0) → Straight x ⊎ SignChanges x 0
    seen e h k else = by (whole-zero? (turn_at x 4 e))
      where
        by : Dec (turn_at x 4 e ≡ pos 0) → Straight x ⊎ SignChanges x 0
        by (yes z) = else z
        by (no n) = inr (record { s = 4; es = e ∷ []; inside = (h, k); many = refl; alternate = n })

-- ---- one change: the value beside the start has the sign of p, and that beside the end the sign of q
module _ (x : Turning) where
  pub seen_once : (m : ℕ) (p q : ℤ) → 1 < m → Like p (blend_of x (pos m) (pos 1)) → Like q (blend_of x (pos 1) (pos m)) → Unlike p q → SignChanges x 1
  seen_once m p q l h k u =
      let f = turn_at x (1 + m) 1 in
      let g = turn_at x (1 + m) m in
      let w : Unlike f g =
      carried p q f g (rw (turn_is x (1 + m) m 1 (omega arith)) h) (rw (turn_is x (1 + m) 1 m refl) k) u in
      record { s = 1 + m; es = 1 ∷ m ∷ []; inside = (omega arith, (l, omega arith)); many = refl; alternate = (w, unlike_some f g w) }

  -- ---- two changes: where between the ends the value has the other sign than both
  module _ (l : Like (start_of x) (end_of x)) where
    between : (m v e : ℕ) → 1 < e → e < m → 1 + m ≡ v + e → Far (start_of x) (middle_of x) (end_of x) m → Unlike (start_of x) (blend_of x (pos v) (pos e)) → SignChanges x 2
    between m v e h k s far u =
        let a = start_of x in
        let c = end_of x in
        let f = turn_at x (1 + m) 1 in
        let g = turn_at x (1 + m) e in
        let i = turn_at x (1 + m) m in
        let first : Like a f = rw (turn_is x (1 + m) m 1 (omega arith)) (near a (middle_of x) c m far (like_like a c a l (like_flip a c l))) in
        let other : Unlike a g = rw (turn_is x (1 + m) v e s) u in
        let last : Like c i = rw (turn_is x (1 + m) 1 m refl) (near-end a (middle_of x) c m far (like_like c a c (like_flip a c l) l)) in
        let before : Unlike f g = like_unlike f a g (like_flip a f first) other in
        let after : Unlike g i = unlike_flip i g (like_unlike i a g (like_flip a i (like_like a c i l last)) other) in
        record { s = 1 + m; es = 1 ∷ e ∷ m ∷ []; inside = (omega arith, (h, (k, omega arith))); many = refl; alternate = (before, (after, unlike_some g i after)) }

    -- at e : v = 2 a² : − a b
    pub seen_twice : Unlike (start_of x) (middle_of x) → (start_of x *ℤ end_of x *ℤ pos 4) <ℤ (middle_of x *ℤ middle_of x) → SignChanges x 2
    seen_twice u d =
        let a = start_of x in
        let b = middle_of x in
        let c = end_of x in
        let k = enough a b c in
        let some : Like a a = like_like a c a l (like_flip a c l) in
        let negative : pos 0 <ℤ neg_ℤ (a *ℤ b) = omega (linear, negative_parts (a *ℤ b)) in
        let w = nat_abs (neg_ℤ (a *ℤ b)) in
        let z = nat_abs (a *ℤ a) in
        let kw : k ≤ k * w = le-mul_of_pos_right k (omega (linear, abs_parts (neg_ℤ (a *ℤ b)))) in
        let kz : k ≤ k * z = le-mul_of_pos_right k (omega (linear, abs_parts (a *ℤ a))) in
        let e : k * (z * 2) ≡ k * z + k * z = omega arith in
        between (k * w + k * (z * 2) - 1) (k * w) (k * (z * 2)) (omega arith) (omega arith) (omega arith) (enough-far a b c (omega arith))
        (lowest a b c (pos k) (pos w) (pos z) (sym (nonneg_is (omega linear))) (sym (nonneg_is (nonneg_square a))) (omega linear) some d)

-- How many triples can have P, whether or not they can be found.
--   Distinct ws          no triple stands in the list twice
--   sorted_distinct      so it is of a sorted list
--   AtMost n P           a list of different triples that have P is no longer than n
--   at_most_one          there is one at most where all that have P are equal
--   at-most_as           where P gives Q, there are no more with P than with Q
--   at-most_both         as many as have P and as have Q
--   at-most_by           it is enough to show it with one that has P at hand
use mathlib.Core.Path.{◌≡◌, refl, sym, subst}
use mathlib.Core.List.{List, [], ◌∷◌}
use mathlib.Core.Logic.{◌⊎◌, inl, inr}
use Prim.Native.Nat.{ℕ, ◌+◌, ◌≤◌}
use native.Mathlib.Omega.{arith}
use lib.ListN.{length}
use Rattle.join.specs.Promise.{Triple, Sorted, Member}
use Rattle.join.proofs.Order.{head_apart, tail_sorted}

abbrev pub Distinct : List Triple → Type 0
Distinct [] = Unit {0}
Distinct (u ∷ us) = (Member u us → ⊥) × Distinct us

pub sorted_distinct : (ws : List Triple) → Sorted ws → Distinct ws
sorted_distinct [] s = tt
sorted_distinct (u ∷ us) s = (head_apart u us s, sorted_distinct us (tail_sorted u us s))

abbrev All : (Triple → Type 0) → List Triple → Type 0
All P ws = (w : Triple) → Member w ws → P w

abbrev pub AtMost : ℕ → (Triple → Type 0) → Type 0
AtMost n P = (ws : List Triple) → Distinct ws → All P ws → length ws ≤ n

pub at_most_one : {P : Triple → Type 0} → ((u v : Triple) → P u → P v → u ≡ v) → AtMost 1 P
at_most_one h [] d p = omega arith
at_most_one h (u ∷ []) d p = omega arith
at_most_one h (u ∷ v ∷ ws) d p = absurd (d.0 (inl (h u v (p u (inl refl)) (p v (inr (inl refl))))))

pub at-most_as : {P Q : Triple → Type 0} {n : ℕ} → ((w : Triple) → P w → Q w) → AtMost n Q → AtMost n P
at-most_as f h ws d p = h ws d (λ w m. f w (p w m))

-- ---- a list in two parts
record Part (P : Triple → Type 0) (ws : List Triple) : Type 0 where
  part : List Triple
  inside : (w : Triple) → Member w part → Member w ws
  has : All P part
  distinct : Distinct part

no_part : {P : Triple → Type 0} → Part P []
no_part = record { part = []; inside = λ w m. m; has = λ w m. absurd m; distinct = tt }

without : {P : Triple → Type 0} (u : Triple) (us : List Triple) → Part P us → Part P (u ∷ us)
without u us s = record { part = s.part; inside = λ w m. inr (s.inside w m); has = s.has; distinct = s.distinct }

along : {P : Triple → Type 0} (u : Triple) (us : List Triple) → (Member u us → ⊥) → P u → Part P us → Part P (u ∷ us)
along {P} u us d p s = record { part = u ∷ s.part; inside = inside; has = has; distinct = (λ m. d (s.inside u m), s.distinct) }
  where
    inside : (w : Triple) → Member w (u ∷ s.part) → Member w (u ∷ us)
    inside w (inl e) = inl e
    inside w (inr m) = inr (s.inside w m)

    has : All P (u ∷ s.part)
    has w (inl e) = subst P (sym e) p
    has w (inr m) = s.has w m

record Parted (P Q : Triple → Type 0) (ws : List Triple) : Type 0 where
  left : Part P ws
  right : Part Q ws
  lengths : length left.part + length right.part ≡ length ws

parted_more : {P Q : Triple → Type 0} (u : Triple) (us : List Triple) → (Member u us → ⊥) → P u ⊎ Q u → Parted P Q us → Parted P Q (u ∷ us)
unfolding along without
parted_more u us d (inl p) s = record { left = along u us d p s.left; right = without u us s.right; lengths = omega (arith, s.lengths) }
parted_more u us d (inr q) s = record { left = without u us s.left; right = along u us d q s.right; lengths = omega (arith, s.lengths) }

parted : {P Q : Triple → Type 0} (ws : List Triple) → Distinct ws → All (λ w. P w ⊎ Q w) ws → Parted P Q ws
unfolding no_part
parted [] d h = record { left = no_part; right = no_part; lengths = refl }
parted (u ∷ us) d h = parted_more u us d.0 (h u (inl refl)) (parted us d.1 (λ w m. h w (inr m)))

pub at-most_both : {P Q : Triple → Type 0} {m n : ℕ} → AtMost m P → AtMost n Q → AtMost (m + n) (λ w. P w ⊎ Q w)
at-most_both f g ws d h =
    let s = parted ws d h in
    omega (arith, s.lengths, f s.left.part s.left.distinct s.left.has, g s.right.part s.right.distinct s.right.has)

pub at-most_by : {P : Triple → Type 0} {n : ℕ} → ((u : Triple) → P u → AtMost n P) → AtMost n P
at-most_by h [] d p = omega arith
at-most_by h (u ∷ us) d p = h u (p u (inl refl)) (u ∷ us) d p

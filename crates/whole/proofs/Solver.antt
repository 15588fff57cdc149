-- A solver for equations in any commutative ring, by reflection, and a reader that takes the two sides off the goal.
--   Ex, eval     expressions over numbered variables, and their values at an environment, a list of ring elements
--   solve        two expressions whose difference has a zero normal form have one value; the test is closed, and its proof is `tt`
--   val          `eval`, shut, so that what has been read does not compute back
--   read, read_none, read_lit, read-lit⁻     the reader: rules for `simp`, which reads from the leaves up; a constant does not show the
--                environment, so that is written
--   atoms        forgets what the environment is made of, and keeps an equation for each of its variables
--   ring         `solve` for what has been read
-- The normal form is a polynomial in nested Horner form with coefficients in ℤ. Only soundness is proved: a proof needs no more.
-- Wholes has the reader at ℤ. In a ring R that is a variable:
--   swapped : (a b : A) → C.times a (C.plus b b) ≡ C.times (C.plus b b) a
--   swapped a b = atoms R (a ∷ b ∷ []) (λ ρ e. simp (e 0, e 1, read) (ring R ρ _ _ tt))
use mathlib.Core.Path.{◌≡◌, refl, sym, ap, ap₂, ◌∙◌}
use mathlib.Core.Bool.{Bool, true, false, ◌&&◌}
use mathlib.Core.List.{List, [], ◌∷◌}
use Prim.Native.Nat.{ℕ, zero, suc}
use lib.Dec.{T, eqb, eqb→eq}
use lib.IntN.{ℤ, pos, negsuc, ◌+ℤ◌, ◌*ℤ◌}
use Rattle.whole.specs.Coefficients.{Coefficients}
use Rattle.whole.proofs.Ring.{Ring, none-plus, plus_times, times_none, none-times, minus_one, zero-difference}

-- ---- expressions; `lit n` is the literal n and `lit⁻ n` the literal −(n + 1), as ℤ has them
pub data Ex : Type 0 where
  var lit lit⁻ : ℕ → Ex
  plus times : Ex → Ex → Ex
  minus : Ex → Ex

infixl 60 ◌:+◌ ◌:-◌
infixl 70 ◌:*◌
abbrev pub ◌:+◌ : Ex → Ex → Ex
a :+ b = plus a b

abbrev pub ◌:*◌ : Ex → Ex → Ex
a :* b = times a b

abbrev pub ◌:-◌ : Ex → Ex → Ex
a :- b = plus a (minus b)

-- ---- normal forms: 0, a constant, and `step a p`, which is a + x p, with x the first of the variables that are left and a without it
pub data Horner : Type 0 where
  none : Horner
  const : ℤ → Horner
  step : Horner → Horner → Horner

abbrev add_const : ℤ → Horner → Horner
add_const c none = const c
add_const c (const d) = const (c +ℤ d)
add_const c (step a p) = step (add_const c a) p

abbrev add : Horner → Horner → Horner
add none q = q
add (const c) q = add_const c q
add (step a p) none = step a p
add (step a p) (const c) = step (add_const c a) p
add (step a p) (step b q) = step (add a b) (add p q)

abbrev scale : ℤ → Horner → Horner
scale c none = none
scale c (const d) = const (c *ℤ d)
scale c (step a p) = step (scale c a) (scale c p)

-- x p
abbrev shift : Horner → Horner
shift none = none
shift (const c) = step none (const c)
shift (step a p) = step none (step a p)

-- f, which multiplies by something without x, at the coefficient of each power of x
abbrev each_coefficient : (Horner → Horner) → Horner → Horner
each_coefficient f none = none
each_coefficient f (const c) = step (f (const c)) none
each_coefficient f (step b q) = step (f b) (each_coefficient f q)

-- a q, where a is without x and f multiplies by a
abbrev by_coefficient : Horner → (Horner → Horner) → Horner → Horner
by_coefficient none f q = none
by_coefficient (const c) f q = scale c q
by_coefficient (step a b) f q = each_coefficient f q

abbrev multiply : Horner → Horner → Horner
multiply none q = none
multiply (const c) q = scale c q
multiply (step a p) q = add (by_coefficient a (multiply a) q) (shift (multiply p q))

abbrev variable : ℕ → Horner
variable zero = step none (const (pos 1))
variable (suc i) = step (variable i) none

abbrev normal : Ex → Horner
normal (var i) = variable i
normal (lit n) = const (pos n)
normal (lit⁻ n) = const (negsuc n)
normal (plus a b) = add (normal a) (normal b)
normal (times a b) = multiply (normal a) (normal b)
normal (minus a) = scale (negsuc 0) (normal a)

abbrev zero? : ℤ → Bool
zero? (pos n) = eqb n 0
zero? (negsuc n) = false

abbrev none? : Horner → Bool
none? none = true
none? (const c) = zero? c
none? (step a p) = none? a && none? p

abbrev pub same? : Ex → Ex → Bool
same? a b = none? (normal (a :- b))

both : (a b : Bool) → T (a && b) → T a × T b
both true b t = (tt, t)
both false b t = absurd t

module _ {A : Type 0} {C : Coefficients A} (R : Ring C) where
  open C use {none as 𝟎, plus as ◌⊕◌, times as ◌⊗◌}
  open R use {negative, number, plus_assoc, plus_comm, plus_none, times_assoc, times_comm, times_one, times_plus, number_none, number_plus, number_times}

  infixl 60 ◌⊕◌
  infixl 70 ◌⊗◌
  -- the environment's first variable, and the rest; 0 past its end
  abbrev pub first : List A → A
  first [] = 𝟎
  first (x ∷ ρ) = x

  abbrev pub rest : List A → List A
  rest [] = []
  rest (x ∷ ρ) = ρ

  abbrev pub nth : List A → ℕ → A
  nth ρ zero = first ρ
  nth ρ (suc i) = nth (rest ρ) i

  abbrev pub eval : List A → Ex → A
  eval ρ (var i) = nth ρ i
  eval ρ (lit n) = number (pos n)
  eval ρ (lit⁻ n) = number (negsuc n)
  eval ρ (plus a b) = eval ρ a ⊕ eval ρ b
  eval ρ (times a b) = eval ρ a ⊗ eval ρ b
  eval ρ (minus a) = negative (eval ρ a)

  abbrev value : List A → Horner → A
  value ρ none = 𝟎
  value ρ (const c) = number c
  value ρ (step a p) = value (rest ρ) a ⊕ first ρ ⊗ value ρ p

  -- ---- each operation on normal forms is the ring's on their values
  regroup : (a b c d : A) → (a ⊕ b) ⊕ (c ⊕ d) ≡ (a ⊕ c) ⊕ (b ⊕ d)
  regroup a b c d =
      plus_assoc a b (c ⊕ d)
      ∙ ap (λ x. a ⊕ x) (sym (plus_assoc b c d) ∙ ap (λ x. x ⊕ d) (plus_comm b c) ∙ plus_assoc c b d)
      ∙ sym (plus_assoc a c (b ⊕ d))

  -- A (B + x Q), multiplied out
  spread : (a b x q : A) → a ⊗ b ⊕ x ⊗ (a ⊗ q) ≡ a ⊗ (b ⊕ x ⊗ q)
  spread a b x q =
      ap (λ y. a ⊗ b ⊕ y) (sym (times_assoc x a q) ∙ ap (λ y. y ⊗ q) (times_comm x a) ∙ times_assoc a x q) ∙ sym (times_plus a b (x ⊗ q))

  add_const-sound : (ρ : List A) (c : ℤ) (p : Horner) → value ρ (add_const c p) ≡ number c ⊕ value ρ p
  add_const-sound ρ c none = sym (plus_none (number c))
  add_const-sound ρ c (const d) = number_plus c d
  add_const-sound ρ c (step a p) =
      ap (λ x. x ⊕ first ρ ⊗ value ρ p) (add_const-sound (rest ρ) c a) ∙ plus_assoc (number c) (value (rest ρ) a) (first ρ ⊗ value ρ p)

  add-sound : (ρ : List A) (p q : Horner) → value ρ (add p q) ≡ value ρ p ⊕ value ρ q
  add-sound ρ none q = sym (none-plus R (value ρ q))
  add-sound ρ (const c) q = add_const-sound ρ c q
  add-sound ρ (step a p) none = sym (plus_none (value ρ (step a p)))
  add-sound ρ (step a p) (const c) = add_const-sound ρ c (step a p) ∙ plus_comm (number c) (value ρ (step a p))
  add-sound ρ (step a p) (step b q) =
      ap₂ ◌⊕◌ (add-sound (rest ρ) a b) (ap (λ x. first ρ ⊗ x) (add-sound ρ p q) ∙ times_plus (first ρ) (value ρ p) (value ρ q))
      ∙ regroup (value (rest ρ) a) (value (rest ρ) b) (first ρ ⊗ value ρ p) (first ρ ⊗ value ρ q)

  scale-sound : (ρ : List A) (c : ℤ) (p : Horner) → value ρ (scale c p) ≡ number c ⊗ value ρ p
  scale-sound ρ c none = sym (times_none R (number c))
  scale-sound ρ c (const d) = number_times c d
  scale-sound ρ c (step a p) =
      ap₂ ◌⊕◌ (scale-sound (rest ρ) c a) (ap (λ x. first ρ ⊗ x) (scale-sound ρ c p)) ∙ spread (number c) (value (rest ρ) a) (first ρ) (value ρ p)

  shift-sound : (ρ : List A) (p : Horner) → value ρ (shift p) ≡ first ρ ⊗ value ρ p
  shift-sound ρ none = sym (times_none R (first ρ))
  shift-sound ρ (const c) = none-plus R (first ρ ⊗ number c)
  shift-sound ρ (step a p) = none-plus R (first ρ ⊗ value ρ (step a p))

  each_coefficient-sound : (ρ : List A) (f : Horner → Horner) (a : A) → ((q : Horner) → value (rest ρ) (f q) ≡ a ⊗ value (rest ρ) q)
      → (q : Horner) → value ρ (each_coefficient f q) ≡ a ⊗ value ρ q
  each_coefficient-sound ρ f a h none = sym (times_none R a)
  each_coefficient-sound ρ f a h (const c) = ap₂ ◌⊕◌ (h (const c)) (times_none R (first ρ)) ∙ plus_none (a ⊗ number c)
  each_coefficient-sound ρ f a h (step b q) =
      ap₂ ◌⊕◌ (h b) (ap (λ x. first ρ ⊗ x) (each_coefficient-sound ρ f a h q)) ∙ spread a (value (rest ρ) b) (first ρ) (value ρ q)

  by_coefficient-sound : (ρ : List A) (a : Horner) (f : Horner → Horner) → ((q : Horner) → value (rest ρ) (f q) ≡ value (rest ρ) a ⊗ value (rest ρ) q)
      → (q : Horner) → value ρ (by_coefficient a f q) ≡ value (rest ρ) a ⊗ value ρ q
  by_coefficient-sound ρ none f h q = sym (none-times R (value ρ q))
  by_coefficient-sound ρ (const c) f h q = scale-sound ρ c q
  by_coefficient-sound ρ (step a b) f h q = each_coefficient-sound ρ f (value (rest ρ) (step a b)) h q

  multiply-sound : (ρ : List A) (p q : Horner) → value ρ (multiply p q) ≡ value ρ p ⊗ value ρ q
  multiply-sound ρ none q = sym (none-times R (value ρ q))
  multiply-sound ρ (const c) q = scale-sound ρ c q
  multiply-sound ρ (step a p) q =
      add-sound ρ (by_coefficient a (multiply a) q) (shift (multiply p q))
      ∙ ap₂ ◌⊕◌
      (by_coefficient-sound ρ a (multiply a) (multiply-sound (rest ρ) a) q)
      (shift-sound ρ (multiply p q) ∙ ap (λ x. first ρ ⊗ x) (multiply-sound ρ p q) ∙ sym (times_assoc (first ρ) (value ρ p) (value ρ q)))
      ∙ sym (plus_times R (value (rest ρ) a) (first ρ ⊗ value ρ p) (value ρ q))

  variable-sound : (ρ : List A) (i : ℕ) → value ρ (variable i) ≡ nth ρ i
  variable-sound ρ zero = none-plus R (first ρ ⊗ number (pos 1)) ∙ times_one (first ρ)
  variable-sound ρ (suc i) = ap₂ ◌⊕◌ (variable-sound (rest ρ) i) (times_none R (first ρ)) ∙ plus_none (nth (rest ρ) i)

  normal-sound : (ρ : List A) (e : Ex) → value ρ (normal e) ≡ eval ρ e
  normal-sound ρ (var i) = variable-sound ρ i
  normal-sound ρ (lit n) = refl
  normal-sound ρ (lit⁻ n) = refl
  normal-sound ρ (plus a b) = add-sound ρ (normal a) (normal b) ∙ ap₂ ◌⊕◌ (normal-sound ρ a) (normal-sound ρ b)
  normal-sound ρ (times a b) = multiply-sound ρ (normal a) (normal b) ∙ ap₂ ◌⊗◌ (normal-sound ρ a) (normal-sound ρ b)
  normal-sound ρ (minus a) = scale-sound ρ (negsuc 0) (normal a) ∙ minus_one R (value ρ (normal a)) ∙ ap negative (normal-sound ρ a)

  zero-sound : (c : ℤ) → T (zero? c) → number c ≡ 𝟎
  zero-sound (pos n) t = ap (λ (m : ℕ). number (pos m)) (eqb→eq n 0 t) ∙ number_none
  zero-sound (negsuc n) t = absurd t

  none-sound : (ρ : List A) (p : Horner) → T (none? p) → value ρ p ≡ 𝟎
  none-sound ρ none t = refl
  none-sound ρ (const c) t = zero-sound c t
  none-sound ρ (step a p) t =
      ap₂ ◌⊕◌ (none-sound (rest ρ) a (both (none? a) (none? p) t).0) (ap (λ x. first ρ ⊗ x) (none-sound ρ p (both (none? a) (none? p) t).1) ∙ times_none R (first ρ))
      ∙ plus_none 𝟎

  pub solve : (ρ : List A) (a b : Ex) → T (same? a b) → eval ρ a ≡ eval ρ b
  solve ρ a b t = zero-difference R (eval ρ a) (eval ρ b) (sym (normal-sound ρ (a :- b)) ∙ none-sound ρ (normal (a :- b)) t)

  -- ---- the reader
  pub val : List A → Ex → A
  val ρ e = eval ρ e

  pub val_is : (ρ : List A) (e : Ex) → val ρ e ≡ eval ρ e
  unfolding val
  val_is ρ e = refl

  pub read-plus : (ρ : List A) (a b : Ex) → val ρ a ⊕ val ρ b ≡ val ρ (plus a b)
  unfolding val
  read-plus ρ a b = refl

  pub read-times : (ρ : List A) (a b : Ex) → val ρ a ⊗ val ρ b ≡ val ρ (times a b)
  unfolding val
  read-times ρ a b = refl

  pub read-negative : (ρ : List A) (a : Ex) → negative (val ρ a) ≡ val ρ (minus a)
  unfolding val
  read-negative ρ a = refl

  pub ruleset read = (read-plus, read-times, read-negative)

  pub read_none : (ρ : List A) → 𝟎 ≡ val ρ (lit 0)
  unfolding val
  read_none ρ = sym number_none

  pub read_lit : (ρ : List A) (n : ℕ) → number (pos n) ≡ val ρ (lit n)
  unfolding val
  read_lit ρ n = refl

  pub read-lit⁻ : (ρ : List A) (n : ℕ) → number (negsuc n) ≡ val ρ (lit⁻ n)
  unfolding val
  read-lit⁻ ρ n = refl

  pub atoms : {G : Type 0} (σ : List A) → ((ρ : List A) → ((i : ℕ) → nth σ i ≡ val ρ (var i)) → G) → G
  unfolding val
  atoms σ f = f σ (λ i. refl)

  pub ring : (ρ : List A) (a b : Ex) → T (same? a b) → val ρ a ≡ val ρ b
  unfolding val
  ring ρ a b t = solve ρ a b t

-- Sorted lists of triples: what `Lists P ws` says, and how such lists are put together.
--   triple-equal             two triples with equal pairs are equal
--   Before u v               u stands before v in the order
--   irreflexive, transitive  the laws of the order
--   lists_once               two lists of what has P are equal
--   lists_as                 the list of P is that of Q, where P and Q say the same
--   lists_none, lists_one    nothing has P; one triple has it
--   lists_both               what has P and then what has Q, where the former stands before the latter
use mathlib.Core.Path.{◌≡◌, refl, sym, ap₂, ◌∙◌, subst}
use mathlib.Core.List.{List, [], ◌∷◌, ◌++◌}
use mathlib.Core.Logic.{◌⊎◌, inl, inr, ⊎_elim}
use lib.IntN.{ℤ}
use Rattle.whole.proofs.Linear.{linear}
use Rattle.join.specs.Promise.{Triple, Below, key, Sorted, Member, Lists}

pub triple-equal : {u v : Triple} → u.w0 ≡ v.w0 → u.v ≡ v.v → u.w2 ≡ v.w2 → u ≡ v
triple-equal p q r = λ i. record { w0 = p i; v = q i; w2 = r i }

-- ---- the order
pub irreflexive : (xs : List ℤ) → Below xs xs → ⊥
irreflexive [] h = h
irreflexive (x ∷ xs) (inl h) = omega linear
irreflexive (x ∷ xs) (inr h) = irreflexive xs h.1

pub transitive : (xs ys zs : List ℤ) → Below xs ys → Below ys zs → Below xs zs
transitive [] ys zs h k = absurd h
transitive (x ∷ xs) [] zs h k = absurd h
transitive (x ∷ xs) (y ∷ ys) [] h k = absurd k
transitive (x ∷ xs) (y ∷ ys) (z ∷ zs) (inl h) (inl k) = inl (omega linear)
transitive (x ∷ xs) (y ∷ ys) (z ∷ zs) (inl h) (inr k) = inl (omega (linear, k.0))
transitive (x ∷ xs) (y ∷ ys) (z ∷ zs) (inr h) (inl k) = inl (omega (linear, h.0))
transitive (x ∷ xs) (y ∷ ys) (z ∷ zs) (inr h) (inr k) = inr (h.0 ∙ k.0, transitive xs ys zs h.1 k.1)

abbrev pub Before : Triple → Triple → Type 0
Before u v = Below (key u) (key v)

before_self : (u v : Triple) → Before u v → u ≡ v → ⊥
before_self u v h e = irreflexive (key v) (subst (λ (t : Triple). Before t v) e h)

-- the first of a sorted list stands before the others
head-before : (u : Triple) (us : List Triple) → Sorted (u ∷ us) → (w : Triple) → Member w us → Before u w
head-before u [] s w m = absurd m
head-before u (v ∷ us) s w (inl e) = subst (Before u) (sym e) s.0
head-before u (v ∷ us) s w (inr m) = transitive (key u) (key v) (key w) s.0 (head-before v us s.1 w m)

-- so it is none of them
pub head_apart : (u : Triple) (us : List Triple) → Sorted (u ∷ us) → Member u us → ⊥
head_apart u us s m = irreflexive (key u) (head-before u us s u m)

pub tail_sorted : (u : Triple) (us : List Triple) → Sorted (u ∷ us) → Sorted us
tail_sorted u [] s = tt
tail_sorted u (v ∷ us) s = s.1

-- ---- the members decide a sorted list
abbrev Covers : List Triple → List Triple → Type 0
Covers us vs = (w : Triple) → Member w us → Member w vs

heads : (u v : Triple) (us vs : List Triple) → Sorted (u ∷ us) → Sorted (v ∷ vs) → Covers (u ∷ us) (v ∷ vs) → Covers (v ∷ vs) (u ∷ us) → u ≡ v
heads u v us vs s t f g = by (f u (inl refl)) (g v (inl refl))
  where
    by : Member u (v ∷ vs) → Member v (u ∷ us) → u ≡ v
    by (inl e) m = e
    by (inr n) (inl e) = sym e
    by (inr n) (inr m) = absurd (irreflexive (key u) (transitive (key u) (key v) (key u) (head-before u us s v m) (head-before v vs t u n)))

tails : (u v : Triple) (us vs : List Triple) → Sorted (u ∷ us) → u ≡ v → Covers (u ∷ us) (v ∷ vs) → Covers us vs
tails u v us vs s e f w m = by (f w (inr m))
  where
    by : Member w (v ∷ vs) → Member w vs
    by (inl d) = absurd (before_self u w (head-before u us s w m) (e ∙ sym d))
    by (inr n) = n

same_members : (us vs : List Triple) → Sorted us → Sorted vs → Covers us vs → Covers vs us → us ≡ vs
same_members [] [] s t f g = refl
same_members [] (v ∷ vs) s t f g = absurd (g v (inl refl))
same_members (u ∷ us) [] s t f g = absurd (f u (inl refl))
same_members (u ∷ us) (v ∷ vs) s t f g =
    let e = heads u v us vs s t f g in
    ap₂ ◌∷◌ e (same_members us vs (tail_sorted u us s) (tail_sorted v vs t) (tails u v us vs s e f) (tails v u vs us t (sym e) g))

pub lists_once : {P : Triple → Type 0} {us vs : List Triple} → Lists P us → Lists P vs → us ≡ vs
lists_once {us} {vs} l k =
    same_members us vs l.sorted k.sorted (λ w m. k.every w (l.nothing_else w m)) (λ w m. l.every w (k.nothing_else w m))

-- ---- lists from others
pub lists_as : {P Q : Triple → Type 0} {ws : List Triple} → ((w : Triple) → P w → Q w) → ((w : Triple) → Q w → P w) → Lists P ws → Lists Q ws
lists_as f g l = record { every = λ w q. l.every w (g w q); nothing_else = λ w m. f w (l.nothing_else w m); sorted = l.sorted }

pub lists_none : {P : Triple → Type 0} → ((w : Triple) → P w → ⊥) → Lists P []
lists_none h = record { every = h; nothing_else = λ w m. absurd m; sorted = tt }

pub lists_one : {P : Triple → Type 0} (u : Triple) → P u → ((w : Triple) → P w → w ≡ u) → Lists P (u ∷ [])
lists_one {P} u p h = record {
  every = λ w q. inl (h w q);
  nothing_else = λ w m. ⊎_elim (λ e. subst P (sym e) p) (λ z. absurd z) m;
  sorted = tt;
}

in_left : (w : Triple) (us vs : List Triple) → Member w us → Member w (us ++ vs)
in_left w [] vs m = absurd m
in_left w (u ∷ us) vs (inl e) = inl e
in_left w (u ∷ us) vs (inr m) = inr (in_left w us vs m)

in_right : (w : Triple) (us vs : List Triple) → Member w vs → Member w (us ++ vs)
in_right w [] vs m = m
in_right w (u ∷ us) vs m = inr (in_right w us vs m)

in_either : (w : Triple) (us vs : List Triple) → Member w (us ++ vs) → Member w us ⊎ Member w vs
in_either w [] vs m = inr m
in_either w (u ∷ us) vs (inl e) = inl (inl e)
in_either w (u ∷ us) vs (inr m) = ⊎_elim (λ h. inl (inr h)) inr (in_either w us vs m)

sorted_append : (us vs : List Triple) → Sorted us → Sorted vs → ((u v : Triple) → Member u us → Member v vs → Before u v) → Sorted (us ++ vs)
sorted_append [] vs s t h = t
sorted_append (u ∷ []) [] s t h = tt
sorted_append (u ∷ []) (v ∷ vs) s t h = (h u v (inl refl) (inl refl), t)
sorted_append (u ∷ v ∷ us) vs s t h = (s.0, sorted_append (v ∷ us) vs s.1 t (λ w x m n. h w x (inr m) n))

pub lists_both : {P Q : Triple → Type 0} {us vs : List Triple} → ((u v : Triple) → P u → Q v → Before u v) → Lists P us → Lists Q vs
    → Lists (λ w. P w ⊎ Q w) (us ++ vs)
lists_both {us} {vs} h l k = record {
  every = λ w. ⊎_elim (λ p. in_left w us vs (l.every w p)) (λ q. in_right w us vs (k.every w q));
  nothing_else = λ w m. ⊎_elim (λ n. inl (l.nothing_else w n)) (λ n. inr (k.nothing_else w n)) (in_either w us vs m);
  sorted = sorted_append us vs l.sorted k.sorted (λ u v m n. h u v (l.nothing_else u m) (k.nothing_else v n));
}

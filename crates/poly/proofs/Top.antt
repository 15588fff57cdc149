-- Highest powers and their coefficients.
--   length_above                    a list has no power from its length on
--   listed_above, listed_same       the list of the coefficients up to n has no power above n, and is the whole polynomial where there is none
--   above_lowered                   where there is no power above m + 1, nor at m + 1, there is none above m
--   conv_above, conv_lead           above m + n a product of series of degrees m and n is 0, and there it is the product of the two leads
--   product_above, product_lead     the same of lists
--   scaled_above                    a multiple has no power above those of the polynomial
--   top-product                     over a domain m + n is then its highest power
--   top-scaled                      and a multiple by a number other than 0 keeps the highest power
--   top-quotient                    and so does a quotient
--   top-same, top_unique, top_some  a polynomial has at most one highest power, however it is written; with one it is not 0
--   up_to_sign-same                 p = q or p = −q: p = q, where the highest coefficient of p is not the negative of q's
--   leads_agree                     p² = c q² with c not 0 holds of the highest coefficients too
--   find-top                        a list is 0 or has one, where it is decided whether a coefficient is 0
--   square-root_above               where q² has no power above L + L, q has none above L,
--   root_above                      and so where c q² has none, with c not 0
--   root_some                       where c q² is not 0, q has a highest power
use mathlib.Core.Path.{◌≡◌, refl, sym, ap, ap₂, ◌∙◌, fun_ext}
use mathlib.Core.List.{List, [], ◌∷◌}
use mathlib.Core.Logic.{◌≢◌, ◌⊎◌, inl, inr, ⊎_elim}
use Prim.Native.Nat.{ℕ, zero, suc, ◌+◌, ◌<◌, ◌≤◌}
use native.Mathlib.Nat.{suc-add, zero-add}
use native.Mathlib.Decide.{ℕ_discrete}
use native.Mathlib.Omega.{arith}
use lib.ListN.{length, get_or-eq_default}
use Rattle.whole.specs.Coefficients.{Coefficients, at}
use Rattle.poly.specs.Polynomials.{Same, scaled, product, square}
use Rattle.whole.proofs.Ring.{Ring, none-plus, times_none}
use Rattle.poly.specs.Terms.{Above, Top, listed}
use Rattle.poly.proofs.Series.{Series, tail, conv, conv-suc, conv-none}
use Rattle.poly.proofs.Lists.{at_scaled, at-product, product-none, scaled-none}
use Rattle.poly.proofs.Domain.{Domain, UpToSign}

module _ {A : Type 0} (C : Coefficients A) where
  pub length_above : (p : List A) (m : ℕ) → length p ≤ suc m → Above C (at C p) m
  length_above p m l k h = get_or-eq_default p C.none (omega arith)

  pub listed_same : (n : ℕ) (f : Series A) → Above C f n → (k : ℕ) → f k ≡ at C (listed n f) k
  listed_same zero f u zero = refl
  listed_same zero f u (suc k) = u (suc k) (omega arith)
  listed_same (suc n) f u zero = refl
  listed_same (suc n) f u (suc k) = listed_same n (tail f) (λ j h. u (suc j) (omega arith)) k

  pub listed_above : (n : ℕ) (f : Series A) → Above C (at C (listed n f)) n
  listed_above n f zero h = absurd (omega arith)
  listed_above zero f (suc k) h = refl
  listed_above (suc n) f (suc k) h = listed_above n (tail f) k (omega arith)

  pub above_lowered : {f : Series A} {m : ℕ} → Above C f (suc m) → f (suc m) ≡ C.none → Above C f m
  above_lowered {f} {m} u e k h = by (ℕ_discrete k (suc m))
    where
      by : Dec (k ≡ suc m) → f k ≡ C.none
      by (yes i) = ap f i ∙ e
      by (no i) = u k (omega arith)

module _ {A : Type 0} {C : Coefficients A} where
  pub top-same : {p q : List A} {m : ℕ} → Same C p q → Top C p m → Top C q m
  top-same {m} e t = record { lead = λ z. t.lead (e m ∙ z); above = λ k h. sym (e k) ∙ t.above k h }

  pub top_unique : {p : List A} {m n : ℕ} → Top C p m → Top C p n → m ≡ n
  top_unique {m} {n} s t =
      let x : ¬ (m < n) = λ h. t.lead (s.above n h) in
      let y : ¬ (n < m) = λ h. s.lead (t.above m h) in
      omega arith

  pub top_some : {p : List A} {m : ℕ} → Top C p m → Same C p [] → ⊥
  top_some {m} t z = t.lead (z m)

-- ---- any ring
module _ {A : Type 0} {C : Coefficients A} (R : Ring C) where
  open C use {none as 𝟎, plus as ◌⊕◌, times as ◌⊗◌}

  infixl 60 ◌⊕◌
  infixl 70 ◌⊗◌
  conv-zero-left : (f g : Series A) → ((i : ℕ) → f i ≡ 𝟎) → (k : ℕ) → conv C f g k ≡ 𝟎
  conv-zero-left f g h k = ap (λ x. conv C x g k) (fun_ext h) ∙ conv-none R g k

  pub conv_above : (m n : ℕ) (f g : Series A) → Above C f m → Above C g n → Above C (conv C f g) (m + n)
  conv_above m n f g u v zero h = absurd (omega arith)
  conv_above zero n f g u v (suc k) h =
      conv-suc R f g k
      ∙ ap₂ ◌⊕◌ (ap (λ x. f zero ⊗ x) (v (suc k) (omega arith)) ∙ times_none R _) (conv-zero-left (tail f) g (λ i. u (suc i) (omega arith)) k)
      ∙ R.plus_none 𝟎
  conv_above (suc m) n f g u v (suc k) h =
      conv-suc R f g k
      ∙ ap₂ ◌⊕◌
      (ap (λ x. f zero ⊗ x) (v (suc k) (omega arith)) ∙ times_none R _)
      (conv_above m n (tail f) g (λ i e. u (suc i) (omega arith)) v k (omega arith))
      ∙ R.plus_none 𝟎

  pub conv_lead : (m n : ℕ) (f g : Series A) → Above C f m → Above C g n → conv C f g (m + n) ≡ f m ⊗ g n
  unfolding conv
  conv_lead zero zero f g u v = refl
  conv_lead zero (suc n) f g u v =
      rw zero-add (ap (λ x. f zero ⊗ g (suc n) ⊕ x) (conv-zero-left (tail f) g (λ i. u (suc i) (omega arith)) n) ∙ R.plus_none _)
  conv_lead (suc m) n f g u v =
      rw suc-add
      (ap₂ ◌⊕◌ (ap (λ x. f zero ⊗ x) (v (suc (m + n)) (omega arith)) ∙ times_none R _) (conv_lead m n (tail f) g (λ i e. u (suc i) (omega arith)) v)
      ∙ none-plus R _)

  negative-none : (a b : A) → a ≡ R.negative b → a ≡ 𝟎 → b ≡ 𝟎
  negative-none a b e z = sym (none-plus R b) ∙ ap (λ x. x ⊕ b) (sym z ∙ e) ∙ R.plus_comm _ b ∙ R.plus_negative b

  top-opposite : {p q : List A} {m : ℕ} → ((k : ℕ) → at C p k ≡ R.negative (at C q k)) → Top C p m → Top C q m
  top-opposite {p} {q} {m} e t = record {
    lead = λ z. t.lead (e m ∙ ap R.negative z ∙ sym (none-plus R _) ∙ R.plus_negative 𝟎);
    above = λ k h. negative-none _ _ (e k) (t.above k h);
  }

  pub up_to_sign-same : {p q : List A} {m n : ℕ} → Top C p m → Top C q n → at C p m ≢ R.negative (at C q n) → UpToSign R p q → Same C p q
  up_to_sign-same {p} {q} {m} s t d =
      ⊎_elim (λ e. e) (λ e. absurd (d (e m ∙ ap (λ k. R.negative (at C q k)) (top_unique (top-opposite e s) t))))

  pub product_above : (p q : List A) (m n : ℕ) → Above C (at C p) m → Above C (at C q) n → Above C (at C (product C p q)) (m + n)
  product_above p q m n u v k h = at-product R p q k ∙ conv_above m n (at C p) (at C q) u v k h

  pub product_lead : (p q : List A) (m n : ℕ) → Above C (at C p) m → Above C (at C q) n → at C (product C p q) (m + n) ≡ at C p m ⊗ at C q n
  product_lead p q m n u v = at-product R p q (m + n) ∙ conv_lead m n (at C p) (at C q) u v

  pub scaled_above : (c : A) (p : List A) (m : ℕ) → Above C (at C p) m → Above C (at C (scaled C c p)) m
  scaled_above c p m u k h = at_scaled R c p k ∙ ap (C.times c) (u k h) ∙ times_none R c

-- ---- a domain
module _ {A : Type 0} {C : Coefficients A} (R : Ring C) (D : Domain C) where
  pub top-product : {p q : List A} {m n : ℕ} → Top C p m → Top C q n → Top C (product C p q) (m + n)
  top-product {p} {q} {m} {n} s t = record {
    lead = λ e. ⊎_elim s.lead t.lead (D.splits _ _ (sym (product_lead R p q m n s.above t.above) ∙ e));
    above = product_above R p q m n s.above t.above;
  }

  pub top-scaled : {c : A} {p : List A} {m : ℕ} → c ≢ C.none → Top C p m → Top C (scaled C c p) m
  top-scaled {c} {p} {m} n t = record {
    lead = λ e. ⊎_elim n t.lead (D.splits _ _ (sym (at_scaled R c p m) ∙ e));
    above = scaled_above R c p m t.above;
  }

  pub top-quotient : {c : A} {p q : List A} {m : ℕ} → c ≢ C.none → Same C (scaled C c q) p → Top C p m → Top C q m
  top-quotient {c} {p} {q} {m} n e t = record {
    lead = λ z. t.lead (sym (e m) ∙ at_scaled R c q m ∙ ap (C.times c) z ∙ times_none R c);
    above = λ k h. ⊎_elim (λ z. absurd (n z)) (λ z. z) (D.splits c (at C q k) (sym (at_scaled R c q k) ∙ e k ∙ t.above k h));
  }

  pub leads_agree : (p q : List A) (c : A) {m n : ℕ} → c ≢ C.none → Top C p m → Top C q n → Same C (square C p) (scaled C c (square C q))
      → C.times (at C p m) (at C p m) ≡ C.times c (C.times (at C q n) (at C q n))
  leads_agree p q c {m} {n} some s t e =
      sym (product_lead R p p m m s.above s.above)
      ∙ e (m + m)
      ∙ at_scaled R c (square C q) (m + m)
      ∙ ap (λ k. C.times c (at C (square C q) k)) (top_unique (top-product s s) (top-same (λ k. sym (e k)) (top-scaled some (top-product t t))))
      ∙ ap (C.times c) (product_lead R q q n n t.above t.above)

-- ---- where it is decided whether a coefficient is 0
module _ {A : Type 0} {C : Coefficients A} (zero? : (a : A) → Dec (a ≡ C.none)) where
  top_cons : (a : A) (p : List A) (m : ℕ) → Top C p m → Top C (a ∷ p) (suc m)
  top_cons a p m t = record { lead = t.lead; above = up }
    where
      up : Above C (at C (a ∷ p)) (suc m)
      up zero h = absurd (omega arith)
      up (suc k) h = t.above k (omega arith)

  top-constant : (a : A) (p : List A) → Same C p [] → Dec (a ≡ C.none) → Same C (a ∷ p) [] ⊎ ((m : ℕ) × Top C (a ∷ p) m)
  top-constant a p z (yes e) = inl all
    where
      all : Same C (a ∷ p) []
      all zero = e
      all (suc k) = z k
  top-constant a p z (no n) = inr (zero, record { lead = n; above = up })
    where
      up : Above C (at C (a ∷ p)) zero
      up zero h = absurd (omega arith)
      up (suc k) h = z k

  pub find-top : (p : List A) → Same C p [] ⊎ ((m : ℕ) × Top C p m)
  find-top [] = inl (λ k. refl)
  find-top (a ∷ p) = ⊎_elim (λ z. top-constant a p z (zero? a)) (λ t. inr (suc t.0, top_cons a p t.0 t.1)) (find-top p)

  -- there is no power above n where the highest one is not above n
  above_of_top : (p : List A) (n : ℕ) → ((m : ℕ) → Top C p m → n < m → ⊥) → Above C (at C p) n
  above_of_top p n h k l = ⊎_elim (λ z. z k) tops (find-top p)
    where
      tops : (m : ℕ) × Top C p m → at C p k ≡ C.none
      tops (m, t) = let low : ¬ (n < m) = h m t in t.above k (omega arith)

module _ {A : Type 0} {C : Coefficients A} (R : Ring C) (zero? : (a : A) → Dec (a ≡ C.none)) where
  pub root_some : (p q : List A) (c : A) → Same C p (scaled C c (square C q)) → (Same C p [] → ⊥) → (m : ℕ) × Top C q m
  root_some p q c e n = ⊎_elim (λ z. absurd (n (zeros z))) (λ t. t) (find-top zero? q)
    where
      zeros : Same C q [] → Same C p []
      zeros z k = e k ∙ scaled-none R c (square C q) (product-none R q q z) k

module _ {A : Type 0} {C : Coefficients A} (R : Ring C) (D : Domain C) (zero? : (a : A) → Dec (a ≡ C.none)) where
  pub square-root_above : (q : List A) (L : ℕ) → Above C (at C (square C q)) (L + L) → Above C (at C q) L
  square-root_above q L u = above_of_top zero? q L (λ m t l. (top-product R D t t).lead (u (m + m) (omega arith)))

  pub root_above : (p q : List A) (c : A) (L : ℕ) → c ≢ C.none → Same C p (scaled C c (square C q)) → Above C (at C p) (L + L)
      → Above C (at C q) L
  root_above p q c L n e u = square-root_above q L low
    where
      low : Above C (at C (square C q)) (L + L)
      low k h = ⊎_elim (λ z. absurd (n z)) (λ z. z) (D.splits c _ (sym (at_scaled R c (square C q) k) ∙ sym (e k) ∙ u k h))

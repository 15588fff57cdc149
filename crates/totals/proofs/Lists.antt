-- The totals of lists that are put together.
--   numbered_more, curves-more            the curves of a sheet, and of a box, with one more
--   many_append, sum-append               numbers add up.      many_few   no more are counted than there are
--   many_more, many_same                  with one more: its own number, and any other
--   longer-first, longer-second, longer-none    the longer of two
--   longer_assoc, longest-append          and of many
use mathlib.Core.Path.{◌≡◌, refl, sym, ap, ◌∙◌}
use mathlib.Core.Bool.{Bool, true, false}
use mathlib.Core.Logic.{◌≢◌}
use mathlib.Core.List.{List, [], ◌∷◌, ◌++◌, append_assoc}
use Prim.Native.Nat.{ℕ, suc, ◌+◌, ◌<◌, ◌≤◌}
use native.Mathlib.Omega.{arith}
use lib.Dec.{eqb, ltb}
use lib.ListN.{length}
use borrow.Author.Tests.{lt-ltb, le-ltb, ltb-true, ltb-false, eqb-true, eqb-false}
use Rattle.refusal.specs.Answers.{Answer, refused, given, when◌then◌else◌}
use Rattle.refusal.proofs.Answers.{by_test}
use Rattle.totals.specs.declared.Counted.{Counted}
use Rattle.totals.specs.declared.Longest.{Longest}
use Rattle.std.specs.Prelude.{Option, Some, None}
use Rattle.totals.specs.Totals.{Placed, placed, numbered, curves_from, how_many, sum_of, longer, own, longest_of}

pub numbered_more : (s k : ℕ) (xs : List Counted) (x : Counted) → numbered s k (xs ++ (x ∷ [])) ≡ numbered s k xs ++ (placed s (k + length xs) x ∷ [])
numbered_more s k [] x = ap (λ (n : ℕ). placed s n x ∷ []) (omega arith)
numbered_more s k (y ∷ xs) x =
    ap (λ (ps : List Placed). placed s k y ∷ ps) (numbered_more s (suc k) xs x ∙ ap (λ (n : ℕ). numbered s (suc k) xs ++ (placed s n x ∷ [])) (omega arith))

pub curves-more : (s : ℕ) (xs : List (Answer (List Counted))) (x : Answer (List Counted)) → curves_from s (xs ++ (x ∷ [])) ≡ curves_from s xs ++ curves_from (s + length xs) (x ∷ [])
curves-more s [] x = ap (λ (n : ℕ). curves_from n (x ∷ [])) (omega arith)
curves-more s (refused f ∷ xs) x = curves-more (suc s) xs x ∙ ap (λ (n : ℕ). curves_from (suc s) xs ++ curves_from n (x ∷ [])) (omega arith)
curves-more s (given cs ∷ xs) x =
    ap (λ (ps : List Placed). numbered s 1 cs ++ ps) (curves-more (suc s) xs x ∙ ap (λ (n : ℕ). curves_from (suc s) xs ++ curves_from n (x ∷ [])) (omega arith))
    ∙ sym (append_assoc (numbered s 1 cs) (curves_from (suc s) xs) (curves_from (s + suc (length xs)) (x ∷ [])))

module _ {A : Type 0} (number : A → ℕ) where
  pub many_append : (xs ys : List A) (n : ℕ) → how_many number (xs ++ ys) n ≡ how_many number xs n + how_many number ys n
  many_append [] ys n = omega arith
  many_append (x ∷ xs) ys n = omega (arith, many_append xs ys n)

  pub many_few : (xs : List A) (n : ℕ) → how_many number xs n ≤ length xs
  many_few [] n = omega arith
  many_few (x ∷ xs) n =
      by_test (λ m. m + how_many number xs n ≤ suc (length xs)) (eqb n (number x)) (λ _. omega (arith, many_few xs n)) (λ _. omega (arith, many_few xs n))

  -- one more has its own number and no other
  pub many_more : (xs : List A) (x : A) → how_many number (xs ++ (x ∷ [])) (number x) ≡ how_many number xs (number x) + 1
  many_more xs x =
      let here : ◌≡◌ {A = ℕ} (when eqb (number x) (number x) then 1 else 0) 1 = by_test (λ m. m ≡ 1) (eqb (number x) (number x)) (λ _. refl) (λ f. absurd (eqb-false (number x) (number x) f refl)) in
      omega (arith, many_append xs (x ∷ []) (number x), here)

  pub many_same : (xs : List A) (x : A) (n : ℕ) → n ≢ number x → how_many number xs n ≡ how_many number (xs ++ (x ∷ [])) n
  many_same xs x n d =
      let elsewhere : ◌≡◌ {A = ℕ} (when eqb n (number x) then 1 else 0) 0 = by_test (λ m. m ≡ 0) (eqb n (number x)) (λ t. absurd (d (eqb-true n (number x) t))) (λ _. refl) in
      omega (arith, many_append xs (x ∷ []) n, elsewhere)

pub sum-append : (ps qs : List Placed) → sum_of (ps ++ qs) ≡ sum_of ps + sum_of qs
sum-append [] qs = omega arith
sum-append (p ∷ ps) qs = omega (arith, sum-append ps qs)

-- ---- the longest

pub longer-none : (a : Option Longest) → longer a None ≡ a
longer-none (Some a) = refl
longer-none None = refl

pub longer-first : (a b : Longest) → b.hundredths ≤ a.hundredths → longer (Some a) (Some b) ≡ Some a
unfolding when◌then◌else◌
longer-first a b h = rw (le-ltb a.hundredths b.hundredths h) refl

pub longer-second : (a b : Longest) → a.hundredths < b.hundredths → longer (Some a) (Some b) ≡ Some b
unfolding when◌then◌else◌
longer-second a b h = rw (lt-ltb a.hundredths b.hundredths h) refl

pub longer_assoc : (a b c : Option Longest) → longer (longer a b) c ≡ longer a (longer b c)
unfolding when◌then◌else◌
longer_assoc None b c = refl
longer_assoc (Some a) None c = refl
longer_assoc (Some a) (Some b) None = longer-none _
longer_assoc (Some a) (Some b) (Some c) = by (ltb a.hundredths b.hundredths) refl (ltb b.hundredths c.hundredths) refl
  where
    by : (p : Bool) → ltb a.hundredths b.hundredths ≡ p → (q : Bool) → ltb b.hundredths c.hundredths ≡ q → longer (longer (Some a) (Some b)) (Some c) ≡ longer (Some a) (longer (Some b) (Some c))
    by true h true g = let e = lt-ltb a.hundredths c.hundredths (omega (arith, ltb-true a.hundredths b.hundredths h, ltb-true b.hundredths c.hundredths g)) in rw (h, g, e) refl
    by true h false g = rw (h, g) (rw h refl)
    by false h true g = rw (h, g) refl
    by false h false g = let e = le-ltb a.hundredths c.hundredths (omega (arith, ltb-false a.hundredths b.hundredths h, ltb-false b.hundredths c.hundredths g)) in rw (h, g) (rw (h, e) refl)

pub longest-append : (ps qs : List Placed) → longest_of (ps ++ qs) ≡ longer (longest_of ps) (longest_of qs)
longest-append [] qs = refl
longest-append (p ∷ ps) qs = ap (longer (own p)) (longest-append ps qs) ∙ sym (longer_assoc (own p) (longest_of ps) (longest_of qs))

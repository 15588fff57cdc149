-- Erased bytes, and the first that is not.
--   AllErased           every byte is FF.      all-erased   as many bytes FF as there are bytes
--   erased-at           the bytes FF that a list begins with are such
--   FirstLeft           from a place on every byte up to another place is FF, and the byte there is not
--   first-left          so it is of a list that begins with fewer bytes FF than it has bytes
--   left_behind         and with something in front of the list
use mathlib.Core.Path.{◌≡◌, refl, ap, ◌∙◌, sym}
use mathlib.Core.List.{List, [], ◌∷◌, ◌++◌}
use Prim.Native.Nat.{ℕ, zero, suc, ◌+◌, ◌-◌, ◌≤◌, ◌<◌}
use native.Mathlib.Omega.{arith}
use native.Mathlib.Nat.{not-suc-le-zero, le_of_suc-le-suc}
use lib.Dec.{eqb}
use lib.ListN.{length, get_or, length-append}
use lib.Seq.{get_or-append-add}
use borrow.Author.Tests.{eqb-true, eqb-false, eq-eqb}
use Rattle.refusal.specs.Answers.{when◌then◌else◌}
use Rattle.refusal.proofs.Answers.{by_test}
use Rattle.record.specs.Records.{erased, erased_bytes}

abbrev pub AllErased : List ℕ → Type 0
AllErased bytes = (i : ℕ) → i < length bytes → get_or bytes i 0 ≡ erased

pub all-erased : (bytes : List ℕ) → AllErased bytes → erased_bytes bytes ≡ length bytes
unfolding when◌then◌else◌
all-erased [] f = refl
all-erased (b ∷ bytes) f = rw (eq-eqb _ _ (f 0 (omega arith))) (ap suc (all-erased bytes (λ i l. f (suc i) (omega arith))))

pub erased-at : (bytes : List ℕ) (i : ℕ) → i < erased_bytes bytes → get_or bytes i 0 ≡ erased
erased-at [] i h = absurd (not-suc-le-zero h)
erased-at (b ∷ bytes) i h =
    by_test (λ (n : ℕ). i < n → get_or (b ∷ bytes) i 0 ≡ erased) (eqb b erased)
    (λ e l. inside (eqb-true _ _ e) i l (λ j m. erased-at bytes j m))
    (λ e l. absurd (not-suc-le-zero l))
    h
  where
    inside : b ≡ erased → (i : ℕ) → i < suc (erased_bytes bytes) → ((j : ℕ) → j < erased_bytes bytes → get_or bytes j 0 ≡ erased) → get_or (b ∷ bytes) i 0 ≡ erased
    inside q zero l f = q
    inside q (suc j) l f = f j (le_of_suc-le-suc l)

-- ---- the first byte that is not erased

pub record FirstLeft (bytes : List ℕ) (from place : ℕ) : Type 0 where
  pub behind : from ≤ place
  pub inside : place < length bytes
  pub erased_to : (i : ℕ) → from ≤ i → i < place → get_or bytes i 0 ≡ erased
  pub not_erased : get_or bytes place 0 ≡ erased → ⊥

stops : (bytes : List ℕ) → erased_bytes bytes < length bytes → get_or bytes (erased_bytes bytes) 0 ≡ erased → ⊥
stops [] l = absurd (not-suc-le-zero l)
stops (b ∷ bytes) l =
    by_test (λ (n : ℕ). n < suc (length bytes) → get_or (b ∷ bytes) n 0 ≡ erased → ⊥) (eqb b erased)
    (λ _ m. stops bytes (le_of_suc-le-suc m))
    (λ e _. eqb-false _ _ e)
    l

pub first-left : (bytes : List ℕ) → erased_bytes bytes < length bytes → FirstLeft bytes 0 (erased_bytes bytes)
first-left bytes l = record { behind = omega arith; inside = l; erased_to = λ i _ m. erased-at bytes i m; not_erased = stops bytes l }

pub left_behind : (front bytes : List ℕ) {place : ℕ} → FirstLeft bytes 0 place → FirstLeft (front ++ bytes) (length front) (length front + place)
left_behind front bytes {place} h =
    record {
      behind = omega arith;
      inside = omega (arith, length-append front bytes, h.inside);
      erased_to = λ i l m.
          let at : i ≡ length front + (i - length front) = omega arith in
          ap (λ (k : ℕ). get_or (front ++ bytes) k 0) at ∙ get_or-append-add front bytes (i - length front) 0 ∙ h.erased_to (i - length front) (omega arith) (omega arith);
      not_erased = λ e. h.not_erased (sym (get_or-append-add front bytes place 0) ∙ e);
    }

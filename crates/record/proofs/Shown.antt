-- What a step shows of the bytes at its place, and the bytes that make it.
--   Holds         a record of a kind stands at the start of the bytes
--   Shown         what a step says of the bytes: all erased, a fault with its place, or a record of a kind that may stand there
--   step_record, record_step_lem   a step that is a record has one before it, and the other way.      holds_same   by the bytes of a record alone
--   step_may      and its kind may stand there
--   fault_near    a fault's place lies within the bytes
--   fault_placed  LEFTOVER stands at the first byte that is not FF, every other fault at the record's first byte
--   erased_ends   such bytes end the sheet.             ends_erased   bytes that end the sheet are such
--   coordinates-same   the same bytes are the same coordinates
--   Whole         a list that is a record of a kind and nothing more
--   whole-step    whatever stands behind it, its step is the record.     step-whole   the bytes that a step passes are such a list
use mathlib.Core.Path.{◌≡◌, refl, sym, ap, ◌∙◌, subst}
use mathlib.Core.Bool.{Bool, true}
use mathlib.Core.List.{List, ◌++◌, map}
use Prim.Native.Nat.{ℕ, ◌+◌, ◌*◌, ◌≤◌, ◌<◌}
use native.Mathlib.Omega.{arith}
use lib.ListN.{length, get_or, take, length-append, get_or-append}
use lib.Seq.{length-take-le, get_or-take}
use Rattle.std.specs.Prelude.{Option, Some, None, Ok}
use borrow.Author.Tests.{eqb-true, eqb-false, ltb-true, ltb-false, eq-eqb, ne_eqb, le-ltb, not-false}
use Rattle.refusal.specs.declared.Refusal.{Refusal}
use Rattle.refusal.specs.declared.Refusal.TheVariants as refusal
use Rattle.refusal.specs.Table.{number_of}
use Rattle.refusal.specs.Answers.{when◌then◌else◌}
use Rattle.record.specs.Numbers.{size_of, signed_of, coordinates}
use Rattle.record.specs.declared.kinds.Kind.{Kind}
use Rattle.record.specs.Kinds.{row_of, kinds, words}
use Rattle.record.specs.Records.{Step, slip, erased, erased_length, erased_bytes, erased_end, erased_step, named, kind_in, may_stand, all_within, sized_step, kind_step, step_of}
use Rattle.refusal.proofs.Answers.{by_test}
use Rattle.record.proofs.Table.{row-known, known-kind, named-is}
use Rattle.record.proofs.Words.{words_same, coordinates-words}
use Rattle.record.proofs.Erased.{AllErased, all-erased, erased-at, FirstLeft, first-left}

pub record Holds (k : Kind) (bytes : List ℕ) : Type 0 where
  pub fits : (row_of k).size ≤ length bytes
  pub size_is : size_of bytes ≡ (row_of k).size
  pub name_is : named k bytes ≡ true
  pub range : all_within (coordinates (words k) bytes 4) ≡ true

pub data Shown (first : Bool) (bytes : List ℕ) : Step → Type 0 where
  ends : AllErased bytes → Shown first bytes (Ok None)
  leftover : {offset : ℕ} → FirstLeft bytes 0 offset → Shown first bytes (slip refusal.Leftover offset)
  faults : {r : Refusal} → (number_of r ≡ number_of refusal.Leftover → ⊥) → Shown first bytes (slip r 0)
  holds : {k : Kind} → may_stand first k ≡ true → Holds k bytes → Shown first bytes (Ok (Some k))

-- ---- from the step to the bytes

module _ (first : Bool) (bytes : List ℕ) where
  sized_shown : (k : Kind) → may_stand first k ≡ true → named k bytes ≡ true → Shown first bytes (sized_step k bytes)
  unfolding sized_step
  sized_shown k m n =
      by_test (Shown first bytes) _ (λ _. faults (λ q. omega arith)) (λ s.
      by_test (Shown first bytes) _ (λ _. faults (λ q. omega arith)) (λ l.
      by_test (Shown first bytes) _ (λ _. faults (λ q. omega arith)) (λ v.
      holds m (record { fits = ltb-false _ _ l; size_is = eqb-true _ _ (not-false _ s); name_is = n; range = not-false _ v }))))

  kind_shown : (x : Option Kind) → kind_in kinds bytes ≡ x → Shown first bytes (kind_step first bytes x)
  kind_shown (Some k) e = by_test (Shown first bytes) _ (λ m. sized_shown k m (named-is kinds bytes k e)) (λ _. faults {r = refusal.Kind} (λ q. omega arith))
  kind_shown None e = faults {r = refusal.Kind} (λ q. omega arith)

  erased_shown : Shown first bytes (erased_step bytes)
  unfolding erased_step erased_end
  erased_shown = by_test (Shown first bytes) _ (λ e. leftover (first-left bytes (ltb-true _ _ e))) (λ e. let l : length bytes ≤ erased_bytes bytes = ltb-false _ _ e in ends (λ i h. erased-at bytes i (omega arith)))

  shown : Shown first bytes (step_of first bytes)
  unfolding step_of
  shown =
      by_test (Shown first bytes) _ (λ e. let z : length bytes ≡ 0 = eqb-true _ _ e in ends (λ i h. absurd (omega arith))) (λ _.
      by_test (Shown first bytes) _
      (λ o.
      let q : length bytes ≡ 1 = eqb-true _ _ o in
      by_test (Shown first bytes) _ (λ f. ends (λ i h. let z : i ≡ 0 = omega arith in rw z (eqb-true _ _ f))) (λ _. faults (λ q. omega arith)))
      (λ _.
      by_test (Shown first bytes) _ (λ _. erased_shown) (λ _.
      by_test (Shown first bytes) _ (λ _. faults (λ q. omega arith)) (λ _. kind_shown (kind_in kinds bytes) refl))))

held_in : {first : Bool} {bytes : List ℕ} {k : Kind} → Shown first bytes (Ok (Some k)) → (may_stand first k ≡ true) × Holds k bytes
held_in (holds m h) = (m, h)

pub step_record : (first : Bool) (bytes : List ℕ) (k : Kind) → step_of first bytes ≡ Ok (Some k) → Holds k bytes
step_record first bytes k e = (held_in (subst (Shown first bytes) e (shown first bytes))).1

pub step_may : (first : Bool) (bytes : List ℕ) (k : Kind) → step_of first bytes ≡ Ok (Some k) → may_stand first k ≡ true
step_may first bytes k e = (held_in (subst (Shown first bytes) e (shown first bytes))).0

erased_in : {first : Bool} {bytes : List ℕ} → Shown first bytes (Ok None) → AllErased bytes
erased_in (ends f) = f

pub ends_erased : (first : Bool) (bytes : List ℕ) → step_of first bytes ≡ Ok None → AllErased bytes
ends_erased first bytes e = erased_in (subst (Shown first bytes) e (shown first bytes))

near_in : {first : Bool} {bytes : List ℕ} {r : Refusal} {offset : ℕ} → Shown first bytes (slip r offset) → offset ≤ length bytes
near_in (leftover f) = omega (arith, f.inside)
near_in (faults n) = omega arith

pub fault_near : (first : Bool) (bytes : List ℕ) (r : Refusal) (offset : ℕ) → step_of first bytes ≡ slip r offset → offset ≤ length bytes
fault_near first bytes r offset e = near_in (subst (Shown first bytes) e (shown first bytes))

-- where a fault stands: LEFTOVER at the first byte that is not FF, every other at the record's first byte
placed_in : {first : Bool} {bytes : List ℕ} {r : Refusal} {offset : ℕ} → Shown first bytes (slip r offset) →
    (r ≡ refusal.Leftover → FirstLeft bytes 0 offset) × ((r ≡ refusal.Leftover → ⊥) → offset ≡ 0)
placed_in (leftover f) = (λ _. f, λ n. absurd (n refl))
placed_in (faults n) = (λ q. absurd (n (ap number_of q)), λ _. refl)

pub fault_placed : (first : Bool) (bytes : List ℕ) (r : Refusal) (offset : ℕ) → step_of first bytes ≡ slip r offset →
    (r ≡ refusal.Leftover → FirstLeft bytes 0 offset) × ((r ≡ refusal.Leftover → ⊥) → offset ≡ 0)
fault_placed first bytes r offset e = placed_in (subst (Shown first bytes) e (shown first bytes))

-- ---- from the bytes to the step

pub record_step_lem : (first : Bool) (k : Kind) (bytes : List ℕ) → may_stand first k ≡ true → Holds k bytes → step_of first bytes ≡ Ok (Some k)
unfolding step_of sized_step when◌then◌else◌
record_step_lem first k bytes m h =
    let z = row-known k in
    let l : 4 < length bytes = omega (arith, h.fits, z.long) in
    let w : size_of bytes < erased_length = omega (arith, h.size_is, z.short) in
    rw (
      ne_eqb (length bytes) 0 (λ q. omega arith),
      ne_eqb (length bytes) 1 (λ q. omega arith),
      ne_eqb (size_of bytes) erased_length (λ q. omega arith),
      le-ltb (length bytes) 4 (omega arith),
      known-kind k bytes h.name_is,
      m,
      eq-eqb (size_of bytes) (row_of k).size h.size_is,
      le-ltb (length bytes) (row_of k).size h.fits,
      h.range,
    )

pub erased_ends : (first : Bool) (bytes : List ℕ) → AllErased bytes → step_of first bytes ≡ Ok None
unfolding step_of erased_step erased_end
erased_ends first bytes f =
    by_test Is _ (λ _. refl) (λ z.
    let n : length bytes ≡ 0 → ⊥ = eqb-false _ _ z in
    let b0 : get_or bytes 0 0 ≡ erased = f 0 (omega arith) in
    by_test Is _ (λ _. by_test Is _ (λ _. refl) (λ d. absurd (eqb-false _ _ d b0))) (λ o.
    let n1 : length bytes ≡ 1 → ⊥ = eqb-false _ _ o in
    let b1 : get_or bytes 1 0 ≡ erased = f 1 (omega arith) in
    by_test Is _
    (λ _. by_test Is _ (λ g. absurd (beyond (ltb-true _ _ g) (all-erased bytes f))) (λ _. refl))
    (λ d. absurd (eqb-false (size_of bytes) erased_length d (omega arith)))))
  where
    Is : Step → Type 0
    Is x = x ≡ Ok None

    beyond : {a b : ℕ} → a < b → a ≡ b → ⊥
    beyond l e = omega arith

-- ---- a record and nothing more

pub coordinates-same : (n : ℕ) (s t : List ℕ) (a b : ℕ) → ((j : ℕ) → j < 4 * n → get_or t (b + j) 0 ≡ get_or s (a + j) 0) → coordinates n t b ≡ coordinates n s a
coordinates-same n s t a b f = coordinates-words n t b ∙ ap (map signed_of) (words_same n s t a b f) ∙ sym (coordinates-words n s a)

-- bytes that agree as far as a record goes hold the same record
pub holds_same : (k : Kind) (s t : List ℕ) → (row_of k).size ≤ length t → ((i : ℕ) → i < (row_of k).size → get_or t i 0 ≡ get_or s i 0) → Holds k s → Holds k t
unfolding named
holds_same k s t l f h =
    let z0 = (row-known k).long in
    let z1 = (row-known k).holds in
    record {
      fits = l;
      size_is = rw (f 0 (omega arith), f 1 (omega arith)) h.size_is;
      name_is = rw (f 2 (omega arith), f 3 (omega arith)) h.name_is;
      range = ap all_within (coordinates-same (words k) s t 4 4 (λ j m. f (4 + j) (omega arith))) ∙ h.range;
    }

pub record Whole (k : Kind) (x : List ℕ) : Type 0 where
  pub long : length x ≡ (row_of k).size
  pub here : Holds k x

pub whole-step : (first : Bool) {k : Kind} {x : List ℕ} → may_stand first k ≡ true → Whole k x → (t : List ℕ) → step_of first (x ++ t) ≡ Ok (Some k)
whole-step first {k} {x} m w t =
    record_step_lem first k (x ++ t) m
    (holds_same k x (x ++ t) (omega (arith, length-append x t, w.long)) (λ i m. get_or-append x t 0 i (omega (arith, w.long))) w.here)

pub step-whole : (first : Bool) (bytes : List ℕ) (k : Kind) → step_of first bytes ≡ Ok (Some k) → Whole k (take (row_of k).size bytes) × (4 < (row_of k).size) × ((row_of k).size ≤ length bytes)
step-whole first bytes k e =
    let h = step_record first bytes k e in
    let l = h.fits in
    let long : length (take (row_of k).size bytes) ≡ (row_of k).size = length-take-le (row_of k).size bytes l in (
      record { long = long; here = holds_same k bytes (take (row_of k).size bytes) (omega arith) (λ i m. get_or-take (row_of k).size bytes i 0 m) h },
      (row-known k).long,
      l,
    )

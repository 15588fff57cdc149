-- A step by the first bytes that are left: how many bytes FF come first, how many bytes are left, and what the front shows.
--   erased-within      there are no more bytes FF in front than bytes
--   erased-append, erased-take, erased-replicate   the bytes FF in front of two lists, of a part, and of nothing but FF
--   step_by, step_by_front   a step by the step of the front, which is as long as the longest record
--   record_by_front, front_by_record   a record stands in the front where one stands in the whole, and the other way
--   record_within      a record that ends within some bytes stands there already
use mathlib.Core.Path.{◌≡◌, refl, sym, ap, ◌∙◌}
use mathlib.Core.Bool.{Bool, true, false}
use mathlib.Core.List.{List, [], ◌∷◌, ◌++◌}
use Prim.Native.Nat.{ℕ, zero, suc, ◌+◌, ◌≤◌, ◌<◌, min}
use native.Mathlib.Omega.{arith}
use native.Mathlib.Nat.{zero-add, suc-add, zero-min, min-zero, suc-min-suc}
use lib.Dec.{eqb, eqb-suc-suc, eqb-zero-suc}
use lib.ListN.{length, get_or, take, drop, replicate, length-take, take-append-drop, get_or-append}
use lib.Seq.{take_all, length-take-le, get_or-take}
use Rattle.std.specs.Prelude.{Option, Some, None, Ok, Err}
use borrow.Author.Tests.{ne_eqb, lt-ltb, le-ltb}
use Rattle.refusal.specs.Answers.{when◌then◌else◌}
use Rattle.refusal.proofs.Answers.{by_test, by_order}
use Rattle.record.specs.Numbers.{size_of}
use Rattle.record.specs.declared.kinds.Kind.{Kind}
use Rattle.record.specs.Kinds.{row_of, longest_record, kinds, words}
use Rattle.record.specs.Records.{Step, erased, erased_length, erased_bytes, erased_end, erased_step, kind_in, may_stand, sized_step, kind_step, step_of}
use Rattle.record.proofs.Table.{row-known, same_kind}
use Rattle.record.proofs.Erased.{all-erased}
use Rattle.record.proofs.Shown.{step_record, step_may, record_step_lem, holds_same, ends_erased, coordinates-same}

-- ---- how many bytes FF come first

pub erased-within : (bytes : List ℕ) → erased_bytes bytes ≤ length bytes
erased-within [] = omega arith
erased-within (b ∷ bytes) =
    let l = erased-within bytes in
    by_test (λ (n : ℕ). n ≤ suc (length bytes)) (eqb b erased) (λ _. omega arith) (λ _. omega arith)

pub erased-replicate : (n : ℕ) → erased_bytes (replicate n erased) ≡ n
unfolding when◌then◌else◌
erased-replicate zero = refl
erased-replicate (suc n) = ap suc (erased-replicate n)

-- one byte more: whether it is FF, c, decides on both sides
take_more : (c : Bool) (n a d : ℕ) → a ≡ min n d → (when c then suc a else 0) ≡ min (suc n) (when c then suc d else 0)
unfolding when◌then◌else◌
take_more true n a d e = ap suc e ∙ sym (suc-min-suc n d)
take_more false n a d e = sym (min-zero (suc n))

pub erased-take : (n : ℕ) (bytes : List ℕ) → erased_bytes (take n bytes) ≡ min n (erased_bytes bytes)
erased-take zero bytes = sym (zero-min (erased_bytes bytes))
erased-take (suc n) [] = sym (min-zero (suc n))
erased-take (suc n) (b ∷ bytes) = take_more (eqb b erased) n _ _ (erased-take n bytes)

suc_either : (c : Bool) (l m d : ℕ) → suc (when c then l + m else d) ≡ (when c then suc l + m else suc d)
unfolding when◌then◌else◌
suc_either true l m d = sym (suc-add l m)
suc_either false l m d = refl

append-more : (c : Bool) (l m a d : ℕ) → a ≡ (when eqb d l then l + m else d)
    → (when c then suc a else 0) ≡ (when eqb (when c then suc d else 0) (suc l) then suc l + m else (when c then suc d else 0))
unfolding when◌then◌else◌
append-more true l m a d e = rw (eqb-suc-suc d l) (ap suc e ∙ suc_either (eqb d l) l m d)
append-more false l m a d e = rw (eqb-zero-suc l)

pub erased-append : (front more : List ℕ) → erased_bytes (front ++ more) ≡ (when eqb (erased_bytes front) (length front) then length front + erased_bytes more else erased_bytes front)
unfolding when◌then◌else◌
erased-append [] more = sym (zero-add (erased_bytes more))
erased-append (b ∷ front) more = append-more (eqb b erased) (length front) (erased_bytes more) _ _ (erased-append front more)

-- ---- a step by its front

-- a step, by how many bytes FF come first, how many bytes are left, and the step of as many of them as the longest record has: only where that
-- shows nothing but bytes FF does it matter what stands behind it
abbrev pub step_by : ℕ → ℕ → Step → Step
step_by erased_first left (Ok None) = erased_end erased_first left
step_by erased_first left (Err s) = Err s
step_by erased_first left (Ok (Some k)) = Ok (Some k)

-- ---- the step of bytes that are no longer than a front

erased-whole : (n left : ℕ) → left ≤ n → erased_end n left ≡ Ok None
unfolding erased_end when◌then◌else◌
erased-whole n left l = rw (le-ltb n left l)

own-step : (first : Bool) (bytes : List ℕ) (x : Step) → step_of first bytes ≡ x → x ≡ step_by (erased_bytes bytes) (length bytes) x
own-step first bytes (Ok None) e = let q = all-erased bytes (ends_erased first bytes e) in sym (erased-whole (erased_bytes bytes) (length bytes) (omega arith))
own-step first bytes (Err s) e = refl
own-step first bytes (Ok (Some k)) e = refl

-- ---- the step of more bytes than that

-- the tests that are left of four bytes or more
later : (first : Bool) (s : List ℕ) → 4 ≤ length s → step_of first s ≡ (when eqb (size_of s) erased_length then erased_step s else kind_step first s (kind_in kinds s))
unfolding step_of when◌then◌else◌
later first s l = rw (ne_eqb (length s) 0 (λ q. omega arith), ne_eqb (length s) 1 (λ q. omega arith), le-ltb (length s) 4 l)

-- one test on both sides
either : (f : Step → Step) (c : Bool) {x y x' y' : Step} → x ≡ f x' → y ≡ f y' → (when c then x else y) ≡ f (when c then x' else y')
unfolding when◌then◌else◌
either f true p q = p
either f false p q = q

-- a known kind's tests never end the sheet
sized-stays : (n left : ℕ) (k : Kind) (s : List ℕ) → sized_step k s ≡ step_by n left (sized_step k s)
unfolding sized_step
sized-stays n left k s = by_test Stays _ (λ _. refl) (λ _. by_test Stays _ (λ _. refl) (λ _. by_test Stays _ (λ _. refl) (λ _. refl)))
  where
    Stays : Step → Type 0
    Stays x = x ≡ step_by n left x

module _ (first : Bool) (bytes : List ℕ) (long : longest_record < length bytes) where
  abbrev front : List ℕ
  front = take longest_record bytes

  front_long : length front ≡ longest_record
  front_long = length-take-le longest_record bytes (omega arith)

  same : (i : ℕ) → i < longest_record → get_or front i 0 ≡ get_or bytes i 0
  same i l = get_or-take longest_record bytes i 0 l

  size_same : size_of front ≡ size_of bytes
  size_same = let p = same 0 (omega arith) in let q = same 1 (omega arith) in omega arith

  sized_same : (k : Kind) → sized_step k front ≡ sized_step k bytes
  unfolding sized_step when◌then◌else◌
  sized_same k =
      let known = row-known k in
      rw (
        size_same,
        le-ltb (length front) (row_of k).size (omega (arith, known.short, front_long)),
        le-ltb (length bytes) (row_of k).size (omega (arith, known.short)),
        coordinates-same (words k) bytes front 4 4 (λ j l. same (4 + j) (omega (arith, known.short, known.holds))),
      )

  kind-same : (x : Option Kind) → kind_step first bytes x ≡ step_by (erased_bytes bytes) (length bytes) (kind_step first front x)
  kind-same (Some k) =
      either (step_by (erased_bytes bytes) (length bytes)) (may_stand first k) (sized-stays (erased_bytes bytes) (length bytes) k bytes ∙ ap (step_by (erased_bytes bytes) (length bytes)) (sym (sized_same k))) refl
  kind-same None = refl

  -- a byte that is not FF stands in the front, or the front tells nothing
  erased-same : erased_step bytes ≡ step_by (erased_bytes bytes) (length bytes) (erased_step front)
  unfolding erased_step erased_end when◌then◌else◌
  erased-same =
      let e = erased-take longest_record bytes in
      by_order longest_record (erased_bytes bytes)
      (λ l. rw (le-ltb (erased_bytes front) (length front) (omega (arith, front_long))))
      (λ l.
      let q : erased_bytes front ≡ erased_bytes bytes = omega arith in
      rw (q, lt-ltb (erased_bytes bytes) (length front) (omega (arith, front_long)), lt-ltb (erased_bytes bytes) (length bytes) (omega arith)))

  long-step : step_of first bytes ≡ step_by (erased_bytes bytes) (length bytes) (step_of first front)
  long-step =
      let by = step_by (erased_bytes bytes) (length bytes) in
      let test : eqb (size_of front) erased_length ≡ eqb (size_of bytes) erased_length = ap (λ (n : ℕ). eqb n erased_length) size_same in
      let kind : kind_in kinds bytes ≡ kind_in kinds front = same_kind kinds bytes front (sym (same 2 (omega arith))) (sym (same 3 (omega arith))) in
      later first bytes (omega arith)
      ∙ either by (eqb (size_of bytes) erased_length) erased-same (kind-same (kind_in kinds bytes) ∙ ap (λ (x : Option Kind). by (kind_step first front x)) kind)
      ∙ ap (λ (c : Bool). by (when c then erased_step front else kind_step first front (kind_in kinds front))) (sym test)
      ∙ ap by (sym (later first front (omega (arith, front_long))))

pub step_by_front : (first : Bool) (bytes : List ℕ) → step_of first bytes ≡ step_by (erased_bytes bytes) (length bytes) (step_of first (take longest_record bytes))
step_by_front first bytes =
    by_order (length bytes) longest_record
    (λ l. own-step first bytes (step_of first bytes) refl ∙ ap (λ (s : List ℕ). step_by (erased_bytes bytes) (length bytes) (step_of first s)) (sym (take_all longest_record bytes l)))
    (λ l. long-step first bytes l)

-- ---- records

pub record_by_front : (first : Bool) (bytes : List ℕ) (k : Kind) → step_of first (take longest_record bytes) ≡ Ok (Some k) → step_of first bytes ≡ Ok (Some k)
record_by_front first bytes k e = step_by_front first bytes ∙ ap (step_by (erased_bytes bytes) (length bytes)) e

pub record_within : (first : Bool) (front more : List ℕ) (k : Kind) → step_of first (front ++ more) ≡ Ok (Some k) → (row_of k).size ≤ length front → step_of first front ≡ Ok (Some k)
record_within first front more k e l =
    record_step_lem first k front (step_may first (front ++ more) k e)
    (holds_same k (front ++ more) front l (λ i m. sym (get_or-append front more 0 i (omega arith))) (step_record first (front ++ more) k e))

pub front_by_record : (first : Bool) (bytes : List ℕ) (k : Kind) → step_of first bytes ≡ Ok (Some k) → step_of first (take longest_record bytes) ≡ Ok (Some k)
front_by_record first bytes k e =
    let fits = (step_record first bytes k e).fits in
    record_within first (take longest_record bytes) (drop longest_record bytes) k (ap (step_of first) (take-append-drop longest_record bytes) ∙ e)
    (omega (arith, length-take longest_record bytes, (row-known k).short))

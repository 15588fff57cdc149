-- Each promise has one answer: what meets it twice is equal.
--   count_checked      how many curves an answer of `check` says there are: so many has the sheet
--   has_once           a number gives one curve
--   check_once, read_once, locate_once, find_once, start_once, erase_once, append_once   the calls
use mathlib.Core.Path.{◌≡◌, refl, sym, ap, ◌∙◌}
use mathlib.Core.List.{List}
use Prim.Native.Nat.{ℕ}
use denote.Ref.{Bor}
use Rattle.refusal.specs.Answers.{Answer, with_given, answer_at}
use Rattle.refusal.proofs.Answers.{no_answer, given_once, refused_once, fault_answer_once, with_twice}
use Rattle.refusal.specs.declared.Fault.{Fault}
use Rattle.curve.specs.Curves.{points_of}
use Rattle.sheet.specs.declared.Location.{Location}
use Rattle.pair.specs.declared.Pair.{Pair}
use Rattle.curve.specs.declared.Curve.{Curve}
use Rattle.curve.proofs.Points.{curve_once}
use Rattle.std.specs.Prelude.{Result, Ok, Err}
use Rattle.sheet.specs.declared.Checked.{Checked}
use Rattle.sheet.specs.declared.Location.{Location}
use Rattle.sheet.specs.Survey.{outcome}
use Rattle.sheet.specs.Promise.{count_of, told_of, answer_of_change, starting, erasing, appending, HasCurve, Checks, Reads, Locates, FindsIn, Changes, StartsFor, Erases, Appends}

pub count_checked : (s : List ℕ) (r : Result Checked Fault) → Checks s r → with_given (λ (told : Checked). told.curves) (answer_at r) ≡ with_given count_of (outcome s)
count_checked s r h = ap (with_given (λ (told : Checked). told.curves)) h ∙ with_twice told_of (λ (told : Checked). told.curves) (outcome s)

reading_same : (r q : Result Curve Fault) → with_given points_of (answer_at r) ≡ with_given points_of (answer_at q) → r ≡ q
reading_same (Ok c) (Ok d) e = ap Ok (curve_once c d (given_once e))
reading_same (Ok c) (Err g) e = no_answer e
reading_same (Err f) (Ok d) e = no_answer (sym e)
reading_same (Err f) (Err g) e = ap Err (refused_once {A = List Pair} e)

change_same : (t : List ℕ) (r q : Result (Unit {0}) Fault) → answer_of_change t r ≡ answer_of_change t q → r ≡ q
change_same t (Ok _) (Ok _) e = refl
change_same t (Ok _) (Err g) e = no_answer e
change_same t (Err f) (Ok _) e = no_answer (sym e)
change_same t (Err f) (Err g) e = ap Err (refused_once {A = List ℕ} e)

change_once : (s : List ℕ) (asked : Answer (List ℕ)) (t u : List ℕ) (r q : Result (Unit {0}) Fault) → Changes s asked t r → Changes s asked u q → (r ≡ q) × (t ≡ u)
change_once s asked t u r q h k =
    let e = h.leaves ∙ sym k.leaves in
    (change_same t r q (h.says ∙ sym k.says ∙ ap (λ (x : List ℕ). answer_of_change x q) (sym e)), e)

module _ (s : List ℕ) where
  pub check_once : (r q : Result Checked Fault) → Checks s r → Checks s q → r ≡ q
  check_once r q h k = fault_answer_once r q (h ∙ sym k)

  pub read_once : (expected number : ℕ) (r q : Result Curve Fault) → Reads s expected number r → Reads s expected number q → r ≡ q
  read_once expected number r q h k = reading_same r q (h ∙ sym k)

  pub has_once : (number : ℕ) (c d : Curve) → HasCurve s number c → HasCurve s number d → c ≡ d
  has_once number c d h k = curve_once c d (given_once (h ∙ sym k))

  pub locate_once : (expected number : ℕ) (r q : Result Location Fault) → Locates s expected number r → Locates s expected number q → r ≡ q
  locate_once expected number r q h k = fault_answer_once r q (h ∙ sym k)

  pub start_once : (m : ℕ) (t u : List ℕ) (r q : Result (Unit {0}) Fault) → StartsFor s m t r → StartsFor s m u q → (r ≡ q) × (t ≡ u)
  start_once m = change_once s (starting s m)

  pub erase_once : (t u : List ℕ) (r q : Result (Unit {0}) Fault) → Erases s t r → Erases s u q → (r ≡ q) × (t ≡ u)
  erase_once = change_once s (erasing s)

  pub append_once : (c : Curve) (t u : List ℕ) (r q : Result (Unit {0}) Fault) → Appends s c t r → Appends s c u q → (r ≡ q) × (t ≡ u)
  append_once c t u r q h k = change_once s (appending s c) t u r q h.changes k.changes

-- the same bytes of the same block: a reference's name is no memory
pub find_once : (sheet : Bor (List ℕ)) (expected number : ℕ) (x y : Bor (List ℕ)) → FindsIn sheet expected number x → FindsIn sheet expected number y → (x.ref_ptr ≡ y.ref_ptr) × (x.now ≡ y.now)
find_once sheet expected number x y h k =
    let block = h.block ∙ sym k.block in
    let place = h.place ∙ sym k.place in
    (λ i. (block i, place i), h.bytes ∙ sym k.bytes)

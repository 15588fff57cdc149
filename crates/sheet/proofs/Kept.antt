-- What a call that writes a sheet leaves as it was, by its promise alone.
--   refused-kept    a call that refuses changes no byte
--   append-kept     append keeps the sheet's length, and every byte outside the new record, by position
--   start-length, erase-length    start and erase keep the sheet's length
use mathlib.Core.Path.{◌≡◌, refl, sym, ap, ◌∙◌}
use mathlib.Core.List.{List}
use Prim.Native.Nat.{ℕ, ◌+◌, ◌-◌, ◌≤◌}
use native.Mathlib.Omega.{arith}
use lib.ListN.{length, length-replicate}
use borrow.Author.Tests.{ltb-false}
use Rattle.refusal.specs.declared.Fault.{Fault}
use Rattle.refusal.specs.Answers.{Answer, given}
use Rattle.refusal.proofs.Answers.{by_test, no_answer, given_once}
use Rattle.curve.specs.declared.Curve.{Curve}
use Rattle.std.specs.Prelude.{Option, Some, None, Result, Ok, Err}
use Rattle.record.specs.declared.kinds.Kind.TheVariants.{Header}
use Rattle.record.specs.Kinds.{row_of, kind_of}
use Rattle.record.specs.Records.{erased}
use Rattle.record.specs.Promise.{bytes_after}
use Rattle.record.proofs.Kept.{Kept, kept-all, put-kept}
use Rattle.sheet.specs.Survey.{Ending, survey, mission_of}
use Rattle.sheet.specs.Promise.{Changes, starting, erasing, StartsFor, Erases, Appends}
use Rattle.sheet.proofs.Changed.{appending-none, appending-sound, appending-faulty}

pub refused-kept : {s t : List ℕ} {asked : Answer (List ℕ)} {f : Fault} → Changes s asked t (Err f) → t ≡ s
refused-kept {s} h = h.leaves ∙ ap (bytes_after s) (sym h.says)

pub append-kept : (s : List ℕ) (c : Curve) (t : List ℕ) (r : Result (Unit {0}) Fault) → Appends s c t r → Kept s t (survey s).end ((survey s).end + (row_of (kind_of c)).size)
append-kept s c t (Err f) h = kept-all (refused-kept h.changes)
append-kept s c t (Ok _) h = by (survey s).ending (mission_of (survey s).records) refl refl
  where
    by : (how : Ending) (own : Option ℕ) → (survey s).ending ≡ how → mission_of (survey s).records ≡ own → Kept s t (survey s).end ((survey s).end + (row_of (kind_of c)).size)
    by (Ok done) (Some m) e own =
        let asked = appending-sound s c e own in
        put-kept s (survey s).end c t (Ok tt) (record { says = h.changes.says ∙ asked; leaves = h.changes.leaves ∙ ap (bytes_after s) asked })
    by (Ok done) None e own = no_answer (h.changes.says ∙ appending-none s c e own)
    by (Err f) own e m = no_answer (h.changes.says ∙ appending-faulty s c e)

pub start-length : (s : List ℕ) (m : ℕ) (t : List ℕ) (r : Result (Unit {0}) Fault) → StartsFor s m t r → length t ≡ length s
unfolding starting
start-length s m t (Err f) h = ap length (refused-kept h)
start-length s m t (Ok _) h =
    by_test Long _ (λ _ e. no_answer e) (λ _. by_test Long _ (λ _ e. no_answer e) (λ n e.
    let fits : (row_of Header).size ≤ length s = ltb-false _ _ n in
    omega (arith, ap length (given_once e), length-replicate {A = ℕ} (length s - (row_of Header).size) erased)))
    h.says
  where
    Long : Answer (List ℕ) → Type 0
    Long a = given t ≡ a → length t ≡ length s

pub erase-length : (s t : List ℕ) (r : Result (Unit {0}) Fault) → Erases s t r → length t ≡ length s
unfolding erasing
erase-length s t (Err f) h = ap length (refused-kept h)
erase-length s t (Ok _) h = by_test (λ (a : Answer (List ℕ)). given t ≡ a → length t ≡ length s) _ (λ _ e. no_answer e) (λ _ e. ap length (given_once e) ∙ length-replicate (length s) erased) h.says

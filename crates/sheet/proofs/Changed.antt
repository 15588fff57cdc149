-- What start, erase and append say and leave, by their tests.
--   start-long, start_narrow, start_done   start
--   erase-long, erase_short          erase
--   appending_to_lem, appending-none, appending-sound, appending-faulty   what is asked of append, by how the records end and by the mission
--   append-none, append_done, append-refused   append, where the sheet is sound: without a mission, or what the writing of the record says and leaves
use mathlib.Core.Path.{◌≡◌, sym, ap, ◌∙◌}
use mathlib.Core.List.{List, ◌++◌}
use Prim.Native.Nat.{ℕ, ◌-◌, ◌≤◌, ◌<◌}
use lib.ListN.{length, replicate}
use borrow.Author.Tests.{lt-ltb, le-ltb}
use Rattle.refusal.specs.declared.Refusal.{Refusal}
use Rattle.refusal.specs.declared.Refusal.TheVariants as refusal
use Rattle.refusal.specs.declared.Fault.{Fault}
use Rattle.refusal.specs.Answers.{Answer, refused, given, refuse, then_given, when◌then◌else◌}
use Rattle.curve.specs.declared.Curve.{Curve}
use Rattle.curve.specs.Curves.{points_of}
use Rattle.record.specs.declared.kinds.Kind.TheVariants.{Header}
use Rattle.std.specs.Prelude.{Some, None, Ok, Err}
use Rattle.record.specs.Kinds.{row_of, kind_of, numbers_of, header_of}
use Rattle.record.specs.Promise.{putting_at, bytes_after, PutsAt}
use Rattle.record.specs.Records.{longest, erased}
use Rattle.sheet.specs.Survey.{Ending, survey, soundly, mission_of}
use Rattle.sheet.specs.Promise.{starting, erasing, appending_to, appending, Changes}

-- what was asked for, and done
done_as : {s t : List ℕ} {asked : Answer (List ℕ)} → asked ≡ given t → Changes s asked t (Ok tt)
done_as {s} e = record { says = sym e; leaves = sym (ap (bytes_after s) e) }

-- refused, with nothing changed
refused_as : {s : List ℕ} {asked : Answer (List ℕ)} {r : Refusal} {f : Fault} → asked ≡ refuse r 0 → f ≡ record { refusal = r; place = 0 } → Changes s asked s (Err f)
refused_as {s} e g = record { says = ap refused g ∙ sym e; leaves = sym (ap (bytes_after s) e) }

module _ (s : List ℕ) (m : ℕ) where
  pub start-long : {f : Fault} → longest < length s → f ≡ record { refusal = refusal.TooLong; place = 0 } → Changes s (starting s m) s (Err f)
  unfolding starting when◌then◌else◌
  start-long l = refused_as (rw (lt-ltb _ _ l))

  pub start_narrow : {f : Fault} → length s ≤ longest → length s < (row_of Header).size → f ≡ record { refusal = refusal.Room; place = 0 } → Changes s (starting s m) s (Err f)
  unfolding starting when◌then◌else◌
  start_narrow l n = refused_as (rw (le-ltb _ _ l, lt-ltb _ _ n))

  pub start_done : {t : List ℕ} → length s ≤ longest → (row_of Header).size ≤ length s → t ≡ header_of m ++ replicate (length s - (row_of Header).size) erased → Changes s (starting s m) t (Ok tt)
  unfolding starting when◌then◌else◌
  start_done l n e = done_as (rw (le-ltb _ _ l, le-ltb _ _ n) (ap given (sym e)))

pub erase-long : (s : List ℕ) {f : Fault} → longest < length s → f ≡ record { refusal = refusal.TooLong; place = 0 } → Changes s (erasing s) s (Err f)
unfolding erasing when◌then◌else◌
erase-long s l = refused_as (rw (lt-ltb _ _ l))

pub erase_short : (s : List ℕ) {t : List ℕ} → length s ≤ longest → t ≡ replicate (length s) erased → Changes s (erasing s) t (Ok tt)
unfolding erasing when◌then◌else◌
erase_short s l e = done_as (rw (le-ltb _ _ l) (ap given (sym e)))

module _ (s : List ℕ) (c : Curve) where
  pub appending_to_lem : (survey s).ending ≡ Ok tt → appending s c ≡ appending_to s c (mission_of (survey s).records)
  unfolding appending
  appending_to_lem e = ap (λ (how : Ending). then_given (λ es. appending_to s c (mission_of es)) (soundly how (survey s).records)) e

  pub appending-none : (survey s).ending ≡ Ok tt → mission_of (survey s).records ≡ None → appending s c ≡ refuse refusal.NoMission 0
  appending-none e m = appending_to_lem e ∙ ap (appending_to s c) m

  pub appending-sound : {m : ℕ} → (survey s).ending ≡ Ok tt → mission_of (survey s).records ≡ Some m → appending s c ≡ putting_at s (survey s).end (kind_of c) (numbers_of (points_of c))
  appending-sound e m = appending_to_lem e ∙ ap (appending_to s c) m

  pub appending-faulty : {f : Fault} → (survey s).ending ≡ Err f → appending s c ≡ refused f
  unfolding appending
  appending-faulty e = rw e

  pub append-none : {f : Fault} → (survey s).ending ≡ Ok tt → mission_of (survey s).records ≡ None → f ≡ record { refusal = refusal.NoMission; place = 0 } → Changes s (appending s c) s (Err f)
  append-none e m = refused_as (appending-none e m)

  module _ {m : ℕ} (sound : (survey s).ending ≡ Ok tt) (own : mission_of (survey s).records ≡ Some m) {t : List ℕ} where
    pub append_done : PutsAt s (survey s).end (kind_of c) (numbers_of (points_of c)) t (Ok tt) → Changes s (appending s c) t (Ok tt)
    append_done h = let e = appending-sound sound own in record { says = h.says ∙ sym e; leaves = h.leaves ∙ ap (bytes_after s) (sym e) }

    pub append-refused : {r : Refusal} {f : Fault} → PutsAt s (survey s).end (kind_of c) (numbers_of (points_of c)) t (Err r) → f ≡ record { refusal = r; place = 0 } → Changes s (appending s c) t (Err f)
    append-refused h g = let e = appending-sound sound own in record { says = ap refused g ∙ h.says ∙ sym e; leaves = h.leaves ∙ ap (bytes_after s) (sym e) }

-- What each call on a sheet promises. r is what it returns; s and t are the sheet, before and after a lent area, as they were and as they are left.
--   numbers_of_entry, place_numbers   what read and find hand over of a record
--   count_of_change                  a sheet that was written gives nothing to count
--   CheckCall, ReadCall, FindCall, StartForCall, EraseCall, AppendCall, ReportCall   the calls
use Rattle.std.specs.Prelude.{◌≡◌, List, [], ◌∷◌, ℕ, ℤ, pos, length, Result}
use Rattle.refusal.specs.declared.Fault.{Fault}
use Rattle.refusal.specs.declared.Refusal.TheVariants as refusal
use Rattle.refusal.specs.Answers.{Answer, refuse, with_given, answer_of, answer_at}
use Rattle.record.specs.Kinds.{numbers_of}
use Rattle.sheet.specs.Survey.{Entry, outcome, chosen}
use Rattle.sheet.specs.Promise.{count_of, points_of_entry, StartsFor, Erases, Appends}
use Rattle.report_text.specs.Promise.{Reported}
use Rattle.hand.specs.Promise.{coded, Hands, Counted, OnCurve}

abbrev pub numbers_of_entry : Entry → List ℤ
numbers_of_entry e = numbers_of (points_of_entry e)

abbrev pub place_numbers : Entry → List ℤ
place_numbers e = pos e.place ∷ pos (length e.bytes) ∷ []

abbrev pub count_of_change : Result (Unit {0}) Fault → Answer ℕ
count_of_change r = with_given (λ _. 0) (answer_at r)

abbrev pub CheckCall : List ℕ → ℤ → Type 0
CheckCall s r = r ≡ coded (with_given count_of (outcome s))

abbrev pub ReadCall : List ℕ → ℕ → ℕ → List ℤ → List ℤ → ℤ → Type 0
ReadCall s mission number = Hands (with_given numbers_of_entry (chosen mission number s))

abbrev pub FindCall : List ℕ → ℕ → ℕ → List ℤ → List ℤ → ℤ → Type 0
FindCall s mission number = Hands (with_given place_numbers (chosen mission number s))

abbrev pub StartForCall : List ℕ → ℕ → List ℕ → ℤ → Type 0
StartForCall s mission t = Counted (StartsFor s mission t) count_of_change

abbrev pub EraseCall : List ℕ → List ℕ → ℤ → Type 0
EraseCall s t = Counted (Erases s t) count_of_change

-- a wrong count of numbers is refused before anything else
abbrev pub AppendCall : List ℕ → List ℤ → List ℕ → ℤ → Type 0
AppendCall s p t r = OnCurve p ((r ≡ coded (refuse refusal.Length 0)) × (t ≡ s)) (λ c. Counted (Appends s c t) count_of_change r)

abbrev pub ReportCall : List ℕ → List ℕ → List ℕ → ℤ → Type 0
ReportCall s before after = Counted (Reported s before after) answer_of

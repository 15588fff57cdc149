-- What a call has to say, and the one promise of the calls that refuse by causes.
--   Answer                          what a call gives, or the fault that it refuses with
--   refuse                          a refusal by its name and its place
--   answer_of, answer_at            what a result says, where the error is a refusal that is about no place, and where it is a fault
--   number_of_answer                01's number: 0 where something is given
--   with_given, then_given          what is made of what is given; a refusal stays
--   when◌then◌else◌                 a choice by a test, so that definitions read as 01 writes them: in order, the first test that holds decides
--   FirstOr                         the promise: the first of these causes that holds, or else this answer
use Rattle.std.specs.Prelude.{◌≡◌, Bool, true, false, List, ℕ, Result, Ok, Err}
use Rattle.refusal.specs.declared.Refusal.{Refusal}
use Rattle.refusal.specs.declared.Fault.{Fault}
use Rattle.refusal.specs.Table.{Cause, First, number_of}

pub data Answer (A : Type 0) : Type 0 where
  refused : Fault → Answer A
  given : A → Answer A

abbrev pub refuse : {A : Type 0} → Refusal → ℕ → Answer A
refuse r place = refused (record { refusal = r; place = place })

abbrev pub answer_of : {A : Type 0} → Result A Refusal → Answer A
answer_of (Ok a) = given a
answer_of (Err r) = refuse r 0

abbrev pub answer_at : {A : Type 0} → Result A Fault → Answer A
answer_at (Ok a) = given a
answer_at (Err f) = refused f

abbrev pub number_of_answer : {A : Type 0} → Answer A → ℕ
number_of_answer (refused f) = number_of f.refusal
number_of_answer (given a) = 0

abbrev pub then_given : {A B : Type 0} → (A → Answer B) → Answer A → Answer B
then_given f (refused x) = refused x
then_given f (given a) = f a

abbrev pub with_given : {A B : Type 0} → (A → B) → Answer A → Answer B
with_given f (refused x) = refused x
with_given f (given a) = given (f a)

infixr 5 when◌then◌else◌
unfoldable pub when◌then◌else◌ {ℓ} : {X : Type ℓ} → Bool → X → X → X
when true then x else y = x
when false then x else y = y

-- a cause has no place in a sheet
abbrev pub FirstOr : {A : Type 0} → List Cause → (A → Type 0) → Answer A → Type 0
FirstOr causes Says (refused f) = First causes (number_of f.refusal) × (f.place ≡ 0)
FirstOr causes Says (given a) = First causes 0 × Says a

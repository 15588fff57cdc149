-- What is found does not depend on the place at which reading begins: each place moves with it.
--   moved_ending, moved_entry, moved   an ending, a record and a survey, so many places farther on
--   reads-moved      what is found from a place farther on
--   curves-moved     there are as many curves
use mathlib.Core.Path.{◌≡◌, refl, ap, ◌∙◌}
use mathlib.Core.Bool.{Bool, true, false}
use mathlib.Core.List.{List, [], ◌∷◌, map}
use Prim.Native.Nat.{ℕ, zero, suc, ◌+◌}
use native.Mathlib.Omega.{arith}
use lib.ListN.{length, drop}
use Rattle.refusal.specs.Answers.{when◌then◌else◌}
use Rattle.std.specs.Prelude.{Some, None, Ok, Err}
use Rattle.record.specs.Kinds.{row_of}
use Rattle.record.specs.Records.{Step, step_of}
use Rattle.sheet.specs.Survey.{Ending, Entry, Survey, entry_at, nothing, before, found, survey_from, curves}
use Rattle.sheet.proofs.Surveys.{reads}

abbrev pub moved_ending : ℕ → Ending → Ending
moved_ending d (Ok done) = Ok done
moved_ending d (Err f) = Err (record { refusal = f.refusal; place = d + f.place })

abbrev pub moved_entry : ℕ → Entry → Entry
moved_entry d e = record { place = d + e.place; kind = e.kind; bytes = e.bytes }

abbrev pub moved : ℕ → Survey → Survey
moved d v = record { records = map (moved_entry d) v.records; end = d + v.end; ending = moved_ending d v.ending }

from-moved : (d most : ℕ) (first : Bool) (at : ℕ) (rest : List ℕ) → survey_from most first (d + at) rest ≡ moved d (survey_from most first at rest)
unfolding survey_from
from-moved d zero first at rest = refl
from-moved d (suc most) first at rest = by_step (step_of first rest) (λ p t. from-moved d most false p t)
  where
    Later : ℕ → ℕ → Survey
    Later p size = survey_from most false (p + size) (drop size rest)

    by_step : (x : Step) → ((p : ℕ) (t : List ℕ) → survey_from most false (d + p) t ≡ moved d (survey_from most false p t)) → found (d + at) rest (Later (d + at)) x ≡ moved d (found at rest (Later at) x)
    by_step (Ok None) f = refl
    by_step (Err slip) f = ap (λ (n : ℕ). nothing (d + at) (Err (record { refusal = slip.refusal; place = n }))) (omega arith)
    by_step (Ok (Some k)) f =
        let size = (row_of k).size in
        let there : d + at + size ≡ d + (at + size) = omega arith in
        ap (before (entry_at (d + at) rest k)) (ap (λ (n : ℕ). survey_from most false n (drop size rest)) there ∙ f (at + size) (drop size rest))

pub reads-moved : (first : Bool) (d at : ℕ) (rest : List ℕ) → reads first (d + at) rest ≡ moved d (reads first at rest)
unfolding reads
reads-moved first d at rest = from-moved d (suc (length rest)) first at rest

pub curves-moved : (d : ℕ) (es : List Entry) → length (curves (map (moved_entry d) es)) ≡ length (curves es)
unfolding when◌then◌else◌
curves-moved d [] = refl
curves-moved d (e ∷ es) = by (row_of e.kind).curve (curves-moved d es)
  where
    later : List Entry
    later = curves (map (moved_entry d) es)

    by : (b : Bool) → length later ≡ length (curves es) → length (when b then moved_entry d e ∷ later else later) ≡ length (when b then e ∷ curves es else curves es)
    by true q = ap suc q
    by false q = q

-- What the walk tells each call.
--   other_located, asked_located       where the curve of a number stands, on a sheet of the expected mission
--   Located, located                   what `locate` names is the record that is chosen
--   located_read                       and its curve is what `read` gives
--   located_found                      it is within the sheet's 4,096 bytes, and is the part that `find` gives, and where
use mathlib.Core.Path.{◌≡◌, refl, sym, ap, ◌∙◌}
use mathlib.Core.Bool.{true, false}
use mathlib.Core.List.{List}
use Prim.Native.Nat.{ℕ, ◌+◌, ◌≤◌}
use lib.ListN.{length, take, drop}
use Rattle.refusal.specs.declared.Refusal.TheVariants as refusal
use Rattle.refusal.specs.declared.Fault.{Fault}
use Rattle.refusal.specs.Answers.{Answer, refused, given, with_given}
use Rattle.refusal.proofs.Answers.{no_answer, given_once}
use Rattle.curve.specs.declared.Curve.{Curve}
use Rattle.record.specs.Records.{longest}
use Rattle.std.specs.Prelude.{Ok}
use Rattle.sheet.specs.declared.walks.Walked.{Walked}
use Rattle.sheet.specs.Survey.{Ending, Entry, survey, mission_of, is_other, chosen}
use Rattle.sheet.specs.Promise.{points_of_entry, place_of, part, start_of, HasCurve, Reads, Locates, Finds}
use Rattle.sheet.specs.declared.Location.{Location}
use Rattle.sheet.specs.Walks.{asked_for, Walks}
use Rattle.sheet.proofs.Standing.{numbered-sound}
use Rattle.sheet.proofs.Missions.{chosen-own, chosen_other, chosen-numbered}
use Rattle.sheet.proofs.Places.{Stands, choice, fits, bytes-at}

module _ {s : List ℕ} {number : ℕ} {w : Walked} (h : Walks s true number w) where
  ending_is : {how : Ending} → w.ending ≡ how → (survey s).ending ≡ how
  ending_is e = sym h.ending_is ∙ e

  module _ (expected : ℕ) where
    pub other_located : {f : Fault} → w.ending ≡ Ok tt → is_other expected (mission_of (survey s).records) ≡ true → f ≡ record { refusal = refusal.OtherMission; place = 0 } →
        refused f ≡ with_given place_of (chosen expected number s)
    other_located e o g = ap refused g ∙ sym (ap (with_given place_of) (chosen_other s expected number (ending_is e) o))

    pub asked_located : w.ending ≡ Ok tt → is_other expected (mission_of (survey s).records) ≡ false → asked_for w.asked ≡ with_given place_of (chosen expected number s)
    asked_located e own =
        h.asked ∙ sym (ap (with_given place_of) (chosen-own s expected number (ending_is e) own ∙ numbered-sound s number (ending_is e)))

module _ (s : List ℕ) (expected number : ℕ) where
  -- what `locate` names is the record that is chosen, which has the number
  module _ (at : Location) (h : Locates s expected number (Ok at)) where
    pub record Located : Type 0 where
      pub here : Stands s number at.place at.length
      pub chosen_is : chosen expected number s ≡ given here.entry

    pub located : Located
    located = by (chosen expected number s) refl h
      where
        by : (a : Answer Entry) → chosen expected number s ≡ a → given at ≡ with_given place_of a → Located
        by (refused f) q e = no_answer e
        by (given x) q e =
            let both = sym (given_once e) in
            record {
              here = record { entry = x; numbered_is = (chosen-numbered s expected number q).0; place_is = ap (λ (l : Location). l.place) both; long_is = ap (λ (l : Location). l.length) both };
              chosen_is = q;
            }

    pub located_read : (c : Curve) → HasCurve s number c → Reads s expected number (Ok c)
    located_read c e = e ∙ ap (with_given points_of_entry) (located.here.numbered_is ∙ sym located.chosen_is)

    pub located_found : (length s ≤ longest) × (at.place + at.length ≤ length s) × Finds s expected number (take at.length (drop at.place s)) × (start_of (chosen expected number s) ≡ at.place)
    located_found =
        let here = located.here in
        ((choice here).short, fits here, bytes-at here ∙ sym (ap part located.chosen_is), ap start_of located.chosen_is ∙ here.place_is)

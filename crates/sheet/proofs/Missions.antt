-- The mission of a sheet: the number of the header that comes first.
--   first-is-header  the first record of a sheet is a header, and no other is one
--   MissionAt, mission-at   where the records end at 0 there is none, and no mission; else the sheet's own bytes hold the number
--   MissionSmall, mission_small   the number of a sheet of bytes has two bytes
--   mission_after    behind a mission's records nothing is at the first byte
--   chosen-sound, chosen-own, chosen_other, chosen-faulty   the curve of a number under an expected mission, by the sheet's own
--   chosen-numbered  a curve that is chosen has the number, on a sheet of the expected mission
use mathlib.Core.Path.{◌≡◌, refl, sym, ap, ◌∙◌, subst}
use mathlib.Core.Bool.{Bool, true, false}
use mathlib.Core.List.{List, [], ◌∷◌, ◌++◌}
use Prim.Native.Nat.{ℕ, ◌+◌, ◌*◌, ◌≤◌, ◌<◌}
use native.Mathlib.Omega.{arith}
use lib.ListN.{length, get_or, length-append, get_or-append}
use mir.Syntax.{w8}
use mir.Val.{Fits}
use Rattle.refusal.specs.declared.Refusal.TheVariants as refusal
use Rattle.refusal.specs.declared.Fault.{Fault}
use Rattle.refusal.specs.Answers.{Answer, refused, given, refuse, then_given, when◌then◌else◌}
use Rattle.refusal.proofs.Answers.{by_test, by_order, no_answer}
use Rattle.record.specs.declared.kinds.Kind.{Kind}
use Rattle.record.specs.declared.kinds.Kind.TheVariants.{Header}
use Rattle.record.specs.Numbers.{mission_in}
use Rattle.record.specs.Kinds.{row_of}
use Rattle.record.specs.Records.{longest}
use Rattle.record.proofs.Headers.{first-header, later_plain}
use Rattle.std.specs.Prelude.{Option, Some, None, Ok, Err}
use Rattle.sheet.specs.Survey.{Ending, Entry, Survey, survey, soundly, curves, nth, numbered, mission_of, is_other, chosen}
use Rattle.sheet.proofs.Surveys.{flat, Listed, first_after, survey-long, sheet_parts}
use Rattle.sheet.proofs.Standing.{numbered-sound}

-- ---- the header

abbrev NoHeader : List Entry → Type 0
NoHeader [] = Unit {0}
NoHeader (e ∷ es) = ((row_of e.kind).first ≡ false) × NoHeader es

abbrev pub HeaderFirst : List Entry → Type 0
HeaderFirst [] = Unit {0}
HeaderFirst (e ∷ es) = (e.kind ≡ Header) × (e.place ≡ 0) × NoHeader es

later_none : (at : ℕ) (es : List Entry) → Listed false at es → NoHeader es
later_none at [] w = tt
later_none at (e ∷ es) w = (later_plain e.kind w.1, later_none (at + length e.bytes) es w.3)

pub first-is-header : (s : List ℕ) → HeaderFirst (survey s).records
first-is-header s =
    by_order (length s) longest
    (λ l. by (survey s).records (sheet_parts true s l).listed)
    (λ l. subst (λ (v : Survey). HeaderFirst v.records) (sym (survey-long true s l)) tt)
  where
    by : (es : List Entry) → Listed true 0 es → HeaderFirst es
    by [] w = tt
    by (e ∷ es) w = (first-header e.kind w.1, w.0, later_none (0 + length e.bytes) es w.3)

-- ---- the number

pub record MissionAt (s : List ℕ) (own : Option ℕ) (end : ℕ) : Type 0 where
  pub none : end ≡ 0 → own ≡ None
  pub some : (end ≡ 0 → ⊥) → ((row_of Header).size ≤ length s) × (own ≡ Some (mission_in s))

pub mission-at : (s : List ℕ) → MissionAt s (mission_of (survey s).records) (survey s).end
mission-at s =
    by_order (length s) longest
    (λ l.
    let p = sheet_parts true s l in
    by (survey s).records p.tail p.parts p.listed p.end_is)
    (λ l.
    let long = survey-long true s l in
    record {
      none = λ _. ap (λ (v : Survey). mission_of v.records) long;
      some = λ n. absurd (n (ap (λ (v : Survey). v.end) long));
    })
  where
    by : (es : List Entry) (tail : List ℕ) {end : ℕ} → s ≡ flat es ++ tail → Listed true 0 es → end ≡ 0 + length (flat es) → MissionAt s (mission_of es) end
    by [] tail parts w end = record { none = λ _. refl; some = λ n. absurd (n (end ∙ omega arith)) }
    by (e ∷ es) tail parts w end =
        let long : length e.bytes ≡ (row_of Header).size = w.2.long ∙ ap (λ (k : Kind). (row_of k).size) (first-header e.kind w.1) in
        let all = length-append e.bytes (flat es) in
        let whole = length-append (flat (e ∷ es)) tail in
        let byte : (i : ℕ) → i < (row_of Header).size → get_or e.bytes i 0 ≡ get_or s i 0 =
        λ i l.
        sym (get_or-append e.bytes (flat es) 0 i (omega arith))
        ∙ sym (get_or-append (flat (e ∷ es)) tail 0 i (omega arith))
        ∙ ap (λ (t : List ℕ). get_or t i 0) (sym parts)
        in
        record {
          none = λ z. absurd (omega arith);
          some = λ _. (omega (arith, ap length parts), (λ i. Some (byte 4 (omega arith) i + 256 * byte 5 (omega arith) i)));
        }

abbrev pub MissionSmall : Option ℕ → Type 0
MissionSmall None = Unit {0}
MissionSmall (Some m) = m < 65536

pub mission_small : (s : List ℕ) → ((i : ℕ) → Fits w8 (get_or s i 0)) → MissionSmall (mission_of (survey s).records)
mission_small s bytes =
    by_order (survey s).end 0
    (λ z. subst MissionSmall (sym ((mission-at s).none (omega arith))) tt)
    (λ n. subst MissionSmall (sym ((mission-at s).some (λ z. omega arith)).1) (omega (arith, bytes 4, bytes 5)))

pub mission_after : (es : List Entry) {m : ℕ} → mission_of es ≡ Some m → first_after true es ≡ false
mission_after [] e = let z : ◌≡◌ {A = ℕ} 0 1 = cc in absurd (omega arith)
mission_after (x ∷ es) e = refl

-- ---- under an expected mission

module _ (s : List ℕ) (expected number : ℕ) where
  pub chosen-sound : (survey s).ending ≡ Ok tt →
      chosen expected number s ≡ (when is_other expected (mission_of (survey s).records) then refuse refusal.OtherMission 0 else numbered number s)
  chosen-sound e =
      ap (λ (how : Ending). then_given (λ es. when is_other expected (mission_of es) then refuse refusal.OtherMission 0 else nth number (curves es)) (soundly how (survey s).records)) e
      ∙ ap (λ (a : Answer Entry). when is_other expected (mission_of (survey s).records) then refuse refusal.OtherMission 0 else a) (sym (numbered-sound s number e))

  pub chosen-own : (survey s).ending ≡ Ok tt → is_other expected (mission_of (survey s).records) ≡ false → chosen expected number s ≡ numbered number s
  unfolding when◌then◌else◌
  chosen-own e o = chosen-sound e ∙ ap (λ (b : Bool). when b then refuse refusal.OtherMission 0 else numbered number s) o

  pub chosen_other : (survey s).ending ≡ Ok tt → is_other expected (mission_of (survey s).records) ≡ true → chosen expected number s ≡ refuse refusal.OtherMission 0
  unfolding when◌then◌else◌
  chosen_other e o = chosen-sound e ∙ ap (λ (b : Bool). when b then refuse refusal.OtherMission 0 else numbered number s) o

  pub chosen-faulty : {f : Fault} → (survey s).ending ≡ Err f → chosen expected number s ≡ refused f
  chosen-faulty e =
      ap (λ (how : Ending). then_given (λ es. when is_other expected (mission_of es) then refuse refusal.OtherMission 0 else nth number (curves es)) (soundly how (survey s).records)) e

  pub chosen-numbered : {e : Entry} → chosen expected number s ≡ given e → (numbered number s ≡ given e) × (is_other expected (mission_of (survey s).records) ≡ false)
  chosen-numbered {e} q = by (survey s).ending refl
    where
      by : (how : Ending) → (survey s).ending ≡ how → (numbered number s ≡ given e) × (is_other expected (mission_of (survey s).records) ≡ false)
      by (Ok done) h =
          by_test (λ (a : Answer Entry). a ≡ given e → (numbered number s ≡ given e) × (is_other expected (mission_of (survey s).records) ≡ false)) _
          (λ _ z. no_answer (sym z)) (λ o z. (z, o)) (sym (chosen-sound h) ∙ q)
      by (Err f) h = no_answer (sym (sym (chosen-faulty h) ∙ q))

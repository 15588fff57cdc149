-- The bytes that arrive, and their line.
--   bytes-all      numbers that a byte holds
--   part_ok, part_taken     a part more, which is not refused.      count_grows   which is counted
--   Says, says, says_ok, says_some     what is told once the bytes have ended: the answer of their check, which is there
--   line_short     a line has at most 24 bytes
--   line_first     it is the first of the report
use mathlib.Core.Path.{◌≡◌, refl, sym, ap, ◌∙◌, subst}
use mathlib.Core.Bool.{Bool, true, false}
use mathlib.Core.List.{List, [], ◌∷◌, ◌++◌, append-nil}
use Prim.Native.Nat.{ℕ, suc, ◌-◌, ◌≤◌, ◌<◌, min}
use native.Mathlib.Omega.{arith}
use lib.ListN.{length, get_or, length-append}
use mir.Syntax.{w8}
use mir.Val.{Fits}
use Rattle.std.specs.Prelude.{Option, Some, None, Result, Ok, Err}
use Rattle.std.specs.Option.{IsSome}
use Rattle.std.specs.Result.{IsOk}
use Rattle.refusal.specs.declared.Refusal.{Refusal}
use Rattle.refusal.specs.declared.Fault.{Fault}
use Rattle.refusal.specs.Answers.{Answer, refused, given, with_given}
use Rattle.refusal.proofs.Answers.{by_order}
use Rattle.record.specs.Numbers.{AllBytes}
use Rattle.record.specs.Records.{longest}
use Rattle.record.proofs.Words.{all_append}
use Rattle.sheet.specs.declared.Checked.{Checked}
use Rattle.sheet.specs.Survey.{Entry, survey, outcome, mission_of}
use Rattle.sheet.specs.Promise.{count_of, told_of, Checks}
use Rattle.sheet.proofs.Surveys.{sound_of}
use Rattle.sheet.proofs.Faults.{curves_few}
use Rattle.sheet.proofs.Missions.{mission_small}
use Rattle.report_text.specs.Promise.{ReportOf, Report}
use Rattle.report_text.proofs.Short.{refused_short, first_short}
use Rattle.states.specs.declared.State.{State}
use Rattle.states.specs.States.{state_of, IsOf}
use Rattle.parts.specs.Promise.{Feeds, EndsSheet, ends, Asks, checked}
use Rattle.states.specs.Steps.{answer_in}
use Rattle.states.proofs.Packed.{byte_at}
use Rattle.states.proofs.Fronts.{state-long, state_short}
use Rattle.states.proofs.Outcome.{answer-is}
use Rattle.parts.proofs.Once.{feeds_each, ends_once, asks_once}
use Rattle.cable.specs.Cables.{answer_line, line_of}

pub bytes-all : (bytes : List ℕ) → ((i : ℕ) → Fits w8 (get_or bytes i 0)) → AllBytes bytes
bytes-all [] h = tt
bytes-all (b ∷ bytes) h = (omega (arith, h 0), bytes-all bytes (λ i. h (suc i)))

-- ---- a part more

pub part_ok : (st : State) (s part : List ℕ) (x : Result State Fault) → Feeds st part x → IsOf st s false → IsOk x
part_ok st s part x f h = subst IsOk (sym (feeds_each st s part x h f)) refl

pub part_taken : (st next : State) (s part : List ℕ) {x : Result State Fault} → AllBytes part → Feeds st part x → x ≡ Ok next → IsOf st s false → IsOf next (s ++ part) false
part_taken st next s part {x} b f e h =
    let p = feeds_each st s part x h f in
    record { bytes = all_append s part h.bytes b; is = cc }

count_of_lem : (st : State) (s : List ℕ) (ended : Bool) → IsOf st s ended → st.count ≡ min (length s) (suc longest)
count_of_lem st s ended h =
    by_order (length s) longest
    (λ l. omega (arith, ap (λ (x : State). x.count) h.is, ap (λ (x : State). x.count) (state_short s ended l)))
    (λ l. omega (arith, ap (λ (x : State). x.count) h.is, ap (λ (x : State). x.count) (state-long s ended l)))

pub count_grows : (st next : State) (s part : List ℕ) → IsOf st s false → IsOf next (s ++ part) false → 0 < length part → st.count ≤ longest
    → suc longest - next.count < suc longest - st.count
count_grows st next s part h k some l =
    omega (arith, count_of_lem st s false h, count_of_lem next (s ++ part) false k, length-append s part)

-- ---- the end

abbrev pub Says : List ℕ → Result (Option (Result Checked Fault)) Refusal → Type 0
Says s (Ok (Some answer)) = Checks s answer
Says s (Ok None) = ⊥
Says s (Err r) = ⊥

pub says : (st ended : State) (x : Result (Option (Result Checked Fault)) Refusal) → EndsSheet st ended → Asks ended x → (s : List ℕ) → IsOf st s false → Says s x
says st ended x e a s h = subst (Says s) (sym (asks_once ended x (Ok (Some (answer_in ended))) a (checked s (answer_in ended) k c))) c
  where
    k : IsOf ended s true
    k = record { bytes = h.bytes; is = ends_once st ended (state_of s true) e (ends s false h) }

    c : Checks s (answer_in ended)
    c = answer-is ended s true k

pub says_ok : (s : List ℕ) (x : Result (Option (Result Checked Fault)) Refusal) → Says s x → IsOk x
says_ok s (Ok y) h = refl
says_ok s (Err r) h = absurd h

pub says_some : (s : List ℕ) (y : Option (Result Checked Fault)) → Says s (Ok y) → IsSome y
says_some s (Some answer) h = refl
says_some s None h = absurd h

-- ---- the line

pub line_short : (s : List ℕ) → AllBytes s → length (line_of s) ≤ 24
line_short s bytes = by (outcome s) refl
  where
    short : (es : List Entry) → (survey s).records ≡ es → length (answer_line (given (told_of es))) ≤ 24
    short es e =
        subst (λ (l : List Entry). length (answer_line (given (told_of l))) ≤ 24) e
        (first_short (mission_of (survey s).records) (count_of (survey s).records) (mission_small s (λ i. record { fits = byte_at s bytes i })) (curves_few s))

    by : (a : Answer (List Entry)) → outcome s ≡ a → length (answer_line (with_given told_of a)) ≤ 24
    by (refused f) o = omega (arith, refused_short s f o)
    by (given es) o = short es (sound_of s o).1

pub line_first : (s text : List ℕ) → Report s text → (rest : List ℕ) × (text ≡ line_of s ++ rest)
line_first s text = by (with_given told_of (outcome s))
  where
    by : (a : Answer Checked) → ReportOf s a text → (rest : List ℕ) × (text ≡ answer_line a ++ rest)
    by (refused f) h = ([], h ∙ sym (append-nil (answer_line (refused f))))
    by (given told) (lines, of_curves, is) = (lines, is)

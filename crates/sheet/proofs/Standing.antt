-- The records of a sheet, each where it stands, and the curves among them.
--   Standing            a record is a part of the sheet, whole, at its place
--   all_stand           so is every record of the survey
--   curves-append       the curves of one list and then another
--   nth_last, nth_other the curve of a number, where one more stands at the list's end
--   nth_stands          a curve that has a number is a record that stands, and a curve
--   numbered-sound, numbered-faulty     what the ending says of the curve of a number
--   Numbered, numbered_of   a curve that has a number: a record that stands, in a sound sheet.      entry_long   it is not empty
use mathlib.Core.Path.{◌≡◌, refl, sym, ap, ◌∙◌, subst}
use mathlib.Core.Bool.{Bool, true, false}
use mathlib.Core.List.{List, [], ◌∷◌, ◌++◌, append_assoc}
use Prim.Native.Nat.{ℕ, zero, suc, ◌+◌, ◌≤◌, ◌<◌}
use native.Mathlib.Omega.{arith}
use lib.ListN.{length, take, drop, length-append}
use lib.Seq.{take_at, drop_at}
use Rattle.refusal.specs.declared.Fault.{Fault}
use Rattle.refusal.specs.Answers.{refused, given, then_given, when◌then◌else◌}
use Rattle.refusal.proofs.Answers.{by_test, by_order, no_answer, given_once}
use Rattle.record.specs.Kinds.{row_of}
use Rattle.record.proofs.Shown.{Whole}
use Rattle.record.proofs.Table.{row-known}
use Rattle.record.specs.Records.{longest}
use Rattle.std.specs.Prelude.{Ok, Err}
use Rattle.sheet.specs.Survey.{Ending, Entry, Survey, survey, soundly, curves, nth, numbered}
use Rattle.sheet.proofs.Surveys.{flat, Listed, survey-long, sheet_parts, short_of}

pub record Standing (s : List ℕ) (e : Entry) : Type 0 where
  pub fits : e.place + length e.bytes ≤ length s
  pub there : take (length e.bytes) (drop e.place s) ≡ e.bytes
  pub whole : Whole e.kind e.bytes

abbrev pub AllStand : List ℕ → List Entry → Type 0
AllStand s [] = Unit {0}
AllStand s (e ∷ es) = Standing s e × AllStand s es

stand : (first : Bool) (front : List ℕ) (es : List Entry) (tail : List ℕ) → Listed first (length front) es → AllStand (front ++ (flat es ++ tail)) es
stand first front [] tail w = tt
stand first front (e ∷ es) tail w =
    let b = e.bytes in
    let joined : front ++ (flat (e ∷ es) ++ tail) ≡ (front ++ b) ++ (flat es ++ tail) =
    ap (λ (t : List ℕ). front ++ t) (append_assoc b (flat es) tail) ∙ sym (append_assoc front b (flat es ++ tail))
    in
    let here : drop e.place (front ++ (flat (e ∷ es) ++ tail)) ≡ b ++ (flat es ++ tail) =
    ap (λ (n : ℕ). drop n (front ++ (flat (e ∷ es) ++ tail))) w.0 ∙ drop_at front (flat (e ∷ es) ++ tail) (length front) refl ∙ append_assoc b (flat es) tail
    in (
      record {
        fits = omega (arith, w.0, ap length joined, length-append (front ++ b) (flat es ++ tail), length-append front b);
        there = ap (take (length b)) here ∙ take_at b (flat es ++ tail) (length b) refl;
        whole = w.2;
      },
      subst (λ (s : List ℕ). AllStand s es) (sym joined) (stand false (front ++ b) es tail (subst (λ (n : ℕ). Listed false n es) (sym (length-append front b)) w.3)),
    )

pub all_stand : (s : List ℕ) → AllStand s (survey s).records
all_stand s =
    by_order (length s) longest
    (λ l.
    let p = sheet_parts true s l in
    subst (λ (t : List ℕ). AllStand t (survey s).records) (sym p.parts) (stand true [] (survey s).records p.tail p.listed))
    (λ l. subst (λ (v : Survey). AllStand s v.records) (sym (survey-long true s l)) tt)

-- ---- the curves

pub curves-append : (es fs : List Entry) → curves (es ++ fs) ≡ curves es ++ curves fs
unfolding when◌then◌else◌
curves-append [] fs = refl
curves-append (e ∷ es) fs = by (row_of e.kind).curve (curves-append es fs)
  where
    by : (b : Bool) → curves (es ++ fs) ≡ curves es ++ curves fs → (when b then e ∷ curves (es ++ fs) else curves (es ++ fs)) ≡ (when b then e ∷ curves es else curves es) ++ curves fs
    by true q = ap (λ (l : List Entry). e ∷ l) q
    by false q = q

pub nth_last : (es : List Entry) (e : Entry) → nth (suc (length es)) (es ++ (e ∷ [])) ≡ given e
nth_last [] e = refl
nth_last (x ∷ es) e = nth_last es e

pub nth_other : (number : ℕ) (es : List Entry) (e : Entry) → (number ≡ suc (length es) → ⊥) → nth number (es ++ (e ∷ [])) ≡ nth number es
nth_other zero [] e n = refl
nth_other (suc zero) [] e n = absurd (n refl)
nth_other (suc (suc k)) [] e n = refl
nth_other zero (x ∷ es) e n = refl
nth_other (suc zero) (x ∷ es) e n = refl
nth_other (suc (suc k)) (x ∷ es) e n = nth_other (suc k) es e (λ q. n (ap suc q))

-- what holds of every record and of what is a curve holds of a curve that has a number
abbrev AllCurves : List ℕ → List Entry → Type 0
AllCurves s [] = Unit {0}
AllCurves s (e ∷ es) = Standing s e × ((row_of e.kind).curve ≡ true) × AllCurves s es

all-curves : (s : List ℕ) (es : List Entry) → AllStand s es → AllCurves s (curves es)
all-curves s [] w = tt
all-curves s (e ∷ es) w =
    let later = all-curves s es w.1 in
    by_test (AllCurves s) (row_of e.kind).curve (λ c. (w.0, c, later)) (λ _. later)

nth-curve : (s : List ℕ) (number : ℕ) (es : List Entry) {e : Entry} → AllCurves s es → nth number es ≡ given e → Standing s e × ((row_of e.kind).curve ≡ true)
nth-curve s zero [] w q = no_answer (sym q)
nth-curve s (suc zero) [] w q = no_answer (sym q)
nth-curve s (suc (suc k)) [] w q = no_answer (sym q)
nth-curve s zero (x ∷ es) w q = no_answer (sym q)
nth-curve s (suc zero) (x ∷ es) w q = subst (λ (e : Entry). Standing s e × ((row_of e.kind).curve ≡ true)) (given_once q) (w.0, w.1)
nth-curve s (suc (suc k)) (x ∷ es) w q = nth-curve s (suc k) es w.2 q

pub nth_stands : (s : List ℕ) (number : ℕ) {e : Entry} → nth number (curves (survey s).records) ≡ given e → Standing s e × ((row_of e.kind).curve ≡ true)
nth_stands s number = nth-curve s number (curves (survey s).records) (all-curves s (survey s).records (all_stand s))

-- ---- the curve of a number

module _ (s : List ℕ) (number : ℕ) where
  pub numbered-sound : (survey s).ending ≡ Ok tt → numbered number s ≡ nth number (curves (survey s).records)
  numbered-sound e = ap (λ (how : Ending). then_given (λ es. nth number (curves es)) (soundly how (survey s).records)) e

  pub numbered-faulty : {f : Fault} → (survey s).ending ≡ Err f → numbered number s ≡ refused f
  numbered-faulty e = ap (λ (how : Ending). then_given (λ es. nth number (curves es)) (soundly how (survey s).records)) e

pub record Numbered (s : List ℕ) (number : ℕ) (e : Entry) : Type 0 where
  pub sound : (survey s).ending ≡ Ok tt
  pub short : length s ≤ longest
  pub listed : nth number (curves (survey s).records) ≡ given e
  pub stands : Standing s e
  pub curve : (row_of e.kind).curve ≡ true

pub numbered_of : (s : List ℕ) (number : ℕ) {e : Entry} → numbered number s ≡ given e → Numbered s number e
numbered_of s number {e} q = by (survey s).ending refl
  where
    by : (how : Ending) → (survey s).ending ≡ how → Numbered s number e
    by (Ok done) h =
        let n = sym (numbered-sound s number h) ∙ q in
        let w = nth_stands s number n in
        record { sound = h; short = short_of s h; listed = n; stands = w.0; curve = w.1 }
    by (Err f) h = no_answer (sym (sym (numbered-faulty s number h) ∙ q))

-- a record is not empty
pub entry_long : {s : List ℕ} {e : Entry} → Standing s e → 4 < length e.bytes
entry_long {e = e} h = omega (arith, h.whole.long, (row-known e.kind).long)

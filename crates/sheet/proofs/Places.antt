-- Where a record stands, what is read there, and where the next one stands.
--   Stands          the record of the curve of a number stands at a place, and is so long
--   kind_at         the two bytes after its length name its kind
--   held-curve      the curve that the bytes hold from there on is the one of the number, and as long.      held-nothing   there is one
--   first_stands    the first curve's record stands behind the header
--   next_stands     and each further one where the record before it ends: every other record is a curve
use mathlib.Core.Path.{◌≡◌, refl, sym, ap, ◌∙◌, subst}
use mathlib.Core.Bool.{Bool, true, false}
use mathlib.Core.List.{List, [], ◌∷◌}
use Prim.Native.Nat.{ℕ, zero, suc, ◌+◌, ◌≤◌, ◌<◌}
use native.Mathlib.Omega.{arith}
use native.Mathlib.Nat.{not-suc-le-zero, le_of_suc-le-suc}
use lib.ListN.{length, take, drop, get_or, length-drop}
use lib.Seq.{get_or-take}
use Rattle.refusal.specs.Answers.{Answer, refused, given, with_given, when◌then◌else◌}
use Rattle.refusal.proofs.Answers.{no_answer, given_once}
use Rattle.record.specs.declared.kinds.Kind.{Kind}
use Rattle.record.specs.declared.kinds.Kind.TheVariants.{Header, Cubic, Quintic}
use Rattle.std.specs.Prelude.{Some, None}
use Rattle.record.specs.Kinds.{row_of, kinds, points_in}
use Rattle.record.specs.Records.{kind_in, may_stand}
use Rattle.record.specs.declared.points.Held.{Held}
use Rattle.record.specs.Promise.{BeginsCurve, IsHeld}
use Rattle.record.proofs.Table.{known-kind, same_kind}
use Rattle.record.proofs.Headers.{first-header}
use Rattle.sheet.specs.Survey.{Entry, survey, outcome, curves, nth, numbered}
use Rattle.sheet.specs.Promise.{count_of, points_of_entry, HasCurve}
use Rattle.sheet.proofs.Surveys.{Listed, sound_of, short_of, sheet_parts}
use Rattle.sheet.proofs.Standing.{Numbered, numbered-sound, numbered_of, entry_long}

pub record Stands (s : List ℕ) (number place long : ℕ) : Type 0 where
  pub entry : Entry
  pub numbered_is : numbered number s ≡ given entry
  pub place_is : entry.place ≡ place
  pub long_is : length entry.bytes ≡ long

module _ {s : List ℕ} {number place long : ℕ} (h : Stands s number place long) where
  pub choice : Numbered s number h.entry
  choice = numbered_of s number h.numbered_is

  pub fits : place + long ≤ length s
  fits = omega (arith, choice.stands.fits, h.place_is, h.long_is)

  pub head_at : 4 < long
  head_at = omega (arith, entry_long choice.stands, h.long_is)

  pub bytes-at : take long (drop place s) ≡ h.entry.bytes
  bytes-at = (λ i. take (sym h.long_is i) (drop (sym h.place_is i) s)) ∙ choice.stands.there

  pub kind_at : kind_in kinds (drop place s) ≡ Some h.entry.kind
  kind_at =
      let head : (i : ℕ) → i < long → get_or (drop place s) i 0 ≡ get_or h.entry.bytes i 0 =
      λ i l. sym (get_or-take long (drop place s) i 0 l) ∙ ap (λ (l : List ℕ). get_or l i 0) bytes-at
      in
      same_kind kinds (drop place s) h.entry.bytes (head 2 (omega (arith, head_at))) (head 3 (omega (arith, head_at)))
      ∙ known-kind h.entry.kind h.entry.bytes choice.stands.whole.here.name_is

  begins : BeginsCurve (drop place s) h.entry.kind
  begins =
      let long = length-drop place s in
      record { long = omega (arith, fits, head_at); name = kind_at; curve = choice.curve; fits = omega (arith, fits, h.long_is, choice.stands.whole.long) }

  pub held-nothing : IsHeld (drop place s) None → ⊥
  held-nothing n = n h.entry.kind begins

  pub held-curve : (x : Held) → IsHeld (drop place s) (Some x) → HasCurve s number x.curve × (x.size ≡ long)
  held-curve x (k, b, n, p) =
      let same : h.entry.kind ≡ k = cc (sym kind_at ∙ b.name) in
      let is : x.size ≡ long = n ∙ ap (λ (k : Kind). (row_of k).size) (sym same) ∙ sym choice.stands.whole.long ∙ h.long_is in
      (ap given (p ∙ ap (λ (m : ℕ). points_in (take m (drop place s))) is ∙ ap points_in bytes-at) ∙ sym (ap (with_given points_of_entry) h.numbered_is), is)

-- ---- one record after another

-- what may stand behind the header is a curve
later_curve : (k : Kind) → may_stand false k ≡ true → (row_of k).curve ≡ true
unfolding may_stand when◌then◌else◌
later_curve Header m = m
later_curve Cubic m = refl
later_curve Quintic m = refl

later_curves : (at : ℕ) (es : List Entry) → Listed false at es → curves es ≡ es
unfolding when◌then◌else◌
later_curves at [] w = refl
later_curves at (e ∷ es) w =
    ap (λ (b : Bool). when b then e ∷ curves es else curves es) (later_curve e.kind w.1) ∙ ap (λ (l : List Entry). e ∷ l) (later_curves (at + length e.bytes) es w.3)

nth-listed : (k : ℕ) (es : List Entry) → k < length es → (e : Entry) × (nth (suc k) es ≡ given e)
nth-listed k [] l = absurd (not-suc-le-zero l)
nth-listed zero (e ∷ es) l = (e, refl)
nth-listed (suc k) (e ∷ es) l = nth-listed k es (le_of_suc-le-suc l)

first-place : (first : Bool) (at : ℕ) (es : List Entry) {e : Entry} → Listed first at es → nth 1 es ≡ given e → e.place ≡ at
first-place first at [] w q = no_answer (sym q)
first-place first at (x ∷ es) w q = sym (ap (λ (e : Entry). e.place) (given_once q)) ∙ w.0

next_place : (first : Bool) (at number : ℕ) (es : List Entry) {e f : Entry} → Listed first at es → nth number es ≡ given e → nth (suc number) es ≡ given f
    → f.place ≡ e.place + length e.bytes
next_place first at zero [] w p q = no_answer (sym p)
next_place first at (suc zero) [] w p q = no_answer (sym p)
next_place first at (suc (suc k)) [] w p q = no_answer (sym p)
next_place first at zero (x ∷ es) w p q = no_answer (sym p)
next_place first at (suc zero) (x ∷ es) {e} w p q =
    first-place false (at + length x.bytes) es w.3 q ∙ (λ i. sym w.0 i + length x.bytes) ∙ ap (λ (e : Entry). e.place + length e.bytes) (given_once p)
next_place first at (suc (suc k)) (x ∷ es) w p q = next_place false (at + length x.bytes) (suc k) es w.3 p q

curves-behind : (es : List Entry) → Listed true 0 es → Listed false (row_of Header).size (curves es)
unfolding when◌then◌else◌
curves-behind [] w = tt
curves-behind (e ∷ es) w =
    let header = first-header e.kind w.1 in
    let none : curves (e ∷ es) ≡ es =
    ap (λ (k : Kind). when (row_of k).curve then e ∷ curves es else curves es) header ∙ later_curves (0 + length e.bytes) es w.3
    in
    let at : 0 + length e.bytes ≡ (row_of Header).size = omega (arith, w.2.long, ap (λ (k : Kind). (row_of k).size) header) in
    subst (Listed false (row_of Header).size) (sym none) (subst (λ (n : ℕ). Listed false n es) at w.3)

module _ (s : List ℕ) (count : ℕ) (counted : with_given count_of (outcome s) ≡ given count) where
  -- the curves stand one behind another, from behind the header on
  record Counted : Type 0 where
    listed : Listed false (row_of Header).size (curves (survey s).records)
    many : length (curves (survey s).records) ≡ count
    numbered_is : (number : ℕ) → numbered number s ≡ nth number (curves (survey s).records)

  is_counted : Counted
  is_counted = by (outcome s) refl counted
    where
      by : (a : Answer (List Entry)) → outcome s ≡ a → with_given count_of a ≡ given count → Counted
      by (refused f) o e = no_answer (sym e)
      by (given es) o e =
          let h = sound_of s o in
          record {
            listed = curves-behind (survey s).records (sheet_parts true s (short_of s h.0)).listed;
            many = ap (λ (l : List Entry). length (curves l)) h.1 ∙ given_once e;
            numbered_is = λ number. numbered-sound s number h.0;
          }

  stands_at : (number : ℕ) {e : Entry} {place : ℕ} → nth number (curves (survey s).records) ≡ given e → e.place ≡ place → Stands s number place (length e.bytes)
  stands_at number {e} q p = record { entry = e; numbered_is = is_counted.numbered_is number ∙ q; place_is = p; long_is = refl }

  pub first_stands : 0 < count → (long : ℕ) × Stands s 1 (row_of Header).size long
  first_stands l =
      let f = nth-listed 0 (curves (survey s).records) (omega (arith, is_counted.many)) in
      (length f.0.bytes, stands_at 1 f.1 (first-place false (row_of Header).size (curves (survey s).records) is_counted.listed f.1))

  pub next_stands : {number place long : ℕ} → number < count → Stands s number place long → (next : ℕ) × Stands s (suc number) (place + long) next
  next_stands {number} {place} {long} l at =
      let here : nth number (curves (survey s).records) ≡ given at.entry = sym (is_counted.numbered_is number) ∙ at.numbered_is in
      let f = nth-listed number (curves (survey s).records) (omega (arith, is_counted.many)) in
      let p : f.0.place ≡ place + long = next_place false (row_of Header).size number (curves (survey s).records) is_counted.listed here f.1 ∙ (λ i. at.place_is i + at.long_is i) in
      (length f.0.bytes, stands_at (suc number) f.1 p)

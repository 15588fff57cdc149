-- The sheet that is made.
--   Holds            the area has the mission and the curves of the lines so far, and no fault
--   holds            so it is behind every line
--   size-within      the sheet is a part of the area
--   cut_sheet        a sound sheet without some of its erased tail is the same sheet
--   made_sheet       the sheet that is handed over has the mission, the curves and the erased bytes that the text says
use mathlib.Core.Path.{◌≡◌, refl, sym, ap, ◌∙◌, subst}
use mathlib.Core.Bool.{true}
use mathlib.Core.List.{List, [], ◌∷◌, ◌++◌, map, append-nil}
use Prim.Native.Nat.{ℕ, ◌+◌, ◌-◌, ◌≤◌}
use native.Mathlib.Omega.{arith}
use lib.ListN.{length, take, replicate, length-replicate, length-take}
use lib.Seq.{length-take-le, take-append-add, get_or-take}
use borrow.Author.Tests.{ltb-false}
use Rattle.refusal.specs.Answers.{given, with_given, when◌then◌else◌}
use Rattle.refusal.proofs.Answers.{by_test, no_answer, given_once}
use Rattle.pair.specs.declared.Pair.{Pair}
use Rattle.curve.specs.declared.Curve.{Curve}
use Rattle.curve.specs.Curves.{points_of}
use Rattle.record.specs.Records.{longest, erased, step_of}
use Rattle.std.specs.Prelude.{Some, None, Result, Ok, Err}
use Rattle.refusal.specs.declared.Fault.{Fault}
use Rattle.record.proofs.Shown.{ends_erased, erased_ends}
use Rattle.record.proofs.Headers.{header-mission}
use Rattle.sheet.specs.Survey.{Ending, Survey, survey, soundly, curves, mission_of}
use Rattle.sheet.specs.Promise.{points_of_entry, curves_in, StartsFor, Appends}
use Rattle.sheet.proofs.Surveys.{flat, Ended, first_after, survey_of_lem, short_of, sheet_parts, end-within}
use Rattle.sheet.proofs.Appended.{ended}
use Rattle.sheet.proofs.Changed.{appending-none}
use Rattle.sheet.proofs.Kept.{append-kept, start-length}
use Rattle.sheet.proofs.Laws.{append-listed, append-mission}
use Rattle.sheet.proofs.Started.{start-listed}
use Rattle.sheet.proofs.Examples.{erased-sheet}
use Rattle.make_sheet.specs.declared.lines.Line.{Line}
use Rattle.make_sheet.specs.declared.lines.Line.TheVariants as line
use Rattle.make_sheet.specs.declared.making.Stage.{Stage}
use Rattle.make_sheet.specs.declared.making.Stage.TheVariants as stage
use Rattle.make_sheet.specs.declared.making.Stop.{Stop}
use Rattle.make_sheet.proofs.Stages.{next_once, not-stopped}
use Rattle.make_sheet.specs.Making.{afterwards, ending_at, Takes, SoFar, begun, and_then, size_in, missions_of, mission_among, curves_of, erased_of, SheetOf, MadeOf}

-- ---- lines one after another

missions_append : (ls ks : List Line) → missions_of (ls ++ ks) ≡ missions_of ls ++ missions_of ks
missions_append [] ks = refl
missions_append (line.Nothing ∷ ls) ks = missions_append ls ks
missions_append (line.Mission number ∷ ls) ks = ap (λ (l : List ℕ). number ∷ l) (missions_append ls ks)
missions_append (line.Curve c ∷ ls) ks = missions_append ls ks
missions_append (line.Erased count ∷ ls) ks = missions_append ls ks

curves-append : (ls ks : List Line) → curves_of (ls ++ ks) ≡ curves_of ls ++ curves_of ks
curves-append [] ks = refl
curves-append (line.Nothing ∷ ls) ks = curves-append ls ks
curves-append (line.Mission number ∷ ls) ks = curves-append ls ks
curves-append (line.Curve c ∷ ls) ks = ap (λ (l : List (List Pair)). points_of c ∷ l) (curves-append ls ks)
curves-append (line.Erased count ∷ ls) ks = curves-append ls ks

erased-append : (ls ks : List Line) → erased_of (ls ++ ks) ≡ erased_of ls + erased_of ks
erased-append [] ks = omega arith
erased-append (line.Nothing ∷ ls) ks = erased-append ls ks
erased-append (line.Mission number ∷ ls) ks = erased-append ls ks
erased-append (line.Curve c ∷ ls) ks = erased-append ls ks
erased-append (line.Erased count ∷ ls) ks = omega (arith, erased-append ls ks)

-- ---- the area behind some lines

abbrev Stands : Stage → List ℕ → List ℕ → Type 0
Stands stage.Blank s ms = ((survey s).records ≡ []) × (ms ≡ [])
Stands stage.Started s ms = (m : ℕ) × (mission_of (survey s).records ≡ Some m) × (ms ≡ m ∷ [])
Stands (stage.Ended size) s ms = mission_of (survey s).records ≡ mission_among ms

pub record Holds (ls : List Line) (st : Stage) (s : List ℕ) : Type 0 where
  pub long : length s ≡ longest
  pub sound : (survey s).ending ≡ Ok tt
  pub lists : curves_in s ≡ given (curves_of ls)
  pub stands : Stands st s (missions_of ls)
  pub size_is : size_in st s ≡ (survey s).end + erased_of ls
  pub fits : size_in st s ≤ longest

mission_stands : (st : Stage) (s ms : List ℕ) → Stands st s ms → mission_of (survey s).records ≡ mission_among ms
mission_stands stage.Blank s ms h = ap mission_of h.0 ∙ sym (ap mission_among h.1)
mission_stands stage.Started s ms h = h.1 ∙ sym (ap mission_among h.2)
mission_stands (stage.Ended size) s ms h = h

-- a line that changes neither the area nor what is said of it
same_lines : (ls : List Line) (l : Line) → missions_of (l ∷ []) ≡ [] → curves_of (l ∷ []) ≡ [] →
    (missions_of (ls ++ (l ∷ [])) ≡ missions_of ls) × (curves_of (ls ++ (l ∷ [])) ≡ curves_of ls)
same_lines ls l m c = (
  missions_append ls (l ∷ []) ∙ ap (λ (x : List ℕ). missions_of ls ++ x) m ∙ append-nil (missions_of ls),
  curves-append ls (l ∷ []) ∙ ap (λ (x : List (List Pair)). curves_of ls ++ x) c ∙ append-nil (curves_of ls),
)

-- a sheet with a header alone has no curve, and neither has one without any record
lists_of : (s : List ℕ) {v : Survey} → survey s ≡ v → curves_in s ≡ with_given (λ es. map points_of_entry (curves es)) (soundly v.ending v.records)
unfolding curves_in
lists_of s e = ap (λ (v : Survey). with_given (λ es. map points_of_entry (curves es)) (soundly v.ending v.records)) e

module _ (ls : List Line) (s : List ℕ) where
  passed : (st next : Stage) (t : List ℕ) → Holds ls st s → (t ≡ s) × ◌≡◌ {A = Result Stage Stop} (Ok next) (Ok st) → Holds (ls ++ (line.Nothing ∷ [])) next t
  passed st next t h k =
      let same = same_lines ls line.Nothing refl refl in
      let none : erased_of (ls ++ (line.Nothing ∷ [])) ≡ erased_of ls = omega (arith, erased-append ls (line.Nothing ∷ [])) in
      subst (λ (u : List ℕ). Holds (ls ++ (line.Nothing ∷ [])) next u) (sym k.0)
      (subst (λ (x : Stage). Holds (ls ++ (line.Nothing ∷ [])) x s) (sym (next_once refl k.1))
      (record {
        long = h.long;
        sound = h.sound;
        lists = h.lists ∙ ap given (sym same.1);
        stands = subst (Stands st s) (sym same.0) h.stands;
        size_is = h.size_is ∙ ap (λ (n : ℕ). (survey s).end + n) (sym none);
        fits = h.fits;
      }))

  -- a mission on a sheet that has none
  module _ (number : ℕ) (next : Stage) (t : List ℕ) (h : Holds ls stage.Blank s) where
    no_curves : curves_of ls ≡ []
    no_curves = given_once (sym h.lists ∙ lists_of s refl ∙ (λ i. with_given (λ es. map points_of_entry (curves es)) (soundly (h.sound i) (h.stands.0 i))))

    begins : (a : Result (Unit {0}) Fault) → StartsFor s number t a → Ok next ≡ afterwards a → Holds (ls ++ (line.Mission number ∷ [])) next t
    unfolding when◌then◌else◌
    begins (Err f) g e = not-stopped refl e
    begins (Ok done) g e =
        let v = start-listed s number t (sym g.says) in
        let lines = ls ++ (line.Mission number ∷ []) in
        let ms : missions_of lines ≡ number ∷ [] = missions_append ls (line.Mission number ∷ []) ∙ ap (λ (x : List ℕ). x ++ (number ∷ [])) h.stands.1 in
        let cs : curves_of lines ≡ [] = curves-append ls (line.Mission number ∷ []) ∙ append-nil (curves_of ls) ∙ no_curves in
        let long : length t ≡ longest = start-length s number t (Ok done) g ∙ h.long in
        let none : erased_of lines ≡ 0 = omega (arith, erased-append ls (line.Mission number ∷ []), h.size_is) in
        subst (λ (x : Stage). Holds lines x t) (sym (next_once refl e))
        (record {
          long = long;
          sound = ap (λ (v : Survey). v.ending) v;
          lists = lists_of t v ∙ ap given (sym cs);
          stands = (number, ap (λ (v : Survey). mission_of v.records) v ∙ ap Some (header-mission number), ms);
          size_is = omega (arith, none);
          fits = omega (arith, end-within true t, long);
        })

  -- one curve more
  adds : (c : Curve) (next : Stage) (t : List ℕ) → Holds ls stage.Started s → (a : Result (Unit {0}) Fault) → Appends s c t a → Ok next ≡ afterwards a → Holds (ls ++ (line.Curve c ∷ [])) next t
  adds c next t h (Err f) g e = not-stopped refl e
  adds c next t h (Ok done) g e =
      let (m, own, ms) = h.stands in
      let lines = ls ++ (line.Curve c ∷ []) in
      let v = append-listed s h.sound own c t (sym g.changes.says) in
      let long : length t ≡ longest = (append-kept s c t (Ok done) g).same_length ∙ h.long in
      let none : erased_of lines ≡ 0 = omega (arith, erased-append ls (line.Curve c ∷ []), h.size_is) in
      subst (λ (x : Stage). Holds lines x t) (sym (next_once refl e))
      (record {
        long = long;
        sound = ap (λ (v : Survey). v.ending) v;
        lists = g.lists refl ∙ ap (with_given (λ (old : List (List Pair)). old ++ (points_of c ∷ []))) h.lists ∙ ap given (sym (curves-append ls (line.Curve c ∷ [])));
        stands = (m, append-mission s h.sound own c t (sym g.changes.says) ∙ own, missions_append ls (line.Curve c ∷ []) ∙ append-nil (missions_of ls) ∙ ms);
        size_is = omega (arith, none);
        fits = omega (arith, end-within true t, long);
      })

  -- no curve on a sheet without a mission
  refuses : (c : Curve) (next : Stage) (t : List ℕ) {A : Type 0} → Holds ls stage.Blank s → (a : Result (Unit {0}) Fault) → Appends s c t a → Ok next ≡ afterwards a → A
  refuses c next t h (Err f) g e = not-stopped refl e
  refuses c next t h (Ok done) g e = no_answer (g.changes.says ∙ appending-none s c h.sound (ap mission_of h.stands.0))

  -- the end
  ends : (st next : Stage) (count : ℕ) (t : List ℕ) → Holds ls st s → size_in st s ≡ (survey s).end → (t ≡ s) × (Ok next ≡ ending_at (survey s).end count) → Holds (ls ++ (line.Erased count ∷ [])) next t
  unfolding ending_at
  ends st next count t h n k =
      by_test (λ (x : Result Stage Stop). Ok next ≡ x → Holds lines next t) _ (λ _ e. not-stopped refl e)
      (λ l e.
      let size : size_in next s ≡ (survey s).end + count = ap (λ (x : Stage). size_in x s) (next_once refl e) in
      let short : (survey s).end + count ≤ longest = ltb-false _ _ l in
      subst (λ (u : List ℕ). Holds lines next u) (sym k.0)
      (record {
        long = h.long;
        sound = h.sound;
        lists = h.lists ∙ ap given (sym same.1);
        stands = subst (λ (x : Stage). Stands x s (missions_of lines)) (sym (next_once refl e)) (mission_stands st s (missions_of ls) h.stands ∙ ap mission_among (sym same.0));
        size_is = omega (arith, size, n, h.size_is, erased-append ls (line.Erased count ∷ []));
        fits = omega (arith, size);
      }))
      k.1
    where
      lines : List Line
      lines = ls ++ (line.Erased count ∷ [])

      same : (missions_of lines ≡ missions_of ls) × (curves_of lines ≡ curves_of ls)
      same = same_lines ls (line.Erased count) refl refl

  taken : (st next : Stage) (l : Line) (t : List ℕ) → Holds ls st s → Takes st l s t (Ok next) → Holds (ls ++ (l ∷ [])) next t
  taken st next line.Nothing t h k = passed st next t h k
  taken stage.Blank next (line.Mission number) t h (a, g, e) = begins number next t h a g e
  taken stage.Started next (line.Mission number) t h k = not-stopped refl k.1
  taken (stage.Ended size) next (line.Mission number) t h k = not-stopped refl k.1
  taken stage.Blank next (line.Curve c) t h (a, g, e) = refuses c next t h a g e
  taken stage.Started next (line.Curve c) t h (a, g, e) = adds c next t h a g e
  taken (stage.Ended size) next (line.Curve c) t h k = not-stopped refl k.1
  taken stage.Blank next (line.Erased count) t h k = ends stage.Blank next count t h refl k
  taken stage.Started next (line.Erased count) t h k = ends stage.Started next count t h refl k
  taken (stage.Ended size) next (line.Erased count) t h k = not-stopped refl k.1

pub holds : {ls : List Line} {st : Stage} {s : List ℕ} → SoFar ls st s → Holds ls st s
holds begun =
    let v = erased-sheet longest (omega arith) in
    record {
      long = length-replicate {A = ℕ} longest erased;
      sound = ap (λ (v : Survey). v.ending) v;
      lists = lists_of (replicate longest erased) v;
      stands = (ap (λ (v : Survey). v.records) v, refl);
      size_is = omega arith;
      fits = omega (arith, end-within true (replicate longest erased), length-replicate {A = ℕ} longest erased);
    }
holds (and_then {ls = ls} {st = st} {next = next} {s = s} {t = t} l so h) = taken ls s st next l t (holds so) h

pub size-within : (text area : List ℕ) (size : ℕ) → MadeOf text area size → size ≤ length area
size-within text area size m = let h = holds m.made in omega (arith, m.size_is, h.fits, h.long)

-- ---- the sheet

pub cut_sheet : (s : List ℕ) (size : ℕ) → (survey s).ending ≡ Ok tt → (survey s).end ≤ size → size ≤ length s → survey (take size s) ≡ survey s
cut_sheet s size sound l m =
    let short = short_of s sound in
    let p = sheet_parts true s short in
    let es = (survey s).records in
    let first = first_after true es in
    let end : (survey s).end ≡ length (flat es) = p.end_is ∙ omega arith in
    let last : step_of first p.tail ≡ Ok None = ended (survey s).end (step_of first p.tail) (subst (λ (how : Ending). Ended (survey s).end (step_of first p.tail) how) sound p.last) in
    let rest = size - length (flat es) in
    let there : size ≡ length (flat es) + rest = omega arith in
    let long : length (take rest p.tail) ≤ length p.tail = omega (arith, length-take rest p.tail) in
    survey_of_lem (take size s) es (take rest p.tail) (omega (arith, length-take-le size s m))
    (ap (take size) p.parts ∙ ap (λ (n : ℕ). take n (flat es ++ p.tail)) there ∙ take-append-add (flat es) p.tail rest)
    p.listed
    (erased_ends first (take rest p.tail) (λ i k. get_or-take rest p.tail i 0 (omega (arith, length-take rest p.tail)) ∙ ends_erased first p.tail last i (omega arith)))
    ∙ (λ i. record { records = es; end = sym end i; ending = sym sound i })

pub made_sheet : (text area : List ℕ) (size : ℕ) (m : MadeOf text area size) → SheetOf m.said (take size area)
made_sheet text area size m =
    let h = holds m.made in
    let v = cut_sheet area size h.sound (omega (arith, m.size_is, h.size_is)) (size-within text area size m) in
    record {
      lists = lists_of (take size area) v ∙ sym (lists_of area refl) ∙ h.lists;
      mission_is = ap (λ (v : Survey). mission_of v.records) v ∙ mission_stands m.stage area (missions_of m.said) h.stands;
      erased_behind = omega (arith, length-take-le size area (size-within text area size m), m.size_is, h.size_is, ap (λ (v : Survey). v.end) v);
    }

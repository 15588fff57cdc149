-- What the mission's number is for: a path that is read is no one else's.
--   read-mission     a curve that is read under a number stands on a sheet with that number
--   erased-none, none-erased   a sheet that is all FF is sound and has no mission, and a sound sheet without a mission is all FF
--   erased-reads     on a sheet that is all FF no number reads anything, under any mission
--   start_forgets    what start leaves depends on the sheet's length and the number alone: nothing of an earlier mission
--   start-listed     it is the header with that number, and nothing behind it
--   appending_all     curves appended one after another
--   started_lists    after start and append the sheet has that mission, and these curves and no others
--   pick             the points of a number among some
--   started_reads    so what is read under the number are these curves, by their numbers
--   started_refuses  and under another number nothing is read
use mathlib.Core.Path.{◌≡◌, refl, sym, ap, ◌∙◌, subst}
use mathlib.Core.Bool.{true, false, not}
use mathlib.Core.List.{List, [], ◌∷◌, ◌++◌, map, append-nil, append_assoc}
use Prim.Native.Nat.{ℕ, zero, suc, ◌-◌, ◌≤◌}
use native.Mathlib.Omega.{arith}
use lib.ListN.{length}
use borrow.Author.Tests.{eqb-true, ltb-false, not-false, ne_eqb, eq-eqb}
use Rattle.refusal.specs.declared.Refusal.TheVariants as refusal
use Rattle.refusal.specs.Answers.{Answer, refused, given, refuse, then_given, with_given, when◌then◌else◌}
use Rattle.refusal.proofs.Answers.{by_test, no_answer, given_once}
use Rattle.pair.specs.declared.Pair.{Pair}
use Rattle.curve.specs.declared.Curve.{Curve}
use Rattle.curve.specs.Curves.{points_of}
use Rattle.record.specs.declared.kinds.Kind.TheVariants.{Header}
use Rattle.record.specs.Kinds.{row_of}
use Rattle.record.specs.Records.{longest, step_of}
use Rattle.record.specs.Promise.{bytes_after}
use Rattle.record.proofs.Erased.{AllErased}
use Rattle.record.proofs.Shown.{erased_ends, ends_erased}
use Rattle.record.proofs.Headers.{header-mission}
use Rattle.std.specs.Prelude.{Some, None, Ok}
use Rattle.sheet.specs.Survey.{Ending, Entry, Survey, survey, soundly, curves, nth, mission_of, is_other, chosen}
use Rattle.sheet.specs.Promise.{points_of_entry, starting, appending, curves_in, Reads}
use Rattle.sheet.proofs.Surveys.{flat, Ended, first_after, end-within, survey_of_lem, short_of, sheet_parts}
use Rattle.sheet.proofs.Standing.{numbered_of, numbered-sound}
use Rattle.sheet.proofs.Missions.{chosen-own, chosen_other, chosen-numbered}
use Rattle.sheet.proofs.Appended.{ended, append-sound}
use Rattle.sheet.proofs.Laws.{append-listed, append-mission}
use Rattle.sheet.proofs.Examples.{header_entry, written-sheet}

-- ---- the number that is expected

pub read-mission : (s : List ℕ) (expected number : ℕ) (c : Curve) → Reads s expected number (Ok c) → mission_of (survey s).records ≡ Some expected
read-mission s expected number c = by (chosen expected number s) refl
  where
    own : (es : List Entry) {e : Entry} → nth number (curves es) ≡ given e → is_other expected (mission_of es) ≡ false → mission_of es ≡ Some expected
    own [] n o = no_answer (sym n)
    own (x ∷ es) n o = ap Some (eqb-true _ _ (not-false _ o))

    by : (a : Answer Entry) → chosen expected number s ≡ a → given (points_of c) ≡ with_given points_of_entry a → mission_of (survey s).records ≡ Some expected
    by (refused f) q h = no_answer h
    by (given e) q h = let n = chosen-numbered s expected number q in own (survey s).records (numbered_of s number n.0).listed n.1

erased-found : (s : List ℕ) → length s ≤ longest → AllErased s → survey s ≡ record { records = []; end = 0; ending = Ok tt }
erased-found s l all = survey_of_lem s [] s l refl tt (erased_ends true s all)

pub erased-none : (s : List ℕ) → length s ≤ longest → AllErased s → ((survey s).ending ≡ Ok tt) × (mission_of (survey s).records ≡ None)
erased-none s l all = let v = erased-found s l all in (ap (λ (v : Survey). v.ending) v, ap (λ (v : Survey). mission_of v.records) v)

pub none-erased : (s : List ℕ) → (survey s).ending ≡ Ok tt → mission_of (survey s).records ≡ None → AllErased s
none-erased s sound none =
    let p = sheet_parts true s (short_of s sound) in
    by (survey s).records none p.tail p.parts (subst (λ (how : Ending). Ended (survey s).end (step_of (first_after true (survey s).records) p.tail) how) sound p.last)
  where
    by : (es : List Entry) → mission_of es ≡ None → (tail : List ℕ) → s ≡ flat es ++ tail → Ended (survey s).end (step_of (first_after true es) tail) (Ok tt) → AllErased s
    by [] e tail parts last = subst AllErased (sym parts) (ends_erased true tail (ended (survey s).end (step_of true tail) last))
    by (x ∷ es) e tail parts last = let z : ◌≡◌ {A = ℕ} 0 1 = cc in absurd (omega arith)

pub erased-reads : (s : List ℕ) → length s ≤ longest → AllErased s → (expected number : ℕ) → chosen expected number s ≡ refuse refusal.Number 0
unfolding when◌then◌else◌
erased-reads s l all expected number =
    ap (λ (v : Survey). then_given (λ es. when is_other expected (mission_of es) then refuse refusal.OtherMission 0 else nth number (curves es)) (soundly v.ending v.records))
    (erased-found s l all)

-- ---- start

pub start_forgets : (s t : List ℕ) (m : ℕ) → length s ≡ length t → starting s m ≡ starting t m
unfolding starting
start_forgets s t m e = rw e

pub start-listed : (s : List ℕ) (m : ℕ) (t : List ℕ) → starting s m ≡ given t → survey t ≡ record { records = header_entry m ∷ []; end = (row_of Header).size; ending = Ok tt }
unfolding starting
start-listed s m t =
    by_test Lists _ (λ _ e. no_answer (sym e)) (λ l. by_test Lists _ (λ _ e. no_answer (sym e)) (λ n e.
    let short : length s ≤ longest = ltb-false _ _ l in
    let fits : (row_of Header).size ≤ length s = ltb-false _ _ n in
    ap survey (sym (given_once e)) ∙ written-sheet m [] (length s - (row_of Header).size) tt (omega arith)))
  where
    Lists : Answer (List ℕ) → Type 0
    Lists a = a ≡ given t → survey t ≡ record { records = header_entry m ∷ []; end = (row_of Header).size; ending = Ok tt }

-- ---- start, and then append

pub appending_all : List ℕ → List Curve → Answer (List ℕ)
appending_all s [] = given s
appending_all s (c ∷ cs) = then_given (λ t. appending_all t cs) (appending s c)

-- a sound sheet of a mission, with these curves
pub record Bears (s : List ℕ) (m : ℕ) (ps : List (List Pair)) : Type 0 where
  pub sound : (survey s).ending ≡ Ok tt
  pub own : mission_of (survey s).records ≡ Some m
  pub lists : curves_in s ≡ given ps

one_more : (s : List ℕ) (m : ℕ) (ps : List (List Pair)) (c : Curve) (t : List ℕ) → Bears s m ps → appending s c ≡ given t → Bears t m (ps ++ (points_of c ∷ []))
one_more s m ps c t h e =
    record {
      sound = ap (λ (v : Survey). v.ending) (append-listed s h.sound h.own c t e);
      own = append-mission s h.sound h.own c t e ∙ h.own;
      lists =
          (append-sound s c h.sound h.own (end-within true s) {r = Ok tt} (record { says = sym e; leaves = sym (ap (bytes_after s) e) })).lists refl
          ∙ ap (with_given (λ (old : List (List Pair)). old ++ (points_of c ∷ []))) h.lists;
    }

all_more : (s : List ℕ) (m : ℕ) (ps : List (List Pair)) (cs : List Curve) (t : List ℕ) → Bears s m ps → appending_all s cs ≡ given t → Bears t m (ps ++ map points_of cs)
unfolding appending_all
all_more s m ps [] t h e = subst (λ (u : List ℕ). Bears u m (ps ++ [])) (given_once e) (subst (Bears s m) (sym (append-nil ps)) h)
all_more s m ps (c ∷ cs) t h e = by (appending s c) refl e (λ u. all_more u m (ps ++ (points_of c ∷ [])) cs t)
  where
    by : (a : Answer (List ℕ)) → appending s c ≡ a → then_given (λ u. appending_all u cs) a ≡ given t
        → ((u : List ℕ) → Bears u m (ps ++ (points_of c ∷ [])) → appending_all u cs ≡ given t → Bears t m ((ps ++ (points_of c ∷ [])) ++ map points_of cs)) → Bears t m (ps ++ map points_of (c ∷ cs))
    by (refused f) q z more = no_answer (sym z)
    by (given u) q z more = subst (Bears t m) (append_assoc ps (points_of c ∷ []) (map points_of cs)) (more u (one_more s m ps c u h q) z)

pub pick : ℕ → List (List Pair) → Answer (List Pair)
pick number [] = refuse refusal.Number 0
pick zero (p ∷ ps) = refuse refusal.Number 0
pick (suc zero) (p ∷ ps) = given p
pick (suc (suc k)) (p ∷ ps) = pick (suc k) ps

pick_points : (number : ℕ) (es : List Entry) → with_given points_of_entry (nth number es) ≡ pick number (map points_of_entry es)
unfolding pick
pick_points zero [] = refl
pick_points (suc zero) [] = refl
pick_points (suc (suc k)) [] = refl
pick_points zero (e ∷ es) = refl
pick_points (suc zero) (e ∷ es) = refl
pick_points (suc (suc k)) (e ∷ es) = pick_points (suc k) es

in_sound : (s : List ℕ) → (survey s).ending ≡ Ok tt → curves_in s ≡ given (map points_of_entry (curves (survey s).records))
unfolding curves_in
in_sound s e = ap (λ (how : Ending). with_given (λ es. map points_of_entry (curves es)) (soundly how (survey s).records)) e

module _ (s : List ℕ) (m : ℕ) (cs : List Curve) (t u : List ℕ) (started : starting s m ≡ given t) (appended : appending_all t cs ≡ given u) where
  pub started_lists : Bears u m (map points_of cs)
  unfolding curves_in when◌then◌else◌
  started_lists =
      let v = start-listed s m t started in
      all_more t m [] cs u
      (record {
        sound = ap (λ (v : Survey). v.ending) v;
        own = ap (λ (v : Survey). mission_of v.records) v ∙ ap Some (header-mission m);
        lists = ap (λ (v : Survey). with_given (λ es. map points_of_entry (curves es)) (soundly v.ending v.records)) v;
      })
      appended

  -- ---- and then read

  pub started_refuses : (expected number : ℕ) → (expected ≡ m → ⊥) → chosen expected number u ≡ refuse refusal.OtherMission 0
  started_refuses expected number n =
      chosen_other u expected number started_lists.sound (ap (is_other expected) started_lists.own ∙ ap not (ne_eqb m expected (λ e. n (sym e))))

  pub started_reads : (number : ℕ) → with_given points_of_entry (chosen m number u) ≡ pick number (map points_of cs)
  started_reads number =
      let h = started_lists in
      ap (with_given points_of_entry) (chosen-own u m number h.sound (ap (is_other m) h.own ∙ ap not (eq-eqb m m refl)) ∙ numbered-sound u number h.sound)
      ∙ pick_points number (curves (survey u).records)
      ∙ ap (pick number) (given_once (sym (in_sound u h.sound) ∙ h.lists))

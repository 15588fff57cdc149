-- One sheet more: the totals of some sheets become those of one sheet more.
--   sheets-more      what the sheets count for
--   added_totals     the totals
use mathlib.Core.Path.{◌≡◌, refl, sym, ap, ◌∙◌, subst}
use mathlib.Core.List.{List, [], ◌∷◌, ◌++◌, map, append-nil}
use Prim.Native.Nat.{ℕ, ◌+◌, ◌-◌, ◌<◌}
use native.Mathlib.Omega.{arith}
use lib.ListN.{length, length-append}
use Rattle.refusal.specs.declared.Fault.{Fault}
use Rattle.refusal.specs.Table.{number_of}
use Rattle.refusal.specs.Answers.{Answer, refused, given, number_of_answer}
use Rattle.refusal.proofs.Laws.{number_positive}
use Rattle.totals.specs.declared.Counted.{Counted}
use Rattle.totals.specs.declared.Totals.{Totals}
use Rattle.totals.specs.Sheets.{SheetIs, SheetsAre}
use Rattle.totals.specs.Totals.{Placed, numbered, curves_from, with_verdict, sum_of, longest_of, refused_by, up_to, totals_of, IsTotals}
use Rattle.totals.specs.Promise.{marked, added}
use Rattle.totals.proofs.Lists.{many_few, many_more, many_same, curves-more, sum-append}
use Rattle.totals.proofs.Running.{same_from, marked_more, counts, counts-more}
use Rattle.totals.proofs.Sizes.{sheet_small, sheets_small}

pub sheets-more : (ss : List (List ℕ)) (xs : List (Answer (List Counted))) (s : List ℕ) (x : Answer (List Counted)) → SheetsAre ss xs → SheetIs s x → SheetsAre (ss ++ (s ∷ [])) (xs ++ (x ∷ []))
sheets-more [] xs s x h k = subst (λ (ys : List (Answer (List Counted))). SheetsAre (s ∷ []) (ys ++ (x ∷ []))) (sym h) (k, refl)
sheets-more (r ∷ ss) [] s x h k = absurd h
sheets-more (r ∷ ss) (y ∷ xs) s x h k = (h.0, sheets-more ss xs s x h.1 k)

module _ (ss : List (List ℕ)) (xs : List (Answer (List Counted))) (are : SheetsAre ss xs) (room : length xs < 1000) where
  -- a refused sheet
  refused-more : (f : Fault) → marked (map (refused_by xs) (up_to 6 1)) (number_of f.refusal - 1) ≡ map (refused_by (xs ++ (refused f ∷ []))) (up_to 6 1)
  refused-more f =
      let n = number_of f.refusal in
      marked_more (refused_by xs) (refused_by (xs ++ (refused f ∷ []))) 6 1 (n - 1) n (omega (arith, number_positive f.refusal))
      (many_same number_of_answer xs (refused f))
      (omega (arith, many_more number_of_answer xs (refused f), many_few number_of_answer xs n))

  -- a sound one is refused by no number
  sound-same : (cs : List Counted) → map (refused_by xs) (up_to 6 1) ≡ map (refused_by (xs ++ (given cs ∷ []))) (up_to 6 1)
  sound-same cs =
      same_from (refused_by xs) (refused_by (xs ++ (given cs ∷ []))) 6 1
      (λ i l. many_same number_of_answer xs (given cs) i (λ e. omega arith))

  long : (x : Answer (List Counted)) → length xs + 1 ≡ length (xs ++ (x ∷ []))
  long x = omega (arith, length-append xs (x ∷ []))

  totals_more : (s : List ℕ) (x : Answer (List Counted)) → SheetIs s x → added (totals_of xs) x ≡ totals_of (xs ++ (x ∷ []))
  totals_more s (refused f) k =
      let same : curves_from 1 xs ≡ curves_from 1 (xs ++ (refused f ∷ [])) = sym (curves-more 1 xs (refused f) ∙ append-nil (curves_from 1 xs)) in
      λ i. record {
        sheets = long (refused f) i;
        verdicts = map (with_verdict (same i)) (up_to 4 0);
        refused = refused-more f i;
        sum = sum_of (same i);
        longest = longest_of (same i);
      }
  totals_more s (given cs) k =
      let old = curves_from 1 xs in
      let next = numbered (length xs + 1) 1 cs in
      let small = sheets_small 1 ss xs are in
      let one = sheet_small (length xs + 1) s (given cs) k in
      let tail : next ++ [] ≡ next = append-nil next in
      let all : old ++ next ≡ curves_from 1 (xs ++ (given cs ∷ [])) =
      sym (curves-more 1 xs (given cs) ∙ ap (λ (n : ℕ). old ++ curves_from n (given cs ∷ [])) (omega arith) ∙ ap (λ (ps : List Placed). old ++ ps) tail) in
      counts-more (length xs + 1) (map (refused_by xs) (up_to 6 1)) old next
      (omega (arith, length-append old next, small.0, one.0, ap length tail))
      (omega (arith, sum-append old next, small.1, one.1, ap sum_of tail))
      ∙ (λ i. counts (long (given cs) i) (sound-same cs i) (all i))

pub added_totals : (ss : List (List ℕ)) (s : List ℕ) (x : Answer (List Counted)) (t : Totals) → SheetIs s x → t.sheets < 1000 → IsTotals ss t → IsTotals (ss ++ (s ∷ [])) (added t x)
added_totals ss s x t k room (xs, are, e) =
    (xs ++ (x ∷ []), sheets-more ss xs s x are k, ap (λ (u : Totals). added u x) e ∙ totals_more ss xs are (omega (arith, ap (λ (u : Totals). u.sheets) e)) s x k)

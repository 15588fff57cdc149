-- Counting on from the totals of some curves gives the totals of more curves, as long as no number passes the machine's greatest.
--   same_from, marked_more   counts that stay, and one more at a place of a list of counts
--   counts            the totals of some curves, beside the numbers of sheets
--   counts-more       with further curves
use mathlib.Core.Path.{◌≡◌, refl, sym, ap, ◌∙◌}
use mathlib.Core.Logic.{◌≢◌}
use mathlib.Core.List.{List, [], ◌∷◌, ◌++◌, map, append_assoc, append-nil}
use Prim.Native.Nat.{ℕ, zero, suc, ◌+◌, ◌^◌, ◌<◌, ◌≤◌}
use native.Mathlib.Omega.{arith}
use lib.ListN.{length, length-append}
use Rattle.totals.specs.declared.Totals.{Totals}
use Rattle.totals.specs.Totals.{Placed, verdict_of, hundredths_of, verdict_at, with_verdict, sum_of, longer, own, longest_of, up_to}
use Rattle.totals.specs.Promise.{bounded, marked, with_curve, with_curves}
use Rattle.totals.proofs.Lists.{many_few, many_more, many_same, sum-append, longer-none, longest-append}

module _ (f g : ℕ → ℕ) where
  pub same_from : (n from : ℕ) → ((i : ℕ) → from ≤ i → f i ≡ g i) → map f (up_to n from) ≡ map g (up_to n from)
  same_from zero from h = refl
  same_from (suc n) from h = λ i. h from (omega arith) i ∷ same_from n (suc from) (λ j l. h j (omega arith)) i

  -- the count at e goes up by one, and every other stays
  pub marked_more : (n from j e : ℕ) → e ≡ from + j → ((i : ℕ) → i ≢ e → f i ≡ g i) → bounded (f e + 1) ≡ g e → marked (map f (up_to n from)) j ≡ map g (up_to n from)
  marked_more zero from j e p h k = refl
  marked_more (suc n) from zero e p h k =
      let q : e ≡ from = omega arith in
      λ i. (ap (λ m. bounded (f m + 1)) (sym q) ∙ k ∙ ap g q) i ∷ same_from n (suc from) (λ j l. h j (λ r. omega arith)) i
  marked_more (suc n) from (suc j) e p h k = λ i. h from (λ r. omega arith) i ∷ marked_more n (suc from) j e (omega arith) h k i

module _ (sheets : ℕ) (refused : List ℕ) where
  abbrev pub counts : List Placed → Totals
  counts ps = record { sheets = sheets; verdicts = map (with_verdict ps) (up_to 4 0); refused = refused; sum = sum_of ps; longest = longest_of ps }

  -- one curve
  count-more : (ps : List Placed) (p : Placed) → length ps < 2 ^ 63 → sum_of ps + hundredths_of p.is < 2 ^ 63 → with_curve (counts ps) p ≡ counts (ps ++ (p ∷ []))
  count-more ps p l m =
      let v = verdict_of p.is in
      let verdicts : marked (map (with_verdict ps) (up_to 4 0)) v ≡ map (with_verdict (ps ++ (p ∷ []))) (up_to 4 0) =
      marked_more (with_verdict ps) (with_verdict (ps ++ (p ∷ []))) 4 0 v v (omega arith)
      (many_same verdict_at ps p)
      (omega (arith, many_more verdict_at ps p, many_few verdict_at ps v))
      in
      let sum : bounded (sum_of ps + hundredths_of p.is) ≡ sum_of (ps ++ (p ∷ [])) = omega (arith, sum-append ps (p ∷ [])) in
      let longest : longer (longest_of ps) (own p) ≡ longest_of (ps ++ (p ∷ [])) = sym (longest-append ps (p ∷ []) ∙ ap (longer (longest_of ps)) (longer-none (own p))) in
      λ i. record { sheets = sheets; verdicts = verdicts i; refused = refused; sum = sum i; longest = longest i }

  pub counts-more : (ps qs : List Placed) → length (ps ++ qs) < 2 ^ 63 → sum_of (ps ++ qs) < 2 ^ 63 → with_curves (counts ps) qs ≡ counts (ps ++ qs)
  counts-more ps [] l m = ap counts (sym (append-nil ps))
  counts-more ps (q ∷ qs) l m =
      let e = append_assoc ps (q ∷ []) qs in
      ap (λ (t : Totals). with_curves t qs)
      (count-more ps q (omega (arith, length-append ps (q ∷ qs))) (omega (arith, sum-append ps (q ∷ qs))))
      ∙ counts-more (ps ++ (q ∷ [])) qs (rw e l) (rw e m)
      ∙ ap counts e

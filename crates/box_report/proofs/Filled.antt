-- Totals that are those of some sheets.
--   boxed_none      no sheets
--   boxed_added     they stay so with a sheet more, and where the box is full
--   line-room       how long the line of the sheet is that was taken.      totals_room   how long the lines of the totals are
use mathlib.Core.Path.{◌≡◌, refl, sym, ap, ◌∙◌, subst}
use mathlib.Core.List.{List, [], ◌∷◌, ◌++◌}
use Prim.Native.Nat.{ℕ, suc, ◌+◌, ◌≤◌, ◌<◌}
use native.Mathlib.Omega.{arith}
use lib.ListN.{length, length-append}
use Rattle.refusal.proofs.Answers.{by_order}
use Rattle.refusal.specs.Answers.{answer_at}
use Rattle.totals.specs.declared.Totals.{Totals}
use Rattle.totals.specs.declared.Added.{Added}
use Rattle.totals.specs.Totals.{totals_of, IsTotals}
use Rattle.totals.specs.Promise.{Adds}
use Rattle.totals.proofs.Sizes.{sheets-long}
use Rattle.totals_text.specs.Texts.{totals_text, sheet_line}
use Rattle.totals_text.proofs.Short.{line_short, totals_short}
use Rattle.box_report.specs.Boxes.{Boxed}

sheets_of : (ss : List (List ℕ)) (t : Totals) → IsTotals ss t → t.sheets ≡ length ss
sheets_of ss t (xs, are, e) = ap (λ (u : Totals). u.sheets) e ∙ sheets-long ss xs are

pub boxed_none : (t : Totals) → t ≡ totals_of [] → Boxed t
boxed_none t e = ([], ([], refl, e), omega arith)

module _ (t : Totals) (s : List ℕ) (r : Added) (b : Boxed t) (a : Adds t s r) where
  boxed_taken : t.sheets < 1000 → Boxed r.totals
  boxed_taken l = (b.0 ++ (s ∷ []), (a.room l).totals b.0 b.1, omega (arith, length-append b.0 (s ∷ []), sheets_of b.0 t b.1))

  pub boxed_added : Boxed r.totals
  boxed_added = by_order (suc t.sheets) 1000 (λ l. boxed_taken (omega arith)) (λ l. subst Boxed (sym (a.full (omega arith)).0) b)

  pub line-room : (name : List ℕ) → (r.totals.sheets ≡ t.sheets → ⊥) → length (sheet_line r.totals.sheets name (answer_at r.answer)) ≤ length name + 32
  line-room name n =
      by_order (suc t.sheets) 1000
      (λ l.
      let k = a.room (omega arith) in
      let x = boxed_taken (omega arith) in
      line_short r.totals.sheets name s r.answer (omega (arith, sheets_of x.0 r.totals x.1, x.2)) k.says)
      (λ l. absurd (n (ap (λ (u : Totals). u.sheets) (a.full (omega arith)).0)))

pub totals_room : (t : Totals) → Boxed t → length (totals_text t) ≤ 512
totals_room t b = totals_short b.0 t b.1 b.2

-- What `add_sheet` promises, of any box: also of one that no list of sheets has.
--   bounded             a number, or the greatest that the machine has.      marked   one more at a place of a list
--   with_curve, with_curves, with_refused   the totals with a curve, several curves or a refusal more
--   one_more, counting, added             the number of the next sheet; what that sheet counts for; both
--   Taken, Adds         the promise, where the box has room; and of any box
use Rattle.std.specs.Prelude.{◌≡◌, List, [], ◌∷◌, ◌++◌, ℕ, ◌+◌, ◌-◌, ◌^◌, ◌<◌, ◌≤◌, min, get_or, set}
use Rattle.refusal.specs.declared.Refusal.TheVariants as refusal
use Rattle.refusal.specs.declared.Fault.{Fault}
use Rattle.refusal.specs.Table.{number_of}
use Rattle.refusal.specs.Answers.{Answer, refused, given, refuse, answer_at}
use Rattle.sheet.specs.Promise.{Checks}
use Rattle.totals.specs.declared.Counted.{Counted}
use Rattle.totals.specs.declared.Totals.{Totals}
use Rattle.totals.specs.declared.Added.{Added}
use Rattle.totals.specs.Sheets.{SheetIs}
use Rattle.totals.specs.Totals.{Placed, numbered, verdict_of, hundredths_of, longer, own, IsTotals}

-- no box of 1,000 sheets comes near that number
abbrev pub bounded : ℕ → ℕ
bounded n = min n (2 ^ 64 - 1)

abbrev pub marked : List ℕ → ℕ → List ℕ
marked counts i = set counts i (bounded (get_or counts i 0 + 1))

abbrev pub with_curve : Totals → Placed → Totals
with_curve t p = record {
  sheets = t.sheets;
  verdicts = marked t.verdicts (verdict_of p.is);
  refused = t.refused;
  sum = bounded (t.sum + hundredths_of p.is);
  longest = longer t.longest (own p);
}

abbrev pub with_curves : Totals → List Placed → Totals
with_curves t [] = t
with_curves t (p ∷ ps) = with_curves (with_curve t p) ps

abbrev pub with_refused : Totals → Fault → Totals
with_refused t f = record { sheets = t.sheets; verdicts = t.verdicts; refused = marked t.refused (number_of f.refusal - 1); sum = t.sum; longest = t.longest }

abbrev pub one_more : Totals → Totals
one_more t = record { sheets = t.sheets + 1; verdicts = t.verdicts; refused = t.refused; sum = t.sum; longest = t.longest }

abbrev pub counting : Totals → Answer (List Counted) → Totals
counting t (refused f) = with_refused t f
counting t (given cs) = with_curves t (numbered t.sheets 1 cs)

abbrev pub added : Totals → Answer (List Counted) → Totals
added t x = counting (one_more t) x

-- the totals of some sheets become those of one sheet more
pub record Taken (t : Totals) (s : List ℕ) (r : Added) : Type 0 where
  pub counted : Answer (List Counted)
  pub sheet_is : SheetIs s counted
  pub adds : r.totals ≡ added t counted
  pub says : Checks s r.answer
  pub totals : (ss : List (List ℕ)) → IsTotals ss t → IsTotals (ss ++ (s ∷ [])) r.totals

-- a full box stays as it is
pub record Adds (t : Totals) (s : List ℕ) (r : Added) : Type 0 where
  pub room : t.sheets < 1000 → Taken t s r
  pub full : 1000 ≤ t.sheets → (r.totals ≡ t) × (answer_at r.answer ≡ refuse refusal.Full 1001)

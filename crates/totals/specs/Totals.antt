-- The totals of a box, as a definition on the list of its sheets.
--   Placed, placed      a curve of the box: the number of its sheet, its number there, and what it counts for
--   numbered            the curves of a sheet, from a number on
--   curves_from          all curves of the box, whose first sheet has this number
--   verdict_of           0 for still, 1 for no, 2 for ph, 3 for pre.      hundredths_of   the length, where it is measured
--   sum_of               the sum of the lengths
--   longer              the longer of two, the first of equals.      length_at, own   a curve by itself
--   longest_of           the longest curve, the first of equals
--   how_many, verdict_at, with_verdict, refused_by     how many curves have a verdict; how many sheets are refused by a number
--   up_to                the numbers of a table's rows
--   totals_of, IsTotals  the totals: of what the sheets count for, and of the sheets
use Rattle.std.specs.Prelude.{◌≡◌, List, [], ◌∷◌, ◌++◌, map, ℕ, zero, suc, ◌+◌, eqb, ltb, length, Option, Some, None}
use Rattle.refusal.specs.Answers.{Answer, refused, given, number_of_answer, when◌then◌else◌}
use Rattle.totals.specs.declared.Counted.{Counted}
use Rattle.totals.specs.declared.Counted.TheVariants.{Still, No, Ph, Pre}
use Rattle.totals.specs.declared.Longest.{Longest}
use Rattle.totals.specs.declared.Totals.{Totals}
use Rattle.totals.specs.Sheets.{SheetsAre}

pub record Placed : Type 0 where
  pub sheet : ℕ
  pub number : ℕ
  pub is : Counted

abbrev pub placed : ℕ → ℕ → Counted → Placed
placed s k x = record { sheet = s; number = k; is = x }

abbrev pub numbered : ℕ → ℕ → List Counted → List Placed
numbered s k [] = []
numbered s k (x ∷ xs) = placed s k x ∷ numbered s (suc k) xs

abbrev pub curves_from : ℕ → List (Answer (List Counted)) → List Placed
curves_from s [] = []
curves_from s (refused f ∷ xs) = curves_from (suc s) xs
curves_from s (given cs ∷ xs) = numbered s 1 cs ++ curves_from (suc s) xs

abbrev pub verdict_of : Counted → ℕ
verdict_of Still = 0
verdict_of No = 1
verdict_of Ph = 2
verdict_of (Pre m) = 3

abbrev pub hundredths_of : Counted → ℕ
hundredths_of Still = 0
hundredths_of No = 0
hundredths_of Ph = 0
hundredths_of (Pre m) = m

abbrev pub sum_of : List Placed → ℕ
sum_of [] = 0
sum_of (p ∷ ps) = hundredths_of p.is + sum_of ps

abbrev pub longer : Option Longest → Option Longest → Option Longest
longer None y = y
longer (Some a) None = Some a
longer (Some a) (Some b) = when ltb a.hundredths b.hundredths then Some b else Some a

abbrev pub length_at : ℕ → ℕ → Counted → Option Longest
length_at s k Still = None
length_at s k No = None
length_at s k Ph = None
length_at s k (Pre m) = Some (record { hundredths = m; sheet = s; number = k })

abbrev pub own : Placed → Option Longest
own p = length_at p.sheet p.number p.is

abbrev pub longest_of : List Placed → Option Longest
longest_of [] = None
longest_of (p ∷ ps) = longer (own p) (longest_of ps)

-- how many of a list have a number, by which each is known
abbrev pub how_many : {A : Type 0} → (A → ℕ) → List A → ℕ → ℕ
how_many number [] n = 0
how_many number (x ∷ xs) n = (when eqb n (number x) then 1 else 0) + how_many number xs n

abbrev pub verdict_at : Placed → ℕ
verdict_at p = verdict_of p.is

abbrev pub with_verdict : List Placed → ℕ → ℕ
with_verdict = how_many verdict_at

abbrev pub refused_by : List (Answer (List Counted)) → ℕ → ℕ
refused_by = how_many number_of_answer

-- so many numbers, from one on
abbrev pub up_to : ℕ → ℕ → List ℕ
up_to zero from = []
up_to (suc n) from = from ∷ up_to n (suc from)

abbrev pub totals_of : List (Answer (List Counted)) → Totals
totals_of xs =
    let curves = curves_from 1 xs in
    record {
      sheets = length xs;
      verdicts = map (with_verdict curves) (up_to 4 0);
      refused = map (refused_by xs) (up_to 6 1);
      sum = sum_of curves;
      longest = longest_of curves;
    }

abbrev pub IsTotals : List (List ℕ) → Totals → Type 0
IsTotals ss t = (xs : List (Answer (List Counted))) × SheetsAre ss xs × (t ≡ totals_of xs)

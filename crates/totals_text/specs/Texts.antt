-- The text of a bench report, as bytes.
--   hundredths_text              whole hundredths, with a point before the last two digits
--   count_line                   a number behind its label
--   verdict_lines, refusal_lines  how many curves of each verdict, and how many sheets refused by each number
--   longest_line                 the longest curve, or that there is none
--   totals_text                  the lines of the totals
--   front, said, sheet_line      a sheet's number and name; what was said of it; its line
use Rattle.std.specs.Prelude.{List, ◌++◌, ℕ, ◌/◌, ◌%◌, pos, get_or, Option, Some, None}
use Prim.Native.String.{String}
use Rattle.refusal.specs.Answers.{Answer, refused, given}
use Rattle.sheet.specs.declared.Checked.{Checked}
use Rattle.text.specs.Texts.{bytes, decimal, labelled}
use Rattle.report_text.specs.Texts.{refused_line}
use Rattle.totals.specs.declared.Longest.{Longest}
use Rattle.totals.specs.declared.Totals.{Totals}

abbrev pub hundredths_text : ℕ → List ℕ
hundredths_text m = decimal (m / 100) ++ labelled "." (pos (m / 10 % 10)) ++ decimal (m % 10)

abbrev pub count_line : String → ℕ → List ℕ
count_line label n = bytes label ++ decimal n ++ bytes "\n"

abbrev pub verdict_lines : List ℕ → List ℕ
verdict_lines v = count_line "still " (get_or v 0 0) ++ count_line "no " (get_or v 1 0) ++ count_line "ph " (get_or v 2 0) ++ count_line "pre " (get_or v 3 0)

abbrev pub refusal_lines : List ℕ → List ℕ
refusal_lines n =
    count_line "refused 1 " (get_or n 0 0)
    ++ count_line "refused 2 " (get_or n 1 0)
    ++ count_line "refused 3 " (get_or n 2 0)
    ++ count_line "refused 4 " (get_or n 3 0)
    ++ count_line "refused 5 " (get_or n 4 0)
    ++ count_line "refused 6 " (get_or n 5 0)

abbrev pub longest_line : Option Longest → List ℕ
longest_line None = bytes "longest none\n"
longest_line (Some l) = bytes "longest " ++ hundredths_text l.hundredths ++ labelled " sheet " (pos l.sheet) ++ count_line " curve " l.number

abbrev pub totals_text : Totals → List ℕ
totals_text t =
    count_line "sheets " t.sheets
    ++ verdict_lines t.verdicts
    ++ refusal_lines t.refused
    ++ bytes "sum " ++ hundredths_text t.sum ++ bytes "\n"
    ++ longest_line t.longest

abbrev pub front : ℕ → List ℕ → List ℕ
front number name = decimal number ++ bytes " " ++ name ++ bytes ": "

-- a sheet's mission is not told
abbrev pub said : Answer Checked → List ℕ
said (given told) = decimal told.curves ++ bytes " curves\n"
said (refused f) = refused_line f

abbrev pub sheet_line : ℕ → List ℕ → Answer Checked → List ℕ
sheet_line number name a = front number name ++ said a

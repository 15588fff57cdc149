-- The text of a report, as bytes: 01, "The report".
--   mission_text         a sheet's mission
--   first_line           the first line of a sound sheet's report: 02, P6
--   verdict_text         a verdict with its numbers
--   kind_text            a curve's kind, between blanks
--   line_text            the line of a curve
--   refused_line         the one line of a faulty sheet's report
use Rattle.std.specs.Prelude.{List, ◌++◌, ℕ, pos, Option, Some, None}
use Rattle.refusal.specs.declared.Fault.{Fault}
use Rattle.refusal.specs.Table.{number_of}
use Rattle.curve.specs.declared.Curve.{Curve}
use Rattle.verdict.specs.declared.Verdict.{Verdict}
use Rattle.verdict.specs.declared.Verdict.TheVariants as verdict
use Rattle.measure.specs.Lengths.{length_a, length_b}
use Rattle.record.specs.Kinds.{row_of, kind_of}
use Rattle.text.specs.Texts.{bytes, decimal, labelled}

abbrev pub mission_text : Option ℕ → List ℕ
mission_text None = bytes "mission none"
mission_text (Some m) = labelled "mission " (pos m)

abbrev pub first_line : Option ℕ → ℕ → List ℕ
first_line m count = mission_text m ++ labelled " sheet " (pos count) ++ bytes "\n"

abbrev pub verdict_text : Curve → Verdict → List ℕ
verdict_text curve verdict.Still = bytes "still"
verdict_text curve verdict.No = bytes "no"
verdict_text curve (verdict.Ph s) = labelled "ph c=" s.c
verdict_text curve (verdict.Pre p) = labelled "pre c=" p.square.c ++ labelled " len=" (length_a curve p.square.q) ++ labelled "/" (length_b curve)

abbrev pub kind_text : Curve → List ℕ
kind_text curve = bytes " " ++ (row_of (kind_of curve)).name ++ bytes " "

abbrev pub line_text : ℕ → Curve → Verdict → List ℕ
line_text number curve v = decimal number ++ kind_text curve ++ verdict_text curve v ++ bytes "\n"

abbrev pub refused_line : Fault → List ℕ
refused_line f = labelled "refused " (pos (number_of f.refusal)) ++ labelled " at " (pos f.place) ++ bytes "\n"

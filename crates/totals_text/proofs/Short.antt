-- How long the texts of a box are.
--   line_short       the line of a sheet of the first 1,000 has at most 32 bytes besides its name
--   totals_short     the lines of the totals have at most 512 bytes
use mathlib.Core.Path.{sym, ap}
use mathlib.Core.List.{List, [], ◌∷◌, ◌++◌}
use Prim.Native.Nat.{ℕ, suc, ◌+◌, ◌/◌, ◌%◌, ◌^◌, ◌≤◌, ◌<◌}
use Prim.Native.String.{String}
use native.Mathlib.Omega.{arith}
use lib.IntN.{pos}
use lib.ListN.{length, length-append}
use Rattle.refusal.specs.Table.{number_of}
use Rattle.std.specs.Prelude.{Option, Some, None, Result, Ok, Err}
use Rattle.refusal.specs.declared.Fault.{Fault}
use Rattle.refusal.specs.Answers.{number_of_answer, answer_at}
use Rattle.refusal.proofs.Answers.{refused-back}
use Rattle.refusal.proofs.Laws.{number_small}
use Rattle.sheet.specs.declared.Checked.{Checked}
use Rattle.sheet.specs.Survey.{outcome}
use Rattle.sheet.specs.Promise.{told_of, Checks}
use Rattle.sheet.proofs.Faults.{check_few, fault_near}
use Rattle.text.specs.Texts.{bytes, decimal, labelled}
use Rattle.text.proofs.Decimals.{decimal_few}
use Rattle.totals.specs.declared.Longest.{Longest}
use Rattle.totals.specs.declared.Totals.{Totals}
use Rattle.totals.specs.Totals.{curves_from, verdict_at, with_verdict, refused_by, totals_of, IsTotals}
use Rattle.totals.proofs.Lists.{many_few}
use Rattle.totals.proofs.Sizes.{sheets-long, sheets_small}
use Rattle.totals.proofs.Bounds.{Light, longest_light, sheets_light}
use Rattle.totals_text.specs.Texts.{hundredths_text, count_line, verdict_lines, refusal_lines, longest_line, totals_text, front, said, sheet_line}

-- ---- the line of a sheet
said_short : (s : List ℕ) (r : Result Checked Fault) → Checks s r → length (said (answer_at r)) ≤ 20
said_short s (Ok told) h =
    let few = check_few s told h in
    omega (arith, length-append (decimal told.curves) (bytes " curves\n"), decimal_few 2 told.curves (omega arith))
said_short s (Err f) h =
    let front = labelled "refused " (pos (number_of f.refusal)) in
    let back = labelled " at " (pos f.place) in
    omega (
      arith,
      length-append (front ++ back) (bytes "\n"),
      length-append front back,
      length-append (bytes "refused ") (decimal (number_of f.refusal)),
      length-append (bytes " at ") (decimal f.place),
      decimal_few 1 (number_of f.refusal) (omega (arith, number_small f.refusal)),
      decimal_few 3 f.place (omega (arith, fault_near s f (refused-back told_of (outcome s) (sym h)))),
    )

pub line_short : (n : ℕ) (name s : List ℕ) (r : Result Checked Fault) → n ≤ 1000 → Checks s r → length (sheet_line n name (answer_at r)) ≤ length name + 32
line_short n name s r l h =
    let digits = decimal n in
    omega (
      arith,
      length-append (front n name) (said (answer_at r)),
      length-append (digits ++ bytes " " ++ name) (bytes ": "),
      length-append (digits ++ bytes " ") name,
      length-append digits (bytes " "),
      decimal_few 3 n (omega arith),
      said_short s r h,
    )

-- ---- the totals
count_short : (label : String) (k n : ℕ) → n < 10 ^ suc k → length (count_line label n) ≤ length (bytes label) + suc k + 1
count_short label k n l = omega (arith, length-append (bytes label ++ decimal n) (bytes "\n"), length-append (bytes label) (decimal n), decimal_few k n l)

hundredths_short : (k m : ℕ) → m / 100 < 10 ^ suc k → length (hundredths_text m) ≤ suc k + 3
hundredths_short k m l =
    let tenth = labelled "." (pos (m / 10 % 10)) in
    omega (
      arith,
      length-append (decimal (m / 100) ++ tenth) (decimal (m % 10)),
      length-append (decimal (m / 100)) tenth,
      length-append (bytes ".") (decimal (m / 10 % 10)),
      decimal_few k (m / 100) l,
      decimal_few 0 (m / 10 % 10) (omega arith),
      decimal_few 0 (m % 10) (omega arith),
    )

longest_short : (x : Option Longest) → Light 1000 x → length (longest_line x) ≤ 48
longest_short None h = omega arith
longest_short (Some l) h =
    let a = bytes "longest " ++ hundredths_text l.hundredths in
    let b = labelled " sheet " (pos l.sheet) in
    omega (
      arith,
      length-append (a ++ b) (count_line " curve " l.number),
      length-append a b,
      length-append (bytes "longest ") (hundredths_text l.hundredths),
      hundredths_short 5 l.hundredths (omega (arith, h.0)),
      length-append (bytes " sheet ") (decimal l.sheet),
      decimal_few 3 l.sheet (omega (arith, h.1)),
      count_short " curve " 2 l.number (omega (arith, h.2)),
    )

verdicts_short : (v : ℕ → ℕ) → ((i : ℕ) → v i ≤ 113000) → length (verdict_lines (v 0 ∷ v 1 ∷ v 2 ∷ v 3 ∷ [])) ≤ 64
verdicts_short v h =
    let a = count_line "still " (v 0) in
    let b = count_line "no " (v 1) in
    let c = count_line "ph " (v 2) in
    omega (
      arith,
      length-append (a ++ b ++ c) (count_line "pre " (v 3)),
      length-append (a ++ b) c,
      length-append a b,
      count_short "still " 5 (v 0) (omega (arith, h 0)),
      count_short "no " 5 (v 1) (omega (arith, h 1)),
      count_short "ph " 5 (v 2) (omega (arith, h 2)),
      count_short "pre " 5 (v 3) (omega (arith, h 3)),
    )

refusals_short : (n : ℕ → ℕ) → ((i : ℕ) → n i ≤ 1000) → length (refusal_lines (n 1 ∷ n 2 ∷ n 3 ∷ n 4 ∷ n 5 ∷ n 6 ∷ [])) ≤ 96
refusals_short n h =
    let a = count_line "refused 1 " (n 1) in
    let b = count_line "refused 2 " (n 2) in
    let c = count_line "refused 3 " (n 3) in
    let d = count_line "refused 4 " (n 4) in
    let e = count_line "refused 5 " (n 5) in
    omega (
      arith,
      length-append (a ++ b ++ c ++ d ++ e) (count_line "refused 6 " (n 6)),
      length-append (a ++ b ++ c ++ d) e,
      length-append (a ++ b ++ c) d,
      length-append (a ++ b) c,
      length-append a b,
      count_short "refused 1 " 3 (n 1) (omega (arith, h 1)),
      count_short "refused 2 " 3 (n 2) (omega (arith, h 2)),
      count_short "refused 3 " 3 (n 3) (omega (arith, h 3)),
      count_short "refused 4 " 3 (n 4) (omega (arith, h 4)),
      count_short "refused 5 " 3 (n 5) (omega (arith, h 5)),
      count_short "refused 6 " 3 (n 6) (omega (arith, h 6)),
    )

pub totals_short : (ss : List (List ℕ)) (t : Totals) → IsTotals ss t → length ss ≤ 1000 → length (totals_text t) ≤ 512
totals_short ss t (xs, are, e) l =
    let ps = curves_from 1 xs in
    let many : length xs ≤ 1000 = omega (arith, sheets-long ss xs are) in
    let small = sheets_small 1 ss xs are in
    let a = count_line "sheets " (length xs) in
    let u = totals_of xs in
    let b = a ++ verdict_lines u.verdicts in
    let c = b ++ refusal_lines u.refused in
    let d = c ++ bytes "sum " in
    let f = d ++ hundredths_text u.sum in
    let g = f ++ bytes "\n" in
    omega (
      arith,
      ap (λ (v : Totals). length (totals_text v)) e,
      length-append g (longest_line u.longest),
      length-append f (bytes "\n"),
      length-append d (hundredths_text u.sum),
      length-append c (bytes "sum "),
      length-append b (refusal_lines u.refused),
      length-append a (verdict_lines u.verdicts),
      count_short "sheets " 3 (length xs) (omega arith),
      verdicts_short (with_verdict ps) (λ i. omega (arith, many_few verdict_at ps i, small.0)),
      refusals_short (refused_by xs) (λ i. omega (arith, many_few number_of_answer xs i)),
      hundredths_short 11 u.sum (omega (arith, small.1)),
      longest_short u.longest (longest_light 1000 ps (sheets_light 1000 1 ss xs are (omega arith))),
    )

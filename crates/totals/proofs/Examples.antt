-- A box worked out by hand: two sheets with a curve of the same length each, and a refused one between them.
--   diagonal      the quintic (0,0), (1,1), .., (5,5) has 707 hundredths: 5 times the root of 2
--   three         what the three sheets count for.      three_totals_lem   their totals: the first of equals is the longest, and the refused sheet has a number
use mathlib.Core.Path.{◌≡◌, refl}
use mathlib.Core.List.{List, [], ◌∷◌}
use native.Mathlib.Omega.{arith}
use lib.IntN.{pos}
use Rattle.refusal.specs.declared.Refusal.TheVariants as refusal
use Rattle.refusal.specs.Answers.{Answer, refuse, given, when◌then◌else◌}
use Rattle.whole.proofs.Linear.{linear}
use Rattle.totals.specs.declared.Counted.{Counted}
use Rattle.totals.specs.declared.Counted.TheVariants.{Still, No, Pre}
use Rattle.std.specs.Prelude.{Some}
use Rattle.totals.specs.declared.Totals.{Totals}
use Rattle.totals.specs.Hundredths.{Hundredths}
use Rattle.totals.specs.Totals.{totals_of}
use Rattle.totals.proofs.Reached.{hundredths_by}

diagonal : Hundredths (record { c = pos 2; a = pos 60; b = pos 12 }) 707
diagonal =
    hundredths_by _ (record { some_c = omega linear; a_nonneg = omega linear; some_b = omega linear; small_b = omega arith; small = omega arith })
    (record { root = 707; rest = 151 }) (record { is = refl; small = omega arith })

abbrev pub three : List (Answer (List Counted))
three = given (No ∷ Pre 424 ∷ Pre 707 ∷ []) ∷ refuse refusal.Leftover 52 ∷ given (Pre 707 ∷ Still ∷ []) ∷ []

abbrev pub three_totals : Totals
three_totals = record { sheets = 3; verdicts = 1 ∷ 1 ∷ 0 ∷ 3 ∷ []; refused = 0 ∷ 0 ∷ 1 ∷ 0 ∷ 0 ∷ 0 ∷ []; sum = 1838; longest = Some (record { hundredths = 707; sheet = 1; number = 3 }) }

pub three_totals_lem : totals_of three ≡ three_totals
unfolding when◌then◌else◌
three_totals_lem = refl

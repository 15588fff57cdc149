-- The texts of the box that is worked out by hand (totals, Examples).
--   three-text           the lines of its totals
--   sound-line, refused-line     the lines of its first two sheets
use mathlib.Core.Path.{◌≡◌, refl}
use Rattle.refusal.specs.declared.Refusal.TheVariants as refusal
use Rattle.refusal.specs.Answers.{given, refuse, when◌then◌else◌}
use Rattle.std.specs.Prelude.{Some}
use Rattle.text.specs.Texts.{bytes, digits_of}
use Rattle.totals.proofs.Examples.{three_totals}
use Rattle.totals_text.specs.Texts.{totals_text, sheet_line}

three-text :
    totals_text three_totals
    ≡ bytes "sheets 3\nstill 1\nno 1\nph 0\npre 3\nrefused 1 0\nrefused 2 0\nrefused 3 1\nrefused 4 0\nrefused 5 0\nrefused 6 0\nsum 18.38\nlongest 7.07 sheet 1 curve 3\n"
unfolding digits_of when◌then◌else◌
three-text = refl

sound-line : sheet_line 1 (bytes "first.sheet") (given (record { mission = Some 7; curves = 3 })) ≡ bytes "1 first.sheet: 3 curves\n"
unfolding digits_of when◌then◌else◌
sound-line = refl

refused-line : sheet_line 2 (bytes "second.sheet") (refuse refusal.Leftover 52) ≡ bytes "2 second.sheet: refused 3 at 52\n"
unfolding digits_of when◌then◌else◌
refused-line = refl

-- Sheets that are known without reading them.
--   laid             the records of curves, one behind another from a place on
--   header_entry, laid_out   a header with a number, and the records of curves behind it
--   AllInRange, AllMinusOne, AllMinusOnes   what is asked of the curves
--   laid-listed, out_listed   of curves in range they are whole, each where the one before it ends
--   written-sheet    a header, curves in range, one after another, and an erased tail: the sheet has just these
--   erased-sheet     an erased sheet of any allowed length has no curves
--   minus-bytes      points that are all (−1, −1) are bytes FF and nothing else, and yet
--   minus_ones_lem       a sheet of curves with such points has them all, and its mission, be its number FFFF: erasure shows in the length only
use mathlib.Core.Path.{◌≡◌, refl, sym, ap, ◌∙◌, subst}
use mathlib.Core.Bool.{Bool, true, false}
use mathlib.Core.List.{List, [], ◌∷◌, ◌++◌}
use Prim.Native.Nat.{ℕ, ◌+◌, ◌≤◌}
use native.Mathlib.Omega.{arith}
use lib.IntN.{negsuc}
use lib.ListN.{length, replicate, length-append, length-replicate, get_or-replicate}
use Rattle.pair.specs.declared.Pair.{Pair}
use Rattle.pair.specs.Pairs.{pair, PartsWithin}
use Rattle.curve.specs.declared.Curve.{Curve}
use Rattle.curve.specs.Curves.{points_of, InRange}
use Rattle.record.specs.Numbers.{encoded}
use Rattle.record.specs.declared.kinds.Kind.TheVariants.{Header}
use Rattle.record.specs.Kinds.{row_of, numbers_of, header_of, record_of}
use Rattle.record.specs.Records.{longest, erased, step_of}
use Rattle.std.specs.Prelude.{None, Ok}
use Rattle.record.proofs.Shown.{erased_ends}
use Rattle.record.proofs.Formed.{record_whole, range_is}
use Rattle.record.proofs.Headers.{header_may, curve_may, header-whole}
use Rattle.sheet.specs.Survey.{Entry, survey}
use Rattle.sheet.proofs.Surveys.{flat, Listed, survey_of_lem}
use Rattle.sheet.proofs.Appended.{entry_of}

abbrev pub laid : ℕ → List Curve → List Entry
laid at [] = []
laid at (c ∷ cs) = entry_of at c ∷ laid (at + length (record_of c)) cs

abbrev pub header_entry : ℕ → Entry
header_entry m = record { place = 0; kind = Header; bytes = header_of m }

abbrev pub laid_out : ℕ → List Curve → List Entry
laid_out m cs = header_entry m ∷ laid (row_of Header).size cs

abbrev pub AllInRange : List Curve → Type 0
AllInRange [] = Unit {0}
AllInRange (c ∷ cs) = InRange (points_of c) × AllInRange cs

pub laid-listed : (at : ℕ) (cs : List Curve) → AllInRange cs → Listed false at (laid at cs)
laid-listed at [] r = tt
laid-listed at (c ∷ cs) r = (refl, curve_may c, record_whole c ((range_is (points_of c)).1 r.0), laid-listed (at + length (record_of c)) cs r.1)

pub out_listed : (m : ℕ) (cs : List Curve) → AllInRange cs → Listed true 0 (laid_out m cs)
out_listed m cs r = (refl, header_may, header-whole m, laid-listed (row_of Header).size cs r)

replicate_ends : (first : Bool) (n : ℕ) → step_of first (replicate n erased) ≡ Ok None
replicate_ends first n = erased_ends first (replicate n erased) (λ i l. get_or-replicate n i erased 0 (omega (arith, length-replicate {A = ℕ} n erased)))

pub written-sheet : (m : ℕ) (cs : List Curve) (n : ℕ) → AllInRange cs → length (flat (laid_out m cs)) + n ≤ longest
    → survey (flat (laid_out m cs) ++ replicate n erased) ≡ record { records = laid_out m cs; end = length (flat (laid_out m cs)); ending = Ok tt }
written-sheet m cs n r l =
    survey_of_lem (flat (laid_out m cs) ++ replicate n erased) (laid_out m cs) (replicate n erased)
    (omega (arith, length-append (flat (laid_out m cs)) (replicate n erased), length-replicate {A = ℕ} n erased))
    refl (out_listed m cs r) (replicate_ends false n)

pub erased-sheet : (n : ℕ) → n ≤ longest → survey (replicate n erased) ≡ record { records = []; end = 0; ending = Ok tt }
erased-sheet n l = survey_of_lem (replicate n erased) [] (replicate n erased) (omega (arith, length-replicate {A = ℕ} n erased)) refl tt (replicate_ends true n)

-- ---- all points −1

abbrev minus_one : Pair
minus_one = pair (negsuc 0) (negsuc 0)

abbrev pub AllMinusOne : List Pair → Type 0
AllMinusOne [] = Unit {0}
AllMinusOne (p ∷ ps) = (p ≡ minus_one) × AllMinusOne ps

pub minus-bytes : (ps : List Pair) → AllMinusOne ps → encoded (numbers_of ps) ≡ replicate (length (encoded (numbers_of ps))) erased
minus-bytes [] a = refl
minus-bytes (p ∷ ps) a =
    let e : encoded (numbers_of (p ∷ ps)) ≡ encoded (numbers_of (minus_one ∷ ps)) = ap (λ (q : Pair). encoded (numbers_of (q ∷ ps))) a.0 in
    let f : encoded (numbers_of (minus_one ∷ ps)) ≡ replicate (length (encoded (numbers_of (minus_one ∷ ps)))) erased = ap (λ (l : List ℕ). replicate 8 erased ++ l) (minus-bytes ps a.1) in
    e ∙ f ∙ ap (λ (l : List ℕ). replicate (length l) erased) (sym e)

minus_range : (ps : List Pair) → AllMinusOne ps → InRange ps
minus_range [] a = tt
minus_range (p ∷ ps) a = (subst (PartsWithin 20000) (sym a.0) (record { re = record { size = omega arith }; im = record { size = omega arith } }), minus_range ps a.1)

abbrev pub AllMinusOnes : List Curve → Type 0
AllMinusOnes [] = Unit {0}
AllMinusOnes (c ∷ cs) = AllMinusOne (points_of c) × AllMinusOnes cs

minus_ranges : (cs : List Curve) → AllMinusOnes cs → AllInRange cs
minus_ranges [] a = tt
minus_ranges (c ∷ cs) a = (minus_range (points_of c) a.0, minus_ranges cs a.1)

pub minus_ones_lem : (m : ℕ) (cs : List Curve) (n : ℕ) → AllMinusOnes cs → length (flat (laid_out m cs)) + n ≤ longest
    → survey (flat (laid_out m cs) ++ replicate n erased) ≡ record { records = laid_out m cs; end = length (flat (laid_out m cs)); ending = Ok tt }
minus_ones_lem m cs n a = written-sheet m cs n (minus_ranges cs a)

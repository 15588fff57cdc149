-- The table of kinds, and the bytes of a record.
--   row_of        a kind's row: its name of two bytes, the length of its records, whether a sheet begins with one and has no other, whether
--                they hold coordinates, whether they are curves
--   longest_record   no kind's record has more bytes
--   kinds        the kinds, in the order in which a name is looked for
--   words        how many coordinates a record of a kind holds, behind the four bytes of its head
--   kind_of       the kind of a curve
--   numbers_of    a list of points as numbers: x then y of each point
--   formed       the bytes of a record: length, name, and what it holds
--   header_of     the bytes of a header with a mission's number
--   record_of     the bytes of a curve's record
--   points_in     the points that a record's bytes hold
use Rattle.std.specs.Prelude.{true, false, List, [], ◌∷◌, ◌++◌, ℕ, ◌-◌, ◌/◌, ◌%◌, ℤ, length}
use Rattle.refusal.specs.Answers.{when◌then◌else◌}
use Rattle.pair.specs.declared.Pair.{Pair}
use Rattle.curve.specs.declared.Curve.{Curve}
use Rattle.curve.specs.declared.Curve.TheVariants as curves
use Rattle.curve.specs.Curves.{points_of}
use Rattle.record.specs.declared.kinds.Kind.{Kind}
use Rattle.record.specs.declared.kinds.Kind.TheVariants.{Header, Cubic, Quintic}
use Rattle.record.specs.declared.kinds.Row.{Row}
use Rattle.record.specs.Numbers.{coordinates, paired, half_bytes, encoded}

-- b"MN" is 77, 78, b"C3" is 67, 51, and b"C5" is 67, 53
abbrev pub row_of : Kind → Row
row_of Header = record { name = 77 ∷ 78 ∷ []; size = 6; first = true; coordinates = false; curve = false }
row_of Cubic = record { name = 67 ∷ 51 ∷ []; size = 36; first = false; coordinates = true; curve = true }
row_of Quintic = record { name = 67 ∷ 53 ∷ []; size = 52; first = false; coordinates = true; curve = true }

abbrev pub longest_record : ℕ
longest_record = 52

abbrev pub kinds : List Kind
kinds = Header ∷ Cubic ∷ Quintic ∷ []

unfoldable pub words : Kind → ℕ
words k = when (row_of k).coordinates then ((row_of k).size - 4) / 4 else 0

abbrev pub kind_of : Curve → Kind
kind_of (curves.Cubic c) = Cubic
kind_of (curves.Quintic c) = Quintic

abbrev pub numbers_of : List Pair → List ℤ
numbers_of [] = []
numbers_of (p ∷ ps) = p.re ∷ p.im ∷ numbers_of ps

abbrev pub formed : Kind → List ℕ → List ℕ
formed k body = ((row_of k).size % 256 ∷ (row_of k).size / 256 ∷ []) ++ (row_of k).name ++ body

abbrev pub header_of : ℕ → List ℕ
header_of mission = formed Header (half_bytes mission)

abbrev pub record_of : Curve → List ℕ
record_of c = formed (kind_of c) (encoded (numbers_of (points_of c)))

unfoldable pub points_in : List ℕ → List Pair
points_in bytes = paired (coordinates ((length bytes - 4) / 4) bytes 4)

-- One step of reading a sheet: what stands at the start of the bytes that are left. By tests, in the order of 01, "The parameter sheet".
--   longest, erased, erased_length   how many bytes a sheet has at most; the byte FF; the length FFFF
--   erased_bytes  how many bytes FF a list begins with
--   named        the two bytes after the length are a kind's name
--   kind_in       the kind that they name
--   may_stand     records of a kind may stand there: at the sheet's first byte a header alone, behind it every other
--   all_within    every number is from −20,000 to 20,000
--   erased_end    the test behind an erased length, by how many bytes FF come first and how many bytes are left
--   erased_step, sized_step, kind_step   the tests behind an erased length, of a known kind, and of the kind
--   Step, slip    what stands there: a record of a kind, the end of the sheet, or what is wrong so many bytes further on
--   step_of       the step, at the sheet's first byte or behind it. Places count from the first byte left
use Rattle.std.specs.Prelude.{Bool, true, not, ◌&&◌, List, [], ◌∷◌, ℕ, suc, ltb, leb, eqb, length, get_or, ℤ, nat_abs, Option, Some, None, Result, Ok, Err}
use Rattle.refusal.specs.declared.Refusal.{Refusal}
use Rattle.refusal.specs.declared.Refusal.TheVariants as refusal
use Rattle.refusal.specs.Answers.{when◌then◌else◌}
use Rattle.curve.specs.Sizes.{coordinate_reach}
use Rattle.record.specs.Numbers.{size_of, coordinates}
use Rattle.record.specs.declared.kinds.Kind.{Kind}
use Rattle.record.specs.Kinds.{row_of, kinds, words}
use Rattle.record.specs.declared.steps.Slip.{Slip}

abbrev pub longest : ℕ
longest = 4096

abbrev pub erased : ℕ
erased = 255

abbrev pub erased_length : ℕ
erased_length = 65535

abbrev pub erased_bytes : List ℕ → ℕ
erased_bytes [] = 0
erased_bytes (b ∷ bytes) = when eqb b erased then suc (erased_bytes bytes) else 0

abbrev pub Step : Type 0
Step = Result (Option Kind) Slip

abbrev pub slip : Refusal → ℕ → Step
slip r offset = Err (record { refusal = r; offset = offset })

-- what an erased length begins: every byte left must be FF
unfoldable pub erased_end : ℕ → ℕ → Step
erased_end erased_first left = when ltb erased_first left then slip refusal.Leftover erased_first else Ok None

unfoldable pub erased_step : List ℕ → Step
erased_step rest = erased_end (erased_bytes rest) (length rest)

unfoldable pub named : Kind → List ℕ → Bool
named k rest = eqb (get_or rest 2 0) (get_or (row_of k).name 0 0) && eqb (get_or rest 3 0) (get_or (row_of k).name 1 0)

unfoldable pub kind_in : List Kind → List ℕ → Option Kind
kind_in [] rest = None
kind_in (k ∷ ks) rest = when named k rest then Some k else kind_in ks rest

unfoldable pub may_stand : Bool → Kind → Bool
may_stand first k = when first then (row_of k).first else not (row_of k).first

unfoldable pub all_within : List ℤ → Bool
all_within [] = true
all_within (x ∷ xs) = leb (nat_abs x) coordinate_reach && all_within xs

unfoldable pub sized_step : Kind → List ℕ → Step
sized_step k rest =
    when not (eqb (size_of rest) (row_of k).size) then slip refusal.Length 0
    else when ltb (length rest) (row_of k).size then slip refusal.Cut 0
    else when not (all_within (coordinates (words k) rest 4)) then slip refusal.Range 0
    else Ok (Some k)

abbrev pub kind_step : Bool → List ℕ → Option Kind → Step
kind_step first rest (Some k) = when may_stand first k then sized_step k rest else slip refusal.Kind 0
kind_step first rest None = slip refusal.Kind 0

unfoldable pub step_of : Bool → List ℕ → Step
step_of first rest =
    when eqb (length rest) 0 then Ok None
    else when eqb (length rest) 1 then (when eqb (get_or rest 0 0) erased then Ok None else slip refusal.Cut 0)
    else when eqb (size_of rest) erased_length then erased_step rest
    else when ltb (length rest) 4 then slip refusal.Cut 0
    else kind_step first rest (kind_in kinds rest)

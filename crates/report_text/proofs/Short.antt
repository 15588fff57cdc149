-- How long a report can be.
--   line_short                    a line of a curve has at most 47 bytes
--   refused_short, first_short    the line of a faulty sheet has at most 19 bytes, the first line of a sound one at most 24
--   report_short                  a report of a sheet of bytes has at most 5,335 bytes
--   room-enough                   so an area of that length is not refused, and
--   written_short                 no more bytes are written
use mathlib.Core.Path.{◌≡◌, refl, ap, subst}
use mathlib.Core.List.{List, ◌++◌}
use Rattle.std.specs.Prelude.{Option, Some, None, Ok, Err}
use Prim.Native.Nat.{ℕ, zero, suc, ◌*◌, ◌^◌, ◌≤◌, ◌<◌}
use native.Mathlib.Omega.{arith}
use lib.IntN.{ℤ, pos, negsuc, nat_abs}
use lib.ListN.{length, get_or, length-append}
use lib.Signed.{◌≤ℤ◌}
use mir.Syntax.{w8}
use mir.Val.{Fits}
use Rattle.refusal.specs.declared.Refusal.{Refusal}
use Rattle.refusal.specs.declared.Fault.{Fault}
use Rattle.refusal.specs.Table.{number_of}
use Rattle.refusal.specs.Answers.{Answer, refused, given, with_given}
use Rattle.refusal.proofs.Laws.{number_small}
use Rattle.whole.proofs.Linear.{linear}
use Rattle.curve.specs.declared.Curve.{Curve}
use Rattle.curve.specs.declared.Curve.TheVariants.{Cubic, Quintic}
use Rattle.verdict.specs.declared.Verdict.{Verdict}
use Rattle.verdict.specs.declared.Verdict.TheVariants as verdict
use Rattle.curve.specs.Curves.{points_of, InRange}
use Rattle.verdict.specs.Promise.{Recognised}
use Rattle.measure.specs.Lengths.{length_a, length_b}
use Rattle.measure.proofs.LengthSizes.{content_small, length_nonneg, length_small}
use Rattle.sheet.specs.Survey.{Entry, outcome, mission_of}
use Rattle.sheet.specs.Promise.{count_of, told_of}
use Rattle.sheet.proofs.Surveys.{sound_of}
use Rattle.sheet.proofs.Faults.{curves_few, fault_near}
use Rattle.sheet.proofs.Missions.{MissionSmall, mission_small}
use Rattle.sheet.proofs.Ahead.{curve_in_range}
use Rattle.text.specs.Texts.{signed, labelled, bytes, decimal}
use Rattle.text.proofs.Decimals.{decimal_few}
use Rattle.text.proofs.Held.{asked-written, room-enough as enough}
use Rattle.report_text.specs.Texts.{mission_text, first_line, kind_text, verdict_text, refused_line}
use Rattle.report_text.specs.Promise.{Line, Lines, ReportOf, Report, Reported}

-- ---- the numbers

signed_few : (k : ℕ) (x : ℤ) → pos 0 ≤ℤ x → nat_abs x < 10 ^ suc k → length (signed x) ≤ suc k
signed_few k (pos n) h l = decimal_few k n l
signed_few k (negsuc n) h l = absurd (omega linear)

-- ---- a line

denominator_short : (curve : Curve) → length (labelled "/" (length_b curve)) ≤ 3
denominator_short (Cubic c) = omega (arith, decimal_few 0 2 (omega arith))
denominator_short (Quintic c) = omega (arith, decimal_few 1 12 (omega arith))

verdict_short : (curve : Curve) (v : Verdict) → InRange (points_of curve) → Recognised (points_of curve) (Ok v) → length (verdict_text curve v) ≤ 39
verdict_short curve verdict.Still r h = omega arith
verdict_short curve verdict.No r h = omega arith
verdict_short curve (verdict.Ph s) r h =
    let k = h.1.1 in
    omega (arith, signed_few 14 s.c (omega (linear, k.positive)) (content_small curve s r k), length-append (bytes "ph c=") (signed s.c))
verdict_short curve (verdict.Pre p) r h =
    let k = h.1.1 in
    let a = length_a curve p.square.q in
    let front = labelled "pre c=" p.square.c in
    let middle = labelled " len=" a in
    omega (
      arith,
      signed_few 14 p.square.c (omega (linear, k.square_of.positive)) (content_small curve p.square r k.square_of),
      signed_few 9 a (length_nonneg p curve k) (omega (arith, length_small p curve r k)),
      denominator_short curve,
      length-append (front ++ middle) (labelled "/" (length_b curve)),
      length-append front middle,
      length-append (bytes "pre c=") (signed p.square.c),
      length-append (bytes " len=") (signed a),
    )

kind-long : (curve : Curve) → length (kind_text curve) ≡ 4
kind-long (Cubic c) = refl
kind-long (Quintic c) = refl

pub line_short : (s : List ℕ) (number : ℕ) (l : List ℕ) → Line s number l → number < 1000 → length l ≤ 47
line_short s number l h m =
    let digits = decimal number in
    let kind = kind_text h.curve in
    let v = verdict_text h.curve h.verdict in
    omega (
      arith,
      ap length h.is,
      length-append (digits ++ kind ++ v) (bytes "\n"),
      length-append (digits ++ kind) v,
      length-append digits kind,
      kind-long h.curve,
      decimal_few 2 number (omega arith),
      verdict_short h.curve h.verdict (curve_in_range s number h.curve h.has) h.recognised,
    )

lines_short : (s : List ℕ) (n : ℕ) (t : List ℕ) → Lines s n t → n < 1000 → length t ≤ 47 * n
lines_short s zero t h m = omega (arith, ap length h)
lines_short s (suc n) t (e, l, h, k, is) m =
    omega (arith, ap length is, length-append e l, lines_short s n e h (omega arith), line_short s (suc n) l k m)

-- ---- the report

pub refused_short : (s : List ℕ) (f : Fault) → outcome s ≡ refused f → length (refused_line f) ≤ 19
refused_short s f o =
    let front = labelled "refused " (pos (number_of f.refusal)) in
    let back = labelled " at " (pos f.place) in
    omega (
      arith,
      length-append (front ++ back) (bytes "\n"),
      length-append front back,
      length-append (bytes "refused ") (decimal (number_of f.refusal)),
      length-append (bytes " at ") (decimal f.place),
      decimal_few 1 (number_of f.refusal) (omega (arith, number_small f.refusal)),
      decimal_few 3 f.place (omega (arith, fault_near s f o)),
    )

-- a sound sheet has at most 113 curves
few : (s : List ℕ) (es : List Entry) → outcome s ≡ given es → count_of es ≤ 113
few s es o = subst (λ (x : List Entry). count_of x ≤ 113) (sound_of s o).1 (curves_few s)

mission_short : (m : Option ℕ) → MissionSmall m → length (mission_text m) ≤ 13
mission_short None l = omega arith
mission_short (Some m) l = omega (arith, length-append (bytes "mission ") (decimal m), decimal_few 4 m (omega (arith, l)))

pub first_short : (m : Option ℕ) (count : ℕ) → MissionSmall m → count ≤ 113 → length (first_line m count) ≤ 24
first_short m count small l =
    omega (
      arith,
      length-append (mission_text m ++ labelled " sheet " (pos count)) (bytes "\n"),
      length-append (mission_text m) (labelled " sheet " (pos count)),
      length-append (bytes " sheet ") (decimal count),
      mission_short m small,
      decimal_few 2 count (omega (arith, l)),
    )

-- the bytes of a sheet
module _ (s : List ℕ) (small : (i : ℕ) → Fits w8 (get_or s i 0)) where
  pub report_short : (t : List ℕ) → Report s t → length t ≤ 5335
  report_short t = by (outcome s) refl
    where
      by : (a : Answer (List Entry)) → outcome s ≡ a → ReportOf s (with_given told_of a) t → length t ≤ 5335
      by (refused f) o h = omega (arith, ap length h, refused_short s f o)
      by (given es) o (l, h, is) =
          let count = count_of es in
          omega (
            arith,
            ap length is,
            length-append (first_line (mission_of es) count) l,
            first_short (mission_of es) count (subst (λ (x : List Entry). MissionSmall (mission_of x)) (sound_of s o).1 (mission_small s small)) (few s es o),
            few s es o,
            lines_short s count l h (omega (arith, few s es o)),
          )

  pub room-enough : (before after : List ℕ) (r : Refusal) → 5335 ≤ length before → Reported s before after (Err r) → ⊥
  room-enough = enough 5335 report_short

  pub written_short : (before after : List ℕ) (n : ℕ) → Reported s before after (Ok n) → n ≤ 5335
  written_short before after n h = omega (arith, (asked-written (length before) h.text n h.says).0, report_short h.text h.is)

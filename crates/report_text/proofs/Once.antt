-- One answer.
--   line_once, lines_once     the line of a curve; the lines of the first curves
--   report_once               the report of a sheet
--   reported_once             what `write_report` promises: one answer and one area
use mathlib.Core.Path.{◌≡◌, sym, ap, ap₂, ◌∙◌, subst}
use Rattle.std.specs.Prelude.{Result, Ok}
use mathlib.Core.List.{List, ◌++◌}
use Prim.Native.Nat.{ℕ, zero, suc}
use Rattle.refusal.specs.declared.Refusal.{Refusal}
use Rattle.refusal.specs.Answers.{Answer, refused, given, with_given}
use Rattle.curve.specs.declared.Curve.{Curve}
use Rattle.curve.specs.Curves.{points_of}
use Rattle.verdict.specs.Promise.{Recognised}
use Rattle.verdict.proofs.Once.{recognised_once}
use Rattle.sheet.specs.Survey.{outcome}
use Rattle.sheet.specs.declared.Checked.{Checked}
use Rattle.sheet.specs.Promise.{told_of}
use Rattle.sheet.proofs.Once.{has_once}
use Rattle.text.proofs.Held.{text_in_once}
use Rattle.report_text.specs.Texts.{first_line, line_text}
use Rattle.report_text.specs.Promise.{Line, Lines, ReportOf, Report, Reported}

pub line_once : (s : List ℕ) (number : ℕ) (l l' : List ℕ) → Line s number l → Line s number l' → l ≡ l'
line_once s number l l' h k = h.is ∙ ap₂ (line_text number) c v ∙ sym k.is
  where
    c : h.curve ≡ k.curve
    c = has_once s number h.curve k.curve h.has k.has

    v : h.verdict ≡ k.verdict
    v =
        let e = recognised_once (points_of k.curve) (Ok h.verdict) (Ok k.verdict) (subst (λ (x : Curve). Recognised (points_of x) (Ok h.verdict)) c h.recognised) k.recognised in
        cc

pub lines_once : (s : List ℕ) (n : ℕ) (t t' : List ℕ) → Lines s n t → Lines s n t' → t ≡ t'
lines_once s zero t t' h k = h ∙ sym k
lines_once s (suc n) t t' (e, l, h, m, is) (e', l', h', m', is') = is ∙ ap₂ ◌++◌ (lines_once s n e e' h h') (line_once s (suc n) l l' m m') ∙ sym is'

report_of_once : (s : List ℕ) (a : Answer Checked) (t t' : List ℕ) → ReportOf s a t → ReportOf s a t' → t ≡ t'
report_of_once s (refused f) t t' h k = h ∙ sym k
report_of_once s (given told) t t' (l, h, is) (l', h', is') =
    is ∙ ap (λ (x : List ℕ). first_line told.mission told.curves ++ x) (lines_once s told.curves l l' h h') ∙ sym is'

pub report_once : (s t t' : List ℕ) → Report s t → Report s t' → t ≡ t'
report_once s t t' = report_of_once s (with_given told_of (outcome s)) t t'

pub reported_once : (s before x y : List ℕ) (r q : Result ℕ Refusal) → Reported s before x r → Reported s before y q → (r ≡ q) × (x ≡ y)
reported_once s = text_in_once (report_once s)

-- Lines that are written one after another.
--   lines_more      the line of the next curve comes behind those of the curves before
use Rattle.std.proofs.Common.{refl, sym, subst, List, ◌++◌, ℕ, suc, ◌+◌, add-one}
use Rattle.curve.specs.declared.Curve.{Curve}
use Rattle.sheet.specs.Promise.{HasCurve}
use Rattle.text.specs.declared.Text.{Text}
use Rattle.text.specs.Steps.{Writes}
use Rattle.text.proofs.Pieces.{◌then◌}
use Rattle.report_text.specs.Texts.{line_text}
use Rattle.report_text.specs.Steps.{WritesJudged, WritesLines}

pub lines_more : {a b d : Text} {s : List ℕ} {c : Curve} (k : ℕ) → WritesLines a s k b → HasCurve s (suc k) c → WritesJudged b c (line_text (k + 1) c) d
    → WritesLines a s (k + 1) d
lines_more {a} {b} {d} {s} {c} k w h l =
    let text = line_text (suc k) c l.verdict in
    subst (λ (n : ℕ). WritesLines a s n d) (sym (add-one k))
    (record {
      lines = w.lines ++ text;
      of_curves = (w.lines, text, w.of_curves, record { curve = c; verdict = l.verdict; has = h; recognised = l.recognised; is = refl }, refl);
      writes = w.writes then subst (λ (n : ℕ). Writes b (line_text n c l.verdict) d) (add-one k) l.writes;
    })

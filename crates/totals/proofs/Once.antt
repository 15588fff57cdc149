-- One answer.
--   curve_once, curves_once, sheet_once, sheets_once    what a curve, the first curves, a sheet and the sheets of a list count for
--   totals_once     the totals of a list of sheets
--   adds_once       what `add_sheet` promises of any box
use mathlib.Core.Path.{◌≡◌, sym, ap, ap₂, ◌∙◌, subst}
use mathlib.Core.List.{List, [], ◌∷◌, ◌++◌}
use Prim.Native.Nat.{ℕ, zero, suc, ◌<◌, ◌≤◌}
use native.Mathlib.Omega.{arith}
use Rattle.std.specs.Prelude.{Ok}
use Rattle.refusal.specs.Answers.{Answer, refused, given, with_given, answer_at}
use Rattle.refusal.proofs.Answers.{by_order, fault_answer_once}
use Rattle.curve.specs.declared.Curve.{Curve}
use Rattle.curve.specs.Curves.{points_of}
use Rattle.verdict.specs.declared.Verdict.{Verdict}
use Rattle.verdict.specs.declared.Verdict.TheVariants as verdict
use Rattle.verdict.specs.Promise.{Recognised}
use Rattle.verdict.proofs.Once.{recognised_once}
use Rattle.sheet.specs.Survey.{outcome}
use Rattle.sheet.specs.Promise.{count_of}
use Rattle.sheet.proofs.Once.{has_once}
use Rattle.totals.specs.declared.Counted.{Counted}
use Rattle.totals.specs.declared.Counted.TheVariants.{Pre}
use Rattle.totals.specs.declared.Totals.{Totals}
use Rattle.totals.specs.declared.Added.{Added}
use Rattle.totals.specs.Sheets.{CountsFor, CurveIs, CurvesAre, CheckedAs, SheetIs, SheetsAre}
use Rattle.totals.specs.Totals.{totals_of, IsTotals}
use Rattle.totals.specs.Promise.{added, Adds}
use Rattle.totals.proofs.Reached.{hundredths_once}

counts_once : (curve : Curve) (v : Verdict) (x y : Counted) → CountsFor curve v x → CountsFor curve v y → x ≡ y
counts_once curve verdict.Still x y h k = h ∙ sym k
counts_once curve verdict.No x y h k = h ∙ sym k
counts_once curve (verdict.Ph s) x y h k = h ∙ sym k
counts_once curve (verdict.Pre p) x y (m, h, e) (n, k, f) = e ∙ ap Pre (hundredths_once _ m n h k) ∙ sym f

pub curve_once : (s : List ℕ) (number : ℕ) (x y : Counted) → CurveIs s number x → CurveIs s number y → x ≡ y
curve_once s number x y h k =
    counts_once k.curve k.verdict x y (subst (λ (v : Verdict). CountsFor k.curve v x) v (subst (λ (d : Curve). CountsFor d h.verdict x) c h.counts)) k.counts
  where
    c : h.curve ≡ k.curve
    c = has_once s number h.curve k.curve h.has k.has

    v : h.verdict ≡ k.verdict
    v =
        let e = recognised_once (points_of k.curve) (Ok h.verdict) (Ok k.verdict) (subst (λ (d : Curve). Recognised (points_of d) (Ok h.verdict)) c h.recognised) k.recognised in
        cc

pub curves_once : (s : List ℕ) (n : ℕ) (xs ys : List Counted) → CurvesAre s n xs → CurvesAre s n ys → xs ≡ ys
curves_once s zero xs ys h k = h ∙ sym k
curves_once s (suc n) xs ys (e, x, h, m, is) (e', y, h', m', is') =
    is ∙ ap₂ (λ (zs : List Counted) (z : Counted). zs ++ (z ∷ [])) (curves_once s n e e' h h') (curve_once s (suc n) x y m m') ∙ sym is'

checked_once : (s : List ℕ) (a : Answer ℕ) (x y : Answer (List Counted)) → CheckedAs s a x → CheckedAs s a y → x ≡ y
checked_once s (refused f) x y h k = h ∙ sym k
checked_once s (given n) x y (xs, h, e) (ys, k, f) = e ∙ ap given (curves_once s n xs ys h k) ∙ sym f

pub sheet_once : (s : List ℕ) (x y : Answer (List Counted)) → SheetIs s x → SheetIs s y → x ≡ y
sheet_once s = checked_once s (with_given count_of (outcome s))

pub sheets_once : (ss : List (List ℕ)) (xs ys : List (Answer (List Counted))) → SheetsAre ss xs → SheetsAre ss ys → xs ≡ ys
sheets_once [] xs ys h k = h ∙ sym k
sheets_once (s ∷ ss) [] ys h k = absurd h
sheets_once (s ∷ ss) (x ∷ xs) [] h k = absurd k
sheets_once (s ∷ ss) (x ∷ xs) (y ∷ ys) h k = ap₂ (λ (z : Answer (List Counted)) zs. z ∷ zs) (sheet_once s x y h.0 k.0) (sheets_once ss xs ys h.1 k.1)

pub totals_once : (ss : List (List ℕ)) (t u : Totals) → IsTotals ss t → IsTotals ss u → t ≡ u
totals_once ss t u (xs, h, e) (ys, k, f) = e ∙ ap totals_of (sheets_once ss xs ys h k) ∙ sym f

pub adds_once : (t : Totals) (s : List ℕ) (r q : Added) → Adds t s r → Adds t s q → r ≡ q
adds_once t s r q h k = by_order (suc t.sheets) 1000 room full
  where
    both : r.totals ≡ q.totals → answer_at r.answer ≡ answer_at q.answer → r ≡ q
    both e f = λ i. record { totals = e i; answer = fault_answer_once r.answer q.answer f i }

    room : suc t.sheets ≤ 1000 → r ≡ q
    room l =
        let a = h.room (omega arith) in
        let b = k.room (omega arith) in
        let e = sheet_once s a.counted b.counted a.sheet_is b.sheet_is in
        both (a.adds ∙ ap (added t) e ∙ sym b.adds) (a.says ∙ sym b.says)

    full : 1000 < suc t.sheets → r ≡ q
    full l =
        let a = h.full (omega arith) in
        let b = k.full (omega arith) in
        both (a.0 ∙ sym b.0) (a.1 ∙ sym b.1)

-- Curves that are counted one after another.
--   curves-none, curves-next     no curve; the next curve comes behind those before
--   takes_sound, takes_refused   a sheet that was checked, and counted or refused, is taken
use mathlib.Core.Path.{◌≡◌, refl, sym, ap, ◌∙◌, subst}
use mathlib.Core.List.{List, [], ◌∷◌, ◌++◌}
use Prim.Native.Nat.{ℕ, suc, ◌+◌}
use native.Mathlib.Omega.{arith}
use native.Mathlib.Numerals.{add-one}
use lib.ListN.{length}
use Rattle.std.specs.Prelude.{Ok, Err}
use Rattle.refusal.specs.declared.Fault.{Fault}
use Rattle.refusal.specs.Answers.{Answer, refused, given}
use Rattle.curve.specs.declared.Curve.{Curve}
use Rattle.sheet.specs.declared.Checked.{Checked}
use Rattle.sheet.specs.Promise.{HasCurve, Checks}
use Rattle.sheet.proofs.Once.{count_checked}
use Rattle.totals.specs.declared.Counted.{Counted}
use Rattle.totals.specs.declared.Totals.{Totals}
use Rattle.totals.specs.Sheets.{CheckedAs}
use Rattle.totals.specs.Totals.{Placed, placed, numbered}
use Rattle.totals.specs.Promise.{with_curve, with_curves, with_refused}
use Rattle.totals.specs.Steps.{JudgedAs, CountsCurves, Takes}
use Rattle.totals.proofs.Lists.{numbered_more}
use Rattle.totals.proofs.Sizes.{curves-long}

pub curves-none : (t : Totals) (s : List ℕ) → CountsCurves t s 0 t
curves-none t s = record { curves = []; are = refl; counts = refl }

-- curves change no number of sheets
sheets-kept : (t : Totals) (ps : List Placed) → (with_curves t ps).sheets ≡ t.sheets
sheets-kept t [] = refl
sheets-kept t (p ∷ ps) = sheets-kept (with_curve t p) ps

with_last : (t : Totals) (ps : List Placed) (p : Placed) → with_curves t (ps ++ (p ∷ [])) ≡ with_curve (with_curves t ps) p
with_last t [] p = refl
with_last t (q ∷ ps) p = with_last (with_curve t q) ps p

pub curves-next :
    {t u v : Totals} {s : List ℕ} {c : Curve} {x : Counted} (k : ℕ) → CountsCurves t s k u → HasCurve s (suc k) c → JudgedAs c x
    → v ≡ with_curve u (placed u.sheets (k + 1) x) → CountsCurves t s (k + 1) v
curves-next {t} {u} {v} {s} {c} {x} k w h j e =
    let xs = w.curves in
    let ps = numbered t.sheets 1 xs in
    let sheet : u.sheets ≡ t.sheets = ap (λ (y : Totals). y.sheets) w.counts ∙ sheets-kept t ps in
    let number : k + 1 ≡ 1 + length xs = omega (arith, curves-long s k xs w.are) in
    subst (λ (n : ℕ). CountsCurves t s n v) (sym (add-one k))
    (record {
      curves = xs ++ (x ∷ []);
      are = (xs, x, w.are, record { curve = c; verdict = j.verdict; has = h; recognised = j.recognised; counts = j.counts }, refl);
      counts =
          e
          ∙ (λ i. with_curve (w.counts i) (placed (sheet i) (number i) x))
          ∙ sym (with_last t ps (placed t.sheets (1 + length xs) x))
          ∙ ap (with_curves t) (sym (numbered_more t.sheets 1 xs x));
    })

module _ (t : Totals) (s : List ℕ) where
  pub takes_sound : (u : Totals) (told : Checked) → Checks s (Ok told) → CountsCurves t s told.curves u → Takes t s (record { totals = u; answer = Ok told })
  takes_sound u told e w = record {
    counted = given w.curves;
    sheet_is = subst (λ (a : Answer ℕ). CheckedAs s a (given w.curves)) (count_checked s (Ok told) e) (w.curves, w.are, refl);
    adds = w.counts;
    says = e;
  }

  pub takes_refused : (f : Fault) → Checks s (Err f) → Takes t s (record { totals = with_refused t f; answer = Err f })
  takes_refused f e = record {
    counted = refused f;
    sheet_is = subst (λ (a : Answer ℕ). CheckedAs s a (refused f)) (count_checked s (Err f) e) refl;
    adds = refl;
    says = e;
  }

-- `rules::end_generator` meets its contract: D = t² E, and E = κ u² gives D = κ (t u)².
use mathlib.Core.Path.{◌≡◌, refl, sym, subst}
use mathlib.Core.List.{List, [], ◌∷◌}
use Prim.Native.Nat.{zero, suc}
use lib.IntN.{pos}
use Rattle.std.specs.Prelude.{Option, Some, None}
use Rattle.poly.specs.Polynomials.{Same}
use Rattle.pair.specs.declared.Pair.{Pair}
use Rattle.pair.specs.Pairs.{pairs, multiple}
use Rattle.bernstein.specs.Powers.{power_form}
use Rattle.verdict.specs.declared.Quadratic.{Quadratic}
use Rattle.verdict.specs.declared.rules.Generator.{Generator}
use Rattle.verdict.specs.Verdicts.{quadratic}
use Rattle.verdict.specs.Steps.{IsLine, IsGeneration}
use Rattle.verdict.proofs.Known.{generates_same}
use Rattle.verdict.proofs.RulesMet.{quintic_preimage_end}
use Rattle.verdict.proofs.Quintics.{quintic_rule_end}
use Rattle.verdict.proofs.Decided.{cubic-found}
use Rattle.verdict.proofs.rules.end_generator.Goals as goal

pub returns-then-not-is_zero : goal.returns-then-not-is_zero
returns-then-not-is_zero c κ w g =
    let a = c.args in
    c.if-not-is_zero.ensures (quintic_rule_end pairs.none a.d1 a.d2 a.d3 a.d4 κ w g refl).0

-- what the line says, of the legs themselves
line : (d2 d3 d4 : Pair) {e0 e1 : Pair} (r : Option Generator) → e0 ≡ multiple (pos 6) d2 → e1 ≡ multiple (pos 2) d3 → IsLine (power_form (e0 ∷ e1 ∷ d4 ∷ [])) r
    → IsLine (power_form (multiple (pos 6) d2 ∷ multiple (pos 2) d3 ∷ d4 ∷ [])) r
line d2 d3 d4 r e f h = subst (λ (p : List Pair). IsLine (power_form p) r) (λ i. e i ∷ f i ∷ d4 ∷ []) h

pub returns-in_err-s : goal.returns-in_err-s
returns-in_err-s c =
    let a = c.args in
    let none = line a.d2 a.d3 a.d4 None c.multiple.ensures c.multiple-2.ensures c.in_err-s.ensures in
    subst (IsGeneration (power_form (pairs.none ∷ a.d1 ∷ a.d2 ∷ a.d3 ∷ a.d4 ∷ []))) (sym c.from_residual.ensures)
    (λ κ w g. let r = (quintic_rule_end pairs.none a.d1 a.d2 a.d3 a.d4 κ w g refl).1 in
    let (k, u, h, p) = cubic-found (multiple (pos 6) a.d2) (multiple (pos 2) a.d3) a.d4 r in
    none k u h)

-- t u, as the polynomial of the struct
shifted : (u : Quadratic) → u.b2 ≡ pairs.none → Same pairs (pairs.none ∷ quadratic u) (pairs.none ∷ u.b0 ∷ u.b1 ∷ [])
shifted u z zero = refl
shifted u z (suc zero) = refl
shifted u z (suc (suc zero)) = refl
shifted u z (suc (suc (suc zero))) = z
shifted u z (suc (suc (suc (suc k)))) = refl

pub returns : goal.returns
returns c =
    let a = c.args in
    let s : Generator = c.in_ok-s.s in
    let h = line a.d2 a.d3 a.d4 (Some s) c.multiple.ensures c.multiple-2.ensures c.in_ok-s.ensures in
    let u = s.w in
    let g = generates_same (power_form (pairs.none ∷ a.d1 ∷ a.d2 ∷ a.d3 ∷ a.d4 ∷ [])) s.k (pairs.none ∷ quadratic u) (pairs.none ∷ u.b0 ∷ u.b1 ∷ []) (shifted u h.1)
    (quintic_preimage_end pairs.none a.d1 a.d2 a.d3 a.d4 s.k (quadratic u) refl c.if-not-is_zero.ensures h.0.generated) (λ d i. h.0.coprime d (λ k. i (suc k))) in
    record { generated = g.0; coprime = g.1 }

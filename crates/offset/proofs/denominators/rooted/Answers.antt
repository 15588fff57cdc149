-- `denominators::rooted` meets its contract.
use mathlib.Core.Path.{◌≡◌, refl, sym, ap, ◌∙◌, subst}
use mathlib.Core.Logic.{inl, inr}
use Prim.Native.Nat.{ℕ, ◌*◌, ◌^◌, ◌≤◌}
use native.Mathlib.Nat.{mul-le-mul, le_refl}
use native.Mathlib.Omega.{arith}
use borrow.Author.Rules.{rules}
use lib.Dec.{lit<}
use lib.IntN.{pos, nat_abs, ◌*ℤ◌}
use mir.Syntax.{w64}
use mir.Val.{SFits, to_z, of_z}
use mir.ValLaws.{to_z-of_z}
use Rattle.whole.specs.Coefficients.{at}
use Rattle.poly.specs.Polynomials.{scaled}
use Rattle.whole.specs.Number.{wholes, Within}
use Rattle.whole.specs.declared.Root.{Root}
use Rattle.whole.specs.Promise.{IsRoot}
use Rattle.whole.proofs.Integers.{abs_times}
use Rattle.whole.proofs.Wholes.{wholes_ring}
use Rattle.whole.proofs.Bound.{fits_within}
use Rattle.whole.proofs.Linear.{linear, abs_parts}
use Rattle.whole.proofs.Order.{nonneg_is}
use Rattle.whole.proofs.Squares.{root_below, no_root}
use Rattle.poly.proofs.Lists.{at_scaled}
use Rattle.pair.proofs.Laws.{root_le}
use Rattle.root.specs.Promise.{quartic, root_size}
use Rattle.verdict.specs.declared.Square.{Square}
use Rattle.offset.specs.Steps.{RootAsked}
use Rattle.offset.proofs.denominators.rooted.Goals as goal

-- the root of what the code makes of c
root-of : (s : Square) (r : Root) {n : ℕ} → n ≡ nat_abs (to_z w64 (of_z w64 s.c)) → IsRoot n r → IsRoot (nat_abs (to_z w64 (of_z w64 s.c))) r
root-of s r e h = subst (λ n. IsRoot n r) e h

-- of a square, and of the root of its c, as the machine's number of it is asked
module _ (s : Square) (o : RootAsked s) (f : SFits w64 s.c) (r : Root) (e : IsRoot (nat_abs (to_z w64 (of_z w64 s.c))) r) where
  c-is : s.c ≡ pos (nat_abs s.c)
  c-is = let p = o.positive in nonneg_is (omega linear)

  found : IsRoot (nat_abs s.c) r
  found = subst (λ z. IsRoot (nat_abs z) r) (to_z-of_z w64 s.c f) e

  m_small : Within (2 ^ 32) (pos r.root)
  m_small = record { size = omega (arith, root_below found (2 ^ 32) (omega (linear, abs_parts s.c, f))) }

  m-kept : to_z w64 (of_z w64 (pos r.root)) ≡ pos r.root
  m-kept = to_z-of_z w64 (pos r.root) (fits_within (lit< tt) m_small)

  q_small : (k : ℕ) → Within root_size (at wholes (quartic s.q) k)
  q_small k =
      let x = nat_abs (at wholes (quartic s.q) k) in
      let positive : 1 ≤ nat_abs s.c = (let p = o.positive in omega (linear, abs_parts s.c)) in
      record { size = root_le x root_size (omega (arith, o.small k, mul-le-mul positive (le_refl (x * x)))) }

  -- c is a square
  module _ (none : r.rest ≡ 0) where
    square : r.root * r.root ≡ nat_abs s.c
    square = omega (arith, found.is, none)

    -- (m q)² = c q²
    product_small : (k : ℕ) → Within root_size (pos r.root *ℤ at wholes (quartic s.q) k)
    product_small k =
        let x = nat_abs (at wholes (quartic s.q) k) in
        let e : r.root * x * (r.root * x) ≡ nat_abs s.c * (x * x) = omega (arith, ap (λ n. n * (x * x)) square) in
        record { size = root_le (nat_abs (pos r.root *ℤ at wholes (quartic s.q) k)) root_size (rw (abs_times (pos r.root) (at wholes (quartic s.q) k)) (omega (arith, o.small k))) }

pub returns-then-m-ne0 : goal.returns-then-m-ne0
returns-then-m-ne0 c =
    let r = c.square_root-m in
    let f : SFits w64 c.args.s.c = search rules in
    let h = root-of c.args.s r.result c.unsigned_abs.ensures.value r.ensures in
    (inl (λ m e. no_root (found c.args.s c.requires f r.result h) (λ none. omega (arith, c.if-m-ne0.true, none)) m (sym (ap nat_abs e)), refl), refl)

pub multiple-requires : goal.multiple-requires
multiple-requires c =
    let r = c.square_root-m in
    let f : SFits w64 c.args.s.c = search rules in
    let h = root-of c.args.s r.result c.unsigned_abs.ensures.value r.ensures in
    (rw (m-kept c.args.s c.requires f r.result h) (m_small c.args.s c.requires f r.result h), q_small c.args.s c.requires f r.result h)

pub returns : goal.returns
returns c =
    let s = c.args.s in
    let r = c.square_root-m in
    let m = r.result.root in
    let f : SFits w64 s.c = search rules in
    let h = root-of s r.result c.unsigned_abs.ensures.value r.ensures in
    let none : r.result.rest ≡ 0 = omega (arith, c.if-m-ne0.false) in
    let e : quartic c.multiple.result ≡ scaled wholes (pos m) (quartic s.q) = c.multiple.ensures ∙ ap (λ z. scaled wholes z (quartic s.q)) (m-kept s c.requires f r.result h) in
    let root = c-is s c.requires f r.result h ∙ ap pos (sym (square s c.requires f r.result h none)) in (
      inr (λ none. none m root, refl),
      record {
        m = m;
        root = root;
        is = e;
        small = λ k. subst (Within root_size) (sym (ap (λ l. at wholes l k) e ∙ at_scaled wholes_ring (pos m) (quartic s.q) k)) (product_small s c.requires f r.result h none k);
      },
    )

-- The search for a root, over any domain.
--   same-all            what agrees below a power and from it up is the same
--   root-upper          where M has a small root, it has one with s at its highest power, whichever root s of M's lead is taken
--   upper_lead          whose lead is positive where s is
use mathlib.Core.Path.{◌≡◌, sym, subst}
use mathlib.Core.List.{List}
use mathlib.Core.Logic.{inl, inr}
use Prim.Native.Nat.{ℕ, ◌+◌, ◌<◌}
use native.Mathlib.Decide.{dec_lt}
use native.Mathlib.Omega.{arith}
use Rattle.whole.specs.Coefficients.{Coefficients, at}
use Rattle.poly.specs.Polynomials.{Same, square}
use Rattle.whole.proofs.Ring.{Ring}
use Rattle.poly.specs.Terms.{Top}
use Rattle.poly.proofs.Domain.{Domain, UpToSign}
use Rattle.poly.proofs.Roots.{root-signed}
use Rattle.root.specs.Search.{Each, SameBelow, SameFrom, Lead, UpperRoot}

pub same-all : {A : Type 0} (C : Coefficients A) (n : ℕ) (p q : List A) → SameBelow C n p q → SameFrom C n p q → Same C p q
same-all C n p q below from k = by (dec_lt k n)
  where
    by : Dec (k < n) → at C p k ≡ at C q k
    by (yes l) = below k l
    by (no l) = from k (omega arith)

module _ {A : Type 0} {C : Coefficients A} (R : Ring C) (D : Domain C) (zero? : (a : A) → Dec (a ≡ C.none))
    (Small : A → Type 0) (flipped : (a : A) → Small a → Small (R.negative a)) where
  small_signed : (x y : List A) → UpToSign R x y → Each C Small y → Each C Small x
  small_signed x y (inl e) h k = subst Small (sym (e k)) (h k)
  small_signed x y (inr e) h k = subst Small (sym (e k)) (flipped (at C y k) (h k))

  -- x or −x has s at the power L
  pub root-upper : {M : List A} (L : ℕ) → Top C M (L + L) → {s : A} → C.times s s ≡ at C M (L + L) → (x : List A) → Each C Small x
      → Same C (square C x) M → (y : List A) × UpperRoot C Small M L s y × Same C (square C y) M
  root-upper L t {s} e x h r =
      let (y, root, sign) = root-signed R D zero? L t x r s e in (
        y,
        record { small = small_signed y x sign h; above = root.above; lead = root.lead; squared = λ k l. root.squared k },
        root.squared,
      )

pub upper_lead : {A : Type 0} {C : Coefficients A} {Small : A → Type 0} (Positive : A → Type 0) {M q : List A} {L : ℕ} {s : A}
    → UpperRoot C Small M L s q → Positive s → Lead C Positive q
upper_lead Positive {L} u p = record { power = L; positive = subst Positive (sym u.lead) p; above = u.above }

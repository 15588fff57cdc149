-- What the longest curve of a list is, in words: it stands in the list, every curve before it is shorter, and none behind it is longer.
--   FirstGreatest     that
--   Found             that, or that no curve of the list is measured
--   each_append       what holds of the curves of two lists
--   longest-found     it holds of `longest_of`
use mathlib.Core.Path.{◌≡◌, refl, sym, ap, subst}
use mathlib.Core.List.{List, [], ◌∷◌, ◌++◌}
use Prim.Native.Nat.{ℕ, ◌<◌, ◌≤◌}
use native.Mathlib.Omega.{arith}
use Rattle.refusal.proofs.Answers.{by_order}
use Rattle.totals.specs.declared.Longest.{Longest}
use Rattle.std.specs.Prelude.{Option, Some, None}
use Rattle.totals.specs.Totals.{Placed, longer, own, longest_of}
use Rattle.totals.proofs.Lists.{longer-first, longer-second}

abbrev pub Shorter : ℕ → Option Longest → Type 0
Shorter m None = Unit {0}
Shorter m (Some l) = l.hundredths < m

abbrev pub NoLonger : ℕ → Option Longest → Type 0
NoLonger m None = Unit {0}
NoLonger m (Some l) = l.hundredths ≤ m

abbrev pub EachIs : (Option Longest → Type 0) → List Placed → Type 0
EachIs P [] = Unit {0}
EachIs P (p ∷ ps) = P (own p) × EachIs P ps

pub record FirstGreatest (ps : List Placed) (l : Longest) : Type 0 where
  pub before : List Placed
  pub curve : Placed
  pub after : List Placed
  pub among : ps ≡ before ++ (curve ∷ after)
  pub is : own curve ≡ Some l
  pub shorter : EachIs (Shorter l.hundredths) before
  pub no_longer : EachIs (NoLonger l.hundredths) after

abbrev pub Found : List Placed → Option Longest → Type 0
Found ps None = EachIs (λ x. x ≡ None) ps
Found ps (Some l) = FirstGreatest ps l

-- ---- what is no longer than the longest is no longer than what is as long
module _ {P Q : Option Longest → Type 0} (f : (x : Option Longest) → P x → Q x) where
  each_so : (ps : List Placed) → EachIs P ps → EachIs Q ps
  each_so [] h = tt
  each_so (p ∷ ps) h = (f (own p) h.0, each_so ps h.1)

pub each_append : (P : Option Longest → Type 0) (ps qs : List Placed) → EachIs P ps → EachIs P qs → EachIs P (ps ++ qs)
each_append P [] qs h k = k
each_append P (p ∷ ps) qs h k = (h.0, each_append P ps qs h.1 k)

shorter_so : (m n : ℕ) → n ≤ m → (x : Option Longest) → Shorter n x → NoLonger m x
shorter_so m n l None h = tt
shorter_so m n l (Some x) h = omega arith

no_longer_so : (m n : ℕ) → n ≤ m → (x : Option Longest) → NoLonger n x → NoLonger m x
no_longer_so m n l None h = tt
no_longer_so m n l (Some x) h = omega arith

none-longer : (m : ℕ) (ps : List Placed) (x : Option Longest) → Found ps x → NoLonger m x → EachIs (NoLonger m) ps
none-longer m ps None h l = each_so {P = λ (x : Option Longest). x ≡ None} {Q = NoLonger m} (λ x e. subst (NoLonger m) (sym e) tt) ps h
none-longer m ps (Some x) h l =
    subst (EachIs (NoLonger m)) (sym h.among)
    (each_append (NoLonger m) h.before (h.curve ∷ h.after) (each_so (shorter_so m x.hundredths l) h.before h.shorter)
    (subst (NoLonger m) (sym h.is) l, each_so (no_longer_so m x.hundredths l) h.after h.no_longer))

-- ---- one curve before
module _ (p : Placed) (ps : List Placed) where
  stays : (x : Longest) (y : Option Longest) → own p ≡ Some x → Found ps y → NoLonger x.hundredths y → FirstGreatest (p ∷ ps) x
  stays x y e h l = record { before = []; curve = p; after = ps; among = refl; is = e; shorter = tt; no_longer = none-longer x.hundredths ps y h l }

  passes : (y : Longest) → Shorter y.hundredths (own p) → FirstGreatest ps y → FirstGreatest (p ∷ ps) y
  passes y s h = record {
    before = p ∷ h.before;
    curve = h.curve;
    after = h.after;
    among = ap (λ (qs : List Placed). p ∷ qs) h.among;
    is = h.is;
    shorter = (s, h.shorter);
    no_longer = h.no_longer;
  }

  found-more : (x y : Option Longest) → own p ≡ x → Found ps y → Found (p ∷ ps) (longer x y)
  found-more None None e h = (e, h)
  found-more None (Some y) e h = passes y (subst (Shorter y.hundredths) (sym e) tt) h
  found-more (Some x) None e h = stays x None e h tt
  found-more (Some x) (Some y) e h =
      by_order y.hundredths x.hundredths
      (λ a. subst (Found (p ∷ ps)) (sym (longer-first x y a)) (stays x (Some y) e h a))
      (λ a. subst (Found (p ∷ ps)) (sym (longer-second x y a)) (passes y (subst (Shorter y.hundredths) (sym e) a) h))

pub longest-found : (ps : List Placed) → Found ps (longest_of ps)
longest-found [] = tt
longest-found (p ∷ ps) = found-more p ps (own p) (longest_of ps) refl (longest-found ps)

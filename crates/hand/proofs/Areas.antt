-- Numbers handed over in a lent area, and numbers that a call is given.
--   spelled, spelled-all   so many numbers of a list one by one, from a place on; all of them are the list
--   hands_same         the same answer under another name, its number once it has been stored
--   hands_short        values that do not fit are refused with ROOM
--   hands_given        values that fit, from what they leave in the area
use mathlib.Core.Path.{◌≡◌, refl, sym, ap, subst, ◌∙◌}
use mathlib.Core.Bool.{Bool}
use mathlib.Core.List.{List, [], ◌∷◌}
use Prim.Native.Nat.{ℕ, zero, suc, ◌≤◌, ◌<◌}
use native.Mathlib.Omega.{arith}
use lib.IntN.{ℤ, pos}
use borrow.Author.Tests.{lt-ltb, le-ltb}
use lib.ListN.{length, get_or}
use mir.Syntax.{w64}
use lib.Signed.{mag}
use mir.Val.{to_z, of_z}
use mir.ValLaws.{to_z-of_z}
use Rattle.refusal.specs.declared.Refusal.TheVariants as refusal
use Rattle.area.specs.Area.{Fills}
use Rattle.refusal.specs.Answers.{Answer, given, refuse, with_given, when◌then◌else◌}
use Rattle.area.specs.Promise.{values_of}
use Rattle.hand.specs.Promise.{coded, fitted, Hands}

abbrev pub spelled : ℕ → ℕ → List ℤ → List ℤ
spelled zero at p = []
spelled (suc n) at p = get_or p at (pos 0) ∷ spelled n (suc at) p

spelled_later : (n at : ℕ) (x : ℤ) (p : List ℤ) → spelled n (suc at) (x ∷ p) ≡ spelled n at p
spelled_later zero at x p = refl
spelled_later (suc n) at x p = ap (λ (t : List ℤ). get_or p at (pos 0) ∷ t) (spelled_later n (suc at) x p)

pub spelled-all : (n : ℕ) (p : List ℤ) → length p ≡ n → spelled n 0 p ≡ p
spelled-all zero [] e = refl
spelled-all zero (x ∷ p) e = absurd (omega arith)
spelled-all (suc n) [] e = absurd (omega arith)
spelled-all (suc n) (x ∷ p) e = ap (λ (t : List ℤ). x ∷ t) (spelled_later n 0 x p ∙ spelled-all n p (omega arith))

fitted_short : (room : ℕ) (vs : List ℤ) → room < length vs → fitted room (given vs) ≡ refuse refusal.Room 0
unfolding when◌then◌else◌
fitted_short room vs l = ap (λ (b : Bool). when b then refuse refusal.Room 0 else given vs) (lt-ltb room (length vs) l)

fitted-long : (room : ℕ) (vs : List ℤ) → length vs ≤ room → fitted room (given vs) ≡ given vs
unfolding when◌then◌else◌
fitted-long room vs l = ap (λ (b : Bool). when b then refuse refusal.Room 0 else given vs) (le-ltb room (length vs) l)

hands_as : (asked fits : Answer (List ℤ)) {before after : List ℤ} {n : ℤ} → fitted (length before) asked ≡ fits → n ≡ coded (with_given length fits)
    → length after ≡ length before → Fills (values_of fits) after → Hands asked before after n
hands_as asked fits {after = after} e r l f = record {
  says = r ∙ sym (ap (λ (a : Answer (List ℤ)). coded (with_given length a)) e);
  same_room = l;
  leaves = subst (λ (a : Answer (List ℤ)). Fills (values_of a) after) (sym e) f;
}

pub hands_short : (vs : List ℤ) {before after : List ℤ} {n : ℤ} → length before < length vs → Hands (refuse refusal.Room 0) before after n → Hands (given vs) before after n
hands_short vs {before} l h = hands_as (given vs) (refuse refusal.Room 0) (fitted_short (length before) vs l) h.says h.same_room h.leaves

pub hands_given : (vs : List ℤ) {before after : List ℤ} {n : ℤ} → length vs ≤ length before → length after ≡ length before → Fills vs after → n ≡ pos (length vs)
    → Hands (given vs) before after n
hands_given vs {before} l e f r = hands_as (given vs) (given vs) (fitted-long (length before) vs l) r e f

pub hands_same : {a b : Answer (List ℤ)} {before after : List ℤ} {n : ℤ} → a ≡ b → mag n < 9223372036854775808 → Hands a before after n
    → Hands b before after (to_z w64 (of_z w64 n))
hands_same {before = before} {after} {n} e f h = rw (to_z-of_z w64 n (record { sfits = f })) (subst (λ (a : Answer (List ℤ)). Hands a before after n) e h)

-- Triples written one behind the other.
--   writes_none        nothing has P, and nothing is written
--   writes_one         one triple has P, and its numbers stand at the area's start
--   writes_both        what has P, and in the part behind it what has Q
--   writes_as          where P and Q say the same
--   writes_same        where P and Q are equal
use mathlib.Core.Path.{◌≡◌, refl, sym, ap, ap₂, ◌∙◌, subst}
use mathlib.Core.List.{List, [], ◌∷◌, ◌++◌, append_assoc, append-nil}
use mathlib.Core.Logic.{◌⊎◌}
use Prim.Native.Nat.{ℕ, ◌+◌, ◌*◌, ◌-◌, ◌≤◌}
use native.Mathlib.Omega.{arith}
use lib.IntN.{ℤ}
use lib.ListN.{length, length-append, length-drop, take, drop, drop_of_length-le}
use lib.Seq.{take_all}
use borrow.Rule.Slice.PartMut.{mid_of, put_mid, same_len_mid}
use Rattle.std.proofs.lemmas.List.{take_at, drop_at, drop-drop}
use Rattle.join.specs.Promise.{Triple, numbers}
use Rattle.join.specs.Steps.{WritesTriples}
use Rattle.join.proofs.Order.{Before, lists_as, lists_none, lists_one, lists_both}

-- ---- the numbers of a list
pub numbers-length : (ws : List Triple) → length (numbers ws) ≡ 6 * length ws
unfolding numbers
numbers-length [] = refl
numbers-length (w ∷ ws) = omega (arith, numbers-length ws)

numbers-append : (us vs : List Triple) → numbers (us ++ vs) ≡ numbers us ++ numbers vs
unfolding numbers
numbers-append [] vs = refl
numbers-append (u ∷ us) vs = ap (λ (l : List ℤ). u.w0.re ∷ u.w0.im ∷ u.v.re ∷ u.v.im ∷ u.w2.re ∷ u.w2.im ∷ l) (numbers-append us vs)

-- ---- what is written
module _ {n : ℕ} {P : Triple → Type 0} {area : List ℤ} where
  pub writes_none : ((w : Triple) → P w → ⊥) → WritesTriples n P area area 0
  unfolding numbers
  writes_none h = record { triples = []; lists = lists_none h; few = omega arith; same_room = refl; count_is = refl; writes = refl }

pub writes_one : {P : Triple → Type 0} (u : Triple) {before after : List ℤ} → P u → ((w : Triple) → P w → w ≡ u) → length after ≡ length before
    → after ≡ numbers (u ∷ []) ++ drop 6 before → WritesTriples 1 P before after 6
writes_one u p only s e = record { triples = u ∷ []; lists = lists_one u p only; few = omega arith; same_room = s; count_is = refl; writes = e }

-- the part behind the first comes back as ys
pub writes_both : {P Q : Triple → Type 0} {m n q r : ℕ} {a b ys : List ℤ} → ((u v : Triple) → P u → Q v → Before u v)
    → WritesTriples m P a b q → WritesTriples n Q (mid_of q (length b - q) b) ys r → WritesTriples (m + n) (λ w. P w ⊎ Q w) a (put_mid q (length b - q) b ys) (q + r)
writes_both {q = q} {r} {a} {b} {ys} h l k = record {
  triples = l.triples ++ k.triples;
  lists = lists_both h l.lists k.lists;
  few = omega (arith, length-append l.triples k.triples, l.few, k.few);
  same_room = same_len_mid q (length b - q) b ys k.same_room ∙ l.same_room;
  count_is = omega (arith, l.count_is, k.count_is, length-append l.triples k.triples);
  writes =
      ap₂ ◌++◌ (ap (take q) l.writes ∙ take_at (numbers l.triples) (drop q a) q long)
      (ap₂ ◌++◌ (k.writes ∙ ap (λ (d : List ℤ). numbers k.triples ++ drop r d) part ∙ ap (λ (d : List ℤ). numbers k.triples ++ d) (drop-drop r q a)) (drop_of_length-le (drop q b) {i = length b - q} (omega (arith, length-drop q b)))
      ∙ append-nil (numbers k.triples ++ drop (q + r) a))
      ∙ sym (append_assoc (numbers l.triples) (numbers k.triples) (drop (q + r) a))
      ∙ ap (λ (ns : List ℤ). ns ++ drop (q + r) a) (sym (numbers-append l.triples k.triples));
}
  where
    long : length (numbers l.triples) ≡ q
    long = omega (arith, numbers-length l.triples, l.count_is)

    part : mid_of q (length b - q) b ≡ drop q a
    part = take_all (length b - q) (drop q b) (omega (arith, length-drop q b)) ∙ ap (drop q) l.writes ∙ drop_at (numbers l.triples) (drop q a) q long

pub writes_as : {P Q : Triple → Type 0} {m n count : ℕ} {before after : List ℤ} → m ≤ n → ((w : Triple) → P w → Q w) → ((w : Triple) → Q w → P w)
    → WritesTriples m P before after count → WritesTriples n Q before after count
writes_as l f g w = record {
  triples = w.triples;
  lists = lists_as f g w.lists;
  few = omega (arith, w.few);
  same_room = w.same_room;
  count_is = w.count_is;
  writes = w.writes;
}

pub writes_same : {P Q : Triple → Type 0} {n count : ℕ} {before after : List ℤ} → P ≡ Q → WritesTriples n P before after count → WritesTriples n Q before after count
writes_same {n} {count} {before} {after} e = subst (λ (R : Triple → Type 0). WritesTriples n R before after count) e

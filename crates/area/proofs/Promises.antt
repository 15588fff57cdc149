-- The promise of the calls that fill a lent area.
--   refused_in            a refusal, where the area was cleared
--   refuse_in             so it is of what `refuse` leaves and returns
--   given_in              an answer that is given: what is said of it, what it counts, and what the area holds
--   first_or_in_by        the promise by other causes, and of more that is said of an answer
--   first_or_in_once      it leaves one answer and one area, where what it says of an answer leaves one
use mathlib.Core.Path.{◌≡◌, refl, sym, ap, ◌∙◌, subst}
use mathlib.Core.List.{List}
use Prim.Native.Nat.{ℕ}
use lib.IntN.{ℤ, pos}
use lib.ListN.{length, length-replicate}
use Rattle.std.specs.Prelude.{Result, Err}
use Rattle.refusal.specs.declared.Refusal.{Refusal}
use Rattle.refusal.specs.Table.{Cause, First, number_of}
use Rattle.refusal.specs.Answers.{Answer, refused, given, refuse, with_given, FirstOr, answer_of}
use Rattle.refusal.proofs.Answers.{no_answer, given_once, first_or_once, first_or_by}
use Rattle.area.specs.Area.{Cleared, Fills}
use Rattle.area.specs.Promise.{values_of, FirstOrIn}
use Rattle.area.proofs.Areas.{fills_none, fills_once}

module _ {A : Type 0} {causes : List Cause} {Says : A → Type 0} {numbers : A → List ℤ} {count : A → ℕ} {before : List ℤ} where
  pub refused_in : {after : List ℤ} (r : Refusal) → First causes (number_of r) → Cleared before after
      → FirstOrIn causes Says numbers count before after (refuse r 0)
  refused_in r h e = record {
    answer = refuse r 0;
    first_or = (h, refl);
    counts = refl;
    same_room = ap length e ∙ length-replicate (length before) (pos 0);
    fills = fills_none before e;
  }

  pub refuse_in : {after : List ℤ} {s : Result ℕ Refusal} (r : Refusal) → First causes (number_of r) → Cleared before after × (s ≡ Err r)
      → FirstOrIn causes Says numbers count before after (answer_of s)
  refuse_in {after} r h (e, f) =
      subst (λ (s : Result ℕ Refusal). FirstOrIn causes Says numbers count before after (answer_of s)) (sym f) (refused_in r h e)

  pub given_in : {after : List ℤ} {n : ℕ} → FirstOrIn causes Says numbers count before after (given n)
      → (x : A) × Says x × (n ≡ count x) × Fills (numbers x) after
  given_in h = by h.answer h.first_or h.counts h.fills
    where
      by : {after : List ℤ} {n : ℕ} (a : Answer A) → FirstOr causes Says a → given n ≡ with_given count a → Fills (values_of (with_given numbers a)) after
          → (x : A) × Says x × (n ≡ count x) × Fills (numbers x) after
      by (refused f) i e k = no_answer e
      by (given x) i e k = (x, i.1, given_once e, k)

  pub first_or_in_by : (cs : List Cause) {P : A → Type 0} {after : List ℤ} {r : Answer ℕ} → ((n : ℕ) → First cs n → First causes n) → ((x : A) → P x → Says x)
      → FirstOrIn cs P numbers count before after r → FirstOrIn causes Says numbers count before after r
  first_or_in_by cs by says h = record {
    answer = h.answer;
    first_or = first_or_by cs causes by says h.answer h.first_or;
    counts = h.counts;
    same_room = h.same_room;
    fills = h.fills;
  }

  pub first_or_in_once : ((x y : A) → Says x → Says y → x ≡ y) → {a b : List ℤ} {r s : Answer ℕ}
      → FirstOrIn causes Says numbers count before a r → FirstOrIn causes Says numbers count before b s → (r ≡ s) × (a ≡ b)
  first_or_in_once once {a} {b} p q =
      let e = first_or_once causes Says once p.answer q.answer p.first_or q.first_or in
      (p.counts ∙ ap (with_given count) e ∙ sym q.counts, fills_once (left p.answer) (left q.answer) (ap left e) (p.same_room ∙ sym q.same_room) p.fills q.fills)
    where
      left : Answer A → List ℤ
      left t = values_of (with_given numbers t)

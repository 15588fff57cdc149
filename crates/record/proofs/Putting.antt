-- What is said and left where a record is written at a place.
--   put_back                     a part that was lent and came back is a piece
--   at_range, at_room, at_done   by the tests.      done_by   where it is done, no test stood in the way
use mathlib.Core.Path.{◌≡◌, ap, ◌∙◌}
use mathlib.Core.Bool.{true, false}
use mathlib.Core.List.{List, ◌++◌}
use Prim.Native.Nat.{ℕ, ◌+◌, ◌-◌, ◌≤◌, ◌<◌}
use native.Mathlib.Omega.{arith}
use lib.IntN.{ℤ}
use lib.ListN.{length, take, drop}
use lib.Seq.{drop-drop}
use borrow.Author.Tests.{lt-ltb, le-ltb, ltb-false, not-false}
use Rattle.refusal.specs.declared.Refusal.TheVariants as refusal
use Rattle.refusal.specs.Answers.{Answer, given, when◌then◌else◌}
use Rattle.refusal.proofs.Answers.{by_test, no_answer, given_once}
use Rattle.record.specs.declared.kinds.Kind.{Kind}
use Rattle.std.specs.Prelude.{Ok, Err}
use Rattle.record.specs.Numbers.{encoded, written}
use Rattle.record.specs.Kinds.{row_of, formed}
use Rattle.record.specs.Records.{all_within}
use Rattle.record.specs.Promise.{putting_at, PutsAt}

pub put_back : (s : List ℕ) (at n : ℕ) (x : List ℕ) → length x ≡ n → take at s ++ (x ++ drop (at + n - at) (drop at s)) ≡ written s at x
put_back s at n x e =
    let k : at + (at + n - at) ≡ at + length x = omega arith in
    ap (λ (r : List ℕ). take at s ++ (x ++ r)) (drop-drop (at + n - at) at s ∙ ap (λ (m : ℕ). drop m s) k)

module _ (s : List ℕ) (at : ℕ) (k : Kind) (xs : List ℤ) where
  pub at_range : all_within xs ≡ false → PutsAt s at k xs s (Err refusal.Range)
  unfolding putting_at when◌then◌else◌
  at_range w = record { says = rw w; leaves = rw w }

  pub at_room : all_within xs ≡ true → length s - at < (row_of k).size → PutsAt s at k xs s (Err refusal.Room)
  unfolding putting_at when◌then◌else◌
  at_room w l = record { says = rw (w, lt-ltb _ _ l); leaves = rw (w, lt-ltb _ _ l) }

  pub at_done : all_within xs ≡ true → (row_of k).size ≤ length s - at → {t : List ℕ} → t ≡ written s at (formed k (encoded xs)) → PutsAt s at k xs t (Ok tt)
  unfolding putting_at when◌then◌else◌
  at_done w l e = record { says = rw (w, le-ltb _ _ l) (ap given e); leaves = rw (w, le-ltb _ _ l) e }

  pub done_by : (t : List ℕ) → given t ≡ putting_at s at k xs → (all_within xs ≡ true) × ((row_of k).size ≤ length s - at) × (t ≡ written s at (formed k (encoded xs)))
  unfolding putting_at
  done_by t = by_test Done _ (λ _ e. no_answer e) (λ w. by_test Done _ (λ _ e. no_answer e) (λ l e. (not-false _ w, ltb-false _ _ l, given_once e)))
    where
      Done : Answer (List ℕ) → Type 0
      Done a = given t ≡ a → (all_within xs ≡ true) × ((row_of k).size ≤ length s - at) × (t ≡ written s at (formed k (encoded xs)))

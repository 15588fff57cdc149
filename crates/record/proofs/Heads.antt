-- A record's head as one word: the length of the records of a kind, then its name.
--   head-size, head_name   where a kind's head stands, so do its length and its name
--   headed_step     and the tests of the length and the kind are passed
--   head_made       where that length and that name stand, so does the head
use mathlib.Core.Path.{◌≡◌, refl, sym, ap, ◌∙◌}
use mathlib.Core.Bool.{Bool, true}
use mathlib.Core.List.{List, [], ◌∷◌}
use Prim.Native.Nat.{ℕ, ◌/◌, ◌%◌, ◌≤◌, ◌<◌}
use native.Mathlib.Omega.{arith}
use lib.Dec.{eqb}
use lib.ListN.{length, get_or}
use mir.Syntax.{w8}
use mir.Val.{Fits}
use borrow.Author.Tests.{eqb-true, ne_eqb, le-ltb}
use Rattle.refusal.specs.Answers.{when◌then◌else◌}
use Rattle.refusal.proofs.Answers.{both_true}
use Rattle.record.specs.declared.kinds.Kind.{Kind}
use Rattle.record.specs.Numbers.{size_of, word_bytes}
use Rattle.record.specs.Kinds.{row_of}
use Rattle.record.specs.Records.{erased_length, named, may_stand, sized_step, step_of}
use Rattle.record.specs.Steps.{Headed}
use Rattle.record.proofs.Table.{row-known, same_name, known-kind, own_name, head_of, head-formed}
use Rattle.record.proofs.Words.{word-bytes}

-- bytes that begin with a kind's head
module _ (k : Kind) (s : List ℕ) (bytes : (i : ℕ) → Fits w8 (get_or s i 0)) (h : Headed k s) where
  four : get_or s 0 0 ∷ get_or s 1 0 ∷ get_or s 2 0 ∷ get_or s 3 0 ∷ [] ≡ head_of (row_of k)
  four =
      sym (word-bytes (get_or s 0 0) (get_or s 1 0) (get_or s 2 0) (get_or s 3 0) (omega (arith, bytes 0)) (omega (arith, bytes 1)) (omega (arith, bytes 2)) (omega (arith, bytes 3)))
      ∙ ap word_bytes h.head ∙ (row-known k).head_is ∙ sym (head-formed k refl)

  pub head-size : size_of s ≡ (row_of k).size
  head-size = ap size_of four ∙ omega arith

  pub head_name : named k s ≡ true
  head_name = same_name k s (head_of (row_of k)) (ap (λ (l : List ℕ). get_or l 2 0) four) (ap (λ (l : List ℕ). get_or l 3 0) four) ∙ own_name k ((row_of k).size % 256) ((row_of k).size / 256) []

  pub headed_step : (first : Bool) → may_stand first k ≡ true → step_of first s ≡ sized_step k s
  unfolding step_of when◌then◌else◌
  headed_step first m =
      let l = h.long in
      let w : size_of s < erased_length = omega (arith, head-size, (row-known k).short) in
      rw (
        ne_eqb (length s) 0 (λ q. omega arith),
        ne_eqb (length s) 1 (λ q. omega arith),
        ne_eqb (size_of s) erased_length (λ q. omega arith),
        le-ltb (length s) 4 l,
        known-kind k s head_name,
        m,
      )

pub head_made : (k : Kind) (s : List ℕ) → 4 ≤ length s → size_of s ≡ (row_of k).size → named k s ≡ true → Headed k s
unfolding named
head_made k s l e n =
    let m = both_true (eqb (get_or s 2 0) (get_or (row_of k).name 0 0)) (eqb (get_or s 3 0) (get_or (row_of k).name 1 0)) n in
    let p : get_or s 2 0 ≡ get_or (row_of k).name 0 0 = eqb-true _ _ m.0 in
    let q : get_or s 3 0 ≡ get_or (row_of k).name 1 0 = eqb-true _ _ m.1 in
    record { long = l; head = omega arith }

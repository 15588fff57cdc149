-- What the writing of a record leaves as it was.
--   Kept        as many bytes as before, and every byte outside some places is the old one, by position
--   kept-all    where nothing is changed
--   put-kept    whatever the promise of a curve's record allows keeps every byte but the record's own
use mathlib.Core.Path.{◌≡◌, sym, ap, ◌∙◌}
use mathlib.Core.Logic.{◌⊎◌, ⊎_elim}
use mathlib.Core.List.{List}
use Prim.Native.Nat.{ℕ, ◌+◌, ◌≤◌, ◌<◌}
use native.Mathlib.Omega.{arith}
use lib.ListN.{length, get_or}
use Rattle.curve.specs.declared.Curve.{Curve}
use Rattle.curve.specs.Curves.{points_of}
use Rattle.std.specs.Prelude.{Result, Ok, Err}
use Rattle.refusal.specs.declared.Refusal.{Refusal}
use Rattle.record.specs.Kinds.{row_of, kind_of, numbers_of, record_of}
use Rattle.record.specs.Promise.{bytes_after, PutsAt}
use Rattle.record.proofs.Table.{row-known}
use Rattle.record.proofs.Pieces.{written-long, written-before, written_behind}
use Rattle.record.proofs.Formed.{record_long}
use Rattle.record.proofs.Putting.{done_by}

pub record Kept (s t : List ℕ) (from to : ℕ) : Type 0 where
  pub same_length : length t ≡ length s
  pub elsewhere : (i : ℕ) → (i < from) ⊎ (to ≤ i) → get_or t i 0 ≡ get_or s i 0

pub kept-all : {s t : List ℕ} {from to : ℕ} → t ≡ s → Kept s t from to
kept-all e = record { same_length = ap length e; elsewhere = λ i _. ap (λ (l : List ℕ). get_or l i 0) e }

pub put-kept : (s : List ℕ) (at : ℕ) (c : Curve) (t : List ℕ) (r : Result (Unit {0}) Refusal) → PutsAt s at (kind_of c) (numbers_of (points_of c)) t r → Kept s t at (at + (row_of (kind_of c)).size)
put-kept s at c t (Err r) h = kept-all (h.leaves ∙ ap (bytes_after s) (sym h.says))
put-kept s at c t (Ok _) h =
    let (_, room, is) = done_by s at (kind_of c) (numbers_of (points_of c)) t h.says in
    let fits : at + length (record_of c) ≤ length s = omega (arith, record_long c, room, (row-known (kind_of c)).long) in
    let there : at ≤ length s = omega arith in
    record {
      same_length = ap length is ∙ written-long s at (record_of c) fits;
      elsewhere = λ i. ⊎_elim
          (λ l. ap (λ (l : List ℕ). get_or l i 0) is ∙ written-before s at (record_of c) i there l)
          (λ l. ap (λ (l : List ℕ). get_or l i 0) is ∙ written_behind s at (record_of c) i there (omega (arith, record_long c)));
    }

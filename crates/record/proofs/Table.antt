-- Laws of the table of kinds.
--   row-known        what holds of every row: the one place that goes through the table
--   same_name, same_kind   a name is looked for by its two bytes alone
--   named-is         a name that was found is that of the kind
--   known-kind       and the name of a kind is found as that kind's
--   own_name         a record with a kind's name is named so
--   head_of, head_of_row, head-formed   the head of a record, by the four bytes of its row.
use mathlib.Core.Path.{◌≡◌, refl, ap, ◌∙◌, sym}
use mathlib.Core.Bool.{true, false≢true}
use mathlib.Core.List.{List, [], ◌∷◌, ◌++◌, append-nil}
use Prim.Native.Nat.{ℕ, ◌+◌, ◌*◌, ◌/◌, ◌%◌, ◌≤◌, ◌<◌}
use native.Mathlib.Omega.{arith}
use lib.ListN.{get_or}
use borrow.Author.Tests.{eqb-true}
use Rattle.std.proofs.lemmas.Option.{none-some}
use lib.Dec.{eqb}
use Rattle.refusal.specs.Answers.{when◌then◌else◌}
use Rattle.refusal.proofs.Answers.{by_test, both_true}
use Rattle.record.specs.declared.kinds.Kind.{Kind}
use Rattle.record.specs.declared.kinds.Kind.TheVariants.{Header, Cubic, Quintic}
use Rattle.std.specs.Prelude.{Option, Some}
use Rattle.record.specs.declared.kinds.Row.{Row}
use Rattle.record.specs.Numbers.{word_bytes, AllBytes}
use Rattle.record.specs.Kinds.{row_of, longest_record, kinds, words, formed}
use Rattle.record.specs.Steps.{head_word}
use Rattle.record.specs.Records.{named, kind_in}

-- the bytes of a record's head, as far as its name matters
abbrev head : ℕ → ℕ → List ℕ
head a b = 0 ∷ 0 ∷ a ∷ b ∷ []

pub record RowKnown (k : Kind) : Type 0 where
  pub two : (row_of k).name ≡ get_or (row_of k).name 0 0 ∷ get_or (row_of k).name 1 0 ∷ []
  pub found : kind_in kinds (head (get_or (row_of k).name 0 0) (get_or (row_of k).name 1 0)) ≡ Some k
  pub name_bytes : AllBytes (row_of k).name
  pub head_is : word_bytes (head_word k) ≡ formed k []
  pub long : 4 < (row_of k).size
  pub short : (row_of k).size ≤ longest_record
  pub holds : 4 + 4 * words k ≤ (row_of k).size
  pub curve_long : (row_of k).curve ≡ true → (row_of Cubic).size ≤ (row_of k).size
  pub curve_holds : (row_of k).curve ≡ true → 4 + 4 * words k ≡ (row_of k).size

pub row-known : (k : Kind) → RowKnown k
unfolding kind_in named words when◌then◌else◌
row-known Header = record { two = refl; found = refl; name_bytes = (omega arith, (omega arith, tt)); head_is = refl; long = omega arith; short = omega arith; holds = omega arith; curve_long = λ e. absurd (false≢true e); curve_holds = λ e. absurd (false≢true e) }
row-known Cubic = record { two = refl; found = refl; name_bytes = (omega arith, (omega arith, tt)); head_is = refl; long = omega arith; short = omega arith; holds = omega arith; curve_long = λ _. omega arith; curve_holds = λ _. refl }
row-known Quintic = record { two = refl; found = refl; name_bytes = (omega arith, (omega arith, tt)); head_is = refl; long = omega arith; short = omega arith; holds = omega arith; curve_long = λ _. omega arith; curve_holds = λ _. refl }

pub same_name : (k : Kind) (s t : List ℕ) → get_or s 2 0 ≡ get_or t 2 0 → get_or s 3 0 ≡ get_or t 3 0 → named k s ≡ named k t
unfolding named
same_name k s t p q = rw (p, q)

pub same_kind : (ks : List Kind) (s t : List ℕ) → get_or s 2 0 ≡ get_or t 2 0 → get_or s 3 0 ≡ get_or t 3 0 → kind_in ks s ≡ kind_in ks t
unfolding kind_in
same_kind [] s t p q = refl
same_kind (k ∷ ks) s t p q = rw (same_name k s t p q, same_kind ks s t p q)

pub known-kind : (k : Kind) (s : List ℕ) → named k s ≡ true → kind_in kinds s ≡ Some k
unfolding named
known-kind k s n =
    let m = both_true (eqb (get_or s 2 0) (get_or (row_of k).name 0 0)) (eqb (get_or s 3 0) (get_or (row_of k).name 1 0)) n in
    same_kind kinds s (head (get_or (row_of k).name 0 0) (get_or (row_of k).name 1 0)) (eqb-true _ _ m.0) (eqb-true _ _ m.1) ∙ (row-known k).found

pub named-is : (ks : List Kind) (s : List ℕ) (k : Kind) → kind_in ks s ≡ Some k → named k s ≡ true
unfolding kind_in
named-is [] s k e = absurd (none-some k e)
named-is (l ∷ ks) s k e =
    by_test (λ (x : Option Kind). x ≡ Some k → named k s ≡ true) (named l s)
    (λ t q. let same : l ≡ k = cc in ap (λ (m : Kind). named m s) (sym same) ∙ t)
    (λ _ q. named-is ks s k q) e

-- ---- the bytes of a record's head

pub own_name : (k : Kind) (a b : ℕ) (body : List ℕ) → named k (a ∷ b ∷ get_or (row_of k).name 0 0 ∷ get_or (row_of k).name 1 0 ∷ body) ≡ true
own_name k a b body =
    let known = head (get_or (row_of k).name 0 0) (get_or (row_of k).name 1 0) in
    same_name k (a ∷ b ∷ get_or (row_of k).name 0 0 ∷ get_or (row_of k).name 1 0 ∷ body) known refl refl ∙ named-is kinds known k (row-known k).found

-- the four bytes, by the row as the code has it
abbrev pub head_of : Row → List ℕ
head_of r = r.size % 256 ∷ r.size / 256 ∷ get_or r.name 0 0 ∷ get_or r.name 1 0 ∷ []

pub head_of_row : (k : Kind) (body : List ℕ) → head_of (row_of k) ++ body ≡ formed k body
head_of_row k body = ap (λ (name : List ℕ). ((row_of k).size % 256 ∷ (row_of k).size / 256 ∷ []) ++ name ++ body) (sym (row-known k).two)

pub head-formed : (k : Kind) {r : Row} → r ≡ row_of k → head_of r ≡ formed k []
head-formed k e = ap head_of e ∙ sym (append-nil (head_of (row_of k))) ∙ head_of_row k []

-- Laws of answers, and the one answer of the promise.
--   by_test, by_order, both_true    how a proof goes through a choice, through the order of two numbers, and what two tests say together
--   no_answer                       no answer is both given and refused
--   given_once, refused_once        one answer gives one thing, or is refused for one fault,
--   refuse_once                     and for one refusal
--   refused-back                    what is made of an answer is refused as the answer was
--   answer_once, fault_answer_once  answers that say the same are the same: of a refusal, and of a fault
--   with_twice                      what is made of what is made of an answer
--   first_or_once                   the promise leaves one answer, where what it says of an answer does
--   first_or_by                     the promise by other causes, and of more that is said of an answer
use mathlib.Core.Path.{◌≡◌, refl, sym, ap, ◌∙◌}
use mathlib.Core.Bool.{Bool, true, false, ◌&&◌, false≢true}
use mathlib.Core.List.{List}
use Prim.Native.Nat.{ℕ, ◌≤◌, ◌<◌}
use native.Mathlib.Nat.{lt_of_not-le}
use native.Mathlib.Decide.{dec_le}
use native.Mathlib.Omega.{arith}
use Rattle.std.specs.Prelude.{Result, Ok, Err}
use Rattle.refusal.specs.declared.Refusal.{Refusal}
use Rattle.refusal.specs.declared.Fault.{Fault}
use Rattle.refusal.specs.Table.{Cause, First, number_of}
use Rattle.refusal.specs.Answers.{Answer, refused, given, refuse, with_given, when◌then◌else◌, FirstOr, answer_of, answer_at}
use Rattle.refusal.proofs.Laws.{number_some, number_once, first_once}

-- ---- choices

pub by_test {ℓ κ} : {X : Type ℓ} (P : X → Type κ) (b : Bool) {x y : X} → (b ≡ true → P x) → (b ≡ false → P y) → P (when b then x else y)
unfolding when◌then◌else◌
by_test P true f g = f refl
by_test P false f g = g refl

pub by_order {ℓ} : {X : Type ℓ} (a b : ℕ) → (a ≤ b → X) → (b < a → X) → X
by_order a b f g = elim (dec_le a b) [ yes h ↦ f h | no h ↦ g (lt_of_not-le h) ]

pub both_true : (a b : Bool) → (a && b) ≡ true → (a ≡ true) × (b ≡ true)
both_true true true e = (refl, refl)
both_true true false e = (refl, e)
both_true false b e = absurd (false≢true e)

-- ---- answers

pub no_answer {ℓ} : {A : Type 0} {X : Type ℓ} {a : A} {f : Fault} → given a ≡ refused f → X
no_answer e = let z : ◌≡◌ {A = ℕ} 0 1 = cc in absurd (omega arith)

pub given_once : {A : Type 0} {a b : A} → given a ≡ given b → a ≡ b
given_once e = cc

pub refused_once : {A : Type 0} {f g : Fault} → ◌≡◌ {A = Answer A} (refused f) (refused g) → f ≡ g
refused_once e = cc

pub refuse_once : (A : Type 0) {r s : Refusal} {p q : ℕ} → ◌≡◌ {A = Answer A} (refuse r p) (refuse s q) → r ≡ s
refuse_once A e = ap (λ f. f.refusal) (refused_once {A = A} e)

pub answer_once : {A : Type 0} (r s : Result A Refusal) → answer_of r ≡ answer_of s → r ≡ s
answer_once (Ok a) (Ok b) e = ap Ok (given_once e)
answer_once (Ok a) (Err t) e = no_answer e
answer_once (Err r) (Ok b) e = no_answer (sym e)
answer_once {A} (Err r) (Err t) e = ap Err (refuse_once A e)

pub fault_answer_once : {A : Type 0} (r s : Result A Fault) → answer_at r ≡ answer_at s → r ≡ s
fault_answer_once (Ok a) (Ok b) e = ap Ok (given_once e)
fault_answer_once (Ok a) (Err t) e = no_answer e
fault_answer_once (Err r) (Ok b) e = no_answer (sym e)
fault_answer_once {A} (Err r) (Err t) e = ap Err (refused_once {A = A} e)

pub refused-back : {A B : Type 0} (g : A → B) {f : Fault} (a : Answer A) → with_given g a ≡ refused f → a ≡ refused f
refused-back {B = B} g (refused f) e = ap refused (refused_once {A = B} e)
refused-back g (given a) e = no_answer e

pub with_twice : {A B C : Type 0} (f : A → B) (g : B → C) (a : Answer A) → with_given g (with_given f a) ≡ with_given (λ x. g (f x)) a
with_twice f g (refused x) = refl
with_twice f g (given a) = refl

-- ---- the promise

fault_once : (f g : Fault) → number_of f.refusal ≡ number_of g.refusal → f.place ≡ 0 → g.place ≡ 0 → f ≡ g
fault_once f g n p q = let r = number_once f.refusal g.refusal n in λ i. record { refusal = r i; place = (p ∙ sym q) i }

pub first_or_once : {A : Type 0} (cs : List Cause) (Says : A → Type 0) → ((x y : A) → Says x → Says y → x ≡ y)
    → (a b : Answer A) → FirstOr cs Says a → FirstOr cs Says b → a ≡ b
first_or_once cs Says once (refused f) (refused g) h k = ap refused (fault_once f g (first_once cs _ _ h.0 k.0) h.1 k.1)
first_or_once cs Says once (refused f) (given y) h k = absurd (number_some f.refusal (first_once cs _ _ h.0 k.0))
first_or_once cs Says once (given x) (refused g) h k = absurd (number_some g.refusal (first_once cs _ _ k.0 h.0))
first_or_once cs Says once (given x) (given y) h k = ap given (once x y h.1 k.1)

pub first_or_by : {A : Type 0} (cs ds : List Cause) {P Q : A → Type 0} → ((n : ℕ) → First cs n → First ds n) → ((x : A) → P x → Q x)
    → (a : Answer A) → FirstOr cs P a → FirstOr ds Q a
first_or_by cs ds causes says (refused f) h = (causes (number_of f.refusal) h.0, h.1)
first_or_by cs ds causes says (given x) h = (causes 0 h.0, says x h.1)

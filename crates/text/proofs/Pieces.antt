-- Pieces of text that are written one after another.
--   writes_full           behind a text that did not fit
--   writes_none, _then_   nothing; one piece and then another
--   writes_same           the same piece under another name
--   sign_below, sign_above   when there is a sign
use Rattle.std.proofs.Common.{◌≡◌, refl, sym, ◌∙◌, subst, List, [], ◌++◌, append_assoc, append-nil, ℕ, ◌≤◌, ◌<◌, arith, length, take, length-append, Option, MatchOption, None, ℤ, pos, negsuc, true, false, rules}
use lib.Signed.{lt_z}
use Rattle.text.specs.declared.Text.{Text}
use Rattle.text.specs.Texts.{bytes, sign}
use Rattle.text.specs.Steps.{Holds, Writes}

pub writes_full : (t : Text) (piece : List ℕ) → t.len ≡ None → Writes t piece t
writes_full t piece e = record { same_area = refl; same_length = refl; then_holds = λ held h. rw e (omega (arith, subst (λ (k : Option ℕ). MatchOption k (length t.area.now < length held) (λ n. (n ≡ length held) × (n ≤ length t.area.now) × (take n t.area.now ≡ held))) e h, length-append held piece)) }

pub writes_none : (t : Text) → Writes t [] t
writes_none t = record { same_area = refl; same_length = refl; then_holds = λ held h. subst (Holds t) (sym (append-nil held)) h }

pub writes_same : {a b : Text} {t u : List ℕ} → t ≡ u → Writes a t b → Writes a u b
writes_same {a} {b} e w = subst (λ (x : List ℕ). Writes a x b) e w

infixl 50 ◌then◌
pub ◌then◌ : {a b c : Text} {t u : List ℕ} → Writes a t b → Writes b u c → Writes a (t ++ u) c
◌then◌ {c = c} {t = t} {u = u} f g = record {
  same_area = g.same_area ∙ f.same_area;
  same_length = g.same_length ∙ f.same_length;
  then_holds = λ held h. subst (Holds c) (append_assoc held t u) (g.then_holds (held ++ t) (f.then_holds held h));
}

pub sign_below : (x : ℤ) → lt_z x (pos 0) ≡ true → bytes "-" ≡ sign x
sign_below (pos n) e = absurd (search rules)
sign_below (negsuc n) e = refl

pub sign_above : (x : ℤ) → lt_z x (pos 0) ≡ false → [] ≡ sign x
sign_above (pos n) e = refl
sign_above (negsuc n) e = absurd (search rules)

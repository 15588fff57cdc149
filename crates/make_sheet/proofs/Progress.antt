-- The making, line by line.
--   Progress        the lines that were taken, and what they made
--   progress_none, progress_one, progress_all     before the first, one more, and behind the last
--   progress_stops  at a line that makes an end of it
use mathlib.Core.Path.{◌≡◌, refl, sym, ap, ◌∙◌, subst}
use mathlib.Core.List.{List, [], ◌∷◌, ◌++◌, append_assoc, append-nil}
use Prim.Native.Nat.{ℕ, suc, ◌+◌}
use native.Mathlib.Omega.{arith}
use lib.ListN.{length, drop, replicate, length-append, length-replicate, drop_of_length-le}
use Rattle.record.specs.Records.{longest, erased}
use Rattle.reading.specs.Places.{LineAt}
use Rattle.reading.specs.Texts.{Lines}
use Rattle.reading.specs.Texts as texts
use Rattle.reading.proofs.Texts.{line_found, lines_exist}
use Rattle.make_sheet.specs.declared.lines.Line.{Line}
use Rattle.make_sheet.specs.declared.making.Stage.{Stage}
use Rattle.make_sheet.specs.declared.making.Stage.TheVariants as stage
use Rattle.make_sheet.specs.declared.lines.Wrong.{Wrong}
use Rattle.make_sheet.specs.declared.NoSheet.{NoSheet}
use Rattle.make_sheet.specs.Sayings.{Says, AllSay}
use Rattle.make_sheet.specs.Making.{Does, TakesText, SoFar, begun, and_then, size_in, MadeOf, Makes}
use Rattle.std.specs.Prelude.{Result, Ok, Err, IsErrAnd}
use Rattle.make_sheet.proofs.Sentences.{says_one}
use Rattle.make_sheet.proofs.Stages.{not-stopped}

pub record Progress (text area : List ℕ) (st : Stage) (at number : ℕ) : Type 0 where
  pub long : length area ≡ longest
  pub lines : List (List ℕ)
  pub number_is : number ≡ suc (length lines)
  pub said : List Line
  pub say : AllSay lines said
  pub made : SoFar said st area
  pub behind : (more : List (List ℕ)) → Lines (drop at text) more → Lines text (lines ++ more)

pub progress_none : (text area : List ℕ) → area ≡ replicate longest erased → Progress text area stage.Blank 0 1
progress_none text area e =
    record {
      long = ap length e ∙ length-replicate {A = ℕ} longest erased;
      lines = [];
      number_is = refl;
      said = [];
      say = tt;
      made = subst (SoFar [] stage.Blank) (sym e) begun;
      behind = λ more h. h;
    }

module _ (text area : List ℕ) (st : Stage) (at number : ℕ) (p : Progress text area st at number) where
  pub progress_all : (size : ℕ) → at ≡ length text → size ≡ size_in st area → MadeOf text area size
  progress_all size e is =
      record {
        lines = p.lines;
        text_is = subst (Lines text) (append-nil p.lines) (p.behind [] (subst (λ (t : List ℕ). Lines t []) (sym (drop_of_length-le text (omega (arith, e)))) texts.none));
        said = p.said;
        say = p.say;
        stage = st;
        made = p.made;
        size_is = is;
      }

  module _ (here : List ℕ) (next : ℕ) (t : List ℕ) (f : LineAt text at here next) where
    behind_here : (more : List (List ℕ)) → Lines (drop next text) more → Lines text (p.lines ++ (here ∷ more))
    behind_here more w = p.behind (here ∷ more) (line_found f w)

    pub progress_one : (then : Stage) → TakesText st here number area t (Ok then) → length t ≡ longest → Progress text t then next (number + 1)
    progress_one then h long = by h.read h.says h.does
      where
        by : (r : Result Line Wrong) → Says here r → Does st r area t (Ok then) → Progress text t then next (number + 1)
        by (Err w) s d = not-stopped refl d.1
        by (Ok l) s d =
            record {
              long = long;
              lines = p.lines ++ (here ∷ []);
              number_is = omega (arith, p.number_is, length-append p.lines (here ∷ []));
              said = p.said ++ (l ∷ []);
              say = says_one p.lines p.said here l p.say s;
              made = and_then l p.made d;
              behind = λ more w. subst (Lines text) (sym (append_assoc p.lines (here ∷ []) more)) (behind_here more w);
            }

    pub progress_stops : (n : NoSheet) (r : Result ℕ NoSheet) → IsErrAnd r (λ e. e ≡ n) → TakesText st here number area t (Err n) → Makes text t r
    progress_stops n (Ok size) e h = absurd e
    progress_stops n (Err m) e h =
        let (more, w) = lines_exist (drop next text) in
        subst (λ (x : NoSheet). Makes text t (Err x)) (sym e)
        (record {
          lines = p.lines;
          here = here;
          more = more;
          text_is = behind_here more w;
          number_is = h.numbered ∙ p.number_is;
          said = p.said;
          say = p.say;
          read = h.read;
          says = h.says;
          stage = st;
          before = area;
          made = p.made;
          stops = h.does;
        })

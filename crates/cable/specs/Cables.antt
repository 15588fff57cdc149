-- What the parts of the program promise one another. No contract can say what is read: they speak of whatever bytes a state is of.
--   answer_line, line_of   the line of what the check answers, and of the sheet with these bytes
--   Arriving     a state that is that of some bytes, which have not ended
--   Takes        the next state is that of the same bytes and the part
--   Stopped      what arrived is a state of such bytes; reading stops early only where more bytes than a sheet has were taken
--   LineIn       the text begins with the line of the bytes
use Rattle.std.specs.Prelude.{◌≡◌, false, List, ◌++◌, ℕ, ◌≤◌, ◌<◌, length, take}
use Rattle.refusal.specs.Answers.{Answer, refused, given, with_given}
use Rattle.record.specs.Records.{longest}
use Rattle.sheet.specs.declared.Checked.{Checked}
use Rattle.sheet.specs.Survey.{outcome}
use Rattle.sheet.specs.Promise.{told_of}
use Rattle.report_text.specs.Texts.{first_line, refused_line}
use Rattle.states.specs.declared.State.{State}
use Rattle.states.specs.States.{IsOf}
use Rattle.cable.specs.declared.Arrived.{Arrived}
use Rattle.cable.specs.declared.Arrived.TheVariants.{Whole, TooMany}

abbrev pub answer_line : Answer Checked → List ℕ
answer_line (given told) = first_line told.mission told.curves
answer_line (refused f) = refused_line f

abbrev pub line_of : List ℕ → List ℕ
line_of s = answer_line (with_given told_of (outcome s))

abbrev pub Arriving : State → Type 0
Arriving st = (s : List ℕ) × IsOf st s false

abbrev pub Takes : State → List ℕ → State → Type 0
Takes st part next = (s : List ℕ) → IsOf st s false → IsOf next (s ++ part) false

abbrev pub Stopped : Arrived → Type 0
Stopped (Whole st) = Arriving st
Stopped (TooMany st) = Arriving st × (longest < st.count)

pub record LineIn (st : State) (n : ℕ) (text : List ℕ) : Type 0 where
  pub fits : n ≤ length text
  pub is : (s : List ℕ) → IsOf st s false → take n text ≡ line_of s

-- What is said of a thing that cannot be read.
--   Says     a line was written: the thing's name, a colon, some reason, and the end of the line
use Rattle.std.specs.Prelude.{List, ◌++◌, ℕ, codes}
use Rattle.std.specs.declared.option.Option.{Option}
use Rattle.std.specs.Io.KnownBytes.{Appends}

pub record Says (before after : Option (List ℕ)) (name : List ℕ) : Type 0 where
  pub reason : List ℕ
  pub written : Appends before after (name ++ codes ": " ++ reason ++ codes "\n")

-- `say_error` meets its contract: each of its four writes appends its part.
use Rattle.std.proofs.Common.{ℕ, List, ◌++◌, codes, OnOk, Ok, Err}
use Rattle.std.specs.declared.option.Option.{Option}
use Rattle.std.specs.declared.result.Result.{Result}
use Rattle.std.specs.Io.KnownBytes.{Appends}
use Rattle.std.proofs.KnownBytes.{Appends-trans}
use Rattle.streams.specs.Said.{Says}
use Rattle.streams.proofs.say_error.Goals as goal

said : (a b c d e : Option (List ℕ)) (name reason : List ℕ) → Appends a b name → Appends b c (codes ": ") → Appends c d reason → Appends d e (codes "\n") → Says a e name
said a b c d e name reason first colon why end = record {
  reason = reason;
  written =
      Appends-trans a d e (name ++ codes ": " ++ reason) (codes "\n")
      (Appends-trans a c d (name ++ codes ": ") reason (Appends-trans a b c name (codes ": ") first colon) why)
      end;
}

on_ok : {T E : Type 0} (r : Result T E) {P Q : Type 0} → (P → Q) → OnOk r P → OnOk r Q
on_ok (Ok v) f h = f h
on_ok (Err e) f h = h

pub returns : goal.returns
returns g c =
    on_ok c.write_all-4.result (said _ _ _ _ _ _ _ c.in_ok-write_all.ensures.bytes c.in_ok-write_all-2.ensures.bytes c.in_ok-write_all-3.ensures.bytes) c.write_all-4.ensures.bytes

-- `rules::generator_of` meets its contract, by the kind of curve.
use mathlib.Core.Path.{sym, subst}
use mathlib.Core.List.{List}
use lib.Dec.{lit≤}
use Rattle.std.specs.Prelude.{Option, Some, None}
use Rattle.pair.specs.declared.Pair.{Pair}
use Rattle.pair.proofs.Parts.{wider}
use Rattle.bernstein.specs.Powers.{power_form}
use Rattle.curve.specs.declared.Legs.{Legs}
use Rattle.curve.specs.Steps.{legs_of}
use Rattle.curve.proofs.Differences.{legs_at}
use Rattle.verdict.specs.declared.rules.Generator.{Generator}
use Rattle.verdict.specs.Steps.{IsGeneration, IsLine}
use Rattle.verdict.proofs.rules.generator_of.Goals as goal

line_generation : (D : List Pair) (r : Option Generator) → IsLine D r → IsGeneration D r
line_generation D (Some s) h = h.0
line_generation D None h = h

pub line_generator-requires : goal.line_generator-requires
line_generator-requires c =
    let h = legs_at _ c.in-Cubic.is c.requires in
    (wider (lit≤ tt) (h 0), wider (lit≤ tt) (h 1), wider (lit≤ tt) (h 2))

pub quintic_generator-requires : goal.quintic_generator-requires
quintic_generator-requires c = legs_at _ c.in-Quintic.is c.requires

pub returns-in-Cubic : goal.returns-in-Cubic
returns-in-Cubic c =
    subst (λ (l : Legs). IsGeneration (power_form (legs_of l)) c.line_generator.result) (sym c.in-Cubic.is)
    (line_generation _ c.line_generator.result c.line_generator.ensures)

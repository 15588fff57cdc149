-- `numbers::signed` meets its contract: the machine reads the word's bits as the definition does.
use mathlib.Core.Path.{ap, ◌∙◌}
use lib.IntN.{ℤ}
use mir.Syntax.{w32}
use mir.Val.{to_z, of_z}
use mir.ValLaws.{of_z-to_z}
use Rattle.record.proofs.Signs.{settled, word_signed}
use Rattle.record.proofs.numbers.signed.Goals as goal

pub returns : goal.returns
returns c =
    settled c.from.type_inv
    (c.from.ensures ∙ ap (λ (z : ℤ). to_z w32 (of_z w32 z)) c.cast_signed.ensures ∙ ap (to_z w32) (of_z-to_z w32 c.args.w (record { fits = c.requires })) ∙ word_signed c.args.w c.requires)

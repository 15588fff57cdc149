-- `lines::put_length` meets its contract: c, A and B, one behind the other.
use Rattle.std.proofs.Common.{ap, rules, ℤ, ◌++◌, w64}
use Rattle.std.proofs.lemmas.Int.{to_z-of_z}
use Rattle.text.specs.Texts.{bytes, signed}
use Rattle.text.proofs.Pieces.{◌then◌, writes_same}
use Rattle.report_text.proofs.lines.put_length.Goals as goal

pub returns : goal.returns
returns c =
    let c_kept = to_z-of_z w64 c.args.length.c (search rules) in
    let a_kept = to_z-of_z w64 c.args.length.a (search rules) in
    let b_kept = to_z-of_z w64 c.args.length.b (search rules) in
    writes_same (ap (λ (x : ℤ). bytes "pre c=" ++ signed x) c_kept) c.put_signed.ensures
    then writes_same (ap (λ (x : ℤ). bytes " len=" ++ signed x) a_kept) c.put_signed-2.ensures
    then writes_same (ap (λ (x : ℤ). bytes "/" ++ signed x) b_kept) c.put_signed-3.ensures

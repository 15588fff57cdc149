-- `make_from` is safe: the sheet ends within the area.
use Rattle.std.proofs.Common.{sym, arith, length-take-le}
use Rattle.make_sheet.proofs.Sheets.{size-within}
use Rattle.make_sheet.proofs.make_from.Goals as goal

pub shared_ref_as_front-write_all : goal.shared_ref_as_front-write_all
shared_ref_as_front-write_all g c = omega (arith, size-within _ _ _ c.in-Ok.ensures, c.make.array_long)

pub slice_bounds-write_all-end : goal.slice_bounds-write_all-end
slice_bounds-write_all-end g c = sym (length-take-le _ _ (size-within _ _ _ c.in-Ok.ensures))

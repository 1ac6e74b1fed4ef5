-- `ryebadger_write_stl` puts the answer of writing STL in cells, which its length fits, and leaves what that leaves.
use Prim.Native.Nat.{◌<◌}
use mathlib.Core.Path.{sym, ap, subst, ◌∙◌}
use Rattle.answers.specs.Cells.{stl_cells}
use Rattle.answers.proofs.Files.{stl_fits}
use Rattle.ryebadger.proofs.ryebadger_write_stl.Goals as goal

pub of_stl-requires : goal.of_stl-requires
of_stl-requires c = subst (λ s. s.values < 4294967296) (sym c.write_stl-writing.ensures.0) (stl_fits _ _ _)

pub returns : goal.returns
returns c = let r = c.write_stl-writing.ensures in (c.of_stl.ensures ∙ ap stl_cells r.0, r.1)

-- `write_tables` writes the first four fields, each where the one before it ended.
use Prim.Native.Nat.{ℕ, ◌*◌}
use mathlib.Core.Path.{refl, ap}
use mathlib.Core.List.{List, ◌∷◌}
use native.Mathlib.Omega.{arith}
use lib.ListN.{length}
use Rattle.tables.specs.Tables.{held}
use Rattle.cagefile.specs.Fields.{Head, opening, table_heads, table_payloads}
use Rattle.cagefile.proofs.Fits.{length_u16s}
use Rattle.writing.proofs.FieldWriting.{twins-payload, all_left, left_next, none_left}
use Rattle.writing.proofs.write_tables.Goals as goal
use Rattle.writing.proofs.write_tables.Goals.{Start}

-- the fields to write
module _ (s : Start) where
  abbrev heads : List Head
  heads = opening ∷ table_heads (length s.args.tables.now.twin.now)

  abbrev payloads : List (List ℕ)
  payloads = table_payloads s.args.form (held s.args.tables.now) s.args.vertices

pub returns : goal.returns
unfolding table_heads table_payloads
returns c =
    let left₀ = all_left c.args.file.now (heads (goal.at.returns c).Start) (payloads (goal.at.returns c).Start) in
    let left₁ = left_next left₀ refl refl (length_u16s _) c.write_opening-twin_at.ensures in
    let left₂ = left_next left₁ refl (twins-payload c.args.tables.now.twin.now) (length_u16s _) c.write_table-vert_at.ensures in
    let left₃ = left_next left₂ (ap (λ n. 2 * n) c.requires.3) refl (length_u16s _) c.write_table-edge_at.ensures in
    let left₄ = left_next left₃ (ap (λ n. 2 * n) c.requires.4) refl (length_u16s _) c.write_table.ensures in
    (omega arith, (none_left left₄).1)

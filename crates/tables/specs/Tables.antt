-- Document 01, "The cage": the three tables.
use Rattle.std.specs.Prelude.{ℕ, Bool, List, eqb, length}
use Rattle.halfedges.specs.declared.table.HalfedgeTable.{HalfedgeTable}
use Rattle.tables.specs.declared.Tables.{Tables as Slices}
use Rattle.halfedges.specs.Cage.{E, cell}

-- "Three u32 tables .. hold TWIN, VERT and EDGE of each halfedge"
pub record Tables : Type 0 where
  pub twin : List ℕ
  pub vert : List ℕ
  pub edge : List ℕ

abbrev pub tables : List ℕ → List ℕ → List ℕ → Tables
tables twin vert edge = record { twin = twin; vert = vert; edge = edge }

-- as the code has them
abbrev pub held : Slices → Tables
held t = tables t.twin.now t.vert.now t.edge.now

-- H and E of a twin table, with V as it is handed over
abbrev pub counts_from : List ℕ → ℕ → HalfedgeTable
counts_from twin v = record { halfedges = length twin; edges = E twin; vertices = v }

abbrev pub counts_of : Tables → ℕ → HalfedgeTable
counts_of c v = counts_from c.twin v

-- halfedge h leaves vertex v: h is one of v's corners
abbrev pub leaves : List ℕ → ℕ → ℕ → Bool
leaves vert v h = eqb (cell vert h) v

-- What functions ask of counts, and how a refusal is made.
use Rattle.std.specs.Prelude.{ℕ, ◌≤◌, cond, leb}
use Rattle.halfedges.specs.declared.table.HalfedgeTable.{HalfedgeTable}
use Rattle.halfedges.specs.declared.table.Levels.{Levels}
use Rattle.halfedges.specs.Refusals.{Verdict, Said}
use Rattle.halfedges.specs.Counts.{Hs, Es, Vs, no_levels}

-- H, E and V are at most m
pub record AtMost (m : ℕ) (t : HalfedgeTable) : Type 0 where
  pub halfedges : t.halfedges ≤ m
  pub edges : t.edges ≤ m
  pub vertices : t.vertices ≤ m

-- the counts of level k, zero past the depth
abbrev pub counts_within : HalfedgeTable → ℕ → ℕ → HalfedgeTable
counts_within t depth k =
    record {
      halfedges = cond (leb k depth) (Hs t k) 0;
      edges = cond (leb k depth) (Es t k) 0;
      vertices = cond (leb k depth) (Vs t k) 0;
    }

-- a refusal with v's number and place
abbrev pub refused_count : Verdict → Said Levels
refused_count v = record { verdict = v; values = no_levels }

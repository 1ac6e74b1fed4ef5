-- Document 02, §8 "Say why", in plain words: the clause "is proved to hold of the cage", and none before it does.
use Rattle.std.specs.Prelude.{ℕ, ◌≤◌, ◌<◌, ◌≡◌, ◌≢◌, ◌⊎◌, List, length}
use Rattle.halfedges.specs.Cage.{NEXT, marker, cell, E}
use Rattle.halfedges.specs.Refusals.{Verdict, TWIN, VERTEX, UNUSED, EDGE, FAN}
use Rattle.tables.specs.Tables.{Tables}
use Rattle.tables.specs.Fans.{Joined}
use Rattle.clauses.specs.Clauses.{Clause, clause, no_clause}

-- 3
pub data TwinBroken (twin : List ℕ) (h : ℕ) : Clause → Type 0 where
  past : cell twin h ≢ marker → length twin ≤ cell twin h → TwinBroken twin h (clause 1 (cell twin h) (length twin) 0)
  itself : cell twin h ≢ marker → cell twin h < length twin → cell twin h ≡ h → TwinBroken twin h (clause 2 (cell twin h) 0 0)
  not_returned : cell twin h ≢ marker → cell twin h < length twin → cell twin h ≢ h → cell twin (cell twin h) ≢ h → TwinBroken twin h (clause 3 (cell twin h) (cell twin (cell twin h)) 0)

-- 4
pub data VertexBroken (twin vert : List ℕ) (v h : ℕ) : Clause → Type 0 where
  past : v ≤ cell vert h → VertexBroken twin vert v h (clause 1 (cell vert h) v 0)
  alike : cell vert h < v → cell vert h ≡ cell vert (NEXT h) → VertexBroken twin vert v h (clause 2 (cell vert h) (NEXT h) 0)
  differ : cell vert h < v → cell vert h ≢ cell vert (NEXT h) → cell twin h ≢ marker → cell vert (cell twin h) ≢ cell vert (NEXT h) → VertexBroken twin vert v h (clause 3 (cell twin h) (cell vert (cell twin h)) (cell vert (NEXT h)))

-- 5
pub data UseBroken (vert : List ℕ) (v : ℕ) : Clause → Type 0 where
  unused : ((h : ℕ) → h < length vert → cell vert h ≢ v) → UseBroken vert v (clause 1 v 0 0)

-- 6; g is the lowest stranger
pub data EdgeBroken (twin edge : List ℕ) (h : ℕ) : Clause → Type 0 where
  past : E twin ≤ cell edge h → EdgeBroken twin edge h (clause 1 (cell edge h) (E twin) 0)
  differs : cell edge h < E twin → cell twin h ≢ marker → cell edge (cell twin h) ≢ cell edge h → EdgeBroken twin edge h (clause 2 (cell twin h) (cell edge h) (cell edge (cell twin h)))
  shared : (g : ℕ) → cell edge h < E twin → (cell twin h ≢ marker → cell edge (cell twin h) ≡ cell edge h) → g < length edge → cell edge g ≡ cell edge h → g ≢ h → g ≢ cell twin h → ((k : ℕ) → k < g → cell edge k ≡ cell edge h → (k ≡ h) ⊎ (k ≡ cell twin h)) → EdgeBroken twin edge h (clause 3 (cell edge h) g 0)

-- 7; g is the lowest corner at v, and h the lowest there that is not joined with g
pub data FanBroken (twin vert : List ℕ) (v : ℕ) : Clause → Type 0 where
  apart : (g h : ℕ) → g < length vert → cell vert g ≡ v → ((k : ℕ) → k < g → cell vert k ≢ v) → h < length vert → cell vert h ≡ v → (Joined twin g h → ⊥) → ((k : ℕ) → k < h → cell vert k ≡ v → Joined twin g k) → FanBroken twin vert v (clause 1 g h 0)

-- a verdict of the check of tables, and the clause that is named for it
pub data Explained (c : Tables) (v : ℕ) (w : Verdict) (k : Clause) : Type 0 where
  twin_at : (h : ℕ) → w ≡ TWIN h → TwinBroken c.twin h k → Explained c v w k
  vertex_at : (h : ℕ) → w ≡ VERTEX h → VertexBroken c.twin c.vert v h k → Explained c v w k
  unused_at : (u : ℕ) → w ≡ UNUSED u → UseBroken c.vert u k → Explained c v w k
  edge_at : (h : ℕ) → w ≡ EDGE h → EdgeBroken c.twin c.edge h k → Explained c v w k
  fan_at : (u : ℕ) → w ≡ FAN u → FanBroken c.twin c.vert u k → Explained c v w k
  none : (w.number < 3) ⊎ (7 < w.number) → k ≡ no_clause → Explained c v w k

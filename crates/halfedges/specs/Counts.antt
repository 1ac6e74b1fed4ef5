-- Document 01, "One level to the next": the counts, and the count question.
use Rattle.std.specs.Prelude.{ℕ, zero, suc, ◌+◌, ◌*◌, ◌%◌, Bool, cond, not, ◌||◌, List, [], ◌∷◌, Result, eqb, leb, ltb}
use Rattle.halfedges.specs.declared.table.HalfedgeTable.{HalfedgeTable}
use Rattle.halfedges.specs.declared.table.Levels.{Levels}
use Rattle.halfedges.specs.declared.refusal.Refusal.{Refusal}
use Rattle.laws.specs.Below.{tabulate, sum}
use Rattle.halfedges.specs.Cage.{most_halfedges, most_vertices, most_depth}
use Rattle.halfedges.specs.Refusals.{SHAPE, LIMIT, given, first, Said, said, answered}

-- "H becomes 4H, .. E becomes 2E+H, V becomes V+E"
abbrev pub finer : HalfedgeTable → HalfedgeTable
finer t = record { halfedges = 4 * t.halfedges; edges = 2 * t.edges + t.halfedges; vertices = t.vertices + t.edges }

-- the counts of level k
unfoldable pub counts_at : HalfedgeTable → ℕ → HalfedgeTable
counts_at t zero = t
counts_at t (suc k) = finer (counts_at t k)

-- H, E and V of level k
abbrev pub Hs : HalfedgeTable → ℕ → ℕ
Hs t k = (counts_at t k).halfedges

abbrev pub Es : HalfedgeTable → ℕ → ℕ
Es t k = (counts_at t k).edges

abbrev pub Vs : HalfedgeTable → ℕ → ℕ
Vs t k = (counts_at t k).vertices

-- "the room: the sum of H and the sum of V over levels 0 to the depth"; it "gains the sum of E over the levels"
abbrev pub room_h : HalfedgeTable → ℕ → ℕ
room_h t depth = sum (suc depth) (Hs t)

abbrev pub room_v : HalfedgeTable → ℕ → ℕ
room_v t depth = sum (suc depth) (Vs t)

abbrev pub room_e : HalfedgeTable → ℕ → ℕ
room_e t depth = sum (suc depth) (Es t)

-- a number for each of the seven levels, "zero past the depth asked"
unfoldable pub seven : ℕ → (ℕ → ℕ) → List ℕ
seven depth f = tabulate 7 (λ k. cond (leb k depth) (f k) 0)

-- "the counts of all seven levels at once, .. with the room"
unfoldable pub levels : HalfedgeTable → ℕ → Levels
levels t depth =
    record {
      halfedges = seven depth (Hs t);
      edges = seven depth (Es t);
      vertices = seven depth (Vs t);
      halfedge_room = room_h t depth;
      vertex_room = room_v t depth;
      edge_room = room_e t depth;
    }

abbrev pub no_levels : Levels
no_levels =
    record {
      halfedges = tabulate 7 (λ _. 0);
      edges = tabulate 7 (λ _. 0);
      vertices = tabulate 7 (λ _. 0);
      halfedge_room = 0;
      vertex_room = 0;
      edge_room = 0;
    }

-- 1 "count question: H 0 or no multiple of 3, V is 0, E > H or 2E < H"
unfoldable pub count_shape : HalfedgeTable → Bool
count_shape t =
    eqb t.halfedges 0
    || not (eqb (t.halfedges % 3) 0)
    || eqb t.vertices 0
    || ltb t.halfedges t.edges
    || ltb (2 * t.edges) t.halfedges

-- 2 "H, V or depth above its limit"
unfoldable pub above_limit : ℕ → ℕ → ℕ → Bool
above_limit h v depth = ltb most_halfedges h || ltb most_vertices v || ltb most_depth depth

-- "The count question takes H, E, V and a depth, and gives 1 or 2"
unfoldable pub count_question : HalfedgeTable → ℕ → Said Levels
count_question t depth =
    said
    (first (given (count_shape t) SHAPE ∷ given (above_limit t.halfedges t.vertices depth) LIMIT ∷ []))
    (levels t depth)
    no_levels

-- what the code's answer says
abbrev pub counted : Result Levels Refusal → Said Levels
counted = answered (λ l. l) no_levels

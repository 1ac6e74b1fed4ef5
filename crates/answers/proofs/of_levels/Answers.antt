-- `of_levels` has number and place, three times seven numbers and the three rooms in their cells.
use Prim.Native.Nat.{ℕ, ◌<◌}
use mathlib.Core.Path.{◌≡◌, ap, ap₂}
use mathlib.Core.List.{List, [], ◌∷◌, ◌++◌}
use lib.ListN.{length, get_or}
use Rattle.laws.specs.Below.{tabulate}
use Rattle.laws.proofs.Tabulate.{tabulate-cells}
use Rattle.halfedges.specs.declared.table.Levels.{Levels}
use Rattle.answers.specs.Cells.{level_numbers}
use Rattle.answers.specs.Internal.Fitting.{Fitting, Sevens}
use Rattle.answers.proofs.Small.{fitting_front, fitting_rest}
use Rattle.answers.proofs.of_levels.Goals as goal

-- the first seven cells of a list
abbrev seven : List ℕ → List ℕ
seven xs = tabulate 7 (λ k. get_or xs k 0)

seven_all : (xs : List ℕ) → length xs ≡ 7 → seven xs ≡ xs
seven_all xs e = tabulate-cells 7 xs 0 e

-- the levels' cells, one beside the other
laid :
    (l : Levels) → Sevens l → {h e v : List ℕ} →
    h ≡ l.halfedges → e ≡ l.edges → v ≡ l.vertices →
    seven h ++ (seven e ++ (seven v ++ (l.halfedge_room ∷ l.vertex_room ∷ l.edge_room ∷ []))) ≡ level_numbers l
laid l w h e v =
    rw (h, e, v)
    (ap₂ ◌++◌ (seven_all l.halfedges w.halfedges)
    (ap₂ ◌++◌ (seven_all l.edges w.edges) (ap (λ xs. xs ++ (l.halfedge_room ∷ l.vertex_room ∷ l.edge_room ∷ [])) (seven_all l.vertices w.vertices))))

-- what of the counts fits
record Parts (l : Levels) : Type 0 where
  halfedges : Fitting l.halfedges
  edges : Fitting l.edges
  vertices : Fitting l.vertices
  halfedge_room : l.halfedge_room < 4294967296
  vertex_room : l.vertex_room < 4294967296
  edge_room : l.edge_room < 4294967296

parts : (l : Levels) → Fitting (level_numbers l) → Parts l
parts l f =
    let g = fitting_rest l.halfedges _ f in
    let i = fitting_rest l.edges _ g in
    let r = fitting_rest l.vertices (l.halfedge_room ∷ l.vertex_room ∷ l.edge_room ∷ []) i in
    record {
      halfedges = fitting_front l.halfedges _ f;
      edges = fitting_front l.edges _ g;
      vertices = fitting_front l.vertices _ i;
      halfedge_room = r.0;
      vertex_room = r.1.0;
      edge_room = r.1.1.0;
    }

pub of_seven-h-requires : goal.of_seven-h-requires
of_seven-h-requires c = ((parts c.args.levels c.requires.1).halfedges, c.requires.0.halfedges)

pub of_seven-e-requires : goal.of_seven-e-requires
of_seven-e-requires c = ((parts c.args.levels c.requires.1).edges, c.requires.0.edges)

pub of_seven-v-requires : goal.of_seven-v-requires
of_seven-v-requires c = ((parts c.args.levels c.requires.1).vertices, c.requires.0.vertices)

pub overflow_cast-halfedge_room : goal.overflow_cast-halfedge_room
overflow_cast-halfedge_room c = record { fits = (parts c.args.levels c.requires.1).halfedge_room }

pub overflow_cast-vertex_room : goal.overflow_cast-vertex_room
overflow_cast-vertex_room c = record { fits = (parts c.args.levels c.requires.1).vertex_room }

pub overflow_cast-edge_room : goal.overflow_cast-edge_room
overflow_cast-edge_room c = record { fits = (parts c.args.levels c.requires.1).edge_room }

pub returns : goal.returns
returns c =
    ap (λ xs. c.args.number ∷ c.args.place ∷ xs) (laid c.args.levels c.requires.0 c.of_seven-h.ensures c.of_seven-e.ensures c.of_seven-v.ensures)

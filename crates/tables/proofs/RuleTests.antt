-- The tests of rules 3 and 4 where those before a halfedge's twin are passed, by whether it has one. Assumes nothing.
use Prim.Native.Nat.{ℕ, ◌<◌}
use mathlib.Core.Path.{◌≡◌}
use mathlib.Core.Logic.{◌≢◌}
use mathlib.Core.Bool.{false, not}
use mathlib.Core.List.{List}
use lib.Dec.{eqb}
use lib.ListN.{length}
use borrow.Author.Tests.{eq-eqb, ne_eqb, lt-leb}
use Rattle.halfedges.specs.Cage.{NEXT, marker, cell}
use Rattle.tables.specs.Rules.{bad_twin, bad_vertex}

module _ (twin : List ℕ) (h : ℕ) where
  pub twin_none : cell twin h ≡ marker → false ≡ bad_twin twin h
  unfolding bad_twin
  twin_none m = simp (eq-eqb _ _ m)

  pub twin_back : cell twin h ≢ marker → cell twin h < length twin → cell twin h ≢ h → not (eqb (cell twin (cell twin h)) h) ≡ bad_twin twin h
  unfolding bad_twin
  twin_back n l e = simp (ne_eqb _ _ n, lt-leb _ _ l, ne_eqb _ _ e)

module _ (twin vert : List ℕ) (v h : ℕ) (l : cell vert h < v) (n : cell vert h ≢ cell vert (NEXT h)) where
  pub vertex_none : cell twin h ≡ marker → false ≡ bad_vertex twin vert v h
  unfolding bad_vertex
  vertex_none m = simp (lt-leb _ _ l, ne_eqb _ _ n, eq-eqb _ _ m)

  pub vertex_twin : cell twin h ≢ marker → not (eqb (cell vert (cell twin h)) (cell vert (NEXT h))) ≡ bad_vertex twin vert v h
  unfolding bad_vertex
  vertex_twin m = simp (lt-leb _ _ l, ne_eqb _ _ n, ne_eqb _ _ m)

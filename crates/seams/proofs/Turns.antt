-- The fifth pass over a level, by the level's own numbers. Assumes nothing.
--     Seams                        what the law of the pass takes
--     after, after_only            the table after some halfedges, and the cells that they can change
--     edge_other, edge_own         what halfedge h leaves in the cells of an edge
--     vertex_turn                  and in those of a vertex
use Prim.Native.Nat.{ℕ, ◌+◌, ◌-◌, ◌*◌, ◌/◌, ◌^◌, ◌≤◌, ◌<◌}
use mathlib.Core.Path.{◌≡◌, ap, ◌∙◌, subst}
use mathlib.Core.Logic.{◌≢◌}
use mathlib.Core.Bool.{Bool, true, false, cond, ◌&&◌}
use mathlib.Core.List.{List}
use native.Mathlib.Decide.{ℕ_discrete}
use native.Mathlib.Omega.{arith}
use lib.Dec.{ltb}
use lib.IntN.{ℤ}
use lib.ListN.{length}
use borrow.Author.Tests.{eq-eqb, ne_eqb}
use Rattle.laws.specs.Internal.Steps.{steps}
use Rattle.laws.proofs.Tests.{by-test}
use Rattle.halfedges.specs.declared.table.HalfedgeTable.{HalfedgeTable}
use Rattle.halfedges.specs.Cage.{NEXT, cell}
use Rattle.halfedges.proofs.Triangle.{next_below}
use Rattle.tables.specs.Tables.{Tables, leaves}
use Rattle.points.specs.PointRules.{E1}
use Rattle.points.specs.NextPoints.{coordinate, far}
use Rattle.points.specs.Internal.Relied.{Relied}
use Rattle.points.specs.Internal.Creased.{known_creases, KnownCreases}
use Rattle.points.specs.Internal.Cells.{value}
use Rattle.points.proofs.Only.{Only, only_steps}
use Rattle.points.proofs.Holding.{Holds}
use Rattle.edgepoints.specs.declared.edges.Corner.{Corner}
use Rattle.edgepoints.specs.Internal.Edges.{corner_of}
use Rattle.edgepoints.proofs.Writes.{corner_is}
use Rattle.seams.specs.Internal.Seams.{draw_seam, draw_at, seam}
use Rattle.seams.proofs.Numbers.{sharp_is}
use Rattle.seams.proofs.Seaming.{changed, edge_hit, edge_miss, vertex_hit, vertex_miss, seam_drawn, seam_none, seam_only}

-- a level with its own crease table, which comes of the cage's; a table that starts with the level's points and has room for the next
pub record Seams (t : HalfedgeTable) (c : Tables) (creases : List ℕ) (level : ℕ) (counts sharp : List ℕ) (points m : List ℤ) : Type 0 where
  pub relied : Relied t c
  pub numbers : (e : ℕ) → cell sharp e ≡ cell creases (e / 2 ^ level) - level
  pub known : KnownCreases counts c sharp
  pub holds : Holds t.vertices points m
  pub room : 6 * t.vertices + 3 * t.edges ≤ length m

module _ (t : HalfedgeTable) (c : Tables) (creases : List ℕ) (level : ℕ) (counts sharp : List ℕ) (points m : List ℤ) (seams : Seams t c creases level counts sharp points m) where
  abbrev n : ℕ
  n = t.vertices

  abbrev step : ℕ → List ℤ → List ℤ
  step = seam creases level counts c.vert c.edge n m

  -- the table after i halfedges
  abbrev pub after : ℕ → List ℤ
  after i = steps i step m

  -- h's edge is an inner crease
  abbrev pub inner : ℕ → Bool
  inner h = ltb 0 (cell sharp (cell c.edge h))

  pub in_edge : {h : ℕ} → h < length c.vert → h < length c.edge
  in_edge b = omega (arith, seams.relied.carried.long, seams.relied.bordered.long)

  pub after_only : (i : ℕ) → i ≤ length c.vert → Only (3 * n) (6 * n + 3 * t.edges) m (after i)
  after_only =
      only_steps (3 * n) (6 * n + 3 * t.edges) (length c.vert) step m
      (λ h b l _.
      let below = seams.relied.carried.below h (in_edge b) in
      seam_only creases level counts c.vert c.edge n m h l (6 * n + 3 * t.edges) seams.relied.cornered b (omega arith))

  module _ (h : ℕ) (b : h < length c.vert) (l : List ℤ) where
    abbrev from : Corner
    from = corner_of c.vert m h

    abbrev end : Corner
    end = corner_of c.vert m (NEXT h)

    abbrev own : ℕ
    own = known_creases counts (cell c.vert h)

    quiet : inner h ≡ false → step h l ≡ l
    quiet f = seam_none creases level counts c.vert c.edge n m h l (sharp_is creases level (cell c.edge h) (seams.numbers (cell c.edge h)) ∙ f)

    drawn_step : inner h ≡ true → step h l ≡ draw_seam n (cell c.edge h) own from end l
    unfolding draw_at
    drawn_step i = seam_drawn creases level counts c.vert c.edge n m h l (sharp_is creases level (cell c.edge h) (seams.numbers (cell c.edge h)) ∙ i)

    in_from : cell c.vert h < n
    in_from = seams.relied.cornered.below h b

    room_here : length l ≡ length m → 6 * n + 3 * cell c.edge h + 2 < length l
    room_here long = omega (arith, seams.room, seams.relied.carried.below h (in_edge b))

    module _ (k : ℕ) (lk : k < 3) where
      from_is : value from.point k ≡ coordinate points k (cell c.vert h)
      from_is = corner_is seams.relied.cornered seams.holds h k b lk

      end_is : value end.point k ≡ coordinate points k (far c.vert h)
      end_is = corner_is seams.relied.cornered seams.holds (NEXT h) k (next_below seams.relied.cornered.whole b) lk

      -- edge e's cells
      module _ (e : ℕ) where
        pub edge_other : cell c.edge h ≢ e → value (step h l) (6 * n + 3 * e + k) ≡ value l (6 * n + 3 * e + k)
        edge_other d =
            by-test (inner h)
            (λ i. ap (λ y. value y (6 * n + 3 * e + k)) (drawn_step i) ∙ edge_miss n (cell c.edge h) own from end l in_from k lk e (λ q. d (omega (arith, q))))
            (λ f. ap (λ y. value y (6 * n + 3 * e + k)) (quiet f))

        pub edge_quiet : inner h ≡ false → value (step h l) (6 * n + 3 * e + k) ≡ value l (6 * n + 3 * e + k)
        edge_quiet f = ap (λ y. value y (6 * n + 3 * e + k)) (quiet f)

        pub edge_own : cell c.edge h ≡ e → inner h ≡ true → length l ≡ length m → value (step h l) (6 * n + 3 * e + k) ≡ E1 (coordinate points k (cell c.vert h)) (coordinate points k (far c.vert h))
        edge_own q i long =
            ap (λ y. value y (6 * n + 3 * e + k)) (drawn_step i)
            ∙ subst (λ e. value (draw_seam n (cell c.edge h) own from end l) (6 * n + 3 * e + k) ≡ E1 (coordinate points k (cell c.vert h)) (coordinate points k (far c.vert h))) q
            (edge_hit n (cell c.edge h) own from end l in_from (room_here long) k lk ∙ rw (from_is, end_is))

      -- vertex v's cells
      pub vertex_turn : (v : ℕ) → v < n → length l ≡ length m → value (step h l) (3 * n + 3 * v + k) ≡ cond (inner h && leaves c.vert v h) (changed (known_creases counts v) (value l (3 * n + 3 * v + k)) (coordinate points k v) (coordinate points k (far c.vert h))) (value l (3 * n + 3 * v + k))
      vertex_turn v lv long =
          by-test (inner h) (λ i. rw i (by i (ℕ_discrete (cell c.vert h) v)))
          (λ f. rw f (ap (λ y. value y (3 * n + 3 * v + k)) (quiet f)))
        where
          there : inner h ≡ true → (u : ℕ) → value (step h l) u ≡ value (draw_seam n (cell c.edge h) own from end l) u
          there i u = ap (λ y. value y u) (drawn_step i)

          by : inner h ≡ true → Dec (cell c.vert h ≡ v) → value (step h l) (3 * n + 3 * v + k) ≡ cond (leaves c.vert v h) (changed (known_creases counts v) (value l (3 * n + 3 * v + k)) (coordinate points k v) (coordinate points k (far c.vert h))) (value l (3 * n + 3 * v + k))
          by i (yes q) =
              rw (eq-eqb (cell c.vert h) v q)
              (there i (3 * n + 3 * v + k)
              ∙ subst (λ u. value (draw_seam n (cell c.edge h) own from end l) (3 * n + 3 * u + k) ≡ changed (known_creases counts u) (value l (3 * n + 3 * u + k)) (coordinate points k u) (coordinate points k (far c.vert h))) q
              (vertex_hit n (cell c.edge h) own from end l in_from (room_here long) k lk ∙ rw (from_is, end_is)))
          by i (no q) =
              rw (ne_eqb (cell c.vert h) v q)
              (there i (3 * n + 3 * v + k) ∙ vertex_miss n (cell c.edge h) own from end l in_from k lk v lv q)

-- Document 02, §2 "STL out to the mill": "Write any level from its VERT table and points", of the tables that refining leaves.
use Rattle.std.specs.Prelude.{ℕ, ◌+◌, ◌*◌, ◌^◌, ◌≡◌, List, ℤ, length, take, drop}
use Rattle.laws.specs.Below.{sum}
use Rattle.halfedges.specs.declared.table.HalfedgeTable.{HalfedgeTable}
use Rattle.halfedges.specs.Cage.{F}
use Rattle.halfedges.specs.Refusals.{DONE, first}
use Rattle.halfedges.specs.Counts.{Hs, Vs}
use Rattle.tables.specs.Tables.{Tables, counts_of}
use Rattle.splitting.specs.NextLevel.{level}
use Rattle.points.specs.declared.weights.Weight.{Weight}
use Rattle.points.specs.NextPoints.{level_points}
use Rattle.points.specs.Operations.{vertices, refine_cage}
use Rattle.stl.specs.File.{stl_file}
use Rattle.stl.specs.Writing.{stl_checks}

-- level d's own part of a table with the levels end to end: as many cells as it has, after those of the levels before it
abbrev pub own_corners : HalfedgeTable → ℕ → List ℕ → List ℕ
own_corners t d vert = take (Hs t d) (drop (sum d (Hs t)) vert)

abbrev pub own_places : HalfedgeTable → ℕ → List ℤ → List ℤ
own_places t d points = take (3 * Vs t d) (drop (3 * sum d (Vs t)) points)

-- level d of a cage that was refined into lent tables
pub record Writable
    (w : Weight) (c : Tables) (creases : List ℕ) (points : List ℤ) (depth : ℕ) (lent : Tables) (lent_points : List ℤ) (lentCreases : List ℕ)
    (d : ℕ) : Type 0 where
  -- its own parts are its VERT and its points
  pub corners :
      own_corners (counts_of c (vertices points)) d (refine_cage w c creases points depth lent lent_points lentCreases).lent.vert
      ≡ (level (counts_of c (vertices points)) c d).vert
  pub places :
      own_places (counts_of c (vertices points)) d (refine_cage w c creases points depth lent lent_points lentCreases).points
      ≡ level_points w (counts_of c (vertices points)) c creases points d
  -- none of 1, 2, 4 and 8 is given on them
  pub passes :
      first (stl_checks (level (counts_of c (vertices points)) c d).vert (level_points w (counts_of c (vertices points)) c creases points d))
      ≡ DONE
  -- the room that they need
  pub room :
      length (stl_file (level (counts_of c (vertices points)) c d).vert (level_points w (counts_of c (vertices points)) c creases points d))
      ≡ 84 + 50 * (4 ^ d * F (length c.twin))

-- Document 02 §9: "prove each reply equal to the cell the refined tables would hold", of the tables that refining leaves.
use Rattle.std.specs.Prelude.{ℕ, ◌+◌, ◌≤◌, ◌<◌, ◌≡◌, List, ℤ}
use Rattle.laws.specs.Below.{sum}
use Rattle.halfedges.specs.Refusals.{DONE}
use Rattle.halfedges.specs.Counts.{Hs}
use Rattle.tables.specs.Tables.{Tables, counts_of}
use Rattle.points.specs.declared.weights.Weight.{Weight}
use Rattle.points.specs.Operations.{vertices, refine_verdict, refine_cage}
use Rattle.climbing.specs.Halfedge.{cells_of, halfedge_question}

-- where refining a cage to a depth is done, every halfedge of every level up to there is answered with what stands for it in the lent
-- tables, after the levels before its own
abbrev pub AsRefined : Type 0
AsRefined =
    (w : Weight) (c : Tables) (creases : List ℕ) (points : List ℤ) (depth : ℕ) (lent : Tables) (lent_points : List ℤ) (lentCreases : List ℕ)
    → refine_verdict w c creases points depth lent lent_points lentCreases ≡ DONE
    → (d h : ℕ)
    → d ≤ depth
    → h < Hs (counts_of c (vertices points)) d
    → halfedge_question c (vertices points) d h
    ≡ record {
      verdict = DONE;
      values = cells_of
          (refine_cage w c creases points depth lent lent_points lentCreases).lent
          (sum d (Hs (counts_of c (vertices points))) + h);
    }

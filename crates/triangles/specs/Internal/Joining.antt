-- How the code finds twins: the halfedges that leave a vertex are marked by the vertices where they end, and the halfedges that come to
-- it look there for one that runs back.
use Rattle.std.specs.Prelude.{ℕ, ◌%◌, ◌≤◌, ◌<◌, ◌≡◌, ◌≢◌, ◌⊎◌, true, cond, ◌&&◌, List, ltb, length}
use Rattle.laws.specs.Below.{tabulate, lowest}
use Rattle.laws.specs.Parts.{in_front}
use Rattle.alike.specs.Internal.Alike.{first_like}
use Rattle.alike.specs.Internal.Narrowed.{Small}
use Rattle.halfedges.specs.Cage.{NEXT, PREV, marker, most_halfedges, cell}
use Rattle.triangles.specs.Plain.{doubled, Undoubled, twins as plain_twins, twin_of, twin_table}

-- whole triangles, within the limit
pub record Whole (vert : List ℕ) : Type 0 where
  pub whole : length vert % 3 ≡ 0
  pub few : length vert ≤ most_halfedges

-- a place and TWIN: the lower halfedge of the first pair that is on two, or H, and then TWIN stands in front of what a table held
pub record Twinning (vert entry : List ℕ) (place : ℕ) (exit : List ℕ) : Type 0 where
  pub first : place ≡ lowest (length vert) (doubled vert)
  pub twins : length vert ≤ place → exit ≡ in_front (twin_table vert) entry

-- the vertex where each halfedge ends
abbrev pub end_table : List ℕ → List ℕ
end_table vert = tabulate (length vert) (λ h. cell vert (NEXT h))

-- the vertices where the halfedges start and end, in small numbers
pub record Ended (vert ends : List ℕ) : Type 0 where
  pub whole : Whole vert
  pub small : Small vert
  pub listed : ends ≡ end_table vert

-- m where it is h's twin, else the marker
unfoldable pub crossing : List ℕ → ℕ → ℕ → ℕ
crossing vert h m = cond (ltb m (length vert) && plain_twins vert h m) m marker

-- the lower of a place and of a halfedge's first, where that is another halfedge
pub record Lower (first halfedge place now : ℕ) : Type 0 where
  pub one : (now ≡ place) ⊎ ((now ≡ first) × (first ≢ halfedge))
  pub below : now ≤ place
  pub below_first : first ≢ halfedge → now ≤ first

-- from a place and a table to others: of the halfedges from `end` on that leave vertex g, the lowest first that is another halfedge is not
-- lower than the place, and those that come to g before them have their twins where no pair is doubled; no other cell changed
pub record Joined (vert ends : List ℕ) (g end place : ℕ) (twin : List ℕ) (place' : ℕ) (twin' : List ℕ) : Type 0 where
  pub one : (place' ≡ place) ⊎ ((place' < length vert) × (doubled vert place' ≡ true))
  pub below : place' ≤ place
  pub least : (k : ℕ) → k < length vert → cell vert k ≡ g → end ≤ k → first_like vert ends k ≢ k → place' ≤ first_like vert ends k
  pub twins : Undoubled vert → (k : ℕ) → k < length vert → cell vert k ≡ g → end ≤ k → cell twin' (PREV k) ≡ twin_of vert (PREV k)
  pub kept : (j : ℕ) → ((k : ℕ) → k < length vert → cell vert k ≡ g → j ≢ PREV k) → cell twin' j ≡ cell twin j

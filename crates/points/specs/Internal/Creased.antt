-- What the point rules rely on of a level's creases. It follows from rules 1 and 15, and from demand 3.
use Rattle.std.specs.Prelude.{ℕ, ◌+◌, ◌<◌, ◌≡◌, Bool, ◌&&◌, ◌||◌, List, ltb, length, get_or}
use Rattle.laws.specs.Below.{tabulate, count}
use Rattle.halfedges.specs.Cage.{marker, cell, border}
use Rattle.tables.specs.Tables.{Tables, leaves}
use Rattle.points.specs.NextPoints.{crease_ends}
use Rattle.points.specs.Internal.Relied.{border_ends}

-- h's edge is a border or has a number above d: d levels on, it is still a crease
abbrev pub crease_after : ℕ → Tables → List ℕ → ℕ → Bool
crease_after d c creases h = ltb d (cell creases (cell c.edge h)) || border c.twin h

-- how many of those vertex u has
unfoldable pub creases_after : ℕ → Tables → List ℕ → ℕ → ℕ
creases_after d c creases u =
    count (length c.vert) (λ h. crease_after d c creases h && leaves c.vert u h)
    + count (length c.vert) (border_ends c.twin c.vert u)

-- of each of a cage's v vertices
abbrev pub listed_after : ℕ → Tables → List ℕ → ℕ → List ℕ
listed_after d c creases v = tabulate v (creases_after d c creases)

-- how many creases a vertex has where one of them lies inside: those of the cage's vertices are listed, and an added one has two
abbrev pub known_creases : List ℕ → ℕ → ℕ
known_creases listed u = get_or listed u 2

-- every such vertex has its known creases, and no border edge has a number
pub record KnownCreases (listed : List ℕ) (c : Tables) (creases : List ℕ) : Type 0 where
  pub known :
      (h : ℕ) → h < length c.vert → 0 < cell creases (cell c.edge h)
      → length (crease_ends c creases (cell c.vert h)) ≡ known_creases listed (cell c.vert h)
  pub border_none : (h : ℕ) → h < length c.twin → cell c.twin h ≡ marker → cell creases (cell c.edge h) ≡ 0

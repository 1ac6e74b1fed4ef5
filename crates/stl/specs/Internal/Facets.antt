-- The code's record of floats, and what its functions rely on.
use Rattle.std.specs.Prelude.{ℕ, ◌+◌, ◌*◌, ◌≤◌, ◌<◌, ◌≡◌, not, List, [], ◌∷◌, map, T, ℤ, pos, nat_abs, length, get_or, Float}
use Rattle.std.specs.Float.{binary32}
use Rattle.std.specs.Float.Ieee.{to_bits, is_nan}
use Rattle.halfedges.specs.Cage.{cell}
use Rattle.points.specs.Operations.{most_coordinate}
use Rattle.cagefile.specs.Numbers.{u32}
use Rattle.floats.specs.Floats.{float_of}
use Rattle.stl.specs.declared.facets.Facet.{Facet}
use Rattle.stl.specs.File.{facet_units}
use Rattle.stl.specs.Writing.{longest}

-- the twelve floats of a facet, in the file's order
abbrev pub floats : Facet → List Float
floats f =
    f.nx ∷ f.ny ∷ f.nz ∷ f.ax ∷ f.ay ∷ f.az ∷ f.bx ∷ f.by ∷ f.bz ∷ f.cx ∷ f.cy ∷ f.cz ∷ []

-- a float's four bytes
unfoldable pub float_bytes : Float → List ℕ
float_bytes x = u32 (to_bits binary32 x)

-- no NaN, whose bits are not known
abbrev pub Number : Float → Type 0
Number x = T (not (is_nan x))

-- each of them is a number
abbrev pub Numbers : List Float → Type 0
Numbers xs = (i : ℕ) → Number (get_or xs i (float_of (pos 0)))

-- the facet has the floats of three corners
pub record Filled (points : List ℤ) (corners : List ℕ) (f : Facet) : Type 0 where
  pub same : floats f ≡ map float_of (facet_units points corners)

-- each coordinate is in range
pub record Ranged (zs : List ℤ) : Type 0 where
  pub at : (i : ℕ) → nat_abs (get_or zs i (pos 0)) ≤ most_coordinate

-- each of three corners has its point
abbrev pub Placed : List ℤ → List ℕ → Type 0
Placed points c = (3 * cell c 0 + 2 < length points) × (3 * cell c 1 + 2 < length points) × (3 * cell c 2 + 2 < length points)

-- the corners of a table have their points, all in range
pub record Drawn (vert : List ℕ) (points : List ℤ) : Type 0 where
  pub placed : (h : ℕ) → h < length vert → 3 * cell vert h + 2 < length points
  pub ranged : Ranged points

-- a table and points that pass 1 to 8
pub record Ready (vert : List ℕ) (points : List ℤ) : Type 0 where
  pub some : 3 ≤ length vert
  pub few : length vert ≤ longest
  pub drawn : Drawn vert points

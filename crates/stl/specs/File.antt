-- Document 02, §2 "STL out to the mill": the binary STL file.
use Rattle.std.specs.Prelude.{ℕ, ℤ, pos, length, replicate}
use mathlib.Core.List.{List, ◌∷◌, ◌++◌, flat_map}
use Rattle.laws.specs.Below.{end_to_end}
use Rattle.halfedges.specs.Cage.{F, cell}
use Rattle.halfedges.specs.Corners.{corners}
use Rattle.points.specs.NextPoints.{point_of}
use Rattle.cagefile.specs.Numbers.{u16, u32}
use Rattle.floats.specs.Floats.{float_bits}

-- "a normal and three corners; the normal is zero", in whole units
abbrev pub facet_units : List ℤ → List ℕ → List ℤ
facet_units points c = pos 0 ∷ pos 0 ∷ pos 0 ∷ (point_of points (cell c 0) ++ (point_of points (cell c 1) ++ point_of points (cell c 2)))

-- a 32-bit float, "little-endian"
unfoldable pub unit_bytes : ℤ → List ℕ
unit_bytes units = u32 (float_bits units)

-- "per triangle twelve 32-bit floats and a zero 16-bit word"
unfoldable pub facet_bytes : List ℤ → List ℕ → List ℕ
facet_bytes points c = flat_map unit_bytes (facet_units points c) ++ u16 0

-- the facet of triangle t, its "corners as stored"
abbrev pub facet_at : List ℕ → List ℤ → ℕ → List ℕ
facet_at vert points t = facet_bytes points (corners vert t)

-- "80 zero bytes, a 32-bit triangle count"
unfoldable pub stl_head : ℕ → List ℕ
stl_head facets = replicate 80 0 ++ u32 facets

-- "then per triangle .."
unfoldable pub stl_file : List ℕ → List ℤ → List ℕ
stl_file vert points = let facets = F (length vert) in stl_head facets ++ end_to_end facets (facet_at vert points)

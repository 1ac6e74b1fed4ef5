-- What a file can hold, and how long it is. Assumes nothing.
--     file-length     24 + 6H + 12V, and in form 2 seven bytes and the creases more
--     file_sized      each payload is as long as its head says; of the first four fields `tables_sized`
use Prim.Native.Nat.{ℕ, ◌+◌, ◌*◌, ◌%◌, ◌≤◌, ◌<◌}
use mathlib.Core.Path.{◌≡◌, refl, ap, ◌∙◌}
use mathlib.Core.Logic.{◌⊎◌, ◌≢◌}
use mathlib.Core.List.{List, [], ◌∷◌, ◌++◌, map, flat_map}
use native.Mathlib.Omega.{arith}
use lib.IntN.{ℤ, pos, nat_abs}
use lib.ListN.{length, get_or, length-append, length-map}
use Rattle.laws.proofs.Chunks.{length_flat_map}
use Rattle.halfedges.specs.Cage.{marker, E, most_halfedges, most_vertices, cell}
use Rattle.tables.specs.Tables.{Tables}
use Rattle.tables.proofs.EdgeCount.{edges_at_most}
use Rattle.points.specs.Weights.{weight_number}
use Rattle.points.specs.Operations.{vertices, most_coordinate}
use Rattle.cagefile.specs.declared.fields.Form.{Form}
use Rattle.cagefile.specs.declared.fields.Form.TheVariants.{One, Two}
use Rattle.cagefile.specs.Numbers.{u16, u32, twos}
use Rattle.cagefile.specs.Fields.{Cage, number, opening, table_heads, later_heads, heads, table_payloads, later_payloads, payloads, fields, file, Head}
use Rattle.cagefile.proofs.NumberLaws.{stored}

-- heads and payloads that belong together
pub data Sized : List Head → List (List ℕ) → Type 0 where
  none : Sized [] []
  more : {h : Head} {p : List ℕ} {hs : List Head} {ps : List (List ℕ)} → length p ≡ h.size → h.size < 65536 → Sized hs ps → Sized (h ∷ hs) (p ∷ ps)

-- tables of equal length, and three coordinates for each vertex
pub record Shaped (c : Tables) (points : List ℤ) : Type 0 where
  pub vert : length c.vert ≡ length c.twin
  pub edge : length c.edge ≡ length c.twin
  pub threes : length points % 3 ≡ 0

-- a cage that the file can hold and reading takes
pub record Fits (c : Tables) (points : List ℤ) : Type 0 where
  pub shaped : Shaped c points
  pub some : length c.twin ≢ 0
  pub triangles : length c.twin % 3 ≡ 0
  pub few_halfedges : length c.twin ≤ most_halfedges
  pub few_vertices : vertices points ≤ most_vertices
  pub twins : (h : ℕ) → h < length c.twin → (cell c.twin h ≡ marker) ⊎ (cell c.twin h < length c.twin)
  pub verts : (h : ℕ) → h < length c.vert → cell c.vert h < vertices points
  pub edges : (h : ℕ) → h < length c.edge → cell c.edge h < length c.twin
  pub coordinates : (i : ℕ) → i < length points → nat_abs (get_or points i (pos 0)) ≤ most_coordinate

pub length_u16s : (xs : List ℕ) → length (flat_map u16 xs) ≡ 2 * length xs
length_u16s = length_flat_map u16 2 (λ _. refl)

pub length_coordinates : (zs : List ℤ) → length (flat_map u32 (map twos zs)) ≡ 4 * length zs
length_coordinates zs = length_flat_map u32 4 (λ _. refl) (map twos zs) ∙ ap (λ n. 4 * n) (length-map zs twos)

-- a number for each edge, in the form that has them
abbrev pub Numbered : Form → Cage → Type 0
Numbered One w = Unit {0}
Numbered Two w = length w.creases ≡ E w.connectivity.twin

-- the bytes that form 2 adds: two heads, a byte for each crease number and one for the weight
abbrev pub extra : Form → ℕ → ℕ
extra One e = 0
extra Two e = 7 + e

points_length : (points : List ℤ) → length points % 3 ≡ 0 → length (flat_map u32 (map twos points)) ≡ 12 * vertices points
points_length points threes = length_coordinates points ∙ omega arith

twins-length : (twin : List ℕ) → length (flat_map u16 (map stored twin)) ≡ 2 * length twin
twins-length twin = length_u16s (map stored twin) ∙ ap (λ n. 2 * n) (length-map twin stored)

-- the first field and the tables', and more after them
pub tables_sized : (form : Form) (c : Tables) (v : ℕ) → length c.vert ≡ length c.twin → length c.edge ≡ length c.twin → length c.twin ≤ most_halfedges
    → {hs : List Head} {ps : List (List ℕ)} → Sized hs ps → Sized (opening ∷ (table_heads (length c.twin) ++ hs)) (table_payloads form c v ++ ps)
unfolding table_heads table_payloads
tables_sized form c v evert eedge few rest =
    more (length_u16s (number form ∷ length c.twin ∷ v ∷ [])) (omega arith)
    (more (twins-length c.twin) (omega arith)
    (more (length_u16s c.vert ∙ ap (λ n. 2 * n) evert) (omega arith)
    (more (length_u16s c.edge ∙ ap (λ n. 2 * n) eedge) (omega arith) rest)))

module _ (w : Cage) (shaped : Shaped w.connectivity w.points) where
  abbrev twin : List ℕ
  twin = w.connectivity.twin

  abbrev v : ℕ
  v = vertices w.points

  module _ (few : length twin ≤ most_halfedges) (less : v ≤ most_vertices) where
    later_sized : (form : Form) → Numbered form w → Sized (later_heads form (E twin) v) (later_payloads form w)
    unfolding later_heads later_payloads
    later_sized One n =
        more (points_length w.points shaped.threes) (omega arith)
        (more {p = []} refl (omega arith) none)
    later_sized Two n =
        more n (omega (arith, edges_at_most twin))
        (more (points_length w.points shaped.threes) (omega arith)
        (more {p = weight_number w.weight ∷ []} refl (omega arith)
        (more {p = []} refl (omega arith) none)))

    pub file_sized : (form : Form) → Numbered form w → Sized (opening ∷ heads form (length twin) (E twin) v) (payloads form w)
    file_sized form n = tables_sized form w.connectivity v shaped.vert shaped.edge few (later_sized form n)

  pub file-length : (form : Form) → length (file form w) ≡ 24 + 6 * length twin + 12 * v + extra form (length w.creases)
  unfolding file fields table_heads later_heads table_payloads later_payloads flat_map
  file-length One = simp length-append (omega (arith, twins-length twin, points_length w.points shaped.threes, length_u16s w.connectivity.vert, length_u16s w.connectivity.edge))
  file-length Two = simp length-append (omega (arith, twins-length twin, points_length w.points shaped.threes, length_u16s w.connectivity.vert, length_u16s w.connectivity.edge))

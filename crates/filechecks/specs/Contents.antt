-- Document 01, "The cage file", and document 02, §7 "Form 2 files": what stands in a file.
use Rattle.std.specs.Prelude.{ℕ, ◌+◌, ◌*◌, cond, List, [], ◌∷◌, eqb, ℤ, get_or, take}
use Rattle.laws.specs.Below.{tabulate}
use Rattle.halfedges.specs.Cage.{E}
use Rattle.tables.specs.Tables.{tables}
use Rattle.creases.specs.Creases.{no_creases}
use Rattle.points.specs.declared.weights.Weight.{Weight}
use Rattle.points.specs.declared.weights.Weight.TheVariants.{Short}
use Rattle.points.specs.Weights.{weight_of}
use Rattle.cagefile.specs.declared.fields.Form.{Form}
use Rattle.cagefile.specs.declared.fields.Form.TheVariants.{One, Two}
use Rattle.cagefile.specs.Fields.{Cage, Head, opening, table_heads, heads}
use Rattle.cagefile.specs.Numbers.{u16_at, u32_at, as_twin, signed}

-- form, H and V as the first payload has them
abbrev pub form_in : List ℕ → ℕ
form_in f = u16_at f 3

abbrev pub HIn : List ℕ → ℕ
HIn f = u16_at f 5

abbrev pub VIn : List ℕ → ℕ
VIn f = u16_at f 7

-- its form, where it has one
unfoldable pub form_of : List ℕ → Form
form_of f = cond (eqb (form_in f) 2) Two One

-- where the field after one whose head is at an offset has its own head
abbrev pub past : ℕ → Head → ℕ
past at h = at + 3 + h.size

-- where the payload of the field after hs starts
unfoldable pub payload_at : ℕ → List Head → ℕ
payload_at at [] = at + 3
payload_at at (h ∷ hs) = payload_at (past at h) hs

-- the payload of the kth field after the first, among the tables', and that of the field after them
abbrev pub table_payload : List ℕ → ℕ → ℕ
table_payload f k = payload_at (past 0 opening) (take k (table_heads (HIn f)))

-- the numbers of a payload; "every other number is taken as it stands"
unfoldable pub twins_in : List ℕ → List ℕ
twins_in f = tabulate (HIn f) (λ h. as_twin (u16_at f (table_payload f 0 + 2 * h)))

unfoldable pub verts_in : List ℕ → List ℕ
verts_in f = tabulate (HIn f) (λ h. u16_at f (table_payload f 1 + 2 * h))

unfoldable pub edges_in : List ℕ → List ℕ
edges_in f = tabulate (HIn f) (λ h. u16_at f (table_payload f 2 + 2 * h))

-- "E for the length of tag 23 is counted by 01's rule from the twins just read"; "for form 1, E and weight are 0"
abbrev pub edges_for : Form → List ℕ → ℕ
edges_for One twin = 0
edges_for Two twin = E twin

abbrev pub EIn : List ℕ → ℕ
EIn f = edges_for (form_of f) (twins_in f)

-- the fields after the first
unfoldable pub heads_in : List ℕ → List Head
heads_in f = heads (form_of f) (HIn f) (EIn f) (VIn f)

-- the payload of the kth of them
abbrev pub payload : List ℕ → ℕ → ℕ
payload f k = payload_at (past 0 opening) (take k (heads_in f))

-- "one byte per edge"; form 1 has none
unfoldable pub creases_read : List ℕ → List ℕ
creases_read f = tabulate (EIn f) (λ e. get_or f (table_payload f 3 + e) 0)

-- the points are the first field that the creases move
abbrev pub points_field : Form → ℕ
points_field One = 3
points_field Two = 4

unfoldable pub points_in : List ℕ → List ℤ
points_in f = tabulate (3 * VIn f) (λ i. signed (u32_at f (payload f (points_field (form_of f)) + 4 * i)))

abbrev pub weight_for : Form → List ℕ → ℕ → Weight
weight_for One f at = Short
weight_for Two f at = weight_of (get_or f at 0)

unfoldable pub weight_in : List ℕ → Weight
weight_in f = weight_for (form_of f) f (payload f 5)

-- "The move from form 1 adds zeros and weight 0"
abbrev pub creases_for : Form → List ℕ → List ℕ → List ℕ
creases_for One twin creases = no_creases twin
creases_for Two twin creases = creases

-- the cage of a file
unfoldable pub cage_in : List ℕ → Cage
cage_in f =
    record {
      connectivity = tables (twins_in f) (verts_in f) (edges_in f);
      points = points_in f;
      creases = creases_for (form_of f) (twins_in f) (creases_read f);
      weight = weight_in f;
    }

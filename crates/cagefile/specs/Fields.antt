-- Document 01, "The cage file", and document 02, §7 "Form 2 files": the fields.
use Rattle.std.specs.Prelude.{ℕ, ◌*◌, cond, eqb, ℤ, length}
use mathlib.Core.List.{List, [], ◌∷◌, ◌++◌, map, flat_map}
use Rattle.cagefile.specs.declared.fields.Form.{Form}
use Rattle.cagefile.specs.declared.fields.Form.TheVariants.{One, Two}
use Rattle.halfedges.specs.Cage.{marker, E}
use Rattle.tables.specs.Tables.{Tables}
use Rattle.points.specs.declared.weights.Weight.{Weight}
use Rattle.points.specs.Weights.{weight_number}
use Rattle.points.specs.Operations.{vertices}
use Rattle.cagefile.specs.Numbers.{u16, u32, twos, no_twin}

-- what a file holds: a cage, its creases, and "the choice of weight"
pub record Cage : Type 0 where
  pub connectivity : Tables
  pub points : List ℤ
  pub creases : List ℕ
  pub weight : Weight

-- "form 1"; "Form 2 puts 2 in the first field"
abbrev pub number : Form → ℕ
number One = 1
number Two = 2

-- x where form 2 "adds" it, in front of the rest
abbrev pub added : {A : Type 0} → Form → A → List A → List A
added One x rest = rest
added Two x rest = x ∷ rest

-- a tag, and how many bytes follow the head
pub record Head : Type 0 where
  pub tag : ℕ
  pub size : ℕ

abbrev head : ℕ → ℕ → Head
head t n = record { tag = t; size = n }

-- "In this order, each once": the first field, the tables' for H, and all after the first for H, E and V; form 2 adds "tag 23 hex after tag
-- 22, with one byte per edge, and tag 31 hex after tag 30, with one byte"
abbrev pub opening : Head
opening = head 0x10 6

unfoldable pub table_heads : ℕ → List Head
table_heads H = head 0x20 (2 * H) ∷ head 0x21 (2 * H) ∷ head 0x22 (2 * H) ∷ []

unfoldable pub later_heads : Form → ℕ → ℕ → List Head
later_heads form e v = added form (head 0x23 e) (head 0x30 (12 * v) ∷ added form (head 0x31 1) (head 0x7F 0 ∷ []))

abbrev pub heads : Form → ℕ → ℕ → ℕ → List Head
heads form H e v = table_heads H ++ later_heads form e v

-- the form, "H, V as u16"; "TWIN, VERT, EDGE as u16, 65535 for no twin"
unfoldable pub table_payloads : Form → Tables → ℕ → List (List ℕ)
table_payloads form c v =
    flat_map u16 (number form ∷ length c.twin ∷ v ∷ [])
    ∷ flat_map u16 (map (λ t. cond (eqb t marker) no_twin t) c.twin)
    ∷ flat_map u16 c.vert
    ∷ flat_map u16 c.edge
    ∷ []

-- "one byte per edge"; "points as two's complement 32-bit"; "0 short and 1 the paper's"; "nothing"
unfoldable pub later_payloads : Form → Cage → List (List ℕ)
later_payloads form w =
    added form w.creases (flat_map u32 (map twos w.points) ∷ added form (weight_number w.weight ∷ []) ([] ∷ []))

abbrev pub payloads : Form → Cage → List (List ℕ)
payloads form w = table_payloads form w.connectivity (vertices w.points) ++ later_payloads form w

-- "one tag byte, two length bytes, payload"
abbrev pub field : Head → List ℕ → List ℕ
field h payload = h.tag ∷ (u16 h.size ++ payload)

-- fields one after another
unfoldable pub fields : List Head → List (List ℕ) → List ℕ
fields [] ps = []
fields (h ∷ hs) [] = []
fields (h ∷ hs) (p ∷ ps) = field h p ++ fields hs ps

-- the file of a cage
unfoldable pub file : Form → Cage → List ℕ
file form w =
    let twin = w.connectivity.twin in
    fields (opening ∷ heads form (length twin) (E twin) (vertices w.points)) (payloads form w)

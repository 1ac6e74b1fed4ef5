-- Fields that are written over a lent file, one after another. Assumes nothing.
--     field-written    a head, and a payload over the part after it, are a field
--     all_left         at first all fields are left to write
--     tables_behind    once the first field and the tables' are written, the later ones are left
--     left_next        one field less is left once it is written; of the points' field `points_next`
--     none_left        where none is left, the whole stands at the front; so after the end field `end_written`
use Prim.Native.Nat.{ℕ, ◌+◌, ◌-◌, ◌*◌, ◌%◌, ◌≤◌}
use mathlib.Core.Path.{◌≡◌, refl, sym, ap, ◌∙◌, fun_ext}
use mathlib.Core.List.{List, [], ◌∷◌, ◌++◌, map, flat_map, append_assoc, append-nil}
use native.Mathlib.Omega.{arith}
use lib.IntN.{ℤ}
use lib.ListN.{length, length-append}
use borrow.Rule.Slice.PartMut.{put_mid, mid_of}
use Rattle.laws.specs.Parts.{in_front}
use Rattle.laws.specs.Internal.Parts.{splice}
use Rattle.laws.proofs.Chunks.{flat_map_map}
use Rattle.laws.proofs.Splice.{over_more, splice-part, splice_more}
use Rattle.halfedges.specs.Cage.{E}
use Rattle.points.specs.Operations.{vertices}
use Rattle.cagefile.specs.declared.fields.Form.{Form}
use Rattle.cagefile.specs.Numbers.{u16, u32, twos}
use Rattle.cagefile.specs.Fields.{Cage, Head, opening, table_heads, later_heads, table_payloads, later_payloads, field, fields, file}
use Rattle.cagefile.proofs.NumberLaws.{stored, u16_stored}
use Rattle.cagefile.proofs.Fits.{Sized, none, more, Fits, tables_sized, length_coordinates}

pub field-written : (f f₁ part payload : List ℕ) (at : ℕ) (h : Head) → at ≤ length f
    → f₁ ≡ splice f at (h.tag ∷ u16 h.size) → part ≡ in_front payload (mid_of (at + 3) (length f₁ - (at + 3)) f₁)
    → put_mid (at + 3) (length f₁ - (at + 3)) f₁ part ≡ splice f at (field h payload)
field-written f f₁ part payload at h l e p =
    rw p (splice-part f₁ payload (at + 3) ∙ splice_more f f₁ (h.tag ∷ u16 h.size) payload at (at + 3) e refl l)

-- the payload of TWIN, with the marker's last two bytes for 65535
pub twins-payload : (xs : List ℕ) → flat_map u16 xs ≡ flat_map u16 (map stored xs)
twins-payload xs = ap (λ put. flat_map put xs) (sym (fun_ext u16_stored)) ∙ sym (flat_map_map stored u16 xs)

-- ---- what is left to write

-- of the bytes `all`, those before the fields `hs`, `ps` stand at the front of the lent file, up to an offset; past them it is as it was
pub record Left (lent all f : List ℕ) (at : ℕ) (hs : List Head) (ps : List (List ℕ)) : Type 0 where
  pub front : List ℕ
  pub written : f ≡ in_front front lent
  pub end : length front ≡ at
  pub rest : front ++ fields hs ps ≡ all

pub all_left : (lent : List ℕ) (hs : List Head) (ps : List (List ℕ)) → Left lent (fields hs ps) lent 0 hs ps
all_left lent hs ps = record { front = []; written = refl; end = refl; rest = refl }

pub none_left : {lent all f : List ℕ} {at : ℕ} → Left lent all f at [] [] → (at ≡ length all) × (f ≡ in_front all lent)
unfolding fields
none_left {lent} {all} l =
    let whole : l.front ≡ all = sym (append-nil l.front) ∙ l.rest in
    (sym l.end ∙ ap length whole, l.written ∙ ap (λ bytes. in_front bytes lent) whole)

module _ {lent all f : List ℕ} {at : ℕ} where
  -- a writer's promise of the next field, whose size and payload it may say in words of its own
  pub left_next : {h : Head} {p : List ℕ} {hs : List Head} {ps : List (List ℕ)} → Left lent all f at (h ∷ hs) (p ∷ ps)
      → {size : ℕ} {payload : List ℕ} → size ≡ h.size → payload ≡ p → length payload ≡ size
      → {f₁ : List ℕ} {at₁ : ℕ} → (at₁ ≡ at + 3 + size) × (f₁ ≡ splice f at (h.tag ∷ (u16 size ++ payload))) → Left lent all f₁ at₁ hs ps
  unfolding fields
  left_next {h} {p} {hs} {ps} l {size} {payload} s e n w =
      let bytes = h.tag ∷ (u16 size ++ payload) in
      record {
        front = l.front ++ bytes;
        written = w.1 ∙ over_more lent f l.front bytes at l.written l.end;
        end = length-append l.front bytes ∙ omega (arith, l.end, w.0);
        rest = append_assoc l.front bytes (fields hs ps) ∙ (λ i. l.front ++ (h.tag ∷ (u16 (s i) ++ (e i ++ fields hs ps)))) ∙ l.rest;
      }

  -- of the points' field, whose size it takes from the coordinates
  pub points_next : (points : List ℤ) → length points % 3 ≡ 0 → {hs : List Head} {ps : List (List ℕ)}
      → Left lent all f at (record { tag = 0x30; size = 12 * vertices points } ∷ hs) (flat_map u32 (map twos points) ∷ ps)
      → {f₁ : List ℕ} {at₁ : ℕ}
      → (at₁ ≡ at + 3 + 4 * length points) × (f₁ ≡ splice f at (field (record { tag = 0x30; size = 4 * length points }) (flat_map u32 (map twos points))))
      → Left lent all f₁ at₁ hs ps
  points_next points threes l w = let size : 4 * length points ≡ 12 * vertices points = omega arith in left_next l size refl (length_coordinates points) w

  -- of the end field, where only that is left
  pub end_written : Left lent all f at (record { tag = 0x7F; size = 0 } ∷ []) ([] ∷ [])
      → {f₁ : List ℕ} {at₁ : ℕ} → (at₁ ≡ at + 3) × (f₁ ≡ splice f at (0x7F ∷ u16 0)) → (at₁ ≡ length all) × (f₁ ≡ in_front all lent)
  end_written l {f₁} {at₁} w = none_left (left_next l refl refl refl {f₁ = f₁} {at₁ = at₁} (omega (arith, w.0), w.1))

-- ---- after the tables

-- what fields take
abbrev taken : List Head → ℕ
taken [] = 0
taken (h ∷ hs) = 3 + h.size + taken hs

fields-length : {hs : List Head} {ps : List (List ℕ)} → Sized hs ps → length (fields hs ps) ≡ taken hs
unfolding fields
fields-length none = refl
fields-length (more {h} {p} {hs} {ps} n _ s) = length-append (field h p) (fields hs ps) ∙ omega (arith, fields-length s)

fields-append : {hs : List Head} {ps : List (List ℕ)} → Sized hs ps → (hs₁ : List Head) (ps₁ : List (List ℕ))
    → fields hs ps ++ fields hs₁ ps₁ ≡ fields (hs ++ hs₁) (ps ++ ps₁)
unfolding fields
fields-append none hs₁ ps₁ = refl
fields-append (more {h} {p} {hs} {ps} _ _ s) hs₁ ps₁ =
    append_assoc (field h p) (fields hs ps) (fields hs₁ ps₁) ∙ ap (λ bytes. field h p ++ bytes) (fields-append s hs₁ ps₁)

module _ (form : Form) (w : Cage) where
  abbrev H : ℕ
  H = length w.connectivity.twin

  abbrev v : ℕ
  v = vertices w.points

  -- the first field and the tables'
  abbrev first_fields : List ℕ
  first_fields = fields (opening ∷ table_heads H) (table_payloads form w.connectivity v)

  module _ (fits : Fits w.connectivity w.points) where
    first_sized : Sized (opening ∷ table_heads H) (table_payloads form w.connectivity v)
    unfolding table_heads table_payloads
    first_sized = tables_sized form w.connectivity v fits.shaped.vert fits.shaped.edge fits.few_halfedges none

    pub tables_behind : {lent f : List ℕ} {at : ℕ} → (at ≡ 18 + 6 * H) × (f ≡ in_front first_fields lent)
        → Left lent (file form w) f at (later_heads form (E w.connectivity.twin) v) (later_payloads form w)
    unfolding file table_heads
    tables_behind e =
        record { front = first_fields; written = e.1; end = fields-length first_sized ∙ omega (arith, e.0); rest = fields-append first_sized _ _ }

-- A file that passes reading's checks is the file of the cage in it, in its own form (`file_of_cage`). Assumes nothing.
use Prim.Native.Nat.{ℕ, ◌+◌, ◌*◌, ◌≤◌, ◌<◌}
use mathlib.Core.Path.{◌≡◌, refl, sym, ap, ap₂, ◌∙◌}
use mathlib.Core.List.{List, [], ◌∷◌, ◌++◌, map, flat_map}
use native.Mathlib.Omega.{arith}
use lib.ListN.{length, get_or, take, drop, length-drop}
use lib.Seq.{drop-cons}
use Rattle.laws.specs.Below.{tabulate}
use Rattle.laws.proofs.Chunks.{put_read, flat_map_map}
use Rattle.halfedges.specs.Cage.{E}
use Rattle.points.specs.Weights.{weight_number, weight_of}
use Rattle.points.specs.Operations.{vertices}
use Rattle.tables.specs.Tables.{tables}
use Rattle.cagefile.specs.declared.fields.Form.{Form}
use Rattle.cagefile.specs.declared.fields.Form.TheVariants.{One, Two}
use Rattle.cagefile.specs.Numbers.{u16, u32, twos, u16_at, u32_at, as_twin, signed}
use Rattle.cagefile.specs.Fields.{number, opening, table_heads, later_heads, heads, table_payloads, later_payloads, payloads, fields, file}
use Rattle.cagefile.proofs.NumberLaws.{Bytes, stored, u16_at_small, u32_at_small, u16-put, u32-put, stored_as_twin, twos-signed}
use Rattle.filechecks.specs.Contents.{HIn, VIn, EIn, form_of, payload_at, twins_in, verts_in, edges_in, heads_in, payload, table_payload, creases_read, points_field, points_in, weight_in, cage_in}
use Rattle.filechecks.specs.Internal.Sound.{Sound}
use Rattle.filechecks.proofs.FieldLaws.{payloads_in, fields_hold}
use Rattle.filechecks.proofs.Lengths.{twins-length}
use Rattle.filechecks.proofs.Sound.{sound_length}
use Rattle.filelaws.proofs.Contents.{heads-counted, vertices-counted, bytes_read, weight_put}

module _ (f : List ℕ) (s : Sound f) (b : Bytes f) where
  counts-put : flat_map u16 (number (form_of f) ∷ length (twins_in f) ∷ vertices (points_in f) ∷ []) ≡ take 6 (drop 3 f)
  counts-put = rw (twins-length f, vertices-counted f, ← s.known) (put_read 2 u16 f (u16_at f) (u16-put f b) 3 3 (omega (arith, sound_length f s)))

  twins-put : flat_map u16 (map stored (twins_in f)) ≡ take (2 * HIn f) (drop 12 f)
  unfolding twins_in payload_at
  twins-put =
      flat_map_map stored u16 (twins_in f)
      ∙ put_read 2 (λ t. u16 (stored t)) f (λ at. as_twin (u16_at f at)) (λ at l. ap u16 (stored_as_twin (u16_at f at) (u16_at_small f b at)) ∙ u16-put f b at l) (HIn f) 12 (omega (arith, sound_length f s))

  numbers_put : (at : ℕ) → at + 2 * HIn f ≤ length f → flat_map u16 (tabulate (HIn f) (λ h. u16_at f (at + 2 * h))) ≡ take (2 * HIn f) (drop at f)
  numbers_put = put_read 2 u16 f (u16_at f) (u16-put f b) (HIn f)

  tables-put : table_payloads (form_of f) (tables (twins_in f) (verts_in f) (edges_in f)) (vertices (points_in f)) ≡ payloads_in f 0 (opening ∷ table_heads (HIn f))
  unfolding table_payloads table_heads payload_at verts_in edges_in
  tables-put =
      ap₂ ◌∷◌ counts-put
      (ap₂ ◌∷◌ twins-put
      (ap₂ ◌∷◌ (numbers_put _ (omega (arith, sound_length f s)))
      (ap₂ ◌∷◌ (numbers_put _ (omega (arith, sound_length f s))) refl)))

  creases_put : table_payload f 3 + EIn f ≤ length f → creases_read f ≡ take (EIn f) (drop (table_payload f 3) f)
  unfolding creases_read
  creases_put l = bytes_read f (table_payload f 3) (EIn f) (rw length-drop (omega arith))

  points_put : (form : Form) → form_of f ≡ form → payload f (points_field form) + 12 * VIn f ≤ length f → flat_map u32 (map twos (points_in f)) ≡ take (12 * VIn f) (drop (payload f (points_field form)) f)
  unfolding points_in
  points_put form o l =
      let bytes : 4 * (3 * VIn f) ≡ 12 * VIn f = omega arith in
      let at = payload f (points_field form) in
      flat_map_map twos u32 (points_in f)
      ∙ rw o (put_read 4 (λ z. u32 (twos z)) f (λ at. signed (u32_at f at)) (λ at l. ap u32 (twos-signed (u32_at f at) (u32_at_small f b at)) ∙ u32-put f b at l) (3 * VIn f) at (omega arith))
      ∙ ap (λ n. take n (drop at f)) bytes

  weight_back : (at : ℕ) → get_or f at 0 ≤ 1 → at < length f → weight_number (weight_of (get_or f at 0)) ∷ [] ≡ take 1 (drop at f)
  weight_back at light l = rw (drop-cons f at 0 l, weight_put (get_or f at 0) light)

  payloads-put : (form : Form) → form_of f ≡ form → payloads (form_of f) (cage_in f) ≡ payloads_in f 0 (opening ∷ heads_in f)
  unfolding cage_in heads_in table_heads later_heads later_payloads payload_at weight_in
  payloads-put One o = ap₂ ◌++◌ tables-put (rw o (ap₂ ◌∷◌ (points_put One o (omega (arith, sound_length f s))) refl))
  payloads-put Two o =
      let long = rw o at (sound_length f s) in
      ap₂ ◌++◌ tables-put
      (rw o
      (ap₂ ◌∷◌ (rw o at (creases_put (rw o (omega arith))))
      (ap₂ ◌∷◌ (rw o at (points_put Two o (rw o (omega arith))))
      (ap₂ ◌∷◌ (weight_back _ (rw o at (s.light o)) (omega arith)) refl))))

  heads_back : heads (form_of f) (length (twins_in f)) (E (twins_in f)) (vertices (points_in f)) ≡ heads_in f
  heads_back = rw (twins-length f, vertices-counted f) (sym (heads-counted f))

  pub file_of_cage : file (form_of f) (cage_in f) ≡ f
  unfolding file cage_in
  file_of_cage = ap₂ (λ hs. fields (opening ∷ hs)) heads_back (payloads-put (form_of f) refl) ∙ sym (fields_hold f b _ 0 s.fields)

-- The file of a cage that fits a form. Assumes nothing.
--     file_passes                  it passes reading's checks, whichever forms they take, if its own is among them
--     cage_of_file                 the cage in it is that cage
--     form_read, form_kept         its form is the one that it was written in
--     H_read, V_read               and so are H and V
use Prim.Native.Nat.{ℕ, suc, ◌+◌, ◌*◌, ◌/◌, ◌%◌, ◌<◌}
use mathlib.Core.Path.{◌≡◌, refl, sym, ap, ◌∙◌}
use mathlib.Core.Logic.{◌⊎◌, inl, inr, ⊎_elim}
use mathlib.Core.Bool.{false}
use mathlib.Core.List.{List, [], ◌∷◌, ◌++◌, map, flat_map}
use native.Mathlib.Nat.{add-zero}
use native.Mathlib.Omega.{arith}
use lib.IntN.{ℤ, pos, nat_abs}
use lib.ListN.{length, get_or, take, drop, length-append}
use lib.Seq.{take_at, get_or-drop}
use borrow.Author.Tests.{eq-eqb, ne_eqb, le-ltb}
use Rattle.laws.specs.Below.{tabulate}
use Rattle.laws.proofs.Chunks.{read_put, flat_map_map}
use Rattle.halfedges.specs.Cage.{marker, E, most_halfedges, most_vertices}
use Rattle.halfedges.specs.Refusals.{DONE, TWIN, given, first}
use Rattle.halfedges.specs.Counts.{above_limit}
use Rattle.halfedges.proofs.Checks.{Clean, clean_done, first_more}
use Rattle.tables.specs.Tables.{Tables}
use Rattle.tables.specs.Rules.{bad_twin}
use Rattle.points.specs.Weights.{weight_number}
use Rattle.points.specs.Operations.{vertices}
use Rattle.cagefile.specs.declared.fields.Form.{Form}
use Rattle.cagefile.specs.declared.fields.Form.TheVariants.{One, Two}
use Rattle.cagefile.specs.Numbers.{u16, u32, twos, no_twin, u16_at, u32_at, as_twin, signed}
use Rattle.cagefile.specs.Fields.{Cage, number, Head, opening, table_heads, later_heads, heads, table_payloads, later_payloads, payloads, fields, file}
use Rattle.cagefile.proofs.NumberLaws.{stored, stored_small, u16_read, u32_read, as_twin_stored, signed-twos, twos_small}
use Rattle.cagefile.proofs.Fits.{Sized, Fits, Numbered, file_sized}
use Rattle.filechecks.specs.Contents.{form_in, HIn, VIn, form_of, past, payload_at, twins_in, verts_in, edges_in, heads_in, payload, creases_read, points_field, points_in, weight_in, cage_in}
use Rattle.filechecks.specs.FileChecks.{other_form, opening_asked, twins_asked, weight_asked, later_asked, file_checks}
use Rattle.filechecks.proofs.FieldLaws.{fields_pass, payload_at_lem}
use Rattle.filechecks.proofs.FrontToBack.{questions, front_to_back_lem}
use Rattle.filechecks.proofs.Sound.{form_is}
use Rattle.writing.specs.Writing.{plain}
use Rattle.filelaws.proofs.Contents.{heads-counted, bytes_read, weight_read, weight_small}

-- "form 1's for cages whose crease numbers and weight are all 0"
abbrev pub PlainIn : Form → Cage → Type 0
PlainIn One w = w ≡ plain w.connectivity w.points
PlainIn Two w = Unit {0}

-- a cage that a file of the form can hold and reading takes
pub record FitsForm (form : Form) (w : Cage) : Type 0 where
  pub fits : Fits w.connectivity w.points
  pub twinned : Clean (length w.connectivity.twin) (bad_twin w.connectivity.twin)
  pub numbered : Numbered form w
  pub plain : PlainIn form w

-- the fields of a cage
abbrev heads_of : Form → Cage → List Head
heads_of form w = heads form (length w.connectivity.twin) (E w.connectivity.twin) (vertices w.points)

-- which of them holds the points
points_within : (form : Form) (w : Cage) → suc (points_field form) < length (opening ∷ heads_of form w)
unfolding table_heads later_heads
points_within One w = omega arith
points_within Two w = omega arith

points_held : (form : Form) (w : Cage) → get_or (payloads form w) (suc (points_field form)) [] ≡ flat_map u32 (map twos w.points)
unfolding table_payloads later_payloads
points_held One w = refl
points_held Two w = refl

number_read : (form : Form) → number form % 256 + 256 * (number form / 256 % 256) ≡ number form
number_read One = refl
number_read Two = refl

module _ (form : Form) (w : Cage) (fits : FitsForm form w) where
  abbrev c : Tables
  c = w.connectivity

  abbrev f : List ℕ
  f = file form w

  abbrev hs : List Head
  hs = opening ∷ heads_of form w

  pub form_read : form_in f ≡ number form
  unfolding file fields table_payloads flat_map
  form_read = number_read form

  pub form_kept : form_of f ≡ form
  form_kept = form_is f form form_read

  pub H_read : HIn f ≡ length c.twin
  unfolding file fields table_payloads flat_map
  H_read = omega (arith, fits.fits.few_halfedges)

  pub V_read : VIn f ≡ vertices w.points
  unfolding file fields table_payloads flat_map
  V_read = omega (arith, fits.fits.few_vertices)

  sized : Sized hs (payloads form w)
  sized = file_sized w fits.fits.shaped fits.fits.few_halfedges fits.fits.few_vertices form fits.numbered

  whole : drop 0 f ≡ fields hs (payloads form w)
  unfolding file
  whole = refl

  -- the kth payload stands in the file
  stands : (k : ℕ) → k < length hs → drop (payload_at 0 (take k hs)) f ≡ get_or (payloads form w) k [] ++ fields (drop (suc k) hs) (drop (suc k) (payloads form w))
  stands k l = payload_at_lem f sized k 0 l whole

  -- ---- the tables

  -- xs, where the kth payload holds it
  table_read : {A : Type 0} (width : ℕ) (put : A → List ℕ) (read : ℕ → A) (P : A → Type 0) → ((x : A) → length (put x) ≡ width)
      → ((at : ℕ) (x : A) (rest : List ℕ) → P x → drop at f ≡ put x ++ rest → read at ≡ x)
      → (k : ℕ) → k < length hs → (xs : List A) (z : A) → get_or (payloads form w) k [] ≡ flat_map put xs
      → ((i : ℕ) → i < length xs → P (get_or xs i z)) → (n at : ℕ) → n ≡ length xs → at ≡ payload_at 0 (take k hs)
      → tabulate n (λ i. read (at + width * i)) ≡ xs
  table_read width put read P w back k l xs z held cells n at p q =
      rw (p, q) (read_put width put f read P w back xs z _ _ cells (rw held at (stands k l)))

  twins_read : twins_in f ≡ c.twin
  unfolding twins_in table_heads table_payloads payload_at
  twins_read =
      table_read 2 (λ t. u16 (stored t)) (λ at. as_twin (u16_at f at)) (λ t. (t ≡ marker) ⊎ (t < no_twin)) (λ _. refl) back 1 (omega arith) c.twin 0 (flat_map_map stored u16 c.twin) cells _ _ H_read refl
    where
      back : (at t : ℕ) (rest : List ℕ) → (t ≡ marker) ⊎ (t < no_twin) → drop at f ≡ u16 (stored t) ++ rest → as_twin (u16_at f at) ≡ t
      back at t rest p e = ap as_twin (u16_read f at (stored t) rest (stored_small t p) e) ∙ as_twin_stored t p

      cells : (h : ℕ) → h < length c.twin → (get_or c.twin h 0 ≡ marker) ⊎ (get_or c.twin h 0 < no_twin)
      cells h l = ⊎_elim inl (λ s. inr (omega (arith, fits.fits.few_halfedges))) (fits.fits.twins h l)

  verts_read : verts_in f ≡ c.vert
  unfolding verts_in table_heads table_payloads payload_at
  verts_read =
      table_read 2 u16 (u16_at f) (λ n. n < 65536) (λ _. refl) (u16_read f) 2 (omega arith) c.vert 0 refl (λ h l. omega (arith, fits.fits.few_vertices, fits.fits.verts h l)) _ _ (H_read ∙ sym fits.fits.shaped.vert) (omega (arith, H_read))

  edges_read : edges_in f ≡ c.edge
  unfolding edges_in table_heads table_payloads payload_at
  edges_read =
      table_read 2 u16 (u16_at f) (λ n. n < 65536) (λ _. refl) (u16_read f) 3 (omega arith) c.edge 0 refl (λ h l. omega (arith, fits.fits.few_halfedges, fits.fits.edges h l)) _ _ (H_read ∙ sym fits.fits.shaped.edge) (omega (arith, H_read))

  heads_read : heads_in f ≡ heads_of form w
  heads_read = heads-counted f ∙ rw (form_kept, H_read, V_read, twins_read)

  -- where the payload after k of the later fields stands
  payload_read : (k : ℕ) → payload f k ≡ payload_at 0 (take (suc k) hs)
  unfolding payload_at
  payload_read k = ap (λ hs. payload_at 0 (take (suc k) (opening ∷ hs))) heads_read

  points_read : points_in f ≡ w.points
  unfolding points_in
  points_read =
      table_read 4 (λ z. u32 (twos z)) (λ at. signed (u32_at f at)) (λ z. nat_abs z < 2147483648) (λ _. refl) back (suc (points_field form)) (points_within form w) w.points (pos 0) (points_held form w ∙ flat_map_map twos u32 w.points) (λ i l. omega (arith, fits.fits.coordinates i l)) _ _ threes (ap (λ m. payload f (points_field m)) form_kept ∙ payload_read (points_field form))
    where
      threes : 3 * VIn f ≡ length w.points
      threes = omega (arith, V_read, fits.fits.shaped.threes)

      back : (at : ℕ) (z : ℤ) (rest : List ℕ) → nat_abs z < 2147483648 → drop at f ≡ u32 (twos z) ++ rest → signed (u32_at f at) ≡ z
      back at z rest l e = ap signed (u32_read f at (twos z) rest (twos_small z l) e) ∙ signed-twos z l

-- of form 2, its two fields
module _ (w : Cage) (fits : FitsForm Two w) where
  creases_read_lem : creases_read (file Two w) ≡ w.creases
  unfolding creases_read table_heads later_heads table_payloads later_payloads payload_at
  creases_read_lem =
      let here = stands Two w fits 4 (omega arith) in
      rw (form_kept Two w fits, H_read Two w fits, twins_read Two w fits)
      (bytes_read (file Two w) _ (E w.connectivity.twin) (rw here (simp length-append (omega (arith, fits.numbered))))
      ∙ rw here (take_at w.creases _ _ fits.numbered))

  -- the byte of the weight, at an offset
  weight_at_lem : (at : ℕ) → at ≡ payload_at 0 (take 6 (opening ∷ heads_of Two w)) → get_or (file Two w) at 0 ≡ weight_number w.weight
  unfolding table_heads later_heads table_payloads later_payloads
  weight_at_lem at e =
      ap (λ k. get_or (file Two w) k 0) (e ∙ sym (add-zero _))
      ∙ sym (get_or-drop (payload_at 0 (take 6 (opening ∷ heads_of Two w))) (file Two w) 0 0)
      ∙ ap (λ t. get_or t 0 0) (stands Two w fits 6 (omega arith))

  weight_back : weight_in (file Two w) ≡ w.weight
  unfolding weight_in
  weight_back = rw (form_kept Two w fits, weight_at_lem _ (payload_read Two w fits 5)) (weight_read w.weight)

pub cage_of_file : (form : Form) (w : Cage) → FitsForm form w → cage_in (file form w) ≡ w
unfolding cage_in weight_in
cage_of_file One w fits =
    rw (form_kept One w fits, twins_read One w fits, verts_read One w fits, edges_read One w fits, points_read One w fits) (sym fits.plain)
cage_of_file Two w fits =
    rw (weight_back w fits, form_kept Two w fits, creases_read_lem w fits, twins_read Two w fits, verts_read Two w fits, edges_read Two w fits, points_read Two w fits)

-- ---- the checks

opening_passes : (forms : List Form) (form : Form) (w : Cage) → FitsForm form w → other_form forms (file form w) ≡ false → (at : ℕ) → first (opening_asked forms (file form w) at) ≡ DONE
unfolding opening_asked first given above_limit
opening_passes forms form w fits right at =
    let f = file form w in
    let H = H_read form w fits in
    let v = V_read form w fits in
    simp (
      right,
      ne_eqb (HIn f) 0 (λ e. fits.fits.some (sym H ∙ e)),
      eq-eqb (HIn f % 3) 0 (ap (λ n. n % 3) H ∙ fits.fits.triangles),
      le-ltb most_halfedges (HIn f) (omega (arith, fits.fits.few_halfedges)),
      le-ltb most_vertices (VIn f) (omega (arith, fits.fits.few_vertices)),
    )

-- what form 2 asks besides
module _ (w : Cage) (fits : FitsForm Two w) where
  twins_pass : (at : ℕ) → first (twins_asked (file Two w) at) ≡ DONE
  unfolding twins_asked first
  twins_pass at = rw (twins_read Two w fits, H_read Two w fits, clean_done _ _ TWIN fits.twinned)

  weight_passes : (at : ℕ) → at + 3 ≡ payload_at 0 (take 6 (opening ∷ heads_of Two w)) → first (weight_asked (file Two w) at ++ []) ≡ DONE
  unfolding weight_asked first given
  weight_passes at e = rw (weight_at_lem w fits (at + 3) e, le-ltb 1 (weight_number w.weight) (weight_small w.weight))

later_passes : (form : Form) (w : Cage) → FitsForm form w → first (questions (past 0 opening) (later_asked form (file form w)) (heads_of form w)) ≡ DONE
unfolding table_heads later_heads payload_at first
later_passes One w fits = refl
later_passes Two w fits = first_more (twins_asked (file Two w) _) _ (twins_pass w fits _) ∙ weight_passes w fits _ refl

pub file_passes : (forms : List Form) (form : Form) (w : Cage) → FitsForm form w → other_form forms (file form w) ≡ false → first (file_checks forms (file form w)) ≡ DONE
unfolding file_checks
file_passes forms form w fits right =
    let f = file form w in
    rw (form_kept form w fits, heads_read form w fits)
    (front_to_back_lem f (opening_asked forms f ∷ later_asked form f) (opening ∷ heads_of form w) 0 (fields_pass f (sized form w fits) 0 (whole form w fits))
    (first_more (opening_asked forms f 0) _ (opening_passes forms form w fits right 0) ∙ later_passes form w fits))

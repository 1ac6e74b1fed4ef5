-- Why a buffer of 46,112 bytes is enough to read either form from: past the longest file that reads, more bytes change nothing.
-- Assumes nothing.
--     longer_alike        the checks of the first n bytes of a file, n above 46,111, answer as those of all of it
--     too_long            a file of more than 46,111 bytes is refused
--     longer_read_alike   so reading the first n bytes answers and leaves what reading all of it does
--     longer_twins_alike  and the twins are the same, where H and V are within the limits
use Prim.Native.Nat.{ℕ, ◌+◌, ◌*◌, ◌≤◌, ◌<◌}
use mathlib.Core.Path.{◌≡◌, refl, sym, ap, ap₂, ◌∙◌}
use mathlib.Core.Logic.{◌≢◌}
use mathlib.Core.List.{List, [], ◌∷◌, ◌++◌}
use native.Mathlib.Decide.{ℕ_discrete, dec_lt}
use native.Mathlib.Nat.{le_refl}
use native.Mathlib.Omega.{arith}
use lib.IntN.{ℤ}
use lib.ListN.{length, get_or, take}
use lib.Seq.{get_or-take, length-take-le, take_all}
use borrow.Author.Tests.{ne_eqb, lt-ltb, le-ltb}
use Rattle.laws.proofs.Tabulate.{tabulate_ext}
use Rattle.halfedges.specs.Cage.{most_halfedges, most_vertices}
use Rattle.halfedges.specs.Refusals.{Verdict, DONE, first, said, filled}
use Rattle.halfedges.proofs.Checks.{first_zero, first_more, first_refused_before}
use Rattle.tables.specs.Tables.{Tables}
use Rattle.levels.specs.Refining.{filled_tables}
use Rattle.cagefile.specs.declared.fields.Form.{Form}
use Rattle.cagefile.specs.declared.fields.Form.TheVariants.{One, Two}
use Rattle.cagefile.specs.Numbers.{u16_at, as_twin}
use Rattle.cagefile.specs.Fields.{Head, opening, table_heads, later_heads, heads}
use Rattle.filechecks.specs.Contents.{HIn, VIn, edges_for, form_of, past, payload_at, twins_in, heads_in}
use Rattle.filechecks.specs.FileChecks.{field_checks, other_form, Asked, opening_asked, twins_asked, weight_asked, later_asked, fields_checks, front_to_back, file_checks, both}
use Rattle.reading.specs.Reading.{short_room, read_verdict, read_file}
use Rattle.filechecks.proofs.Sound.{opening_kept, checks_sound, longest, edges_few, sound_at_most}

-- the longest file that reads
abbrev most : ℕ
most = longest Two

pub too_long : (forms : List Form) (f : List ℕ) → longest Two < length f → (first (file_checks forms f)).number ≢ 0
too_long forms f l z = by (form_of f) (sound_at_most f (checks_sound f forms (first_zero _ z)))
  where
    by : (form : Form) → length f ≤ longest form → ⊥
    by One s = omega arith
    by Two s = omega arith

-- fields only reach further
reaches : (hs : List Head) (at : ℕ) → at + 3 ≤ payload_at at hs
unfolding payload_at
reaches [] at = le_refl _
reaches (h ∷ hs) at = omega (arith, reaches hs (past at h))

-- checks after others, which count only where those pass
first_after : (vs ws us : List Verdict) → (first vs ≡ DONE → first ws ≡ first us) → first (vs ++ ws) ≡ first (vs ++ us)
first_after vs ws us e = by (ℕ_discrete (first vs).number 0)
  where
    by : Dec ((first vs).number ≡ 0) → first (vs ++ ws) ≡ first (vs ++ us)
    by (yes z) = let d = first_zero vs z in first_more vs ws d ∙ e d ∙ sym (first_more vs us d)
    by (no z) = first_refused_before ws vs z ∙ sym (first_refused_before us vs z)

-- questions with the same answers at the heads of fields within reach
data SameAsked : List Asked → List Asked → Type 0 where
  none : SameAsked [] []
  also : {q r : Asked} {qs rs : List Asked} → ((at : ℕ) → at + 3 ≤ most → q at ≡ r at) → SameAsked qs rs → SameAsked (q ∷ qs) (r ∷ rs)

-- two files longer than any that reads, with the same bytes as far as those go
module _ (f g : List ℕ) (long : most < length f) (also-long : most < length g) (same : (i : ℕ) → i ≤ most → get_or g i 0 ≡ get_or f i 0) where
  number-alike : (at : ℕ) → at + 1 ≤ most → u16_at g at ≡ u16_at f at
  number-alike at l = rw (same at (omega arith), same (at + 1) l)

  field_alike : (at : ℕ) (h : Head) → past at h ≤ most → field_checks g at h ≡ field_checks f at h
  unfolding field_checks
  field_alike at h l =
      rw (
        le-ltb (length g) (at + 3) (omega arith),
        le-ltb (length f) (at + 3) (omega arith),
        same at (omega arith),
        number-alike (at + 1) (omega arith),
        le-ltb (length g) (past at h) (omega arith),
        le-ltb (length f) (past at h) (omega arith),
      )

  fields-alike : (hs : List Head) (at : ℕ) → payload_at at hs ≤ most + 3 → fields_checks g at hs ≡ fields_checks f at hs
  unfolding fields_checks payload_at
  fields-alike [] at l = rw (lt-ltb at (length g) (omega arith), lt-ltb at (length f) (omega arith))
  fields-alike (h ∷ hs) at l =
      ap₂ ◌++◌ (field_alike at h (omega (arith, reaches hs (past at h)))) (fields-alike hs (past at h) l)

  front-alike : {qs rs : List Asked} → SameAsked qs rs → (hs : List Head) (at : ℕ) → payload_at at hs ≤ most + 3 → front_to_back g at qs hs ≡ front_to_back f at rs hs
  unfolding front_to_back payload_at
  front-alike none hs at l = fields-alike hs at l
  front-alike (also e s) [] at l = fields-alike [] at l
  front-alike (also e s) (h ∷ hs) at l =
      let reach = reaches hs (past at h) in
      ap₂ ◌++◌ (field_alike at h (omega arith)) (ap₂ ◌++◌ (e at (omega arith)) (front-alike s hs (past at h) l))

  H_alike : HIn g ≡ HIn f
  H_alike = number-alike 5 (omega arith)

  V_alike : VIn g ≡ VIn f
  V_alike = number-alike 7 (omega arith)

  form_alike : form_of g ≡ form_of f
  unfolding form_of
  form_alike = rw (number-alike 3 (omega arith))

  other_alike : (forms : List Form) → other_form forms g ≡ other_form forms f
  other_alike [] = refl
  other_alike (form ∷ forms) = rw (number-alike 3 (omega arith), other_alike forms)

  opening-alike : (forms : List Form) (at : ℕ) → opening_asked forms g at ≡ opening_asked forms f at
  unfolding opening_asked
  opening-alike forms at = rw (other_alike forms, H_alike, V_alike)

  -- once the limits are kept, the fields lie within reach
  module _ (few : HIn f ≤ most_halfedges) (less : VIn f ≤ most_vertices) where
    twins-alike : twins_in g ≡ twins_in f
    unfolding twins_in payload_at
    twins-alike = rw H_alike (tabulate_ext (HIn f) _ _ (λ h l. ap as_twin (number-alike (12 + 2 * h) (omega arith))))

    heads-alike : heads_in g ≡ heads_in f
    unfolding heads_in
    heads-alike = rw (form_alike, H_alike, V_alike, twins-alike)

    within : payload_at (past 0 opening) (heads_in f) ≤ most + 3
    unfolding payload_at heads_in table_heads later_heads
    within = by (form_of f)
      where
        by : (form : Form) → payload_at (past 0 opening) (heads form (HIn f) (edges_for form (twins_in f)) (VIn f)) ≤ most + 3
        by One = omega arith
        by Two = omega (arith, edges_few f)

    twins-asked : (at : ℕ) → twins_asked g at ≡ twins_asked f at
    unfolding twins_asked
    twins-asked at = rw (H_alike, twins-alike)

    weight_asked_lem : (at : ℕ) → at + 3 ≤ most → weight_asked g at ≡ weight_asked f at
    unfolding weight_asked
    weight_asked_lem at l = rw (same (at + 3) l)

    later-alike : (form : Form) → SameAsked (later_asked form g) (later_asked form f)
    later-alike One = none
    later-alike Two =
        also (λ _ _. refl)
        (also (λ _ _. refl)
        (also (λ at _. twins-asked at)
        (also (λ _ _. refl)
        (also (λ _ _. refl)
        (also weight_asked_lem none)))))

  checks_alike : (forms : List Form) → first (file_checks forms g) ≡ first (file_checks forms f)
  unfolding file_checks front_to_back
  checks_alike forms =
      rw (field_alike 0 opening (omega arith), opening-alike forms 0, form_alike)
      (first_after (field_checks f 0 opening) _ _
      (λ _. first_after (opening_asked forms f 0) _ _
      (λ e.
      let (_, few, less) = opening_kept forms f 0 e in
      rw (heads-alike few less) (ap first (front-alike (later-alike few less (form_of f)) (heads_in f) (past 0 opening) (within few less))))))

  read_alike : (lent : Tables) (lent_points : List ℤ) (lentCreases : List ℕ) → read_file g lent lent_points lentCreases ≡ read_file f lent lent_points lentCreases
  unfolding read_file read_verdict said filled_tables filled
  read_alike lent lent_points lentCreases =
      rw (
        first_refused_before (short_room g lent lent_points lentCreases) (file_checks both g) (too_long both g also-long),
        first_refused_before (short_room f lent lent_points lentCreases) (file_checks both f) (too_long both f long),
        checks_alike both,
        ne_eqb (first (file_checks both f)).number 0 (too_long both f long),
      )

module _ (f : List ℕ) (n : ℕ) (enough : longest Two < n) where
  -- a file that n bytes hold is all there, and of any other the first n are too many already
  alike : {A : Type 0} (read : List ℕ → A)
      → ((g : List ℕ) → most < length f → most < length g → ((i : ℕ) → i ≤ most → get_or g i 0 ≡ get_or f i 0) → read g ≡ read f)
      → read (take n f) ≡ read f
  alike read long = by (dec_lt n (length f))
    where
      by : Dec (n < length f) → read (take n f) ≡ read f
      by (yes l) = long (take n f) (omega arith) (rw (length-take-le n f (omega arith)) enough) (λ i h. get_or-take n f i 0 (omega arith))
      by (no l) = ap read (take_all n f (omega (arith, l)))

  pub longer_alike : (forms : List Form) → first (file_checks forms (take n f)) ≡ first (file_checks forms f)
  longer_alike forms = alike (λ g. first (file_checks forms g)) (λ g l a s. checks_alike f g l a s forms)

  pub longer_read_alike : (lent : Tables) (lent_points : List ℤ) (lentCreases : List ℕ) → read_file (take n f) lent lent_points lentCreases ≡ read_file f lent lent_points lentCreases
  longer_read_alike lent lent_points lentCreases = alike (λ g. read_file g lent lent_points lentCreases) (λ g l a s. read_alike f g l a s lent lent_points lentCreases)

  pub longer_twins_alike : HIn f ≤ most_halfedges → VIn f ≤ most_vertices → twins_in (take n f) ≡ twins_in f
  longer_twins_alike few less = alike twins_in (λ g l a s. twins-alike f g l a s few less)

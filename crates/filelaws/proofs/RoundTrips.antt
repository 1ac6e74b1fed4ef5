-- Both round trips, for each form, of the operations' definitions; form 1's for cages whose crease numbers and weight are all 0. Assumes
-- nothing.
--     written_reads     what is written of any cage reads as that cage
--     read_writes       any file that reads as a cage that can be written is written again, byte for byte, in its own form
--     cage_read_lem         what reading leaves of a file is the cage in it
--     readable_length   no file that reads is longer than 43,032 bytes in form 1, and 46,111 in form 2
use Prim.Native.Nat.{ℕ, ◌*◌, ◌≤◌}
use mathlib.Core.Path.{◌≡◌, refl, ap, ap₂, ◌∙◌}
use mathlib.Core.List.{List, [], ◌∷◌}
use lib.IntN.{ℤ}
use lib.ListN.{length, get_or, take}
use lib.Seq.{take_at}
use borrow.Author.Tests.{le-ltb}
use Rattle.laws.specs.Parts.{in_front}
use Rattle.halfedges.specs.Refusals.{DONE, given, short, first}
use Rattle.halfedges.proofs.Checks.{first_more, done_both}
use Rattle.tables.specs.Tables.{Tables, tables}
use Rattle.levels.specs.Refining.{short_tables}
use Rattle.points.specs.Weights.{weight_of, weight_number}
use Rattle.points.specs.Operations.{vertices}
use Rattle.cagefile.specs.declared.fields.Form.{Form}
use Rattle.cagefile.specs.declared.fields.Form.TheVariants.{One, Two}
use Rattle.cagefile.specs.Fields.{Cage, number, file}
use Rattle.cagefile.proofs.NumberLaws.{Bytes}
use Rattle.filechecks.specs.Contents.{edges_for, form_of, twins_in, verts_in, edges_in, creases_read, points_in, weight_in, cage_in}
use Rattle.filechecks.specs.FileChecks.{file_checks, both}
use Rattle.reading.specs.Reading.{short_room, read_verdict, Read, read_file}
use Rattle.filechecks.proofs.Lengths.{twins-length, verts_length, edges_length, creases_length, points_length}
use Rattle.reading.proofs.Outcomes.{all_read, read_done}
use Rattle.filechecks.proofs.Sound.{form_known, longest, sound_at_most}
use Rattle.reading.proofs.Verdict.{read_sound}
use Rattle.writing.specs.Writing.{plain, write_checks, write_verdict, Written, write_file}
use Rattle.writing.proofs.Outcomes.{write_done}
use Rattle.filelaws.proofs.Contents.{vertices-counted, weight_read}
use Rattle.filelaws.proofs.ReadBack.{PlainIn, FitsForm, form_read, form_kept, cage_of_file, file_passes}
use Rattle.filelaws.proofs.WriteBack.{file_of_cage}
use Rattle.filelaws.proofs.Accepted.{checked_form}

-- ---- written, then read

-- the lent tables have room for what a form says of a cage
pub record Roomy (form : Form) (w : Cage) (lent : Tables) (lent_points : List ℤ) (lentCreases : List ℕ) : Type 0 where
  pub twin : length w.connectivity.twin ≤ length lent.twin
  pub vert : length w.connectivity.twin ≤ length lent.vert
  pub edge : length w.connectivity.twin ≤ length lent.edge
  pub coordinates : 3 * vertices w.points ≤ length lent_points
  pub creases : edges_for form w.connectivity.twin ≤ length lentCreases

-- "no crease cell is written" of form 1
abbrev pub crease_cells : Form → Cage → List ℕ
crease_cells One w = []
crease_cells Two w = w.creases

-- reading that gives back a cage: form, H, V, E and weight, and the cage in front of what the lent tables held
abbrev pub cage_read : Form → Cage → Tables → List ℤ → List ℕ → Read
cage_read form w lent lent_points lentCreases =
    let c = w.connectivity in
    record {
      answer = record { verdict = DONE; values = number form ∷ length c.twin ∷ vertices w.points ∷ edges_for form c.twin ∷ weight_number w.weight ∷ [] };
      lent = tables (in_front c.twin lent.twin) (in_front c.vert lent.vert) (in_front c.edge lent.edge);
      points = in_front w.points lent_points;
      creases = in_front (crease_cells form w) lentCreases;
    }

module _ (f : List ℕ) (lent : Tables) (lent_points : List ℤ) (lentCreases : List ℕ) where
  room_enough : Roomy (form_of f) (cage_in f) lent lent_points lentCreases → first (short_room f lent lent_points lentCreases) ≡ DONE
  unfolding short_room short_tables short first given cage_in
  room_enough room =
      rw (← twins-length f, ← vertices-counted f)
      (simp (le-ltb _ _ room.twin, le-ltb _ _ room.vert, le-ltb _ _ room.edge, le-ltb _ _ room.coordinates, le-ltb _ _ room.creases))

  -- what is read where it is done, by the cage in the file
  in_read : (form : Form) → form_of f ≡ form → all_read f lent lent_points lentCreases ≡ cage_read (form_of f) (cage_in f) lent lent_points lentCreases
  unfolding creases_read cage_in
  in_read One o = rw (o, ← twins-length f, ← vertices-counted f)
  in_read Two o = rw (o, ← twins-length f, ← vertices-counted f)

module _ (form : Form) (w : Cage) (fits : FitsForm form w) (lent : Tables) (lent_points : List ℤ) (lentCreases : List ℕ) (room : Roomy form w lent lent_points lentCreases) where
  file_reads : read_file (file form w) lent lent_points lentCreases ≡ cage_read form w lent lent_points lentCreases
  unfolding read_verdict
  file_reads =
      let f = file form w in
      read_done f lent lent_points lentCreases
      (first_more (file_checks both f) _ (file_passes both form w fits (form_known f form (form_read form w fits)).0)
      ∙ room_enough f lent lent_points lentCreases (rw (form_kept form w fits, cage_of_file form w fits) room))
      ∙ in_read f lent lent_points lentCreases (form_of f) refl
      ∙ rw (form_kept form w fits, cage_of_file form w fits)

-- the file that was written: as many bytes as were answered
abbrev pub file_of : Written → List ℕ
file_of r = take r.answer.values r.file

written-file : (form : Form) (w : Cage) (lent : List ℕ) → write_verdict form w lent ≡ DONE → file_of (write_file form w lent) ≡ file form w
written-file form w lent e = ap file_of (write_done form w lent e) ∙ take_at (file form w) _ _ refl

pub written_reads : (form : Form) (w : Cage) (lentFile : List ℕ) → write_verdict form w lentFile ≡ DONE → PlainIn form w
    → (lent : Tables) (lent_points : List ℤ) (lentCreases : List ℕ) → Roomy form w lent lent_points lentCreases
    → read_file (file_of (write_file form w lentFile)) lent lent_points lentCreases ≡ cage_read form w lent lent_points lentCreases
unfolding write_verdict
written_reads form w lentFile e plain lent lent_points lentCreases room =
    rw (written-file form w lentFile e)
    (file_reads form w (checked_form form w (done_both (write_checks form w) _ e).0 plain) lent lent_points lentCreases room)

-- ---- read, then written

-- the kth number that reading answers
abbrev value_of : Read → ℕ → ℕ
value_of r k = get_or r.answer.values k 0

abbrev tables_of : Read → Tables
tables_of r = tables (take (value_of r 1) r.lent.twin) (take (value_of r 1) r.lent.vert) (take (value_of r 1) r.lent.edge)

abbrev points_of : Read → List ℤ
points_of r = take (3 * value_of r 2) r.points

-- the cage that was read in a form: the first H cells of the tables, 3V of the points and E of the creases, and the weight
abbrev pub cage_of : Form → Read → Cage
cage_of One r = plain (tables_of r) (points_of r)
cage_of Two r = record { connectivity = tables_of r; points = points_of r; creases = take (value_of r 3) r.creases; weight = weight_of (value_of r 4) }

module _ (f : List ℕ) (lent : Tables) (lent_points : List ℤ) (lentCreases : List ℕ) (e : read_verdict f lent lent_points lentCreases ≡ DONE) where
  pub readable_length : length f ≤ longest (form_of f)
  readable_length = sound_at_most f (read_sound f lent lent_points lentCreases e)

  tables_are : tables_of (read_file f lent lent_points lentCreases) ≡ tables (twins_in f) (verts_in f) (edges_in f)
  tables_are =
      rw (read_done f lent lent_points lentCreases e, take_at (twins_in f) _ _ (twins-length f), take_at (verts_in f) _ _ (verts_length f), take_at (edges_in f) _ _ (edges_length f))

  points_are : points_of (read_file f lent lent_points lentCreases) ≡ points_in f
  points_are = rw (read_done f lent lent_points lentCreases e, take_at (points_in f) _ _ (points_length f))

  cage_is : (form : Form) → form_of f ≡ form → cage_of form (read_file f lent lent_points lentCreases) ≡ cage_in f
  unfolding cage_in weight_in
  cage_is One o = ap₂ plain tables_are points_are ∙ rw o
  cage_is Two o =
      rw (tables_are, points_are, read_done f lent lent_points lentCreases e, take_at (creases_read f) _ _ (creases_length f), weight_read (weight_in f), o)

  pub cage_read_lem : cage_of (form_of f) (read_file f lent lent_points lentCreases) ≡ cage_in f
  cage_read_lem = cage_is (form_of f) refl

  pub read_writes : Bytes f → (lentFile : List ℕ) → let w = cage_of (form_of f) (read_file f lent lent_points lentCreases) in
      write_verdict (form_of f) w lentFile ≡ DONE
      → write_file (form_of f) w lentFile ≡ record { answer = record { verdict = DONE; values = length f }; file = in_front f lentFile }
  read_writes b lentFile d =
      write_done (form_of f) _ lentFile d
      ∙ ap (λ g. record { answer = record { verdict = DONE; values = length g }; file = in_front g lentFile })
      (ap (file (form_of f)) cage_read_lem ∙ file_of_cage f (read_sound f lent lent_points lentCreases e) b)

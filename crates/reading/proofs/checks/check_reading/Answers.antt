-- `check_reading` has the file checked, and then the lent tables one after another.
use Prim.Native.Nat.{ℕ, ◌*◌, ◌≤◌}
use Rattle.std.specs.Prelude.{Result, Ok, Err, ⊤}
use mathlib.Core.Path.{◌≡◌, refl, sym, ap, ◌∙◌}
use mathlib.Core.List.{List, [], ◌∷◌}
use native.Mathlib.Omega.{arith}
use lib.IntN.{ℤ}
use lib.ListN.{length}
use Rattle.halfedges.specs.declared.refusal.Refusal.{Refusal}
use Rattle.halfedges.specs.Refusals.{DONE, told, short, first}
use Rattle.halfedges.proofs.Told.{handed_on}
use Rattle.halfedges.proofs.Checks.{stops, passes, stops_before, passes_before}
use Rattle.tables.specs.Tables.{Tables}
use Rattle.levels.specs.Refining.{short_tables}
use Rattle.filechecks.specs.Contents.{HIn, VIn, EIn}
use Rattle.filechecks.specs.FileChecks.{file_checks, both}
use Rattle.filechecks.proofs.Sound.{checks_sound, sound_length}
use Rattle.reading.specs.Reading.{short_room, read_verdict}
use Rattle.reading.proofs.checks.check_reading.Goals as goal

module _ (f : List ℕ) (done : DONE ≡ first (file_checks both f)) where
  whole : 9 ≤ length f
  whole = omega (arith, sound_length f (checks_sound f both (sym done)))

  -- the room, for H, V and E as the code has them
  room_left : (lent : Tables) (points : List ℤ) (creases : List ℕ) {h v e : ℕ} → h ≡ HIn f → v ≡ VIn f → e ≡ EIn f
      → first (short 1 h (length lent.twin) ∷ short 2 h (length lent.vert) ∷ short 3 h (length lent.edge) ∷ short 4 (3 * v) (length points) ∷ short 7 e (length creases) ∷ [])
      ≡ read_verdict f lent points creases
  unfolding read_verdict short_room short_tables
  room_left lent points creases p q r = rw (p, q, r) (passes_before (file_checks both f) _ done)

alone : (x : Result ⊤ Refusal) → told x ≡ first (told x ∷ [])
unfolding first
alone (Ok u) = refl
alone (Err r) = stops [] r refl

pub returns-in_err-check_file : goal.returns-in_err-check_file
unfolding read_verdict
returns-in_err-check_file c = rw (handed_on c.from_residual.ensures) (stops_before _ _ _ c.in_err-check_file.ensures)

pub halfedges_in-halfedges-requires : goal.halfedges_in-halfedges-requires
halfedges_in-halfedges-requires c = whole _ c.in_ok-check_file.ensures

pub vertices_in-vertices-requires : goal.vertices_in-vertices-requires
vertices_in-vertices-requires c = whole _ c.in_ok-check_file.ensures

pub edges_in-edges-requires : goal.edges_in-edges-requires
edges_in-edges-requires c = checks_sound _ both (sym c.in_ok-check_file.ensures)

pub returns-in_err-check_length : goal.returns-in_err-check_length
returns-in_err-check_length c =
    rw (handed_on c.from_residual-in_err-check_length.ensures)
    (stops _ _ c.in_err-check_length.ensures
    ∙ room_left _ c.in_ok-check_file.ensures _ _ _ c.halfedges_in-halfedges.ensures.0 c.vertices_in-vertices.ensures.0 c.edges_in-edges.ensures.0)

pub returns-in_err-check_length-2 : goal.returns-in_err-check_length-2
returns-in_err-check_length-2 c =
    rw (handed_on c.from_residual-in_err-check_length-2.ensures)
    (stops _ _ c.in_err-check_length-2.ensures
    ∙ passes _ c.in_ok-check_length.ensures
    ∙ room_left _ c.in_ok-check_file.ensures _ _ _ c.halfedges_in-halfedges.ensures.0 c.vertices_in-vertices.ensures.0 c.edges_in-edges.ensures.0)

pub returns-in_err-check_length-3 : goal.returns-in_err-check_length-3
returns-in_err-check_length-3 c =
    rw (handed_on c.from_residual-in_err-check_length-3.ensures)
    (stops _ _ c.in_err-check_length-3.ensures
    ∙ passes _ c.in_ok-check_length-2.ensures
    ∙ passes _ c.in_ok-check_length.ensures
    ∙ room_left _ c.in_ok-check_file.ensures _ _ _ c.halfedges_in-halfedges.ensures.0 c.vertices_in-vertices.ensures.0 c.edges_in-edges.ensures.0)

pub returns-in_err-check_length-4 : goal.returns-in_err-check_length-4
returns-in_err-check_length-4 c =
    rw (handed_on c.from_residual-in_err-check_length-4.ensures)
    (stops _ _ c.in_err-check_length-4.ensures
    ∙ passes _ c.in_ok-check_length-3.ensures
    ∙ passes _ c.in_ok-check_length-2.ensures
    ∙ passes _ c.in_ok-check_length.ensures
    ∙ room_left _ c.in_ok-check_file.ensures _ _ _ c.halfedges_in-halfedges.ensures.0 c.vertices_in-vertices.ensures.0 c.edges_in-edges.ensures.0)

pub returns : goal.returns
returns c =
    alone c.check_length-5.result
    ∙ ap (λ v. first (v ∷ [])) c.check_length-5.ensures
    ∙ passes _ c.in_ok-check_length-4.ensures
    ∙ passes _ c.in_ok-check_length-3.ensures
    ∙ passes _ c.in_ok-check_length-2.ensures
    ∙ passes _ c.in_ok-check_length.ensures
    ∙ room_left _ c.in_ok-check_file.ensures _ _ _ c.halfedges_in-halfedges.ensures.0 c.vertices_in-vertices.ensures.0 c.edges_in-edges.ensures.0

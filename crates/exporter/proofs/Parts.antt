-- The parts that are put out: `out_drawn`, the facets can be made; `parts_whole`, the opening and they are the reply. Assumes nothing.
use Prim.Native.Nat.{ℕ}
use mathlib.Core.Path.{◌≡◌, ap, ◌∙◌}
use mathlib.Core.List.{List, [], ◌++◌, append-nil}
use native.Mathlib.Decide.{ℕ_discrete}
use native.Mathlib.Omega.{arith}
use borrow.Author.Tests.{eq-eqb, ne_eqb}
use Rattle.filechecks.specs.Contents.{cage_in}
use Rattle.text.specs.Replies.{refused}
use Rattle.cagefile.proofs.Fits.{Fits}
use Rattle.writing.proofs.Accepted.{accepted_fits}
use Rattle.intake.specs.Intake.{check_file}
use Rattle.intake.proofs.Outcomes.{plain-accepted, reply_refused, reply_answered}
use Rattle.stl.specs.File.{stl_file}
use Rattle.stl.specs.Internal.Facets.{Drawn}
use Rattle.stl.proofs.Verdict.{in_range}
use Rattle.exporter.specs.Exporting.{level_stl, exporting, corners_out, places_out, opening, facets_out}

module _ (f : List ℕ) where
  module _ (z : (check_file f).verdict.number ≡ 0) where
    fits : Fits (cage_in f).connectivity (cage_in f).points
    fits = accepted_fits (cage_in f).connectivity (cage_in f).points (plain-accepted f z)

    accepted_drawn : Drawn (cage_in f).connectivity.vert (cage_in f).points
    accepted_drawn = record { placed = λ h l. omega (arith, fits.verts h l); ranged = in_range (cage_in f).points fits.coordinates }

  pub out_drawn : Drawn (corners_out f) (places_out f)
  unfolding corners_out places_out
  out_drawn = by (ℕ_discrete (check_file f).verdict.number 0)
    where
      by : Dec ((check_file f).verdict.number ≡ 0) → Drawn (corners_out f) (places_out f)
      by (yes z) = rw (eq-eqb (check_file f).verdict.number 0 z) (accepted_drawn z)
      by (no n) = rw (ne_eqb (check_file f).verdict.number 0 n) (record { placed = λ h l. absurd (omega (arith, l)); ranged = in_range [] (λ i l. absurd (omega (arith, l))) })

  pub parts_whole : opening f ++ facets_out f ≡ (exporting f).text
  unfolding opening corners_out places_out stl_file
  parts_whole = by (ℕ_discrete (check_file f).verdict.number 0)
    where
      by : Dec ((check_file f).verdict.number ≡ 0) → opening f ++ facets_out f ≡ (exporting f).text
      by (yes z) = rw (eq-eqb (check_file f).verdict.number 0 z) (ap (λ r. r.text) (reply_answered f level_stl z))
      by (no n) = rw (ne_eqb (check_file f).verdict.number 0 n) (append-nil (refused (check_file f).verdict).text ∙ ap (λ r. r.text) (reply_refused f level_stl n))

-- The reply to a file, by what its check answered (`file_listed`), and the counts of one that is accepted (`file_small`). Assumes nothing.
use Prim.Native.Nat.{ℕ, ◌≤◌}
use Rattle.std.specs.Prelude.{Result, Ok, Err, IfOk}
use mathlib.Core.Path.{◌≡◌, sym, ap, ◌∙◌}
use mathlib.Core.List.{List, ◌++◌}
use native.Mathlib.Omega.{arith}
use lib.ListN.{length, get_or}
use Rattle.laws.proofs.Counts.{count_at_most}
use Rattle.halfedges.specs.declared.refusal.Refusal.{Refusal}
use Rattle.halfedges.specs.Cage.{most_halfedges, most_depth, border, above, E, B}
use Rattle.halfedges.specs.Refusals.{DONE, first}
use Rattle.halfedges.specs.Internal.Counts.{AtMost}
use Rattle.halfedges.specs.Counts.{levels}
use Rattle.halfedges.proofs.Told.{refused_number}
use Rattle.tables.specs.declared.check.Checked.{Checked}
use Rattle.tables.specs.Tables.{counts_of}
use Rattle.tables.specs.Check.{returned, checked, table_checks}
use Rattle.points.specs.Operations.{vertices}
use Rattle.invariance.proofs.Levels.{accepted}
use Rattle.cage.proofs.CageChecks.{tables-accepted}
use Rattle.filechecks.specs.Contents.{cage_in}
use Rattle.cagefile.proofs.Fits.{Fits}
use Rattle.writing.proofs.Accepted.{accepted_fits}
use Rattle.text.specs.Lines.{room_line}
use Rattle.text.specs.Replies.{answered, refused}
use Rattle.intake.specs.Intake.{check_file}
use Rattle.intake.proofs.Outcomes.{plain-accepted, reply_refused, reply_answered, accepts, accepted_values}
use Rattle.lister.specs.Listing.{level_borders, level_lines, cage_lines, listing}
use Rattle.lister.specs.Internal.Doubling.{doubled}
use Rattle.lister.specs.Internal.Steps.{counts, Small, checked_listing}
use Rattle.lister.proofs.Lines.{lines_alike}

-- an accepted file
module _ (f : List ℕ) (c : Checked) (e : checked (Ok c) ≡ check_file f) where
  counted : counts c ≡ counts_of (cage_in f).connectivity (vertices (cage_in f).points)
  unfolding returned
  counted = let v = accepted_values f c e in λ i. record { halfedges = get_or (v i).values 0 0; edges = get_or (v i).values 1 0; vertices = get_or (v i).values 3 0 }

  bordered : c.borders ≡ B (cage_in f).connectivity.twin
  unfolding returned
  bordered = ap (λ s. get_or s.values 4 0) (accepted_values f c e)

  fits : Fits (cage_in f).connectivity (cage_in f).points
  fits = accepted_fits (cage_in f).connectivity (cage_in f).points (plain-accepted f (accepts f c e))

  few_counts : AtMost most_halfedges (counts c)
  unfolding E
  few_counts =
      rw counted
      (record { halfedges = fits.few_halfedges; edges = omega (arith, fits.few_halfedges, count_at_most (length (cage_in f).connectivity.twin) (above (cage_in f).connectivity.twin)); vertices = omega (arith, fits.few_vertices) })

  few_borders : c.borders ≤ most_halfedges
  unfolding B
  few_borders = omega (arith, bordered, fits.few_halfedges, count_at_most (length (cage_in f).connectivity.twin) (border (cage_in f).connectivity.twin))

  tables_done : first (table_checks (cage_in f).connectivity (vertices (cage_in f).points) 0) ≡ DONE
  tables_done = tables-accepted (cage_in f).connectivity (cage_in f).points 0 fits.shaped.threes (plain-accepted f (accepts f c e))

  -- demand 3: border edges double
  doubled_borders : (k : ℕ) → k ≤ most_depth → doubled c.borders k ≡ level_borders (counts_of (cage_in f).connectivity (vertices (cage_in f).points)) (cage_in f).connectivity k
  unfolding level_borders
  doubled_borders k l = ap (λ b. doubled b k) bordered ∙ sym (accepted (cage_in f).connectivity (vertices (cage_in f).points) 0 tables_done k l).border_edges

  lines_listed : level_lines (levels (counts c) most_depth) (doubled c.borders) ≡ cage_lines (cage_in f).connectivity (cage_in f).points
  unfolding cage_lines level_lines
  lines_listed =
      let l = levels (counts c) most_depth in
      let bs = level_borders (counts_of (cage_in f).connectivity (vertices (cage_in f).points)) (cage_in f).connectivity in
      ap (λ t. t ++ room_line l.halfedge_room l.vertex_room l.edge_room) (lines_alike l (doubled c.borders) bs 7 (λ k h. doubled_borders k (omega arith)))
      ∙ ap (λ t. level_lines (levels t most_depth) bs) counted

-- any file
module _ (f : List ℕ) where
  pub file_listed : (x : Result Checked Refusal) → checked x ≡ check_file f → checked_listing x ≡ listing f
  file_listed (Ok c) e = ap answered (lines_listed f c e) ∙ reply_answered f cage_lines (accepts f c e)
  file_listed (Err q) e =
      ap (λ s. refused s.verdict) e ∙ reply_refused f cage_lines (λ z. refused_number q (ap (λ s. s.verdict.number) e ∙ z))

  pub file_small : (x : Result Checked Refusal) → checked x ≡ check_file f → IfOk x Small
  file_small (Ok c) e = record { few_counts = few_counts f c e; few_borders = few_borders f c e }
  file_small (Err q) e = tt

-- What a file that was taken in is answered, by what reading answered. Assumes nothing.
--     file_held, file-checked           the tables hold a file that reads, and its check
--     file_refused, file_unread, file-accepted      the check of a file that does not read, and of one that is accepted (`plain-accepted`)
--     reply_refused, reply_answered     the reply
--     accepts, accepted_values          the answer of the check to an accepted file, and its H and V (`accepted_H`, `accepted_V`)
--     file_taken                        where its cage stands
use Prim.Native.Nat.{ℕ}
use mathlib.Core.Path.{◌≡◌, sym, ap, ◌∙◌}
use mathlib.Core.Logic.{◌≢◌}
use mathlib.Core.List.{List}
use native.Mathlib.Decide.{ℕ_discrete}
use native.Mathlib.Omega.{arith}
use lib.IntN.{ℤ}
use lib.ListN.{get_or, replicate}
use borrow.Author.Tests.{eq-eqb, ne_eqb}
use Rattle.halfedges.specs.Cage.{most_halfedges}
use Rattle.std.specs.Prelude.{Result, Ok, Err, IfOk}
use Rattle.halfedges.specs.declared.refusal.Refusal.{Refusal}
use Rattle.halfedges.specs.Refusals.{DONE, refused as refused_as, first, said}
use Rattle.halfedges.proofs.Checks.{first_zero}
use Rattle.halfedges.proofs.Told.{refused_number}
use Rattle.tables.specs.declared.check.Checked.{Checked}
use Rattle.tables.specs.Tables.{Tables}
use Rattle.tables.specs.Check.{returned, checked}
use Rattle.points.specs.Operations.{vertices, cage_checks, creased_checks, check_creased}
use Rattle.reading.specs.declared.Reading.{Reading}
use Rattle.filechecks.specs.Contents.{HIn, VIn, cage_in}
use Rattle.filechecks.specs.FileChecks.{file_checks, both}
use Rattle.reading.specs.Internal.Fronts.{Ample, Fronts}
use Rattle.reading.specs.Reading.{read_file, reported}
use Rattle.reading.proofs.Outcomes.{Left}
use Rattle.filechecks.proofs.Lengths.{twins-length, points_length}
use Rattle.filechecks.proofs.Sound.{edges_few}
use Rattle.reading.proofs.Fronts.{ample_told, ample_fronts, creases_there}
use Rattle.writing.proofs.Accepted.{creased_kept}
use Rattle.text.specs.Replies.{answered, refused}
use Rattle.intake.specs.Intake.{check_file, file_reply}
use Rattle.intake.specs.Internal.Steps.{Held, front_checked, Taken}

-- ---- a file, read into tables that have room for any

-- crease numbers that nothing was read into
abbrev pub unread : List ℕ
unread = replicate most_halfedges 0

module _ (f : List ℕ) (lent : Tables) (lent_points : List ℤ) (ample : Ample lent lent_points unread) (now : Tables) (points : List ℤ) (creases : List ℕ) where
  pub file_refused : (q : Refusal) → Left (read_file f lent lent_points unread) (reported (Err q)) now points creases → checked (Err q) ≡ check_file f
  unfolding check_file
  file_refused q left =
      rw (← ample_told f lent lent_points unread ample now points creases (Err q) left, ne_eqb (refused_as q).number 0 (refused_number q))

module _ (f : List ℕ) (lent : Tables) (lent_points : List ℤ) (ample : Ample lent lent_points unread) (now : Tables) (points : List ℤ) (creases : List ℕ) (r : Reading) (left : Left (read_file f lent lent_points unread) (reported (Ok r)) now points creases) where
  pub file_there : Fronts f r now points unread creases
  file_there = ample_fronts f lent lent_points unread ample now points creases r left

  pub file_held : Held r now points creases
  file_held =
      let there = file_there in
      let s = there.sound in
      let a = there.ample in
      record {
        twin = omega (arith, there.halfedges, s.few_halfedges, a.twin);
        vert = omega (arith, there.halfedges, s.few_halfedges, a.vert);
        edge = omega (arith, there.halfedges, s.few_halfedges, a.edge);
        coordinates = omega (arith, there.vertices, s.few_vertices, a.coordinates);
        numbers = rw there.twin (omega (arith, edges_few f, s.few_halfedges, a.creases));
      }

  cage_there : front_checked r now points creases ≡ check_creased (cage_in f).connectivity (cage_in f).creases (cage_in f).points
  unfolding front_checked cage_in
  cage_there =
      let there = file_there in
      rw (there.twin, there.vert, there.edge, there.coordinates) (ap (λ cs. check_creased (cage_in f).connectivity cs (cage_in f).points) (creases_there f r now points creases there))

  pub file-checked : front_checked r now points creases ≡ check_file f
  unfolding check_file
  file-checked = rw (← ample_told f lent lent_points unread ample now points creases (Ok r) left) cage_there

-- ---- what is answered

module _ (f : List ℕ) where
  pub file_unread : (first (file_checks both f)).number ≢ 0 → check_file f ≡ record { verdict = first (file_checks both f); values = replicate 5 0 }
  unfolding check_file
  file_unread n = rw (ne_eqb (first (file_checks both f)).number 0 n)

  reads : (check_file f).verdict.number ≡ 0 → (first (file_checks both f)).number ≡ 0
  unfolding check_file
  reads z = by (ℕ_discrete (first (file_checks both f)).number 0)
    where
      by : Dec ((first (file_checks both f)).number ≡ 0) → (first (file_checks both f)).number ≡ 0
      by (yes e) = e
      by (no n) = rw (ne_eqb (first (file_checks both f)).number 0 n) at z

  pub file-accepted : (check_file f).verdict.number ≡ 0 → check_file f ≡ check_creased (cage_in f).connectivity (cage_in f).creases (cage_in f).points
  unfolding check_file
  file-accepted z = rw (eq-eqb (first (file_checks both f)).number 0 (reads z))

  -- then the checks without creases accept it too
  pub plain-accepted : (check_file f).verdict.number ≡ 0 → first (cage_checks (cage_in f).connectivity (cage_in f).points 0) ≡ DONE
  unfolding check_creased said
  plain-accepted z = (creased_kept (cage_in f).connectivity (cage_in f).creases (cage_in f).points (first_zero _ (rw (file-accepted z) at z))).0

  module _ (answer : Tables → List ℤ → List ℕ) where
    pub reply_refused : (check_file f).verdict.number ≢ 0 → refused (check_file f).verdict ≡ file_reply answer f
    unfolding file_reply
    reply_refused n = rw (ne_eqb (check_file f).verdict.number 0 n)

    pub reply_answered : (check_file f).verdict.number ≡ 0 → answered (answer (cage_in f).connectivity (cage_in f).points) ≡ file_reply answer f
    unfolding file_reply
    reply_answered z = rw (eq-eqb (check_file f).verdict.number 0 z)

-- ---- an accepted file

module _ (f : List ℕ) (c : Checked) (e : checked (Ok c) ≡ check_file f) where
  pub accepts : (check_file f).verdict.number ≡ 0
  accepts = ap (λ s. s.verdict.number) (sym e)

  accepted_cage : checked (Ok c) ≡ check_creased (cage_in f).connectivity (cage_in f).creases (cage_in f).points
  accepted_cage = e ∙ file-accepted f accepts

  accepted_done : first (creased_checks (cage_in f).connectivity (cage_in f).creases (cage_in f).points 0) ≡ DONE
  unfolding check_creased said
  accepted_done = sym (ap (λ s. s.verdict) accepted_cage)

  pub accepted_values : checked (Ok c) ≡ record { verdict = DONE; values = returned (cage_in f).connectivity.twin (vertices (cage_in f).points) }
  unfolding check_creased said
  accepted_values = accepted_cage ∙ rw accepted_done

  pub accepted_H : c.halfedges ≡ HIn f
  unfolding returned cage_in
  accepted_H = ap (λ s. get_or s.values 0 0) accepted_values ∙ twins-length f

  pub accepted_V : c.vertices ≡ VIn f
  unfolding returned cage_in
  accepted_V = ap (λ s. get_or s.values 3 0) accepted_values ∙ omega (arith, points_length f)

-- and its cage, as it was read
module _ (f : List ℕ) (r : Reading) (now : Tables) (points : List ℤ) (creases : List ℕ) where
  pub file_taken : Fronts f r now points unread creases → (x : Result Checked Refusal) → checked x ≡ check_file f → IfOk x (λ c. Taken f c now.vert points)
  unfolding cage_in
  file_taken there (Ok c) e =
      record {
        corners = rw (accepted_H f c e ∙ sym there.halfedges) there.vert;
        places = rw (accepted_V f c e ∙ sym there.vertices) there.coordinates;
      }
  file_taken there (Err q) e = tt

-- What is said of a file, accepted (`accepted_explained`) or refused (`refused_explained`); and that what is told holds of the cage in
-- the file in plain words (`file_explained`). Assumes nothing.
use Prim.Native.Nat.{ℕ}
use Rattle.std.specs.Prelude.{Ok, Err}
use mathlib.Core.Path.{◌≡◌}
use mathlib.Core.List.{List}
use native.Mathlib.Omega.{arith}
use borrow.Author.Tests.{ne_eqb}
use Rattle.halfedges.specs.declared.refusal.Refusal.{Refusal}
use Rattle.halfedges.specs.Refusals.{Verdict, refused}
use Rattle.halfedges.proofs.Told.{refused_number}
use Rattle.tables.specs.declared.check.Checked.{Checked}
use Rattle.tables.specs.Tables.{Tables}
use Rattle.tables.specs.Check.{numbers, checked}
use Rattle.points.specs.Operations.{vertices}
use Rattle.clauses.specs.Explained.{Explained}
use Rattle.clauses.specs.Clauses.{Clause, clause_at}
use Rattle.clauses.specs.Internal.Reached.{Reached}
use Rattle.clauses.proofs.Explained.{explained}
use Rattle.filechecks.specs.Contents.{VIn, cage_in}
use Rattle.filechecks.proofs.Lengths.{points_length}
use Rattle.text.specs.Replies.{answered}
use Rattle.sentences.specs.Sentences.{accepted}
use Rattle.intake.specs.Intake.{check_file}
use Rattle.explainer.specs.Explaining.{file_clause, refused_for, explaining}
use Rattle.explainer.proofs.Stops.{file_found}

module _ (f : List ℕ) where
  pub accepted_explained : (c : Checked) → checked (Ok c) ≡ check_file f → answered (accepted (numbers c)) ≡ explaining f
  unfolding explaining
  accepted_explained c e = rw (← e)

  pub refused_explained : (q : Refusal) (k : Clause) → checked (Err q) ≡ check_file f → k ≡ file_clause f → refused_for (refused q) k ≡ explaining f
  unfolding explaining
  refused_explained q k e l = rw (l, ← e, ne_eqb (refused q).number 0 (refused_number q))

pub file_explained : (f : List ℕ) → Explained (cage_in f).connectivity (vertices (cage_in f).points) (check_file f).verdict (file_clause f)
unfolding file_clause
file_explained f = explained _ _ (check_file f).verdict (file_found f)

-- the clause by tables that hold the file's
module _ (f : List ℕ) (c : Tables) (v : ℕ) (w : Verdict) (e : c ≡ (cage_in f).connectivity) (u : v ≡ vertices (cage_in f).points) (t : w ≡ (check_file f).verdict) where
  pub found_there : Reached c v w
  found_there = rw (e, u, t) (file_found f)

  pub clause_there : clause_at c v w ≡ file_clause f
  unfolding file_clause
  clause_there = rw (e, u, t)

pub vertices_there : (f : List ℕ) → VIn f ≡ vertices (cage_in f).points
unfolding cage_in
vertices_there f = omega (arith, points_length f)

-- A file that is read, and then moved. Assumes nothing.
--     cage_there            the cage of the file stands at the fronts of the tables
--     unread_moves          what refuses its reading refuses the move
--     read_moves            else the move leaves what that of the cage does
--     roomy_moves           with room for the longest file of the form 9 is not given
use Prim.Native.Nat.{ℕ, ◌*◌, ◌≤◌}
use mathlib.Core.Path.{◌≡◌, sym, ap, ◌∙◌}
use mathlib.Core.List.{List, [], ◌∷◌, ◌++◌, append_assoc}
use native.Mathlib.Decide.{ℕ_discrete}
use native.Mathlib.Omega.{arith}
use lib.IntN.{ℤ}
use lib.ListN.{length, take, replicate}
use borrow.Author.Tests.{le-ltb}
use Rattle.halfedges.specs.Cage.{E, most_halfedges}
use Rattle.halfedges.specs.declared.refusal.Refusal.{Refusal}
use Rattle.halfedges.specs.Refusals.{DONE, refused, given, short, first}
use Rattle.halfedges.proofs.Checks.{first_zero, first_more, first_refused_before, done_both, stops_before, passes_before}
use Rattle.tables.specs.Tables.{Tables, tables}
use Rattle.points.specs.Operations.{creased_checks}
use Rattle.cagefile.specs.declared.fields.Form.{Form}
use Rattle.cagefile.specs.Fields.{Cage, file}
use Rattle.reading.specs.declared.Reading.{Reading}
use Rattle.filechecks.specs.Contents.{cage_in}
use Rattle.filechecks.specs.FileChecks.{file_checks}
use Rattle.reading.specs.Internal.Fronts.{Fronts}
use Rattle.reading.proofs.Fronts.{creases_there}
use Rattle.writing.specs.Writing.{written}
use Rattle.filechecks.proofs.Sound.{longest}
use Rattle.filelaws.proofs.Accepted.{accepted-length}
use Rattle.moves.specs.Moves.{cage_moves, move_checks, move_room, move_verdict, move}
use Rattle.moves.proofs.CageMoves.{moved}

-- the cage at the fronts of tables, with so many creases
abbrev cage_at : Reading → Tables → List ℤ → List ℕ → ℕ → Cage
cage_at r now points creases edges =
    record {
      connectivity = tables (take r.halfedges now.twin) (take r.halfedges now.vert) (take r.halfedges now.edge);
      points = take (3 * r.vertices) points;
      creases = take edges creases;
      weight = r.weight;
    }

pub cage_there : (f : List ℕ) (r : Reading) (now : Tables) (points : List ℤ) (creases : List ℕ) → Fronts f r now points (replicate most_halfedges 0) creases
    → (edges : ℕ) → edges ≡ E (take r.halfedges now.twin) → cage_at r now points creases edges ≡ cage_in f
unfolding cage_in
cage_there f r now points creases s edges e =
    rw (e, s.twin, s.vert, s.edge, s.coordinates, creases_there f r now points creases s, s.weight)

module _ (from to : Form) (f lent : List ℕ) where
  pub unread_moves : (r : Refusal) → refused r ≡ first (file_checks (from ∷ []) f) → refused r ≡ move_verdict from to f lent
  unfolding move_verdict move_checks
  unread_moves r e = stops_before (move_checks from to f) _ r (stops_before _ _ r e)

  pub read_moves : DONE ≡ first (file_checks (from ∷ []) f) → (w : Cage) → w ≡ cage_in f → moved to w lent ≡ move from to f lent
  unfolding move move_verdict move_checks
  read_moves d w q =
      let files = file_checks (from ∷ []) f in
      ap (λ u. moved to u lent) q
      ∙ ap (λ u. written u (file to (cage_in f)) lent) (passes_before files _ d ∙ sym (ap first (append_assoc files _ _)))

-- ---- room for the longest file is room for any

module _ (from to : Form) (f lent : List ℕ) (long : longest to ≤ length lent) where
  room_left : first (move_checks from to f) ≡ DONE → first (move_room to (cage_in f) lent) ≡ DONE
  unfolding move_checks cage_moves move_room first short given
  room_left d =
      let w = cage_in f in
      let accepted = (done_both (creased_checks w.connectivity w.creases w.points 0) _ (done_both (file_checks (from ∷ []) f) _ d).1).0 in
      rw (le-ltb (length lent) (length (file to w)) (omega (arith, accepted-length to w accepted, long)))

  pub roomy_moves : move_verdict from to f lent ≡ first (move_checks from to f)
  unfolding move_verdict
  roomy_moves = by (ℕ_discrete (first (move_checks from to f)).number 0)
    where
      by : Dec ((first (move_checks from to f)).number ≡ 0) → first (move_checks from to f ++ move_room to (cage_in f) lent) ≡ first (move_checks from to f)
      by (yes z) =
          let d = first_zero (move_checks from to f) z in
          first_more (move_checks from to f) _ d ∙ room_left d ∙ sym d
      by (no n) = first_refused_before (move_room to (cage_in f) lent) (move_checks from to f) n

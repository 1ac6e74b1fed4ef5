-- Where no corner is above one that the points have, none is past them; else they are gone through.
use Prim.Native.Nat.{ℕ, ◌≤◌, ◌<◌}
use mathlib.Core.Path.{sym}
use mathlib.Core.List.{List}
use native.Mathlib.Omega.{arith}
use lib.ListN.{length}
use borrow.Author.Tests.{lt-leb}
use Rattle.halfedges.specs.Cage.{cell}
use Rattle.halfedges.proofs.Checks.{Clean, clean_done}
use Rattle.stl.specs.Writing.{past_points}
use Rattle.stl.proofs.checks.check_corners.Goals as goal

none_past : (vert : List ℕ) (most v : ℕ) → ((h : ℕ) → h < length vert → cell vert h ≤ most) → most < v → Clean (length vert) (past_points vert v)
unfolding past_points
none_past vert most v f l h b = lt-leb v (cell vert h) (omega (arith, f h b))

pub returns-then-highest-vertices : goal.returns-then-highest-vertices
returns-then-highest-vertices c = sym (clean_done _ _ _ (none_past c.args.vert.now _ _ c.highest.ensures c.if-highest-vertices.true))

-- `write_triangle` hands on what it reads of a triangle; both ways are the steps of its definition.
use Prim.Native.Nat.{ℕ}
use mathlib.Core.Path.{◌≡◌, sym, ap, ◌∙◌, subst}
use mathlib.Core.Bool.{false}
use mathlib.Core.List.{List}
use lib.IntN.{ℤ}
use Rattle.edgepoints.specs.declared.edges.Triangle.{Triangle}
use Rattle.edgepoints.specs.Internal.Edges.{Asks, step_edge, triangle_of, border_among, in_turn, AskedInTurn}
use Rattle.edgepoints.proofs.Writes.{inner_turns, inner-asked}
use Rattle.edgepoints.proofs.edges.write_triangle.Goals as goal
use Rattle.edgepoints.proofs.edges.write_triangle.Goals.{After-read_triangle-read, Else-border_among, Start}

module _ (a : After-read_triangle-read) where
  abbrev s : Start
  s = (goal.at.After-read_triangle-read a).Start

  abbrev n : ℕ
  n = s.args.vertices

  abbrev l : List ℤ
  l = s.args.points.now

  abbrev read : Triangle
  read = a.read_triangle-read.result

  asked : AskedInTurn (Asks n) (step_edge n) read l
  asked = subst (λ x. AskedInTurn (Asks n) (step_edge n) x l) (sym a.read_triangle-read.ensures) s.requires.1

  steps_are : in_turn (step_edge n) read l ≡ in_turn (step_edge n) (triangle_of s.args.level.now.twin.now s.args.level.now.vert.now s.args.level.now.edge.now l s.args.triangle) l
  steps_are = ap (λ x. in_turn (step_edge n) x l) a.read_triangle-read.ensures

none : (e : Else-border_among) → border_among (read (goal.at.Else-border_among e).After-read_triangle-read) ≡ false
none e = sym e.border_among.ensures ∙ e.if-border_among.false

pub write_any-requires : goal.write_any-requires
write_any-requires c = asked (goal.at.write_any-requires c).After-read_triangle-read

pub returns-then-border_among : goal.returns-then-border_among
returns-then-border_among c = c.write_any.ensures ∙ steps_are (goal.at.returns-then-border_among c).After-read_triangle-read

pub write_inner-requires : goal.write_inner-requires
write_inner-requires c =
    inner-asked (n (goal.at.write_inner-requires c).After-read_triangle-read) (read (goal.at.write_inner-requires c).After-read_triangle-read) (l (goal.at.write_inner-requires c).After-read_triangle-read) (none (goal.at.write_inner-requires c).Else-border_among) (asked (goal.at.write_inner-requires c).After-read_triangle-read)

pub returns : goal.returns
returns c =
    c.write_inner.ensures ∙ inner_turns (n (goal.at.returns c).After-read_triangle-read) (read (goal.at.returns c).After-read_triangle-read) (l (goal.at.returns c).After-read_triangle-read) (none (goal.at.returns c).Else-border_among) ∙ steps_are (goal.at.returns c).After-read_triangle-read

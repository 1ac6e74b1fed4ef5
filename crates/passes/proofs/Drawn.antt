-- The fifth pass over a level among all levels, after the four: what it asks (`seams_asked`), that it leaves the next level's points with
-- the level's creases (`seams_drawn`), and that these are the four's where no crease is left (`none_left`). Assumes nothing.
use Prim.Native.Nat.{ℕ, ◌+◌, ◌*◌, ◌≤◌}
use mathlib.Core.Path.{◌≡◌, sym, ap, ◌∙◌}
use mathlib.Core.Bool.{false}
use mathlib.Core.List.{List, [], ◌++◌}
use native.Mathlib.Omega.{arith}
use lib.IntN.{ℤ}
use lib.ListN.{length, take, drop, length-append, length-drop}
use lib.Seq.{length-take-le, take_at, drop_at}
use borrow.Author.Tests.{ltb-false}
use Rattle.laws.specs.Internal.Steps.{steps}
use Rattle.halfedges.specs.declared.table.HalfedgeTable.{HalfedgeTable}
use Rattle.halfedges.specs.Cage.{cell}
use Rattle.tables.specs.Tables.{Tables}
use Rattle.creases.specs.Creases.{creases_at}
use Rattle.creases.proofs.Table.{crease_at}
use Rattle.points.specs.declared.weights.Weight.{Weight}
use Rattle.points.specs.Internal.Relied.{Relied}
use Rattle.points.specs.Internal.Creased.{listed_after}
use Rattle.points.proofs.Only.{Only, only_on, only_take}
use Rattle.points.proofs.Holding.{holds_own, holds_on}
use Rattle.seams.specs.Internal.Seams.{any_sharp, seam, Seamed}
use Rattle.seams.proofs.Numbers.{none_sharp, sharp_is}
use Rattle.seams.proofs.Turns.{Seams}
use Rattle.seams.proofs.Drawn.{drawn_only, drawn}
use Rattle.passes.specs.declared.level.Level.{Level}
use Rattle.passes.specs.Internal.Levels.{next_end, with_next, tables_at, with_next_at, cage_of, with_seams, ReadySeams, ReadyCreased}
use Rattle.passes.proofs.Next.{next-alike, next_from, next-cell, next_only}
use Rattle.passes.proofs.Lent.{next-part}

module _ (w : Weight) (own : List ℕ) (cage : HalfedgeTable) (creases : List ℕ) (x : Level) (lent : Tables) (points : List ℤ) (ready : ReadyCreased own cage creases x lent points) where
  abbrev t : HalfedgeTable
  t = x.counts

  abbrev c : Tables
  c = tables_at x.counts x.start lent

  abbrev n : ℕ
  n = t.vertices

  -- the part of the points from the level's own on, and what the four passes leave there
  abbrev l : List ℤ
  l = drop x.at points

  abbrev smooth : List ℤ
  smooth = with_next w t c [] 0 l

  abbrev sharp : List ℕ
  sharp = creases_at cage creases x.number

  abbrev listed : List ℕ
  listed = listed_after x.number (cage_of cage lent) creases cage.vertices

  relied : Relied t c
  relied = ready.level.ready.relied

  room : next_end t 0 ≤ length l
  room = rw (length-drop x.at points) (omega (arith, ready.level.ready.room))

  front : length (take x.at points) ≡ x.at
  front = length-take-le x.at points (omega (arith, ready.level.ready.room))

  smooth_only : Only (3 * n) (6 * n + 3 * t.edges) l smooth
  smooth_only = next_only w t c [] l room

  smooth_there : drop x.at (with_next_at w x lent [] points) ≡ smooth
  smooth_there = ap (drop x.at) (next-part t c x.at points w []) ∙ drop_at (take x.at points) smooth x.at front

  front_there : take x.at (with_next_at w x lent [] points) ≡ take x.at points
  front_there = ap (take x.at) (next-part t c x.at points w []) ∙ take_at (take x.at points) smooth x.at front

  whole_long : length (with_next_at w x lent [] points) ≡ x.at + length smooth
  whole_long = ap length (next-part t c x.at points w []) ∙ length-append (take x.at points) smooth ∙ ap (λ k. k + length smooth) front

  edge_long : length c.edge ≡ length c.vert
  edge_long = relied.carried.long ∙ relied.bordered.long

  seamed : Seamed c.vert c.edge n smooth
  seamed =
      record {
        cornered = relied.cornered;
        edge_long = edge_long;
        short = rw relied.halfedges ready.level.ready.short;
        room = λ h b. rw smooth_only.long (omega (arith, room, relied.carried.below h (rw edge_long b)));
        in_range = rw (only_take (3 * n) (omega arith) (omega (arith, room)) smooth_only) ready.level.ready.in_range;
      }

  seams : Seams t c creases x.number listed sharp (take (3 * n) l) smooth
  seams =
      record {
        relied = relied;
        numbers = crease_at cage creases x.number;
        known = ready.known;
        holds = holds_on (omega arith) (holds_own n l) smooth_only;
        room = rw smooth_only.long (omega (arith, room));
      }

  next_drawn : steps (length c.vert) (seam creases x.number listed c.vert c.edge n smooth) smooth ≡ with_next w t c sharp 0 l
  next_drawn =
      next_from w t c sharp l room (only_on smooth_only (drawn_only t c creases x.number listed sharp (take (3 * n) l) smooth seams))
      (drawn t c creases x.number listed sharp (take (3 * n) l) smooth seams w ready.level.ready.in_range (next-cell w t c [] l room))

  -- q is what the four passes left
  module _ {q : List ℤ} (e : q ≡ with_next_at w x lent [] points) where
    pub seams_asked : ReadySeams creases x lent q
    seams_asked =
        record {
          in_twin = ready.level.in_twin;
          in_vert = ready.level.in_vert;
          in_edge = ready.level.in_edge;
          in_points = rw (e, whole_long) (omega arith);
          limited = ready.limited;
          seamed = rw (e, smooth_there) seamed;
        }

    pub seams_drawn : {r : List ℤ} → r ≡ with_seams creases listed x lent q → r ≡ with_next_at w x lent sharp points
    unfolding with_seams
    seams_drawn f = f ∙ rw (e, front_there, smooth_there) (ap (λ m. take x.at points ++ m) next_drawn ∙ sym (next-part t c x.at points w sharp))

    pub none_left : any_sharp creases x.number ≡ false → q ≡ with_next_at w x lent sharp points
    none_left past = e ∙ next-alike w t c [] sharp (λ i. sym (none i)) x.at points
      where
        none : (i : ℕ) → cell (creases_at cage creases x.number) i ≡ 0
        none i =
            let above : cell (creases_at cage creases x.number) i ≤ 0 = ltb-false 0 _ (sym (sharp_is creases x.number i (crease_at cage creases x.number i)) ∙ none_sharp creases x.number i past) in
            omega arith

-- `move_file` reads into tables that have room for any cage, so that what it hands on is the file's cage.
use Prim.Native.Nat.{◌≤◌}
use mathlib.Core.Path.{sym, ap, ◌∙◌}
use native.Mathlib.Omega.{arith}
use lib.ListN.{length, replicate}
use lib.Seq.{length-take-le}
use Rattle.halfedges.specs.Cage.{E, most_halfedges}
use Rattle.halfedges.proofs.Told.{handed_on}
use Rattle.tables.specs.Tables.{Tables, tables}
use Rattle.reading.specs.Internal.Fronts.{Fronts}
use Rattle.filechecks.proofs.Sound.{edges_few}
use Rattle.writing.proofs.Outcomes.{refused_left}
use Rattle.moves.specs.Moves.{move}
use Rattle.moves.proofs.Moved.{cage_there, unread_moves, read_moves}
use Rattle.moves.proofs.move_file.Goals as goal
use Rattle.moves.proofs.move_file.Goals.{In_ok-read, After-count_edges-edges}

-- where the file reads
module _ (c : In_ok-read) where
  abbrev now : Tables
  now = tables c.read_form.new.twin c.read_form.new.vert c.read_form.new.edge

  fronts : Fronts c.args.file.now c.in_ok-read.read now c.read_form.new.points (replicate most_halfedges 0) c.read_form.new.creases
  fronts = c.in_ok-read.ensures.fronts

-- and how many edges it has
module _ (c : After-count_edges-edges) where
  abbrev reads : In_ok-read
  reads = (goal.at.After-count_edges-edges c).In_ok-read

  creases_held : c.count_edges-edges.result ≤ length c.read_form.new.creases
  creases_held =
      let s = fronts reads in
      omega (arith, c.count_edges-edges.ensures ∙ ap E s.twin, edges_few c.args.file.now, s.sound.few_halfedges, s.ample.creases)

pub returns-in_err-read : goal.returns-in_err-read
unfolding move
returns-in_err-read c =
    rw (handed_on c.from_residual.ensures) (refused_left _ _ _ (unread_moves _ _ _ _ _ c.in_err-read.ensures.answer_value))

pub slice_bounds-creases-end : goal.slice_bounds-creases-end
slice_bounds-creases-end c = creases_held (goal.at.slice_bounds-creases-end c).After-count_edges-edges

pub slice_bounds-cage-end-2 : goal.slice_bounds-cage-end-2
slice_bounds-cage-end-2 c = sym (length-take-le _ _ (creases_held (goal.at.slice_bounds-cage-end-2 c).After-count_edges-edges))

pub write_form-requires : goal.write_form-requires
write_form-requires c =
    length-take-le _ _ (creases_held (goal.at.write_form-requires c).After-count_edges-edges) ∙ c.count_edges-edges.ensures

pub returns : goal.returns
returns c =
    let r = reads (goal.at.returns c).After-count_edges-edges in
    let there = cage_there _ _ (now r) c.read_form.new.points c.read_form.new.creases (fronts r) _ c.count_edges-edges.ensures in
    rw (← read_moves c.args.from c.args.to c.args.file.now c.args.lent.now c.in_ok-read.ensures.answer_value _ there) c.write_form.ensures

-- `clause_in` looks into the file's own tables, which are whole where it is refused by one of rules 3 to 7.
use Prim.Native.Nat.{ℕ, ◌+◌, ◌*◌, ◌≤◌}
use mathlib.Core.Path.{◌≡◌, sym, ap, ◌∙◌}
use mathlib.Core.List.{List}
use native.Mathlib.Omega.{arith}
use lib.ListN.{length, take, length-replicate}
use lib.Seq.{length-take-le}
use Rattle.laws.specs.Parts.{in_front}
use Rattle.laws.proofs.Parts.{length-in_front}
use Rattle.laws.proofs.InFront.{taken_in_front}
use Rattle.halfedges.specs.Cage.{most_halfedges}
use Rattle.halfedges.specs.Refusals.{refused}
use Rattle.tables.specs.Tables.{tables}
use Rattle.filechecks.specs.Contents.{HIn, twins_in, verts_in, edges_in, cage_in}
use Rattle.filechecks.proofs.Lengths.{twins-length, verts_length, edges_length}
use Rattle.intake.specs.Intake.{check_file}
use Rattle.intake.proofs.Outcomes.{unread}
use Rattle.explainer.proofs.Stops.{file_whole}
use Rattle.explainer.proofs.Outcomes.{found_there, clause_there, vertices_there}
use Rattle.explainer.proofs.explaining.clause_in.Goals as goal
use Rattle.explainer.proofs.explaining.clause_in.Goals.{After-copy_tables, After-halfedges_in-halfedges, Start}

-- the file, which is whole
module _ (s : Start) where
  abbrev file : List ℕ
  file = s.args.file.now

  number : (check_file file).verdict.number ≡ (refused s.args.refusal).number
  number = ap (λ w. w.number) (sym s.requires.told)

  whole : (HIn file ≤ most_halfedges) × (18 + 6 * HIn file ≤ length file)
  whole = file_whole file (omega (arith, number, s.requires.of_rules.0)) (omega (arith, number, s.requires.of_rules.1))

-- the tables once they are copied
module _ (h : After-halfedges_in-halfedges) where
  abbrev copied : After-copy_tables
  copied = (goal.at.After-halfedges_in-halfedges h).After-copy_tables

  abbrev named : Start
  named = (goal.at.After-copy_tables copied).Start

  H : h.halfedges_in-halfedges.result ≡ HIn (file named)
  H = h.halfedges_in-halfedges.ensures.0

  -- a table has the limit's length, and the file's cells at its front
  filled : (now cells : List ℕ) → now ≡ in_front cells unread → length cells ≡ HIn (file named) → (h.halfedges_in-halfedges.result ≤ length now) × (take h.halfedges_in-halfedges.result now ≡ cells)
  filled now cells e l =
      let zeros = length-replicate {A = ℕ} most_halfedges 0 in
      let long = ap length e ∙ length-in_front cells unread (omega (arith, l, (whole named).0, zeros)) ∙ zeros in
      (omega (arith, long, H, (whole named).0), taken_in_front cells unread e (H ∙ sym l))

  twin_filled : (h.halfedges_in-halfedges.result ≤ length copied.copy_tables.new.twin) × (take h.halfedges_in-halfedges.result copied.copy_tables.new.twin ≡ twins_in (file named))
  twin_filled = filled _ _ copied.copy_tables.ensures.0 (twins-length (file named))

  vert_filled : (h.halfedges_in-halfedges.result ≤ length copied.copy_tables.new.vert) × (take h.halfedges_in-halfedges.result copied.copy_tables.new.vert ≡ verts_in (file named))
  vert_filled = filled _ _ copied.copy_tables.ensures.1 (verts_length (file named))

  edge_filled : (h.halfedges_in-halfedges.result ≤ length copied.copy_tables.new.edge) × (take h.halfedges_in-halfedges.result copied.copy_tables.new.edge ≡ edges_in (file named))
  edge_filled = filled _ _ copied.copy_tables.ensures.2 (edges_length (file named))

  there : tables (take h.halfedges_in-halfedges.result copied.copy_tables.new.twin) (take h.halfedges_in-halfedges.result copied.copy_tables.new.vert) (take h.halfedges_in-halfedges.result copied.copy_tables.new.edge) ≡ (cage_in (file named)).connectivity
  unfolding cage_in
  there = λ i. tables (twin_filled.1 i) (vert_filled.1 i) (edge_filled.1 i)

pub copy_tables-requires : goal.copy_tables-requires
copy_tables-requires c = let w = whole (goal.at.copy_tables-requires c).Start in (w.1, w.0, w.0, w.0)

pub halfedges_in-halfedges-requires : goal.halfedges_in-halfedges-requires
halfedges_in-halfedges-requires c = omega (arith, (whole (goal.at.halfedges_in-halfedges-requires c).Start).1)

pub vertices_in-vertices-requires : goal.vertices_in-vertices-requires
vertices_in-vertices-requires c = omega (arith, (whole (named c)).1)

pub slice_bounds-twin-end : goal.slice_bounds-twin-end
slice_bounds-twin-end c = (twin_filled (goal.at.slice_bounds-twin-end c).After-halfedges_in-halfedges).0

pub slice_bounds-tables-end : goal.slice_bounds-tables-end
slice_bounds-tables-end c = sym (length-take-le _ _ (twin_filled (goal.at.slice_bounds-tables-end c).After-halfedges_in-halfedges).0)

pub slice_bounds-vert-end : goal.slice_bounds-vert-end
slice_bounds-vert-end c = (vert_filled (goal.at.slice_bounds-vert-end c).After-halfedges_in-halfedges).0

pub slice_bounds-tables-end-2 : goal.slice_bounds-tables-end-2
slice_bounds-tables-end-2 c = sym (length-take-le _ _ (vert_filled (goal.at.slice_bounds-tables-end-2 c).After-halfedges_in-halfedges).0)

pub slice_bounds-edge-end : goal.slice_bounds-edge-end
slice_bounds-edge-end c = (edge_filled (goal.at.slice_bounds-edge-end c).After-halfedges_in-halfedges).0

pub slice_bounds-tables-end-3 : goal.slice_bounds-tables-end-3
slice_bounds-tables-end-3 c = sym (length-take-le _ _ (edge_filled (goal.at.slice_bounds-tables-end-3 c).After-halfedges_in-halfedges).0)

pub clause_at-requires : goal.clause_at-requires
clause_at-requires c =
    let h = (goal.at.clause_at-requires c).After-halfedges_in-halfedges in
    found_there (file (named h)) _ _ _ (there h) (c.vertices_in-vertices.ensures.0 ∙ vertices_there (file (named h))) (named h).requires.told

pub returns : goal.returns
returns c =
    let h = (goal.at.returns c).After-halfedges_in-halfedges in
    c.clause_at.ensures.value
    ∙ clause_there (file (named h)) _ _ _ (there h) (c.vertices_in-vertices.ensures.0 ∙ vertices_there (file (named h))) (named h).requires.told

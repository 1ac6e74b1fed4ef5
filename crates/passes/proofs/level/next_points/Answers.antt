-- `next_points` runs the four passes; each finds what it asks in what the one before left, and `passed` says what the last leaves.
use Prim.Native.Nat.{ℕ, ◌*◌, ◌≤◌, ◌<◌}
use mathlib.Core.Path.{◌≡◌, sym, ap, ◌∙◌, subst}
use mathlib.Core.Logic.{◌≢◌}
use mathlib.Core.List.{List}
use lib.IntN.{ℤ}
use lib.ListN.{length}
use Rattle.laws.specs.Internal.Steps.{steps}
use Rattle.tables.specs.Tables.{Tables, held}
use Rattle.points.specs.Internal.Relied.{Fourfold}
use Rattle.spokes.specs.Internal.Sums.{Gathers}
use Rattle.spokes.specs.Internal.Spokes.{gathered}
use Rattle.spokes.specs.Internal.Vertices.{SettlesAt, settle}
use Rattle.edgepoints.specs.Internal.Edges.{Edged, Started, put_edge}
use Rattle.passes.proofs.Passed.{after_clear, after_gather, after_settle, gathers, settles, writes, passed}
use Rattle.passes.proofs.level.next_points.Goals as goal
use Rattle.passes.proofs.level.next_points.Goals.{After-clear_sums, After-gather, After-settle_vertices, Start}

module _ (s : Start) where
  abbrev own : List ℕ
  own = s.args.own.now

  abbrev n : ℕ
  n = s.args.level.counts.vertices

  abbrev c· : Tables
  c· = held s.args.tables.now

  abbrev l : List ℤ
  l = s.args.points.now

-- the table after each pass
abbrev start : After-clear_sums → Start
start a = (goal.at.After-clear_sums a).Start

is_cleared : (a : After-clear_sums) → a.clear_sums.new.points ≡ after_clear (start a).args.weight (own (start a)) (start a).args.level.before (start a).args.level.counts (c· (start a)) (l (start a)) (start a).requires
is_cleared a = a.clear_sums.ensures

is_gathered : (a : After-gather) → let s = start (goal.at.After-gather a).After-clear_sums in a.gather.new.points ≡ after_gather s.args.weight (own s) s.args.level.before s.args.level.counts (c· s) (l s) s.requires
is_gathered a =
    let s = start (goal.at.After-gather a).After-clear_sums in
    a.gather.ensures ∙ ap (gathered s.args.tables.now.vert.now (n s) s.args.level.before) (is_cleared (goal.at.After-gather a).After-clear_sums)

is_settled : (a : After-settle_vertices) → let s = start (goal.at.After-settle_vertices a).After-clear_sums in a.settle_vertices.new.points ≡ after_settle s.args.weight (own s) s.args.level.before s.args.level.counts (c· s) (l s) s.requires
is_settled a =
    let s = start (goal.at.After-settle_vertices a).After-clear_sums in
    a.settle_vertices.ensures ∙ ap (steps (3 * n s) (settle s.args.weight (own s) (n s))) (is_gathered (goal.at.After-settle_vertices a).After-gather)

pub gather-requires : goal.gather-requires
gather-requires c =
    let s = start (goal.at.gather-requires c).After-clear_sums in
    subst (λ q. Gathers s.args.tables.now.vert.now (n s) q × (s.args.level.before ≢ 0 → Fourfold s.args.level.before s.args.tables.now.vert.now)) (sym (is_cleared (goal.at.gather-requires c).After-clear_sums)) (gathers s.args.weight _ _ _ (c· s) (l s) s.requires)

pub settle_vertices-requires : goal.settle_vertices-requires
settle_vertices-requires c =
    let s = start (goal.at.settle_vertices-requires c).After-clear_sums in
    subst (λ q. (length (own s) ≤ n s) × (6 * n s ≤ length q) × ((i : ℕ) → i < 3 * n s → SettlesAt (own s) (n s) i q)) (sym (is_gathered (goal.at.settle_vertices-requires c).After-gather)) (settles s.args.weight _ _ _ (c· s) (l s) s.requires)

pub write_edges-requires : goal.write_edges-requires
write_edges-requires c =
    let s = start (goal.at.write_edges-requires c).After-clear_sums in
    subst (λ q. Edged s.args.tables.now.twin.now s.args.tables.now.vert.now s.args.tables.now.edge.now (n s) q × ((h : ℕ) → h < length s.args.tables.now.vert.now → Started s.args.tables.now.twin.now s.args.tables.now.edge.now (n s) h (steps h (put_edge s.args.tables.now.twin.now s.args.tables.now.vert.now s.args.tables.now.edge.now (n s) q) q))) (sym (is_settled (goal.at.write_edges-requires c).After-settle_vertices)) (writes s.args.weight _ _ _ (c· s) (l s) s.requires)

pub returns : goal.returns
returns c =
    let s = start (goal.at.returns c).After-clear_sums in
    c.write_edges.ensures
    ∙ ap (λ q. steps (length s.args.tables.now.vert.now) (put_edge s.args.tables.now.twin.now s.args.tables.now.vert.now s.args.tables.now.edge.now (n s) q) q) (is_settled (goal.at.returns c).After-settle_vertices)
    ∙ passed s.args.weight _ _ _ (c· s) (l s) s.requires

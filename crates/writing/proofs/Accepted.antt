-- A cage that the checks accept fits the file (`accepted_fits`), also by those with creases (`creased_kept`) and by those of either form
-- (`checked_fits`), and where writing is done there is room besides (`write_fits`). Assumes nothing.
use Prim.Native.Nat.{ℕ, ◌%◌, ◌≤◌, ◌<◌}
use mathlib.Core.Path.{◌≡◌, refl, ◌∙◌}
use mathlib.Core.Logic.{◌⊎◌, inl, inr}
use mathlib.Core.Bool.{false, not, ◌||◌}
use mathlib.Core.List.{List, [], ◌∷◌}
use native.Mathlib.Omega.{arith}
use lib.Dec.{eqb}
use lib.IntN.{ℤ}
use lib.ListN.{length}
use borrow.Author.Tests.{eqb-true, eqb-false, leb-false, ltb-false, not-false}
use Rattle.laws.proofs.Tests.{or_false, or_false₃, by-test}
use Rattle.halfedges.specs.Cage.{E, marker, cell, border}
use Rattle.halfedges.specs.Refusals.{DONE, SHAPE, LIMIT, TWIN, VERTEX, UNUSED, EDGE, FAN, POINT, given, given_at, short, first}
use Rattle.halfedges.specs.Counts.{above_limit}
use Rattle.halfedges.proofs.Checks.{first_more, done_both, done_passes, done_nowhere}
use Rattle.halfedges.proofs.Questions.{limits_kept}
use Rattle.tables.specs.Tables.{Tables}
use Rattle.tables.specs.Rules.{misshapen, bad_twin, bad_vertex, unused, bad_edge}
use Rattle.tables.specs.Fans.{not_one_fan}
use Rattle.tables.specs.Check.{placing, rules}
use Rattle.tables.proofs.EdgeCount.{edges_at_most}
use Rattle.creases.specs.Creases.{misshapen_creases}
use Rattle.creases.specs.Check.{length_check, crease_check, creased_rules}
use Rattle.points.specs.Operations.{vertices, out_of_range, cage_checks, creased_checks}
use Rattle.cagefile.specs.declared.fields.Form.{Form}
use Rattle.cagefile.specs.declared.fields.Form.TheVariants.{One, Two}
use Rattle.cagefile.specs.Fields.{Cage, file}
use Rattle.cagefile.proofs.Fits.{Fits, Numbered}
use Rattle.writing.specs.Writing.{write_checks, write_verdict}

module _ (c : Tables) (v : ℕ) (h : ℕ) where
  twin_kept : bad_twin c.twin h ≡ false → (cell c.twin h ≡ marker) ⊎ (cell c.twin h < length c.twin)
  unfolding bad_twin
  twin_kept e =
      by-test (border c.twin h) (λ t. inl (eqb-true _ _ t)) (λ f. inr (leb-false _ _ (or_false _ _ (or_false _ _ (rw f at e)).0).0))

  vertex_kept : bad_vertex c.twin c.vert v h ≡ false → cell c.vert h < v
  unfolding bad_vertex
  vertex_kept e = leb-false _ _ (or_false _ _ (or_false _ _ e).0).0

  edge_kept : bad_edge c.twin c.edge (E c.twin) h ≡ false → cell c.edge h < length c.twin
  unfolding bad_edge
  edge_kept e =
      let l : cell c.edge h < E c.twin = leb-false _ _ (or_false _ _ (or_false _ _ e).0).0 in
      omega (arith, edges_at_most c.twin)

pub accepted_fits : (c : Tables) (points : List ℤ) → first (cage_checks c points 0) ≡ DONE → Fits c points
unfolding cage_checks rules misshapen out_of_range
accepted_fits c points e =
    let H = length c.twin in
    let v = vertices points in
    let shape = done_passes _ _ _ refl e in
    let limits = done_passes _ _ _ refl shape.1 in
    let twins = done_nowhere H (bad_twin c.twin) TWIN _ (λ _. refl) limits.1 in
    let verts = done_nowhere H (bad_vertex c.twin c.vert v) VERTEX _ (λ _. refl) twins.1 in
    let used = done_nowhere v (unused c.vert) UNUSED _ (λ _. refl) verts.1 in
    let edges = done_nowhere H (bad_edge c.twin c.edge (E c.twin)) EDGE _ (λ _. refl) used.1 in
    let fans = done_nowhere v (not_one_fan c.twin c.vert) FAN _ (λ _. refl) edges.1 in
    let range = done_nowhere (length points) (out_of_range points) POINT _ (λ _. refl) fans.1 in
    let few = limits_kept H v 0 limits.0 in
    let all = or_false _ _ shape.0 in
    let tables = or_false₃ _ _ _ all.0 in
    let halfedges = or_false _ _ tables.0 in
    let evert : length c.vert ≡ H = eqb-true _ _ (not-false _ tables.1) in
    let eedge : length c.edge ≡ H = eqb-true _ _ (not-false _ tables.2) in
    record {
      shaped = record { vert = evert; edge = eedge; threes = eqb-true _ _ (not-false _ all.1) };
      some = eqb-false _ _ halfedges.0;
      triangles = eqb-true _ _ (not-false _ halfedges.1);
      few_halfedges = few.0;
      few_vertices = few.1;
      twins = λ h l. twin_kept c v h (twins.0 h l);
      verts = λ h l. vertex_kept c v h (verts.0 h (rw evert at l));
      edges = λ h l. edge_kept c v h (edges.0 h (rw eedge at l));
      coordinates = λ i l. ltb-false _ _ (range.0 i l);
    }

-- the rules with creases, done: so are those without, and there is a number for each edge
rules_kept : (c : Tables) (creases : List ℕ) (v : ℕ) → first (creased_rules c creases v) ≡ DONE → (first (rules c v) ≡ DONE) × (length creases ≡ E c.twin)
unfolding creased_rules rules misshapen_creases
rules_kept c creases v e =
    let three = done_both (given_at (length c.twin) (bad_twin c.twin) TWIN ∷ []) _ e in
    let long = done_both (length_check c creases) _ three.1 in
    let placed = done_both (placing c v) _ long.1 in
    let numbers = done_both (crease_check c creases) _ placed.1 in (
      first_more (given_at (length c.twin) (bad_twin c.twin) TWIN ∷ []) _ three.0 ∙ first_more (placing c v) _ placed.0 ∙ numbers.1,
      eqb-true _ _ (not-false _ (done_passes (misshapen_creases c.twin creases) SHAPE _ refl long.0).0),
    )

pub creased_kept : (c : Tables) (creases : List ℕ) (points : List ℤ) → first (creased_checks c creases points 0) ≡ DONE → (first (cage_checks c points 0) ≡ DONE) × (length creases ≡ E c.twin)
unfolding creased_checks cage_checks
creased_kept c creases points e =
    let start = given (misshapen c || not (eqb (length points % 3) 0)) SHAPE ∷ given (above_limit (length c.twin) (vertices points) 0) LIMIT ∷ [] in
    let begun = done_both start _ e in
    let ruled = done_both (creased_rules c creases (vertices points)) _ begun.1 in
    let kept = rules_kept c creases (vertices points) ruled.0 in
    (first_more start _ begun.0 ∙ first_more (rules c (vertices points)) _ kept.0 ∙ ruled.1, kept.1)

-- what writing checks of a cage in either form leaves
pub checked_fits : (form : Form) (w : Cage) → first (write_checks form w) ≡ DONE → Fits w.connectivity w.points × Numbered form w
unfolding write_checks
checked_fits One w e = (accepted_fits w.connectivity w.points e, tt)
checked_fits Two w e = let kept = creased_kept w.connectivity w.creases w.points e in (accepted_fits w.connectivity w.points kept.0, kept.1)

-- where writing is done, the cage fits and its file has room
pub write_fits : (form : Form) (w : Cage) (lent : List ℕ) → write_verdict form w lent ≡ DONE → Fits w.connectivity w.points × Numbered form w × (length (file form w) ≤ length lent)
unfolding write_verdict short
write_fits form w lent e =
    let d = done_both (write_checks form w) _ e in
    let fits = checked_fits form w d.0 in
    (fits.0, fits.1, ltb-false _ _ (done_passes _ _ _ refl d.1).0)

-- One halfedge is answered as the refined tables hold it: `as_refined`. Assumes nothing.
use Prim.Native.Nat.{ℕ, suc, ◌+◌, ◌≤◌, ◌<◌}
use mathlib.Core.Path.{◌≡◌, sym, ap, ◌∙◌}
use mathlib.Core.Bool.{false}
use mathlib.Core.List.{List}
use native.Mathlib.Nat.{one-mul}
use native.Mathlib.Omega.{arith}
use lib.IntN.{ℤ}
use lib.ListN.{length}
use borrow.Author.Tests.{le-ltb}
use Rattle.laws.specs.Below.{end_to_end, sum}
use Rattle.laws.specs.Parts.{in_front}
use Rattle.laws.specs.Internal.Parts.{part}
use Rattle.laws.proofs.EndToEnd.{own_part}
use Rattle.laws.proofs.Parts.{part_at}
use Rattle.halfedges.specs.declared.table.HalfedgeTable.{HalfedgeTable}
use Rattle.halfedges.specs.Cage.{most_halfedges, most_vertices, most_depth, cell}
use Rattle.halfedges.specs.Refusals.{DONE, first}
use Rattle.halfedges.specs.Counts.{counts_at, Hs, above_limit}
use Rattle.halfedges.proofs.Questions.{limits_kept}
use Rattle.tables.specs.Tables.{Tables, counts_of}
use Rattle.tables.specs.Check.{table_checks}
use Rattle.tables.proofs.Accepted.{whole_meaning}
use Rattle.splitting.specs.NextLevel.{level}
use Rattle.splitting.specs.Internal.InPlace.{Sound}
use Rattle.splitting.proofs.Soundness.{sound_at}
use Rattle.levels.specs.Refining.{levels_end_to_end}
use Rattle.levels.specs.Internal.Filling.{tables_in_front}
use Rattle.levels.proofs.Granted.{granted}
use Rattle.points.specs.declared.weights.Weight.{Weight}
use Rattle.points.specs.Operations.{vertices, refine_verdict}
use Rattle.refining.proofs.Refined.{tables_done, both_done, refine_done}
use Rattle.climbing.specs.declared.rows.Cells.{Cells}
use Rattle.climbing.specs.Halfedge.{cells_of}
use Rattle.climbing.proofs.Outcomes.{question_done}
use Rattle.picked.specs.Picked.{AsRefined}

-- limits that are kept at a depth are kept at a lower one
within : (n v depth d : ℕ) → d ≤ depth → above_limit n v depth ≡ false → above_limit n v d ≡ false
unfolding above_limit
within n v depth d l e =
    let k = limits_kept n v depth e in
    simp (le-ltb most_halfedges n k.0, le-ltb most_vertices v k.1, le-ltb most_depth d (omega arith))

-- where a level's cell stands among the levels, in front of a table
stands : (f : ℕ → List ℕ) (g : ℕ → ℕ) → ((k : ℕ) → length (f k) ≡ g k) → (n : ℕ) (rest : List ℕ) (d h : ℕ) → d < n → h < g d → cell (in_front (end_to_end n f) rest) (sum d g + h) ≡ cell (f d) h
stands f g long n rest d h l m =
    let table = in_front (end_to_end n f) rest in
    let own : part table (sum d g) (g d) ≡ f d = rw (one-mul, one-mul) at (own_part 1 f g n rest (λ k _. long k ∙ sym (one-mul (g k))) d l) in
    sym (part_at table (sum d g) (g d) h 0 m) ∙ ap (λ xs. cell xs h) own

module _ (w : Weight) (c : Tables) (creases : List ℕ) (points : List ℤ) (depth : ℕ) (x : Tables) (xp : List ℤ) (xc : List ℕ) (e : refine_verdict w c creases points depth x xp xc ≡ DONE) where
  abbrev t : HalfedgeTable
  t = counts_of c (vertices points)

  checked : first (table_checks c (vertices points) depth) ≡ DONE
  checked = tables_done w c creases points depth (both_done w c creases points depth x xp xc e).0

  sound : (d : ℕ) → Sound (counts_at t d) (level t c d)
  sound = sound_at t c (granted c (vertices points) depth checked).sound

  module _ (d h : ℕ) (l : d ≤ depth) (m : h < Hs t d) where
    checked_there : first (table_checks c (vertices points) d) ≡ DONE
    checked_there =
        let k = (whole_meaning c (vertices points) depth).0 checked in
        (whole_meaning c (vertices points) d).1 (k.0, within (length c.twin) (vertices points) depth d l k.1, k.2)

    held : cells_of (tables_in_front (levels_end_to_end t c depth) x) (sum d (Hs t) + h) ≡ cells_of (level t c d) h
    unfolding tables_in_front levels_end_to_end
    held =
        λ i.
        record {
          twin = stands (λ k. (level t c k).twin) (Hs t) (λ k. (sound k).twin_long) (suc depth) x.twin d h (omega arith) m i;
          vert = stands (λ k. (level t c k).vert) (Hs t) (λ k. (sound k).vert_long) (suc depth) x.vert d h (omega arith) m i;
          edge = stands (λ k. (level t c k).edge) (Hs t) (λ k. (sound k).edge_long) (suc depth) x.edge d h (omega arith) m i;
        }

pub as_refined : AsRefined
as_refined w c creases points depth x xp xc e d h l m =
    question_done c (vertices points) d h (checked_there w c creases points depth x xp xc e d h l m) m
    ∙ ap (λ (y : Cells). record { verdict = DONE; values = y })
    (sym (held w c creases points depth x xp xc e d h l m)
    ∙ ap (λ y. cells_of y (sum d (Hs (counts_of c (vertices points))) + h)) (refine_done w c creases points depth x xp xc e).1)

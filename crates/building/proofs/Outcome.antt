-- What building answers and leaves: where a check is given (`build_refused`), and where it is done (`limits`, `writable`,
-- `build_done`). Assumes nothing.
use Prim.Native.Nat.{ℕ, ◌≤◌}
use mathlib.Core.Path.{◌≡◌, refl, ap, ◌∙◌}
use mathlib.Core.List.{List}
use lib.IntN.{ℤ}
use lib.ListN.{length, replicate}
use borrow.Author.Tests.{ne_eqb, ltb-false}
use Rattle.laws.specs.Parts.{in_front}
use Rattle.halfedges.specs.declared.refusal.Refusal.{Refusal}
use Rattle.halfedges.specs.Cage.{most_halfedges, most_vertices}
use Rattle.halfedges.specs.Refusals.{DONE, SHAPE, LIMIT, ROOM, refused, short, first, said, filled}
use Rattle.halfedges.proofs.Checks.{done_both, done_passes}
use Rattle.halfedges.proofs.Questions.{limits_kept}
use Rattle.halfedges.proofs.Told.{refused_number}
use Rattle.tables.specs.Check.{returned}
use Rattle.points.specs.Operations.{vertices}
use Rattle.triangles.specs.Plain.{twin_table, edge_table}
use Rattle.triangles.proofs.Opposite.{twins_long, twins_paired}
use Rattle.building.specs.Building.{build_checks, build_verdict, build_cage}
use Rattle.building.specs.Internal.Relied.{Writable}
use Rattle.building.proofs.Passed.{done_undoubled}

module _ (vert : List ℕ) (points : List ℤ) (x y : List ℕ) where
  module _ (d : build_verdict vert points x y ≡ DONE) where
    checks_done : first (build_checks vert points) ≡ DONE
    unfolding build_verdict
    checks_done = (done_both (build_checks vert points) _ d).0

    pub limits : (length vert ≤ most_halfedges) × (vertices points ≤ most_vertices)
    unfolding build_checks
    limits = let k = limits_kept (length vert) (vertices points) 0 (done_passes _ LIMIT _ refl (done_passes _ SHAPE _ refl checks_done).1).0 in (k.0, k.1)

    roomy : (length vert ≤ length x) × (length vert ≤ length y)
    unfolding build_verdict short
    roomy =
        let t = done_passes _ (ROOM 1) _ refl (done_both (build_checks vert points) _ d).1 in
        let e = done_passes _ (ROOM 3) _ refl t.1 in
        (ltb-false _ _ t.0, ltb-false _ _ e.0)

    -- with TWIN as the code has it
    module _ {twin : List ℕ} (b : twin ≡ twin_table vert) where
      long : length twin ≡ length vert
      long = ap length b ∙ twins_long vert

      pub writable : Writable twin x y
      writable =
          record {
            paired = rw b (twins_paired vert (done_undoubled vert points checks_done));
            few = rw long limits.0;
            twin_room = rw long roomy.0;
            edge_room = rw long roomy.1;
          }

      pub build_done : {k : List ℕ} {t e : List ℕ} → k ≡ returned twin (vertices points) → t ≡ in_front twin x → e ≡ in_front (edge_table twin) y → (record { verdict = DONE; values = k } ≡ (build_cage vert points x y).answer) × (t ≡ (build_cage vert points x y).twin) × (e ≡ (build_cage vert points x y).edge)
      unfolding build_cage said filled
      build_done p q r = rw (p, q, r, b, d) (refl, refl, refl)

  -- a refusal tells the verdict
  pub build_refused :
      (r : Refusal)
      → refused r ≡ build_verdict vert points x y
      → (record { verdict = refused r; values = replicate 5 0 } ≡ (build_cage vert points x y).answer)
      × (x ≡ (build_cage vert points x y).twin)
      × (y ≡ (build_cage vert points x y).edge)
  unfolding build_cage said filled
  build_refused r e = rw (← e, ne_eqb (refused r).number 0 (refused_number r)) (refl, refl, refl)

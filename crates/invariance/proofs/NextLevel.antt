-- One level to the next, `step`: what the tables of the next level keep of the tables before. Assumes nothing.
use Prim.Native.Nat.{ℕ, ◌+◌, ◌*◌, ◌/◌, ◌%◌, ◌≤◌, ◌<◌}
use mathlib.Core.Path.{◌≡◌, refl, sym, ap, ◌∙◌}
use native.Mathlib.Nat.{mul-mod_right}
use native.Mathlib.Omega.{arith}
use Rattle.halfedges.specs.Cage.{E, B}
use Rattle.tables.specs.Tables.{Tables}
use Rattle.tables.specs.Ruled.{Shaped, Ruled}
use Rattle.invariance.specs.Invariance.{corners_at, OnBorder, Added}
use Rattle.invariance.proofs.Refinable.{H, finer, Refinable, length-twins, length_verts, length_edges}
use Rattle.invariance.proofs.NextTwins.{next_paired, next_borders, next_edges_lem}
use Rattle.invariance.proofs.NextVertices.{next_placed, next_used}
use Rattle.invariance.proofs.NextEdges.{next-numbered}
use Rattle.invariance.proofs.NextFans.{next_fanned}
use Rattle.invariance.proofs.NextCorners.{old_corners, was_on_border, still_on_border, new_vertex}

-- from tables c with v vertices to the next level's n with w
pub record Step (c : Tables) (v : ℕ) (n : Tables) (w : ℕ) : Type 0 where
  pub shaped : Shaped n
  pub ruled : Ruled n w
  pub halfedges : H n ≡ 4 * H c
  pub edges : E n.twin ≡ 2 * E c.twin + H c
  pub vertices : w ≡ v + E c.twin
  pub borders : B n.twin ≡ 2 * B c.twin
  pub old_corners : (u : ℕ) → u < v → corners_at n u ≡ corners_at c u
  pub was_on_border : (u : ℕ) → u < v → OnBorder n u → OnBorder c u
  pub still_on_border : (u : ℕ) → OnBorder c u → OnBorder n u
  pub new_vertex : (u : ℕ) → v ≤ u → u < w → Added n u

still_whole : (n : ℕ) → n % 3 ≡ 0 → 4 * n % 3 ≡ 0
still_whole n e = ap (λ x. x % 3) (let i : 4 * n ≡ 3 * (4 * (n / 3)) = omega arith in i) ∙ mul-mod_right 3 (4 * (n / 3))

pub step : {c : Tables} {v : ℕ} → Refinable c v → Step c v (finer c v) (v + E c.twin)
step {c} {v} q =
    record {
      shaped =
          record {
            some = rw (length-twins q) (omega (arith, q.shaped.some));
            whole = rw (length-twins q) (still_whole (H c) q.shaped.whole);
            vert_long = length_verts q ∙ sym (length-twins q);
            edge_long = length_edges q ∙ sym (length-twins q);
          };
      ruled = record { paired = next_paired q; placed = next_placed q; used = next_used q; numbered = next-numbered q; fanned = next_fanned q };
      halfedges = length-twins q;
      edges = next_edges_lem q;
      vertices = refl;
      borders = next_borders q;
      old_corners = old_corners q;
      was_on_border = was_on_border q;
      still_on_border = still_on_border q;
      new_vertex = new_vertex q;
    }

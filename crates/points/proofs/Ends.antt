-- Sums over a vertex's spokes and creases, halfedge by halfedge. Assumes nothing.
--     spoke_sum, spokes_are, spokes_at_most       the spokes' far ends: their sum, and how large it is
--     crease_sum, creases_are, creases_at_most    the same of the ends of creases
--     corners-counted, creases_counted           how many there are
--     tally_lists                                the corners as a tally has them
--     far_below                                  a halfedge ends at a vertex
use Prim.Native.Nat.{ℕ, ◌+◌, ◌*◌, ◌≤◌, ◌<◌}
use mathlib.Core.Path.{◌≡◌, sym, ap, ◌∙◌}
use mathlib.Core.List.{List, map, map-append, map-map}
use native.Mathlib.Omega.{arith}
use lib.IntN.{ℤ, nat_abs, ◌+ℤ◌}
use lib.ListN.{length, take, length-append, length-map}
use lib.Seq.{get_or-take, length-take-le, ext_get_or}
use Rattle.laws.specs.Below.{tabulate, count, select}
use Rattle.laws.proofs.Integers.{nat_abs_add}
use Rattle.laws.proofs.Select.{length-select}
use Rattle.laws.proofs.Tabulate.{length-tabulate, get_d_tabulate}
use Rattle.halfedges.specs.Cage.{NEXT, cell}
use Rattle.tables.specs.Tables.{Tables, leaves}
use Rattle.tables.specs.Internal.Tally.{Tallied}
use Rattle.points.specs.NextPoints.{coordinate, corners, far, spoke_ends, crease_ends}
use Rattle.laws.specs.Totals.{total}
use Rattle.points.specs.Internal.Relied.{Cornered, border_ends, crease_leaves}
use Rattle.halfedges.proofs.Triangle.{next_below}
use Rattle.laws.proofs.Totals.{total-append, scan, scan_at_most}

-- coordinate k, summed over the far ends of v's spokes among the halfedges below n
abbrev pub spoke_sum : List ℕ → List ℤ → ℕ → ℕ → ℕ → ℤ
spoke_sum vert points k v = scan (λ h. coordinate points k (far vert h)) (leaves vert v)

-- coordinate k, summed over the far ends of v's creases among the halfedges below n: of those that leave v, and of border edges that end there
abbrev pub leaving_sum : Tables → List ℕ → List ℤ → ℕ → ℕ → ℕ → ℤ
leaving_sum c creases points k v = scan (λ h. coordinate points k (far c.vert h)) (crease_leaves c creases v)

abbrev pub ending_sum : List ℕ → List ℕ → List ℤ → ℕ → ℕ → ℕ → ℤ
ending_sum twin vert points k v = scan (λ h. coordinate points k (cell vert h)) (border_ends twin vert v)

abbrev pub crease_sum : Tables → List ℕ → List ℤ → ℕ → ℕ → ℕ → ℤ
crease_sum c creases points k v n = leaving_sum c creases points k v n +ℤ ending_sum c.twin c.vert points k v n

module _ (vert : List ℕ) (v : ℕ) where
  pub corners-counted : length (corners vert v) ≡ count (length vert) (leaves vert v)
  unfolding corners
  corners-counted = length-select (leaves vert v) (length vert)

  module _ (points : List ℤ) (k : ℕ) where
    pub spokes_are : total (map (coordinate points k) (spoke_ends vert v)) ≡ spoke_sum vert points k v (length vert)
    unfolding spoke_ends corners
    spokes_are = ap total (map-map (coordinate points k) (far vert) (select (length vert) (leaves vert v)))

    pub spokes_at_most : (m : ℕ) → ((u : ℕ) → nat_abs (coordinate points k u) ≤ m) → (n : ℕ) → nat_abs (spoke_sum vert points k v n) ≤ m * count n (leaves vert v)
    spokes_at_most m small = scan_at_most (λ h. coordinate points k (far vert h)) (leaves vert v) m (λ h. small (far vert h))

module _ (c : Tables) (creases : List ℕ) (v : ℕ) where
  abbrev leaving : List ℕ
  leaving = select (length c.vert) (crease_leaves c creases v)

  abbrev ending : List ℕ
  ending = select (length c.vert) (border_ends c.twin c.vert v)

  pub creases_counted : length (crease_ends c creases v) ≡ count (length c.vert) (crease_leaves c creases v) + count (length c.vert) (border_ends c.twin c.vert v)
  unfolding crease_ends
  creases_counted =
      simp (length-append, length-map, length-select (crease_leaves c creases v) (length c.vert), length-select (border_ends c.twin c.vert v) (length c.vert))

  module _ (points : List ℤ) (k : ℕ) where
    pub creases_are : total (map (coordinate points k) (crease_ends c creases v)) ≡ crease_sum c creases points k v (length c.vert)
    unfolding crease_ends
    creases_are =
        ap total (map-append (coordinate points k) (map (far c.vert) leaving) (map (cell c.vert) ending))
        ∙ total-append (map (coordinate points k) (map (far c.vert) leaving)) (map (coordinate points k) (map (cell c.vert) ending))
        ∙ ap (λ xs. total xs +ℤ total (map (coordinate points k) (map (cell c.vert) ending))) (map-map (coordinate points k) (far c.vert) leaving)
        ∙ ap (λ xs. leaving_sum c creases points k v (length c.vert) +ℤ total xs) (map-map (coordinate points k) (cell c.vert) ending)

    pub creases_at_most : (m : ℕ) → ((u : ℕ) → nat_abs (coordinate points k u) ≤ m) → (n : ℕ) → nat_abs (crease_sum c creases points k v n) ≤ m * count n (crease_leaves c creases v) + m * count n (border_ends c.twin c.vert v)
    creases_at_most m small n =
        omega (
          arith,
          scan_at_most (λ h. coordinate points k (far c.vert h)) (crease_leaves c creases v) m (λ h. small (far c.vert h)) n,
          scan_at_most (λ h. coordinate points k (cell c.vert h)) (border_ends c.twin c.vert v) m (λ h. small (cell c.vert h)) n,
          nat_abs_add (leaving_sum c creases points k v n) (ending_sum c.twin c.vert points k v n),
        )

-- the corners of the first v vertices, listed by a tally
pub tally_lists : (vert : List ℕ) (v : ℕ) (tally : List ℕ) → v ≤ length tally → Tallied vert (length vert) tally → take v tally ≡ tabulate v (λ u. length (corners vert u))
tally_lists vert v tally l tallied =
    let long : length (take v tally) ≡ v = length-take-le v tally l in
    ext_get_or 0 (take v tally) (tabulate v (λ u. length (corners vert u))) (long ∙ sym (length-tabulate v (λ u. length (corners vert u))))
    (λ i b.
    let li : i < v = rw long at b in
    get_or-take v tally i 0 li ∙ tallied.each i (omega arith) ∙ sym (corners-counted vert i) ∙ sym (get_d_tabulate v (λ u. length (corners vert u)) i 0 li))

pub far_below : (vert : List ℕ) (n : ℕ) → Cornered vert n → (h : ℕ) → h < length vert → far vert h < n
far_below vert n cornered h l = cornered.below (NEXT h) (next_below cornered.whole l)

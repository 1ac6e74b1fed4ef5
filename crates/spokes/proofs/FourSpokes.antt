-- What the pass over the spokes above the cage leaves: `fours_only`, `fours_sum`; and that no step wraps, `fours_adds`. Assumes
-- nothing.
use Prim.Native.Nat.{ℕ, zero, suc, ◌+◌, ◌*◌, ◌/◌, ◌≤◌, ◌<◌}
use mathlib.Core.Path.{◌≡◌, refl, sym, ap, ap₂, ◌∙◌}
use mathlib.Core.Bool.{cond}
use mathlib.Core.List.{List}
use native.Mathlib.Nat.{le_refl}
use native.Mathlib.Omega.{arith}
use lib.IntN.{ℤ, nat_abs, ◌+ℤ◌, +ℤ_idl, +ℤ_idr, +ℤ_assoc}
use lib.ListN.{length}
use Rattle.laws.specs.Below.{count}
use Rattle.laws.specs.Internal.Steps.{steps}
use Rattle.laws.proofs.Integers.{nat_abs_add, add_swap}
use Rattle.laws.proofs.Select.{count_grows}
use Rattle.laws.proofs.Sums.{sum_split}
use Rattle.laws.proofs.Totals.{scan_at_most, sum_below, sum_below_split, added-total, scan_below}
use Rattle.halfedges.specs.Cage.{cell}
use Rattle.tables.specs.Tables.{leaves}
use Rattle.points.specs.NextPoints.{coordinate, far}
use Rattle.points.specs.Operations.{most_coordinate, InRange}
use Rattle.points.specs.Internal.Relied.{most_corners, Cornered, Fourfold}
use Rattle.points.specs.Internal.Cells.{value}
use Rattle.points.proofs.Ends.{spoke_sum, corners-counted}
use Rattle.points.proofs.Range.{any_in_range}
use Rattle.points.proofs.Only.{Only, only_steps}
use Rattle.points.proofs.Holding.{Holds, holds_on}
use Rattle.spokes.specs.Internal.Sums.{Laid, Cleared}
use Rattle.spokes.specs.Internal.Fours.{Inside, AddsFour, four_of, four_spokes}
use Rattle.spokes.proofs.Added.{laid_on}
use Rattle.spokes.proofs.FourAdded.{add_four_only, add_four-sum}
use Rattle.spokes.proofs.Twelve.{brought, twelve_spokes, group}

module _ (vert : List ℕ) (n : ℕ) (cornered : Cornered vert n) (before : ℕ) (four : Fourfold before vert) where
  inside : (g : ℕ) → g < before / 3 → Inside n (four_of vert g)
  inside g lg = record { in_u = below 0 (omega arith) (omega arith); in_v = below 3 (omega arith) refl; in_w = below 6 (omega arith) refl; in_a = below 1 (omega arith) refl; in_b = below 4 (omega arith) refl; in_c = below 7 (omega arith) refl }
    where
      below : (i : ℕ) {h : ℕ} → i < 9 → h ≡ 9 * g + i → cell vert h < n
      below i li e = cornered.below _ (omega (arith, e, four.long, four.whole))

  step_only : (g : ℕ) → g < before / 3 → (m : List ℤ) → Only (3 * n) (6 * n) m (four_spokes vert n g m)
  unfolding four_spokes
  step_only g lg m = add_four_only n m (four_of vert g) (inside g lg)

  pub fours_only : (l : List ℤ) (i : ℕ) → i ≤ before / 3 → Only (3 * n) (6 * n) l (steps i (four_spokes vert n) l)
  fours_only l = only_steps (3 * n) (6 * n) (before / 3) (four_spokes vert n) l (λ g lg m _. step_only g lg m)

  module _ (l : List ℤ) (room : 6 * n ≤ length l) (points : List ℤ) (holds : Holds n points l) where
    module _ (x k : ℕ) (lx : x < n) (lk : k < 3) where
      abbrev cell_of : ℕ
      cell_of = 3 * n + 3 * x + k

      abbrev bring : ℕ → ℤ
      bring = brought vert before four points x k

      -- the sums after i triangles of the level before: over their corner triangles, and over their middle ones
      abbrev so_far : ℕ → ℤ
      so_far i = sum_below (9 * i) bring +ℤ sum_below (3 * i) (λ j. bring (3 * before + j))

      fours_step : (i : ℕ) → i ≤ before / 3 → value (steps i (four_spokes vert n) l) cell_of ≡ value l cell_of +ℤ so_far i
      unfolding steps four_spokes
      fours_step zero b = sym (+ℤ_idr _)
      fours_step (suc i) b =
          let m = steps i (four_spokes vert n) l in
          let only = fours_only l i (omega arith) in
          let nine-more : 9 * suc i ≡ 9 * i + 9 = omega arith in
          let three-more : 3 * suc i ≡ 3 * i + 3 = omega arith in
          let S = sum_below (9 * i) bring in
          let M = sum_below (3 * i) (λ j. bring (3 * before + j)) in
          let N = sum_below 9 (λ j. bring (9 * i + j)) in
          let K = sum_below 3 (λ j. bring (3 * before + (3 * i + j))) in
          add_four-sum n m (four_of vert i) (inside i b) (rw only.long room) points (holds_on (le_refl _) holds only) x k lk
          ∙ added-total (value m cell_of) (twelve_spokes vert before four points x k i b)
          ∙ ap₂ ◌+ℤ◌ (fours_step i (omega arith)) (sym (group vert before four points x k i b))
          ∙ +ℤ_assoc (value l cell_of) (S +ℤ M) (N +ℤ K)
          ∙ ap (λ z. value l cell_of +ℤ z) (add_swap S M N K)
          ∙ ap (λ z. value l cell_of +ℤ z) (sym (ap₂ ◌+ℤ◌ (ap (λ j. sum_below j bring) nine-more ∙ sum_below_split (9 * i) 9 bring) (ap (λ j. sum_below j (λ j. bring (3 * before + j))) three-more ∙ sum_below_split (3 * i) 3 (λ j. bring (3 * before + j)))))

      pub fours_sum : value (steps (before / 3) (four_spokes vert n) l) cell_of ≡ value l cell_of +ℤ spoke_sum vert points k x (length vert)
      fours_sum =
          let nine-all : 9 * (before / 3) ≡ 3 * before = omega (arith, four.whole) in
          let three-all : 3 * (before / 3) ≡ before = omega (arith, four.whole) in
          let all : 3 * before + before ≡ length vert = omega (arith, four.long) in
          fours_step (before / 3) (le_refl _)
          ∙ ap (λ z. value l cell_of +ℤ z)
          (ap₂ (λ i j. sum_below i bring +ℤ sum_below j (λ j. bring (3 * before + j))) nine-all three-all
          ∙ sym (sum_below_split (3 * before) before bring)
          ∙ ap (λ j. sum_below j bring) all
          ∙ sym (scan_below (λ h. coordinate points k (far vert h)) (leaves vert x) (length vert)))

      so_far_small : InRange points → (i : ℕ) → i ≤ before / 3 → nat_abs (so_far i) ≤ most_coordinate * most_corners
      so_far_small range i b =
          let f : ℕ → ℤ = λ h. coordinate points k (far vert h) in
          let p = leaves vert x in
          let small : (u : ℕ) → nat_abs (coordinate points k u) ≤ most_coordinate = λ u. any_in_range points range (3 * u + k) in
          let corners = rw (scan_below f p (9 * i)) at (scan_at_most f p most_coordinate (λ h. small (far vert h)) (9 * i)) in
          let middles = rw (scan_below (λ j. f (3 * before + j)) (λ j. p (3 * before + j)) (3 * i)) at (scan_at_most (λ j. f (3 * before + j)) (λ j. p (3 * before + j)) most_coordinate (λ j. small (far vert (3 * before + j))) (3 * i)) in
          let all : 3 * before + before ≡ length vert = omega (arith, four.long) in
          let parts : count (length vert) (leaves vert x) ≡ count (3 * before) (leaves vert x) + count before (λ j. leaves vert x (3 * before + j)) = sym (ap (λ m. count m (leaves vert x)) all) ∙ sum_split (3 * before) before (λ h. cond (leaves vert x h) 1 0) in
          omega (
            arith,
            corners,
            middles,
            nat_abs_add (sum_below (9 * i) bring) (sum_below (3 * i) (λ j. bring (3 * before + j))),
            parts,
            count_grows p (9 * i) (3 * before) (omega (arith, four.whole)),
            count_grows (λ j. p (3 * before + j)) (3 * i) before (omega (arith, four.whole)),
            corners-counted vert x,
            cornered.few x lx,
          )

    pub fours_adds : Laid n l → InRange points → Cleared n l → (g : ℕ) → g < before / 3 → AddsFour n (four_of vert g) (steps g (four_spokes vert n) l)
    fours_adds laid range cleared g lg =
        let laid-now : Laid n (steps g (four_spokes vert n) l) = laid_on laid (fours_only l g (omega arith)) in
        record {
          inside = inside g lg;
          laid = laid-now;
          within = record {
            room = laid-now.room;
            sums = λ x k lx lk.
                let e : 3 * n + (3 * x + k) ≡ 3 * n + 3 * x + k = omega arith in
                rw (fours_step x k lx lk g (omega arith), ← e, cleared (3 * x + k) (omega arith), +ℤ_idl) (so_far_small x k lx lk range g (omega arith));
          };
        }

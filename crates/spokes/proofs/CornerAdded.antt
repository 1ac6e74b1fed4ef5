-- Adding the spokes of one corner of four triangles. Assumes nothing.
--     sum_of_is, sum_small                      three points' sum
--     adds_within, adds_second, corner_within  no sum wraps, and how large the sums are after it
--     corner_on                                its turn, with points that were read
--     corner_only, corner-sum                  what it leaves in every cell
use Prim.Native.Nat.{ℕ, ◌+◌, ◌*◌, ◌^◌, ◌≤◌, ◌<◌}
use mathlib.Core.Path.{◌≡◌, refl, ap, ◌∙◌}
use mathlib.Core.Bool.{cond}
use mathlib.Core.List.{List, [], ◌∷◌}
use native.Mathlib.Omega.{arith}
use lib.Dec.{eqb}
use lib.IntN.{ℤ, pos, nat_abs, ◌+ℤ◌}
use lib.ListN.{length}
use Rattle.laws.proofs.Cases.{cond_keeps}
use Rattle.laws.proofs.Integers.{nat_abs_add}
use Rattle.laws.proofs.Totals.{added, bracket, cond_three}
use Rattle.points.specs.NextPoints.{coordinate, point_of}
use Rattle.points.specs.Operations.{most_coordinate}
use Rattle.points.specs.Internal.Cells.{value}
use Rattle.points.proofs.Only.{Only, three, only_on, only_wider}
use Rattle.points.proofs.Holding.{Holds, point_of_is}
use Rattle.spokes.specs.Internal.Sums.{add_to, AddsTo}
use Rattle.spokes.specs.Internal.Fours.{NearThree, sum_at, sum_of, Within, add_corner, add_corner_of}
use Rattle.spokes.proofs.Added.{add_to_only, add_to-sum}

-- coordinate k of three points' sum, and its size
module _ (p q r : List ℤ) (k : ℕ) (lk : k < 3) where
  pub sum_of_is : value (sum_of p q r) k ≡ sum_at p q r k
  sum_of_is = three (λ k. value (sum_of p q r) k ≡ sum_at p q r k) refl refl refl k lk

  pub sum_small : NearThree p q r → nat_abs (value (sum_of p q r) k) ≤ most_coordinate * 3
  sum_small near =
      rw sum_of_is
      (omega (arith, nat_abs_add (value p k) (value q k), nat_abs_add (value p k +ℤ value q k) (value r k), near.first k lk, near.second k lk, near.third k lk))

-- a point with coordinates of at most `more` can be added where the sums are small, and they grow by no more
module _ (n v most more : ℕ) (p l : List ℤ) (lv : v < n) (small : (k : ℕ) → k < 3 → nat_abs (value p k) ≤ more) (within : Within n most l) where
  pub adds_within : most + more < 2 ^ 31 → AddsTo n v p l
  adds_within fits = record { below = lv; room = within.room; fits = λ k lk. omega (arith, within.sums v k lv lk, small k lk) }

  pub within_on : Within n (most + more) (add_to n v p l)
  within_on =
      record {
        room = rw (add_to_only n v p l).long within.room;
        sums = λ x k lx lk.
            let c : nat_abs (cond (eqb v x) (value p k) (pos 0)) ≤ more = cond_keeps (λ z. nat_abs z ≤ more) (eqb v x) (λ _. small k lk) (λ _. omega arith) in
            rw (add_to-sum n v p l (omega (arith, within.room)) x k lk)
            (omega (arith, within.sums x k lx lk, nat_abs_add (value l (3 * n + 3 * x + k)) (cond (eqb v x) (value p k) (pos 0))));
      }

pub within_more : {n most : ℕ} {l : List ℤ} (more : ℕ) → most ≤ more → Within n most l → Within n more l
within_more more b within = record { room = within.room; sums = λ x k lx lk. omega (arith, within.sums x k lx lk) }

-- a corner's spokes
module _ (n x before most : ℕ) (p q r l : List ℤ) (lx : x < n) (lb : before < n) (near : NearThree p q r) (within : Within n most l) where
  within_first : Within n (most + most_coordinate) (add_to n x q l)
  within_first = within_on n x most most_coordinate q l lx near.second within

  pub adds_second : most + most_coordinate * 4 < 2 ^ 31 → AddsTo n before (sum_of p q r) (add_to n x q l)
  adds_second fits =
      adds_within n before (most + most_coordinate) (most_coordinate * 3) (sum_of p q r) (add_to n x q l) lb (λ k lk. sum_small p q r k lk near) within_first (omega arith)

  pub corner_within : Within n (most + most_coordinate * 4) (add_corner n x before p q r l)
  unfolding add_corner
  corner_within =
      within_more (most + most_coordinate * 4) (omega arith)
      (within_on n before (most + most_coordinate) (most_coordinate * 3) (sum_of p q r) (add_to n x q l) lb (λ k lk. sum_small p q r k lk near) within_first)

-- a corner's turn, with points that were read and a table that is known
pub corner_on : (n x before : ℕ) {p q r m p' q' r' m' z : List ℤ} → p ≡ p' → q ≡ q' → r ≡ r' → m ≡ m' → z ≡ add_corner n x before p q r m → z ≡ add_corner n x before p' q' r' m'
corner_on n x before ep eq er em e = e ∙ rw (ep, eq, er, em)

-- what they leave
module _ (n : ℕ) (l : List ℤ) (x after across before : ℕ) where
  wider : {v : ℕ} {m k : List ℤ} → v < n → Only (3 * n + 3 * v) (3 * n + 3 * v + 3) m k → Only (3 * n) (6 * n) m k
  wider lv only = only_wider (3 * n) (6 * n) (omega arith) (omega arith) only

  pub corner_only : x < n → before < n → (m : List ℤ) → Only (3 * n) (6 * n) m (add_corner_of n l x after across before m)
  unfolding add_corner
  corner_only lx lb m =
      only_on (wider lx (add_to_only n x (point_of l after) m))
      (wider lb (add_to_only n before (sum_of (point_of l x) (point_of l after) (point_of l across)) (add_to n x (point_of l after) m)))

-- what a spoke from x to z brings to vertex y in coordinate k, and what a corner's four do
module _ (points : List ℤ) (y k : ℕ) where
  abbrev pub brings : ℕ → ℕ → ℤ
  brings x z = cond (eqb x y) (coordinate points k z) (pos 0)

  abbrev pub four : ℕ → ℕ → ℕ → ℕ → List ℤ
  four x after across before = brings x after ∷ brings before x ∷ brings before after ∷ brings before across ∷ []

module _ (n : ℕ) (l : List ℤ) (room : 6 * n ≤ length l) (points : List ℤ) (holds : Holds n points l) (y k : ℕ) (lk : k < 3) where
  abbrev at : ℕ
  at = 3 * n + 3 * y + k

  abbrev to : ℕ → ℕ → ℤ
  to = brings points y k

  point_is : (z : ℕ) → z < n → value (point_of l z) k ≡ coordinate points k z
  point_is z lz = point_of_is l z k lk ∙ holds.same z k lz lk

  pub corner-sum : (x after across before : ℕ) → x < n → after < n → across < n → before < n → (m : List ℤ) → length m ≡ length l → value (add_corner_of n l x after across before m) at ≡ added (value m at) (four points y k x after across before)
  unfolding add_corner
  corner-sum x after across before lx la lr lb m e =
      let p = point_of l x in
      let q = point_of l after in
      let r = point_of l across in
      let own = add_to n x q m in
      let long : length (add_to n x (point_of l after) m) ≡ length l = (add_to_only n x q m).long ∙ e in
      add_to-sum n before (sum_of p q r) own (rw long (omega arith)) y k lk
      ∙ ap (λ z. value own at +ℤ z)
      (ap (λ z. cond (eqb before y) z (pos 0)) (sum_of_is p q r k lk)
      ∙ cond_three (eqb before y) (value p k) (value q k) (value r k)
      ∙ rw (point_is x lx, point_is after la, point_is across lr))
      ∙ bracket (value own at) (to before x) (to before after) (to before across)
      ∙ ap (λ z. added z (to before x ∷ to before after ∷ to before across ∷ []))
      (add_to-sum n x q m (rw e (omega arith)) y k lk ∙ ap (λ z. value m at +ℤ cond (eqb x y) z (pos 0)) (point_is after la))

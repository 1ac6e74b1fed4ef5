-- Adding the spokes of four triangles, corner by corner: what each turn asks, `adds_u`, `adds_v`, `adds_w`, and what all leave in every
-- cell, `add_four_only`, `add_four-sum`. Assumes nothing.
use Prim.Native.Nat.{ℕ, ◌+◌, ◌*◌, ◌≤◌, ◌<◌}
use mathlib.Core.Path.{◌≡◌, refl, ap, ◌∙◌}
use mathlib.Core.List.{List, ◌++◌}
use native.Mathlib.Omega.{arith}
use lib.IntN.{ℤ}
use lib.ListN.{length, take}
use Rattle.laws.proofs.Totals.{added}
use Rattle.points.specs.Operations.{most_coordinate}
use Rattle.points.specs.Internal.Relied.{most_corners}
use Rattle.points.specs.NextPoints.{point_of}
use Rattle.points.specs.Internal.Cells.{value, Near}
use Rattle.points.proofs.Only.{Only, only_on}
use Rattle.points.proofs.Range.{any_in_range}
use Rattle.points.proofs.Holding.{Holds, holds_own, near_of}
use Rattle.spokes.specs.declared.fours.Four.{Four}
use Rattle.spokes.specs.Internal.Fours.{NearThree, Within, AddsCorner, add_corner_of, add_four, Inside, AddsFour}
use Rattle.spokes.proofs.CornerAdded.{within_more, corner_within, corner_only, four, corner-sum}

-- the table after one corner's spokes, and after two corners'
module _ (n : ℕ) (f : Four) (l : List ℤ) where
  abbrev pub one : List ℤ
  one = add_corner_of n l f.u f.a f.b f.c l

  abbrev pub two : List ℤ
  two = add_corner_of n l f.v f.b f.c f.a one

-- what each corner's turn asks
module _ (n : ℕ) (f : Four) (l : List ℤ) (adds : AddsFour n f l) where
  near_at : (x : ℕ) → x < n → Near (point_of l x)
  near_at x lx = near_of l x (λ k lk. rw ((holds_own n l).same x k lx lk) (any_in_range (take (3 * n) l) adds.laid.in_range (3 * x + k)))

  near_three : (x y z : ℕ) → x < n → y < n → z < n → NearThree (point_of l x) (point_of l y) (point_of l z)
  near_three x y z lx ly lz = record { first = near_at x lx; second = near_at y ly; third = near_at z lz }

  asks : (x after across before : ℕ) → x < n → after < n → across < n → before < n → {most : ℕ} {p q r m m' : List ℤ} → p ≡ point_of l x → q ≡ point_of l after → r ≡ point_of l across → m ≡ m' → most ≤ most_coordinate * most_corners + most_coordinate * 8 → Within n most m' → AddsCorner n x before p q r m
  asks x after across before lx la lr lb ep eq er em small within =
      rw (ep, eq, er, em) (record { in_x = lx; in_before = lb; near = near_three x after across lx la lr; within = within_more _ small within })

  abbrev inside : Inside n f
  inside = adds.inside

  pub adds_u : {p q r : List ℤ} → p ≡ point_of l f.u → q ≡ point_of l f.a → r ≡ point_of l f.b → AddsCorner n f.u f.c p q r l
  adds_u ep eq er =
      asks f.u f.a f.b f.c inside.in_u inside.in_a inside.in_b inside.in_c ep eq er refl (omega arith) adds.within

  within_one : Within n (most_coordinate * most_corners + most_coordinate * 4) (one n f l)
  within_one =
      corner_within n f.u f.c (most_coordinate * most_corners) (point_of l f.u) (point_of l f.a) (point_of l f.b) l inside.in_u inside.in_c (near_three f.u f.a f.b inside.in_u inside.in_a inside.in_b) adds.within

  pub adds_v : {p q r m : List ℤ} → p ≡ point_of l f.v → q ≡ point_of l f.b → r ≡ point_of l f.c → m ≡ one n f l → AddsCorner n f.v f.a p q r m
  adds_v ep eq er em =
      asks f.v f.b f.c f.a inside.in_v inside.in_b inside.in_c inside.in_a ep eq er em (omega arith) within_one

  within_two : Within n (most_coordinate * most_corners + most_coordinate * 4 + most_coordinate * 4) (two n f l)
  within_two =
      corner_within n f.v f.a (most_coordinate * most_corners + most_coordinate * 4) (point_of l f.v) (point_of l f.b) (point_of l f.c) (one n f l) inside.in_v inside.in_a (near_three f.v f.b f.c inside.in_v inside.in_b inside.in_c) within_one

  pub adds_w : {p q r m : List ℤ} → p ≡ point_of l f.w → q ≡ point_of l f.c → r ≡ point_of l f.a → m ≡ two n f l → AddsCorner n f.w f.b p q r m
  adds_w ep eq er em =
      asks f.w f.c f.a f.b inside.in_w inside.in_c inside.in_a inside.in_b ep eq er em (omega arith) within_two

-- what the spokes leave
module _ (n : ℕ) (l : List ℤ) (f : Four) (inside : Inside n f) where
  one_only : Only (3 * n) (6 * n) l (one n f l)
  one_only = corner_only n l f.u f.a f.b f.c inside.in_u inside.in_c l

  two_only : Only (3 * n) (6 * n) l (two n f l)
  two_only = only_on one_only (corner_only n l f.v f.b f.c f.a inside.in_v inside.in_a (one n f l))

  pub add_four_only : Only (3 * n) (6 * n) l (add_four n f l)
  unfolding add_four
  add_four_only = only_on two_only (corner_only n l f.w f.c f.a f.b inside.in_w inside.in_b (two n f l))

  module _ (room : 6 * n ≤ length l) (points : List ℤ) (holds : Holds n points l) (y k : ℕ) (lk : k < 3) where
    abbrev at : ℕ
    at = 3 * n + 3 * y + k

    -- the spokes of each corner
    abbrev of_u : List ℤ
    of_u = four points y k f.u f.a f.b f.c

    abbrev of_v : List ℤ
    of_v = four points y k f.v f.b f.c f.a

    abbrev of_w : List ℤ
    of_w = four points y k f.w f.c f.a f.b

    pub add_four-sum : value (add_four n f l) at ≡ added (value l at) (of_u ++ of_v ++ of_w)
    unfolding add_four
    add_four-sum =
        let turn = corner-sum n l room points holds y k lk in
        turn f.w f.c f.a f.b inside.in_w inside.in_c inside.in_a inside.in_b (two n f l) two_only.long
        ∙ ap (λ z. added z of_w)
        (turn f.v f.b f.c f.a inside.in_v inside.in_b inside.in_c inside.in_a (one n f l) one_only.long
        ∙ ap (λ z. added z of_v)
        (turn f.u f.a f.b f.c inside.in_u inside.in_a inside.in_b inside.in_c l refl))

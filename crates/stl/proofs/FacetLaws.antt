-- Facets, as floats and as bytes. Assumes nothing.
--     unit_kept, point_floats, facet_floats   the floats of a point and of a facet
--     facet_numbers, facet_bytes_lem        a facet's floats are numbers, and have the definition's bytes
--     triangle_placed, filled_as        the corners of a triangle
--     five_written                      a facet's five parts
--     facet_written                     one more facet
--     head-written, file-written        the head, and the whole file
--     head-length, file-length          how long they are
use Prim.Native.Nat.{ℕ, zero, suc, ◌+◌, ◌-◌, ◌*◌, ◌≤◌, ◌<◌}
use mathlib.Core.Path.{◌≡◌, refl, sym, subst, ap, ap₂, ◌∙◌}
use mathlib.Core.List.{List, [], ◌∷◌, ◌++◌, map, flat_map, append_assoc}
use native.Mathlib.Nat.{add-zero, mul-suc, lt_of_le_of_lt}
use native.Mathlib.Numerals.{add-one}
use native.Mathlib.Omega.{arith}
use lib.Dec.{lit<, lit≤}
use lib.IntN.{ℤ, pos, nat_abs}
use lib.ListN.{length, get_or, replicate, length-append}
use mir.Syntax.{w32}
use mir.Val.{to_z, of_z}
use mir.ValLaws.{to_z-of_z}
use borrow.Rule.Slice.PartMut.{put_mid, mid_of}
use lib.Ieee.{Float, nan, binary32, of_bits}
use Rattle.laws.specs.Below.{end_to_end}
use Rattle.laws.specs.Parts.{in_front}
use Rattle.laws.specs.Internal.Parts.{splice}
use Rattle.laws.proofs.Integers.{small_fits}
use Rattle.laws.proofs.Splice.{over_more, splice-part}
use Rattle.halfedges.specs.Cage.{F, cell}
use Rattle.halfedges.specs.Corners.{corners}
use Rattle.points.specs.NextPoints.{point_of}
use Rattle.points.specs.Operations.{most_coordinate}
use Rattle.cagefile.specs.Numbers.{u16, u32}
use Rattle.floats.specs.Floats.{size_bits, float_bits, float_of}
use Rattle.stl.specs.declared.facets.Facet.{Facet}
use Rattle.stl.specs.File.{facet_units, unit_bytes, facet_bytes, facet_at, stl_head, stl_file}
use Rattle.stl.specs.Internal.Facets.{floats, float_bytes, Numbers, Filled, Ranged, Placed, Drawn}
use Rattle.floats.proofs.Exact.{float_bits_lem, float_number}

-- ---- floats and units

zero_float : of_bits binary32 0 ≡ float_of (pos 0)
unfolding float_of float_bits size_bits
zero_float = refl

zero_ranged : nat_abs (pos 0) ≤ most_coordinate
zero_ranged = lit≤ tt

none_ranged : Ranged []
none_ranged = record { at = λ i. zero_ranged }

one_more : {z : ℤ} {zs : List ℤ} → nat_abs z ≤ most_coordinate → Ranged zs → Ranged (z ∷ zs)
one_more {z} {zs} n r = record { at = by }
  where
    by : (i : ℕ) → nat_abs (get_or (z ∷ zs) i (pos 0)) ≤ most_coordinate
    by zero = n
    by (suc i) = r.at i

rest_ranged : {z : ℤ} {zs : List ℤ} → Ranged (z ∷ zs) → Ranged zs
rest_ranged n = record { at = λ i. n.at (suc i) }

point_ranged : (points : List ℤ) → Ranged points → (v : ℕ) (zs : List ℤ) → Ranged zs → Ranged (point_of points v ++ zs)
point_ranged points r v zs n =
    one_more (r.at (3 * v + 0)) (one_more (r.at (3 * v + 1)) (one_more (r.at (3 * v + 2)) n))

facet_ranged : (points : List ℤ) (c : List ℕ) → Ranged points → Ranged (facet_units points c)
facet_ranged points c r =
    one_more zero_ranged (one_more zero_ranged (one_more zero_ranged
    (point_ranged points r (cell c 0) _ (point_ranged points r (cell c 1) _ (point_ranged points r (cell c 2) _ none_ranged)))))

-- a coordinate in range is read back from its bits
pub unit_kept : (points : List ℤ) → Ranged points → (i : ℕ) → to_z w32 (of_z w32 (get_or points i (pos 0))) ≡ get_or points i (pos 0)
unit_kept points ranged i = to_z-of_z w32 _ (small_fits w32 _ (lt_of_le_of_lt (ranged.at i) (lit< tt)))

pub point_floats : (points : List ℤ) → Ranged points → (v : ℕ) {x y z : Float}
    → x ≡ float_of (to_z w32 (of_z w32 (get_or points (3 * v) (pos 0))))
    → y ≡ float_of (to_z w32 (of_z w32 (get_or points (3 * v + 1) (pos 0))))
    → z ≡ float_of (to_z w32 (of_z w32 (get_or points (3 * v + 2) (pos 0))))
    → x ∷ y ∷ z ∷ [] ≡ map float_of (point_of points v)
point_floats points ranged v e f g =
    rw (e, f, g, unit_kept points ranged (3 * v), unit_kept points ranged (3 * v + 1), unit_kept points ranged (3 * v + 2), add-zero (3 * v))

pub facet_floats : (points : List ℤ) (c : List ℕ) {x y z : List Float}
    → x ≡ map float_of (point_of points (cell c 0)) → y ≡ map float_of (point_of points (cell c 1)) → z ≡ map float_of (point_of points (cell c 2))
    → of_bits binary32 0 ∷ of_bits binary32 0 ∷ of_bits binary32 0
    ∷ get_or x 0 nan ∷ get_or x 1 nan ∷ get_or x 2 nan
    ∷ get_or y 0 nan ∷ get_or y 1 nan ∷ get_or y 2 nan
    ∷ get_or z 0 nan ∷ get_or z 1 nan ∷ get_or z 2 nan ∷ []
    ≡ map float_of (facet_units points c)
facet_floats points c e f g = rw (e, f, g, zero_float)

numbers_of : (zs : List ℤ) → Ranged zs → Numbers (map float_of zs)
numbers_of [] n i = float_number (pos 0) zero_ranged
numbers_of (z ∷ zs) n zero = float_number z (n.at 0)
numbers_of (z ∷ zs) n (suc i) = numbers_of zs (rest_ranged n) i

bytes_of : (zs : List ℤ) → Ranged zs → flat_map float_bytes (map float_of zs) ≡ flat_map unit_bytes zs
unfolding flat_map float_bytes unit_bytes
bytes_of [] n = refl
bytes_of (z ∷ zs) n = ap₂ (λ b bs. u32 b ++ bs) (float_bits_lem z (n.at 0)) (bytes_of zs (rest_ranged n))

-- a facet's floats are numbers, and its bytes are the definition's
module _ {points : List ℤ} (ranged : Ranged points) {c : List ℕ} {f : Facet} (e : Filled points c f) where
  pub facet_numbers : Numbers (floats f)
  facet_numbers = subst (λ xs. Numbers xs) (sym e.same) (numbers_of (facet_units points c) (facet_ranged points c ranged))

  pub facet_bytes_lem : flat_map float_bytes (floats f) ++ u16 0 ≡ facet_bytes points c
  unfolding facet_bytes
  facet_bytes_lem = ap (λ bs. bs ++ u16 0) (ap (flat_map float_bytes) e.same ∙ bytes_of (facet_units points c) (facet_ranged points c ranged))

-- each triangle's corners have their points
pub triangle_placed : (vert : List ℕ) (points : List ℤ) → Drawn vert points → {c : List ℕ} (t : ℕ) → 3 * t + 2 < length vert → c ≡ corners vert t → Placed points c
triangle_placed vert points d t l e = rw e (d.placed (3 * t) (omega arith), d.placed (3 * t + 1) (omega arith), d.placed (3 * t + 2) l)

-- the same corners
pub filled_as : {points : List ℤ} {c e : List ℕ} {f : Facet} → c ≡ e → Filled points c f → Filled points e f
filled_as p f = rw p at f

-- five lists of bytes written end to end
pub five_written : (d l₁ l₂ l₃ l₄ l₅ n x y z w : List ℕ) → length n ≡ 12 → length x ≡ 12 → length y ≡ 12 → length z ≡ 12
    → l₁ ≡ in_front n d → l₂ ≡ splice l₁ 12 x → l₃ ≡ splice l₂ 24 y → l₄ ≡ splice l₃ 36 z → l₅ ≡ splice l₄ 48 w
    → l₅ ≡ in_front (n ++ (x ++ (y ++ (z ++ w)))) d
five_written d l₁ l₂ l₃ l₄ l₅ n x y z w p q r s e₁ e₂ e₃ e₄ e₅ =
    let two = e₂ ∙ over_more d l₁ n x 12 e₁ p in
    let three = e₃ ∙ over_more d l₂ (n ++ x) y 24 two (omega (arith, length-append n x)) in
    let four = e₄ ∙ over_more d l₃ ((n ++ x) ++ y) z 36 three (omega (arith, length-append n x, length-append (n ++ x) y)) in
    let five = e₅ ∙ over_more d l₄ (((n ++ x) ++ y) ++ z) w 48 four (omega (arith, length-append n x, length-append (n ++ x) y, length-append ((n ++ x) ++ y) z)) in
    let flat : (((n ++ x) ++ y) ++ z) ++ w ≡ n ++ (x ++ (y ++ (z ++ w))) = simp append_assoc in
    five ∙ ap (λ bs. in_front bs d) flat

-- ---- lengths

facet_length : (points : List ℤ) (c : List ℕ) → length (facet_bytes points c) ≡ 50
unfolding facet_bytes flat_map unit_bytes
facet_length points c = refl

pub head-length : (count : ℕ) → length (stl_head count) ≡ 84
unfolding stl_head
head-length count = refl

module _ (vert : List ℕ) (points : List ℤ) where
  -- the facets of the first n triangles
  abbrev pub facets : ℕ → List ℕ
  facets n = end_to_end n (facet_at vert points)

  facets_length : (n : ℕ) → length (facets n) ≡ 50 * n
  facets_length zero = refl
  facets_length (suc n) =
      length-append (facets n) (facet_at vert points n)
      ∙ rw (facets_length n, facet_length points (corners vert n), mul-suc) refl

  facets_more : (d l : List ℕ) (n : ℕ) → l ≡ in_front (facets n) d → splice l (50 * n) (facet_at vert points n) ≡ in_front (facets (n + 1)) d
  facets_more d l n e = rw (add-one n) (over_more d l (facets n) (facet_at vert points n) (50 * n) e (facets_length n))

  -- a facet written over the part from its place on
  pub facet_written : (d l m x : List ℕ) (n : ℕ) → l ≡ in_front (facets n) d → m ≡ in_front x (mid_of (50 * n) (length l - 50 * n) l) → x ≡ facet_at vert points n
      → put_mid (50 * n) (length l - 50 * n) l m ≡ in_front (facets (n + 1)) d
  facet_written d l m x n e w y = rw (w, y) (splice-part l (facet_at vert points n) (50 * n) ∙ facets_more d l n e)

  pub file-length : length (stl_file vert points) ≡ 84 + 50 * F (length vert)
  unfolding stl_file
  file-length =
      let count = F (length vert) in
      omega (arith, length-append (stl_head count) (facets count), head-length count, facets_length count)

  -- the facets after the head
  pub file-written : (d g m : List ℕ) → g ≡ in_front (stl_head (F (length vert))) d → m ≡ in_front (facets (F (length vert))) (mid_of 84 (length g - 84) g)
      → put_mid 84 (length g - 84) g m ≡ in_front (stl_file vert points) d
  unfolding stl_file
  file-written d g m w x =
      let count = F (length vert) in
      rw x (splice-part g (facets count) 84 ∙ over_more d g (stl_head count) (facets count) 84 w (head-length count))

-- the count after the zeros
pub head-written : (d f : List ℕ) (count : ℕ) → f ≡ in_front (replicate 80 0) d → splice f 80 (u32 count) ≡ in_front (stl_head count) d
unfolding stl_head
head-written d f count e = over_more d f (replicate 80 0) (u32 count) 80 e refl

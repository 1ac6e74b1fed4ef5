-- Laws of cells written over a list. Assumes nothing.
--     splice_more      two splices end to end are one
--     over_more        two splices end to end are one, where the first is at the front
--     splice-part      what was written over a lent part is spliced into the whole
--     splice_one       a store is a splice
use Prim.Native.Nat.{ℕ, ◌+◌, ◌-◌, ◌≤◌, ◌<◌}
use mathlib.Core.Path.{◌≡◌, refl, sym, ap}
use mathlib.Core.List.{List, [], ◌∷◌, ◌++◌, append_assoc, append-nil}
use native.Mathlib.Nat.{le_refl}
use native.Mathlib.Numerals.{add-one}
use lib.ListN.{length, set, take, drop, length-append, length-drop, drop_of_length-le}
use lib.Seq.{set_split, length-take-le, drop-drop, take_at, drop_at, take_all, take-append-add, drop-append-add}
use borrow.Rule.Slice.PartMut.{put_mid, mid_of}
use Rattle.laws.specs.Parts.{in_front}
use Rattle.laws.specs.Internal.Parts.{splice}

module _ {A : Type 0} where
  over_splice : (l x y : List A) → splice (in_front x l) (length x) y ≡ in_front (x ++ y) l
  over_splice l x y =
      rw (take_at x (drop (length x) l) (length x) refl, drop_at x (drop (length x) l) (length x) refl, drop-drop (length y) (length x) l, length-append, append_assoc)

  pub over_more : (d l x y : List A) (k : ℕ) → l ≡ in_front x d → length x ≡ k → splice l k y ≡ in_front (x ++ y) d
  over_more d l x y k e n = rw (e, ← n) (over_splice d x y)

  pub splice_more : (d l x y : List A) (at k : ℕ) → l ≡ splice d at x → k ≡ at + length x → at ≤ length d → splice l k y ≡ splice d at (x ++ y)
  splice_more d l x y at k e n h =
      rw (e, n, seam, take-append-add (take at d) (in_front x (drop at d)) (length x), drop-append-add (take at d) (in_front x (drop at d)) (length x), append_assoc (take at d))
      (ap (λ t. take at d ++ t) (over_splice (drop at d) x y))
    where
      seam : at + length x ≡ length (take at d) + length x
      seam = ap (λ n. n + length x) (sym (length-take-le at d h))

  pub splice-part : (l x : List A) (at : ℕ) → put_mid at (length l - at) l (in_front x (mid_of at (length l - at) l)) ≡ splice l at x
  splice-part l x at = rw (whole, none) (ap (λ t. take at l ++ t) (append-nil _))
    where
      whole : take (length l - at) (drop at l) ≡ drop at l
      whole = take_all (length l - at) (drop at l) (simp length-drop (le_refl _))

      none : drop (length l - at) (drop at l) ≡ []
      none = drop_of_length-le (drop at l) {i = length l - at} (simp length-drop (le_refl _))

  pub splice_one : (l : List A) (at : ℕ) (a : A) → at < length l → set l at a ≡ splice l at (a ∷ [])
  splice_one l at a h = rw (drop-drop 1 at l, add-one) (set_split l at a h)

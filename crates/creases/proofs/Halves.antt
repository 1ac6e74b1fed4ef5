-- A level's cells in their two parts: those that come of the cage's edges, and then zeros. Assumes nothing.
--     zeros                      a table of zeros
--     halves_then_zeros          the two parts, written one after the other, are the level's cells
use Prim.Native.Nat.{ℕ, zero, suc, ◌+◌, ◌-◌, ◌*◌, ◌/◌, ◌^◌, ◌≤◌, ◌<◌}
use mathlib.Core.Path.{◌≡◌, refl, sym, ap, ap₂, ◌∙◌}
use mathlib.Core.List.{List, ◌∷◌, ◌++◌}
use native.Mathlib.Decide.{dec_lt}
use native.Mathlib.Nat.{zero-add, suc-add, div-lt_iff_lt-mul}
use native.Mathlib.Omega.{arith}
use lib.ListN.{length, replicate, length-replicate}
use lib.Pow.{pow_pos}
use borrow.Rule.Slice.PartMut.{put_mid, mid_of, mid_len, same_len_mid}
use Rattle.laws.specs.Below.{tabulate}
use Rattle.laws.specs.Internal.Parts.{splice}
use Rattle.laws.proofs.Tabulate.{length-tabulate}
use Rattle.laws.proofs.Splice.{splice_more}
use Rattle.creases.specs.Internal.Writing.{left_at, Fitting}
use Rattle.creases.proofs.Table.{past}

module _ (creases : List ℕ) (d i : ℕ) where
  past_halves : length creases * 2 ^ d ≤ i → left_at creases d i ≡ 0
  past_halves l = rw (past creases (i / 2 ^ d) (by (dec_lt (i / 2 ^ d) (length creases)))) (omega arith)
    where
      by : Dec (i / 2 ^ d < length creases) → length creases ≤ i / 2 ^ d
      by (yes k) = absurd (omega (arith, (div-lt_iff_lt-mul {k = 2 ^ d} {x = i} {y = length creases} (pow_pos d)).0 k))
      by (no k) = omega (arith, k)

pub zeros : (n : ℕ) (f : ℕ → ℕ) → ((k : ℕ) → f k ≡ 0) → tabulate n f ≡ replicate n 0
zeros zero f e = refl
zeros (suc n) f e = rw (e 0) (ap (λ l. 0 ∷ l) (zeros n (λ k. f (suc k)) (λ k. e (suc k))))

-- a table that is 0 from a place on
then_zeros : (n m : ℕ) (f : ℕ → ℕ) → ((k : ℕ) → n ≤ k → f k ≡ 0) → tabulate n f ++ replicate m 0 ≡ tabulate (n + m) f
then_zeros zero m f e = rw (zero-add m) (sym (zeros m f (λ k. e k (omega arith))))
then_zeros (suc n) m f e = rw (suc-add n m) (ap (λ l. f 0 ∷ l) (then_zeros n m (λ k. f (suc k)) (λ k l. e (suc k) (omega arith))))

-- a part that was written whole is spliced in
put-splice : (l cells : List ℕ) (a k : ℕ) → length cells ≡ k → put_mid a k l cells ≡ splice l a cells
put-splice l cells a k e = ap (λ j. put_mid a j l cells) (sym e)

module _ (creases : List ℕ) (d at edges : ℕ) (lent : List ℕ) (fit : Fitting creases d at edges lent) {n : ℕ} (e : n ≡ length creases * 2 ^ d) where
  in_two : tabulate n (left_at creases d) ++ replicate (edges - n) 0 ≡ tabulate edges (left_at creases d)
  in_two =
      let m : n + (edges - n) ≡ edges = omega (arith, fit.halves) in
      then_zeros n (edges - n) (left_at creases d) (λ k l. past_halves creases d k (omega arith)) ∙ ap (λ j. tabulate j (left_at creases d)) m

  -- the part for the halves has a cell for each
  halves_cells : length (mid_of at (at + n - at) lent) ≡ n
  halves_cells = mid_len at (at + n) lent (omega (arith, fit.room, fit.halves)) ∙ omega arith

  -- x is written to that part, and y to the one after it
  pub halves_then_zeros :
      {x y : List ℕ}
      → x ≡ tabulate (length (mid_of at (at + n - at) lent)) (left_at creases d)
      → y ≡ replicate (length (mid_of (at + n) (at + edges - (at + n)) (put_mid at (at + n - at) lent x))) 0
      → put_mid (at + n) (at + edges - (at + n)) (put_mid at (at + n - at) lent x) y ≡ splice lent at (tabulate edges (left_at creases d))
  halves_then_zeros {x} {y} p q =
      let halves : x ≡ tabulate n (left_at creases d) = p ∙ ap (λ j. tabulate j (left_at creases d)) halves_cells in
      let left : length x ≡ n = ap length halves ∙ length-tabulate n (left_at creases d) in
      let mid : List ℕ = put_mid at (at + n - at) lent x in
      let long : length (put_mid at (at + n - at) lent x) ≡ length lent = same_len_mid at (at + n - at) lent x (left ∙ sym halves_cells) in
      let rest : length (mid_of (at + n) (at + edges - (at + n)) (put_mid at (at + n - at) lent x)) ≡ edges - n = mid_len (at + n) (at + edges) mid (omega (arith, fit.room)) ∙ omega arith in
      let across : y ≡ replicate (edges - n) 0 = q ∙ ap (λ j. replicate j 0) rest in
      put-splice mid y (at + n) (at + edges - (at + n)) (ap length across ∙ length-replicate (edges - n) 0 ∙ omega arith)
      ∙ splice_more lent mid x y at (at + n) (put-splice lent x at (at + n - at) (omega (arith, left))) (omega (arith, left)) (omega (arith, fit.room))
      ∙ ap (splice lent at) (ap₂ ◌++◌ halves across ∙ in_two)

-- Mirrored points. Assumes nothing.
--     length-mirrored, mirrored_at, mirrored-coordinate    how many there are, and what each is
--     mirrored-tabulate, mirrored-end_to_end                 of lists given cell by cell, and of whole vertices end to end
--     mirrored_twice                                       the mirror image's mirror image
use Prim.Native.Nat.{ℕ, zero, suc, ◌+◌, ◌-◌, ◌*◌, ◌%◌, ◌<◌}
use mathlib.Core.Path.{◌≡◌, refl, sym, ap, ap₂, ◌∙◌}
use mathlib.Core.List.{List, [], ◌∷◌, ◌++◌}
use native.Mathlib.Decide.{dec_lt}
use native.Mathlib.Omega.{arith}
use lib.Dec.{eqb}
use lib.IntN.{ℤ, pos, negsuc}
use lib.ListN.{length, get_or, length-append, get_or-append, get_or-eq_default}
use lib.Seq.{ext_get_or, get_or-append-add}
use Rattle.laws.specs.Below.{tabulate, end_to_end}
use Rattle.laws.proofs.Tabulate.{length-tabulate, get_d_tabulate, tabulate_ext}
use Rattle.laws.proofs.EndToEnd.{length_multiples}
use Rattle.points.specs.NextPoints.{coordinate}
use Rattle.mirror.specs.Mirror.{turned, mirrored}
use Rattle.mirror.proofs.Turned.{turned_zero, turned_twice}

-- the y of two vertices
two_vertices : mirrored 1 (pos 1 ∷ pos 2 ∷ pos 3 ∷ pos 4 ∷ negsuc 4 ∷ pos 6 ∷ []) ≡ pos 1 ∷ negsuc 1 ∷ pos 3 ∷ pos 4 ∷ pos 5 ∷ pos 6 ∷ []
unfolding mirrored turned
two_vertices = refl

module _ (k : ℕ) where
  pub length-mirrored : (points : List ℤ) → length (mirrored k points) ≡ length points
  unfolding mirrored
  length-mirrored points = length-tabulate (length points) (λ i. turned (eqb (i % 3) k) (get_or points i (pos 0)))

  pub mirrored_at : (points : List ℤ) (i : ℕ) → get_or (mirrored k points) i (pos 0) ≡ turned (eqb (i % 3) k) (get_or points i (pos 0))
  unfolding mirrored
  mirrored_at points i = by (dec_lt i (length points))
    where
      by : Dec (i < length points) → get_or (mirrored k points) i (pos 0) ≡ turned (eqb (i % 3) k) (get_or points i (pos 0))
      by (yes l) = get_d_tabulate (length points) (λ i. turned (eqb (i % 3) k) (get_or points i (pos 0))) i (pos 0) l
      by (no l) =
          rw (get_or-eq_default (mirrored k points) (pos 0) {n = i} (rw (length-mirrored points) (omega (arith, l))), get_or-eq_default points (pos 0) {n = i} (omega (arith, l)))
          (sym (turned_zero (eqb (i % 3) k)))

  pub mirrored-coordinate : (points : List ℤ) (j : ℕ) → j < 3 → (u : ℕ) → coordinate (mirrored k points) j u ≡ turned (eqb j k) (coordinate points j u)
  mirrored-coordinate points j l u =
      let e : (3 * u + j) % 3 ≡ j = omega arith in
      mirrored_at points (3 * u + j) ∙ ap (λ i. turned (eqb i k) (coordinate points j u)) e

  pub mirrored-tabulate : (n : ℕ) (f : ℕ → ℤ) → mirrored k (tabulate n f) ≡ tabulate n (λ i. turned (eqb (i % 3) k) (f i))
  unfolding mirrored
  mirrored-tabulate n f =
      ap (λ m. tabulate m (λ i. turned (eqb (i % 3) k) (get_or (tabulate n f) i (pos 0)))) (length-tabulate n f)
      ∙ tabulate_ext n _ _ (λ i l. ap (turned (eqb (i % 3) k)) (get_d_tabulate n f i (pos 0) l))

  pub mirrored_twice : (points : List ℤ) → mirrored k (mirrored k points) ≡ points
  mirrored_twice points =
      ext_get_or (pos 0) (mirrored k (mirrored k points)) points (length-mirrored (mirrored k points) ∙ length-mirrored points)
      (λ i l. mirrored_at (mirrored k points) i ∙ ap (turned (eqb (i % 3) k)) (mirrored_at points i) ∙ turned_twice (eqb (i % 3) k) (get_or points i (pos 0)))

  -- behind whole vertices
  module _ (xs ys : List ℤ) (whole : length xs % 3 ≡ 0) where
    abbrev joined : List ℤ
    joined = mirrored k xs ++ mirrored k ys

    cell_in : (i : ℕ) → i < length xs → get_or (mirrored k (xs ++ ys)) i (pos 0) ≡ get_or joined i (pos 0)
    cell_in i l =
        mirrored_at (xs ++ ys) i
        ∙ ap (turned (eqb (i % 3) k)) (get_or-append xs ys (pos 0) i l)
        ∙ sym (get_or-append (mirrored k xs) (mirrored k ys) (pos 0) i (rw (length-mirrored xs) l) ∙ mirrored_at xs i)

    cell-past : (j : ℕ) → get_or (mirrored k (xs ++ ys)) (length xs + j) (pos 0) ≡ get_or joined (length xs + j) (pos 0)
    cell-past j =
        let e : (length xs + j) % 3 ≡ j % 3 = omega arith in
        mirrored_at (xs ++ ys) (length xs + j)
        ∙ ap₂ (λ m z. turned (eqb m k) z) e (get_or-append-add xs ys j (pos 0))
        ∙ sym (ap (λ n. get_or joined (n + j) (pos 0)) (sym (length-mirrored xs)) ∙ get_or-append-add (mirrored k xs) (mirrored k ys) j (pos 0) ∙ mirrored_at ys j)

    mirrored-append : mirrored k (xs ++ ys) ≡ joined
    mirrored-append =
        ext_get_or (pos 0) (mirrored k (xs ++ ys)) joined
        (rw (length-mirrored (xs ++ ys), length-append xs ys, length-append (mirrored k xs) (mirrored k ys), length-mirrored xs, length-mirrored ys))
        (λ i l. by i (dec_lt i (length xs)))
      where
        by : (i : ℕ) → Dec (i < length xs) → get_or (mirrored k (xs ++ ys)) i (pos 0) ≡ get_or (mirrored k xs ++ mirrored k ys) i (pos 0)
        by i (yes l) = cell_in i l
        by i (no l) = let e : length xs + (i - length xs) ≡ i = omega (arith, l) in rw e at (cell-past (i - length xs))

  pub mirrored-end_to_end : (f : ℕ → List ℤ) (g : ℕ → ℕ) (n : ℕ) → ((i : ℕ) → length (f i) ≡ 3 * g i) → mirrored k (end_to_end n f) ≡ end_to_end n (λ i. mirrored k (f i))
  unfolding mirrored
  mirrored-end_to_end f g zero long = refl
  mirrored-end_to_end f g (suc n) long =
      mirrored-append (end_to_end n f) (f n) (omega (arith, length_multiples 3 f g n (λ i l. long i)))
      ∙ ap (λ xs. xs ++ mirrored k (f n)) (mirrored-end_to_end f g n long)

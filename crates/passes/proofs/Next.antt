-- A table with the next level's points, cell by cell: what its cells are (`next-cell`, `next_only`), and that a table with those cells is
-- that one (`next_from`); of crease tables that read alike it is the same (`next-alike`). Assumes nothing.
use Prim.Native.Nat.{ℕ, ◌+◌, ◌-◌, ◌*◌, ◌/◌, ◌%◌, ◌≤◌, ◌<◌}
use mathlib.Core.Path.{◌≡◌, sym, ap, ◌∙◌}
use mathlib.Core.List.{List, ◌++◌}
use native.Mathlib.Decide.{dec_lt}
use native.Mathlib.Nat.{zero-add}
use native.Mathlib.Omega.{arith}
use lib.IntN.{ℤ, pos}
use lib.ListN.{length, take, drop, length-append, length-drop, get_or-append}
use lib.Seq.{length-take-le, get_or-take, get_or-drop, get_or-append-add}
use Rattle.laws.proofs.Middles.{splice_ext}
use Rattle.laws.proofs.Tabulate.{length-tabulate, get_d_tabulate}
use Rattle.halfedges.specs.declared.table.HalfedgeTable.{HalfedgeTable}
use Rattle.halfedges.specs.Cage.{cell}
use Rattle.tables.specs.Tables.{Tables}
use Rattle.points.specs.declared.weights.Weight.{Weight}
use Rattle.points.specs.NextPoints.{new_point, next_points}
use Rattle.points.specs.Internal.Cells.{value}
use Rattle.points.proofs.Alike.{points_alike}
use Rattle.points.proofs.Only.{Only}
use Rattle.passes.specs.Internal.Levels.{next_end, with_next}

pub next-alike : (w : Weight) (t : HalfedgeTable) (c : Tables) (a b : List ℕ) → ((e : ℕ) → cell a e ≡ cell b e) → (at : ℕ) (l : List ℤ) → with_next w t c a at l ≡ with_next w t c b at l
unfolding with_next
next-alike w t c a b same at l = rw (points_alike w t c a b same (take (3 * t.vertices) (drop at l)))

module _ (w : Weight) (t : HalfedgeTable) (c : Tables) (creases : List ℕ) (l : List ℤ) (room : next_end t 0 ≤ length l) where
  abbrev n : ℕ
  n = t.vertices

  abbrev points : List ℤ
  points = take (3 * n) l

  abbrev next : List ℤ
  next = next_points w t c creases points

  abbrev rest : List ℤ
  rest = drop (next_end t 0) l

  next_long : length next ≡ 3 * (n + t.edges)
  unfolding next_points
  next_long = length-tabulate (3 * (n + t.edges)) (λ i. new_point w t c creases points (i / 3) (i % 3))

  next_is : (i : ℕ) → i < 3 * (n + t.edges) → value next i ≡ new_point w t c creases points (i / 3) (i % 3)
  unfolding next_points
  next_is i b = get_d_tabulate (3 * (n + t.edges)) (λ j. new_point w t c creases points (j / 3) (j % 3)) i (pos 0) b

  pub next_from : {m : List ℤ} → Only (3 * n) (6 * n + 3 * t.edges) l m → ((u k : ℕ) → u < n + t.edges → k < 3 → value m (3 * n + (3 * u + k)) ≡ new_point w t c creases points u k) → m ≡ with_next w t c creases 0 l
  unfolding with_next
  next_from {m} only new =
      rw (zero-add (3 * n))
      (splice_ext (pos 0) l m next (3 * n) only.long (rw next_long (omega (arith, room)))
      (λ i b. only.other i (λ p q. omega arith))
      (λ i b. inside i (rw next_long at b))
      (λ i b. let c : 3 * n + 3 * (n + t.edges) ≤ i = rw next_long at b in only.other i (λ p q. omega arith))
      ∙ ap (λ k. take (3 * n) l ++ (next ++ drop (3 * n + k) l)) next_long)
    where
      inside : (i : ℕ) → i < 3 * (n + t.edges) → value m (3 * n + i) ≡ value next i
      inside i b =
          let e : 3 * (i / 3) + i % 3 ≡ i = omega arith in
          (rw e at (new (i / 3) (i % 3) (omega arith) (omega arith))) ∙ sym (next_is i b)

  -- before the next level's cells, in them and past them
  front_long : length (take (0 + 3 * n) l) ≡ 3 * n
  front_long = length-take-le (0 + 3 * n) l (omega (arith, room)) ∙ omega arith

  after_front : (i : ℕ) → value (with_next w t c creases 0 l) (3 * n + i) ≡ value (next ++ rest) i
  unfolding with_next
  after_front i = ap (λ k. value (with_next w t c creases 0 l) (k + i)) (sym front_long) ∙ get_or-append-add (take (0 + 3 * n) l) (next ++ rest) i (pos 0)

  pub next-cell : (u k : ℕ) → u < n + t.edges → k < 3 → value (with_next w t c creases 0 l) (3 * n + (3 * u + k)) ≡ new_point w t c creases points u k
  next-cell u k lu lk =
      let q : (3 * u + k) / 3 ≡ u = omega arith in
      let r : (3 * u + k) % 3 ≡ k = omega arith in
      after_front (3 * u + k) ∙ get_or-append next rest (pos 0) (3 * u + k) (rw next_long (omega arith)) ∙ (rw (q, r) at (next_is (3 * u + k) (omega arith)))

  pub next_only : Only (3 * n) (6 * n + 3 * t.edges) l (with_next w t c creases 0 l)
  unfolding with_next
  next_only = record { long = long; other = λ i out. other i out (dec_lt i (3 * n)) }
    where
      long : length (with_next w t c creases 0 l) ≡ length l
      long =
          length-append (take (0 + 3 * n) l) (next ++ rest)
          ∙ omega (arith, front_long, length-append next rest, next_long, length-drop (next_end t 0) l, room)

      other : (i : ℕ) → (3 * n ≤ i → i < 6 * n + 3 * t.edges → ⊥) → Dec (i < 3 * n) → value (with_next w t c creases 0 l) i ≡ value l i
      other i out (yes b) =
          get_or-append (take (0 + 3 * n) l) (next ++ rest) (pos 0) i (rw front_long b)
          ∙ get_or-take (0 + 3 * n) l i (pos 0) (omega arith)
      other i out (no b) = past (dec_lt i (6 * n + 3 * t.edges))
        where
          past : Dec (i < 6 * n + 3 * t.edges) → value (with_next w t c creases 0 l) i ≡ value l i
          past (yes d) = absurd (out (omega (arith, b)) d)
          past (no d) = beyond (i - next_end t 0) (omega (arith, d))
            where
              beyond : (j : ℕ) → i ≡ next_end t 0 + j → value (with_next w t c creases 0 l) i ≡ value l i
              beyond j e =
                  let a : 3 * n + (3 * (n + t.edges) + j) ≡ i = omega (arith, e) in
                  (rw a at (after_front (3 * (n + t.edges) + j)))
                  ∙ ap (λ k. value (next ++ rest) (k + j)) (sym next_long)
                  ∙ get_or-append-add next rest j (pos 0)
                  ∙ get_or-drop (next_end t 0) l j (pos 0)
                  ∙ ap (value l) (sym e)

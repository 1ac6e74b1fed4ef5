-- The crease table, edge by edge. Assumes nothing.
--     past                         past its end a table holds 0
--     length-next, next-crease     the next level's: how long it is, and what each edge carries
--     crease_at                    the number at level d is the cage's less d, and 0 across a triangle
--     all_zeros                    with all zeros it stays all zeros
--     creases_long, by_cells       at each level it is as long as E there, and is given by its cells
use Prim.Native.Nat.{ℕ, zero, suc, ◌+◌, ◌-◌, ◌*◌, ◌/◌, ◌^◌, ◌≤◌, ◌<◌}
use mathlib.Core.Path.{◌≡◌, sym, ap, ◌∙◌}
use mathlib.Core.Bool.{cond}
use mathlib.Core.List.{List}
use native.Mathlib.Decide.{dec_lt}
use native.Mathlib.Nat.{div-one, div-div-eq-div-mul, pow-zero, pow-succ'}
use native.Mathlib.Omega.{arith}
use lib.Dec.{ltb}
use lib.ListN.{length, get_or-eq_default}
use borrow.Author.Tests.{lt-ltb, le-ltb}
use Rattle.laws.specs.Below.{tabulate}
use Rattle.laws.proofs.Tabulate.{length-tabulate, get_d_tabulate, tabulate_ext, tabulate-cells}
use Rattle.halfedges.specs.declared.table.HalfedgeTable.{HalfedgeTable}
use Rattle.halfedges.specs.Cage.{cell}
use Rattle.halfedges.specs.Counts.{counts_at, Hs, Es}
use Rattle.creases.specs.Creases.{next_creases, creases_at}
use Rattle.creases.specs.Internal.Writing.{left_at}

pub past : (creases : List ℕ) (i : ℕ) → length creases ≤ i → cell creases i ≡ 0
past creases i l = get_or-eq_default creases 0 {n = i} l

module _ (H : ℕ) (creases : List ℕ) where
  -- "The two halves of an edge carry .. ; new edges across a triangle carry 0"
  abbrev carried : ℕ → ℕ
  carried i = cond (ltb i (2 * length creases)) (cell creases (i / 2) - 1) 0

  pub length-next : length (next_creases H creases) ≡ 2 * length creases + H
  unfolding next_creases
  length-next = length-tabulate (2 * length creases + H) carried

  -- an edge across a triangle is no half of an edge below E
  carried_is : (i : ℕ) → carried i ≡ cell creases (i / 2) - 1
  carried_is i = by (dec_lt i (2 * length creases))
    where
      by : Dec (i < 2 * length creases) → carried i ≡ cell creases (i / 2) - 1
      by (yes l) = rw (lt-ltb i (2 * length creases) l)
      by (no l) = rw (le-ltb i (2 * length creases) (omega (arith, l)), past creases (i / 2) (omega (arith, l)))

  pub next-crease : (i : ℕ) → cell (next_creases H creases) i ≡ cell creases (i / 2) - 1
  unfolding next_creases
  next-crease i = by (dec_lt i (2 * length creases + H))
    where
      by : Dec (i < 2 * length creases + H) → cell (next_creases H creases) i ≡ cell creases (i / 2) - 1
      by (yes l) = get_d_tabulate (2 * length creases + H) carried i 0 l ∙ carried_is i
      by (no l) = rw (past (next_creases H creases) i (rw length-next (omega (arith, l))), past creases (i / 2) (omega (arith, l)))

-- the halves of edge e at level d are those numbers i with i / 2^d = e
pub crease_at : (t : HalfedgeTable) (creases : List ℕ) (d i : ℕ) → cell (creases_at t creases d) i ≡ cell creases (i / 2 ^ d) - d
unfolding creases_at
crease_at t creases zero i = rw (pow-zero 2, div-one i) (omega arith)
crease_at t creases (suc d) i =
    next-crease (Hs t d) (creases_at t creases d) i
    ∙ ap (λ n. n - 1) (crease_at t creases d (i / 2))
    ∙ rw (div-div-eq-div-mul i 2 (2 ^ d), ← pow-succ' 2 d) (omega arith)

pub all_zeros : (t : HalfedgeTable) (creases : List ℕ) → ((e : ℕ) → cell creases e ≡ 0) → (d e : ℕ) → cell (creases_at t creases d) e ≡ 0
all_zeros t creases zeros d e = crease_at t creases d e ∙ omega (arith, zeros (e / 2 ^ d))

pub creases_long : (t : HalfedgeTable) (creases : List ℕ) → length creases ≡ t.edges → (d : ℕ) → length (creases_at t creases d) ≡ Es t d
unfolding creases_at counts_at
creases_long t creases long zero = long
creases_long t creases long (suc d) = length-next (Hs t d) (creases_at t creases d) ∙ omega (arith, creases_long t creases long d)

-- a level's table by its cells
pub by_cells : (t : HalfedgeTable) (creases : List ℕ) → length creases ≡ t.edges → (d : ℕ) → tabulate (Es t d) (left_at creases d) ≡ creases_at t creases d
by_cells t creases long d =
    tabulate_ext (Es t d) (left_at creases d) (cell (creases_at t creases d)) (λ i l. sym (crease_at t creases d i))
    ∙ tabulate-cells (Es t d) (creases_at t creases d) 0 (creases_long t creases long d)

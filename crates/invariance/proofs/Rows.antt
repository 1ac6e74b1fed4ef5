-- The four rows of a new table. Assumes nothing.
--     Rows, rows_hold     what stands in each row's cells
--     Row, row_of         the row that a new halfedge stands in
--     sum_rows            a sum over the new halfedges, row by row
use Prim.Native.Nat.{ℕ, ◌+◌, ◌-◌, ◌*◌, ◌/◌, ◌%◌, ◌<◌}
use mathlib.Core.Path.{◌≡◌, ap, subst, ◌∙◌}
use mathlib.Core.List.{List}
use native.Mathlib.Decide.{ℕ_discrete, dec_lt}
use native.Mathlib.Omega.{arith}
use borrow.Author.Tests.{eq-eqb, ne_eqb, lt-ltb, le-ltb}
use Rattle.laws.specs.Below.{tabulate, sum}
use Rattle.laws.proofs.Tabulate.{get_d_tabulate}
use Rattle.laws.proofs.Sums.{sum_split, sum_triples}
use Rattle.halfedges.specs.Cage.{cell}
use Rattle.splitting.specs.NextLevel.{rows}

-- 3h goes out from h's vertex, 3h+1 across the corner, 3h+2 home to the vertex, and 3H+h stands in the middle
pub record Rows (table : List ℕ) (H : ℕ) (r₀ r₁ r₂ r₃ : ℕ → ℕ) : Type 0 where
  pub out : {h : ℕ} → h < H → cell table (3 * h) ≡ r₀ h
  pub across : {h : ℕ} → h < H → cell table (3 * h + 1) ≡ r₁ h
  pub home : {h : ℕ} → h < H → cell table (3 * h + 2) ≡ r₂ h
  pub middle : {h : ℕ} → h < H → cell table (3 * H + h) ≡ r₃ h

-- n is the length of the table before, which is H
pub rows_hold : (n H : ℕ) (r₀ r₁ r₂ r₃ : ℕ → ℕ) → n ≡ H → Rows (tabulate (4 * n) (rows n r₀ r₁ r₂ r₃)) H r₀ r₁ r₂ r₃
unfolding rows
rows_hold n H r₀ r₁ r₂ r₃ long =
    rw long
    (record {
      out = λ {h} l.
          cell_is (3 * h) (omega arith)
          ∙ rw (lt-ltb (3 * h) (3 * H) (omega arith), eq-eqb (3 * h % 3) 0 (omega arith)) (ap r₀ (let e : 3 * h / 3 ≡ h = omega arith in e));
      across = λ {h} l.
          cell_is (3 * h + 1) (omega arith)
          ∙ rw (lt-ltb (3 * h + 1) (3 * H) (omega arith), ne_eqb ((3 * h + 1) % 3) 0 (omega arith), eq-eqb ((3 * h + 1) % 3) 1 (omega arith))
          (ap r₁ (let e : (3 * h + 1) / 3 ≡ h = omega arith in e));
      home = λ {h} l.
          cell_is (3 * h + 2) (omega arith)
          ∙ rw (lt-ltb (3 * h + 2) (3 * H) (omega arith), ne_eqb ((3 * h + 2) % 3) 0 (omega arith), ne_eqb ((3 * h + 2) % 3) 1 (omega arith))
          (ap r₂ (let e : (3 * h + 2) / 3 ≡ h = omega arith in e));
      middle = λ {h} l.
          cell_is (3 * H + h) (omega arith)
          ∙ rw (le-ltb (3 * H + h) (3 * H) (omega arith)) (ap r₃ (let e : 3 * H + h - 3 * H ≡ h = omega arith in e));
    })
  where
    cell_is : (k : ℕ) → k < 4 * H → cell (tabulate (4 * H) (rows H r₀ r₁ r₂ r₃)) k ≡ rows H r₀ r₁ r₂ r₃ k
    cell_is k l = get_d_tabulate (4 * H) (rows H r₀ r₁ r₂ r₃) k 0 l

-- the row that a new halfedge stands in
pub data Row (H : ℕ) : ℕ → Type 0 where
  out : {h : ℕ} → h < H → Row H (3 * h)
  across : {h : ℕ} → h < H → Row H (3 * h + 1)
  home : {h : ℕ} → h < H → Row H (3 * h + 2)
  middle : {h : ℕ} → h < H → Row H (3 * H + h)

pub row_of : {H k : ℕ} → k < 4 * H → Row H k
row_of {H} {k} l = by (dec_lt k (3 * H)) (ℕ_discrete (k % 3) 0) (ℕ_discrete (k % 3) 1)
  where
    by : Dec (k < 3 * H) → Dec (k % 3 ≡ 0) → Dec (k % 3 ≡ 1) → Row H k
    by (no a) b c = subst (Row H) (let e : 3 * H + (k - 3 * H) ≡ k = omega (arith, a) in e) (middle (omega (arith, a)))
    by (yes a) (yes b) c = subst (Row H) (let e : 3 * (k / 3) ≡ k = omega arith in e) (out (omega arith))
    by (yes a) (no b) (yes c) = subst (Row H) (let e : 3 * (k / 3) + 1 ≡ k = omega arith in e) (across (omega arith))
    by (yes a) (no b) (no c) = subst (Row H) (let e : 3 * (k / 3) + 2 ≡ k = omega (arith, b, c) in e) (home (omega (arith, b, c)))

pub sum_rows : (H : ℕ) (f : ℕ → ℕ) → sum (4 * H) f ≡ sum H (λ h. f (3 * h) + f (3 * h + 1) + f (3 * h + 2)) + sum H (λ h. f (3 * H + h))
sum_rows H f =
    ap (λ (n : ℕ). sum n f) (let e : 4 * H ≡ 3 * H + H = omega arith in e)
    ∙ sum_split (3 * H) H f ∙ ap (λ (x : ℕ). x + sum H (λ h. f (3 * H + h))) (sum_triples H f)

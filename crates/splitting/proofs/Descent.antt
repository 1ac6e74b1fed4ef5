-- TWIN of a level above the cage: its rows say which of its triangle's three a twin is (`descended`), and so what the triangles
-- of the loops have (`corner_there`, `middle_there`). Assumes nothing.
use Prim.Native.Nat.{ℕ, ◌+◌, ◌-◌, ◌*◌, ◌/◌, ◌%◌, ◌≤◌, ◌<◌}
use mathlib.Core.Path.{◌≡◌, refl, sym, ap, subst, ◌∙◌}
use mathlib.Core.Bool.{true, false}
use mathlib.Core.List.{List}
use native.Mathlib.Nat.{mul-mod_right}
use native.Mathlib.Omega.{arith}
use lib.ListN.{length}
use borrow.Author.Tests.{ne_eqb, lt-ltb, le-ltb}
use Rattle.halfedges.specs.declared.table.HalfedgeTable.{HalfedgeTable}
use Rattle.splitting.specs.declared.above.Known.{Known}
use Rattle.laws.specs.Internal.Parts.{part}
use Rattle.laws.proofs.Parts.{part_at}
use Rattle.laws.proofs.Tabulate.{get_d_tabulate}
use Rattle.halfedges.specs.Cage.{NEXT, PREV, marker, cell}
use Rattle.halfedges.proofs.Triangle.{next_last, next_other}
use Rattle.splitting.specs.NextLevel.{new_twin, next_twins}
use Rattle.tables.specs.Internal.Above.{is_above}
use Rattle.splitting.specs.Internal.InPlace.{cells_at, with_split, Housed, SmallTwins, KnownNext, Leaving, CornerTriangle, MiddleTriangle, Descended}
use Rattle.splitting.proofs.Rows.{at_corner, at_across, at_back, at_middle}
use Rattle.splitting.proofs.Soundness.{where-twin}
use Rattle.splitting.proofs.Triangles.{TwinsFilled, filled_three, filled_before, twins_on}

-- the next level of c's, where it stands
module _ (t : HalfedgeTable) (at : ℕ) (twin c : List ℕ) (four : t.halfedges ≡ 4 * length c) (made : part twin at t.halfedges ≡ next_twins c) where
  new_cell : (k : ℕ) → k < t.halfedges → cell twin (at + k) ≡ new_twin c k
  unfolding next_twins
  new_cell k l = sym (part_at twin at t.halfedges k 0 l) ∙ ap (λ xs. cell xs k) made ∙ get_d_tabulate (4 * length c) (new_twin c) k 0 (rw (← four) l)

  abbrev quarter : ℕ
  quarter = t.halfedges / 4

  pub descended : Descended t at twin
  unfolding new_twin
  descended =
      let q : quarter ≡ length c = omega (arith, four) in
      record {
        four = omega (arith, four);
        corner = λ h l. rw (new_cell (3 * h) (omega arith) ∙ at_corner (length c) _ _ _ _ h (omega (arith, q))) (where-twin (λ x. x % 3 ≡ 2) c h _ (λ _. omega arith));
        across = λ h l. new_cell (3 * h + 1) (omega arith) ∙ at_across (length c) _ _ _ _ h (omega (arith, q)) ∙ rw q;
        back = λ h l. rw (new_cell (3 * h + 2) (omega arith) ∙ at_back (length c) _ _ _ _ h (omega (arith, q))) (where-twin (λ x. x % 3 ≡ 0) c (PREV h) _ (λ _. omega arith));
        middle = λ h l. new_cell (3 * quarter + h) (omega (arith, four)) ∙ rw q (at_middle (length c) _ _ _ _ h (omega (arith, q)));
      }

-- NEXT of a twin that is the last or the first of its triangle
pub last_next : {t : ℕ} → Leaving 2 t → KnownNext t (t - 2)
last_next {t} l m = ((l m).0, sym (next_last t (l m).1))

pub first_next : {t : ℕ} → Leaving 0 t → KnownNext t (t + 1)
first_next {t} l m = ((l m).0, sym (next_other t (λ z. omega (arith, z, (l m).1))))

-- the way round a triangle that starts at a
pub way_round : (a : ℕ) → a % 3 ≡ 0 → (a + 1 ≡ NEXT a) × (a + 2 ≡ NEXT (a + 1)) × (a ≡ NEXT (a + 2))
way_round a z = (omega (arith, next_other a (λ e. omega arith)), omega (arith, next_other (a + 1) (λ e. omega arith)), omega (arith, next_last (a + 2) (omega arith)))

-- which halfedges of a level above the cage are above their twins
module _ {t : HalfedgeTable} {at : ℕ} {twin : List ℕ} (s : Housed t at twin) (d : Descended t at twin) where
  pub quarter_whole : (t.halfedges / 4 % 3 ≡ 0) × (t.halfedges ≡ 4 * (t.halfedges / 4))
  quarter_whole =
      let e : t.halfedges ≡ 4 * (t.halfedges / 4) = omega (arith, d.four) in
      let f : t.halfedges / 4 ≡ 3 * (t.halfedges / 3 - t.halfedges / 4) = omega (arith, s.whole, e) in
      (subst (λ m. m % 3 ≡ 0) (sym f) (mul-mod_right 3 (t.halfedges / 3 - t.halfedges / 4)), e)

  -- the second halfedge of a corner triangle is not above its twin
  pub across_below : (h : ℕ) → h % 3 ≡ 0 → h < 3 * (t.halfedges / 4) → false ≡ is_above (cell twin (at + (h + 1))) (h + 1)
  across_below h z l =
      let e : h + 1 ≡ 3 * (h / 3) + 1 = omega arith in
      let v : cell twin (at + (h + 1)) ≡ 3 * (t.halfedges / 4) + h / 3 = rw e (d.across (h / 3) (omega arith)) in
      rw v (simp (ne_eqb (3 * (t.halfedges / 4) + h / 3) marker (λ m. omega (arith, m, s.small.halfedges)), le-ltb (3 * (t.halfedges / 4) + h / 3) (h + 1) (omega arith)))

  -- the three of a middle triangle are above theirs
  pub middle-above : (h : ℕ) → 3 * (t.halfedges / 4) ≤ h → h < t.halfedges → true ≡ is_above (cell twin (at + h)) h
  middle-above h o l =
      let j = h - 3 * (t.halfedges / 4) in
      let e : h ≡ 3 * (t.halfedges / 4) + j = omega arith in
      let v : cell twin (at + h) ≡ 3 * j + 1 = subst (λ k. cell twin (at + k) ≡ 3 * j + 1) (sym e) (d.middle j (omega (arith, d.four))) in
      rw v (simp (ne_eqb (3 * j + 1) marker (λ m. omega (arith, m, s.small.halfedges)), lt-ltb (3 * j + 1) h (omega (arith, d.four))))

module _ {t : HalfedgeTable} {at : ℕ} {xs : List ℕ} (pre : Housed t at xs × SmallTwins t at xs × Descended t at xs) where
  abbrev d : Descended t at xs
  d = pre.2

  abbrev n : ℕ
  n = t.halfedges

  abbrev q : ℕ
  q = n / 4

  as_it_was : {ys : List ℕ} {h : ℕ} → TwinsFilled n at xs ys h → h < n → (k : ℕ) → k < h + 3 → cell ys (at + k) ≡ cell xs (at + k)
  as_it_was f l k m = filled_before f l (at + k) (omega (arith, (filled_three f l).0))

  module _ {ys : List ℕ} {j : ℕ} (f : TwinsFilled n at xs ys (3 * j)) (l : j < q) where
    -- a corner triangle is ready to be split, and then one more is filled in
    pub corner_there : (across : Known) → across.0 ≡ 3 * q + j → across.1 ≡ NEXT across.0 → CornerTriangle (cells_at ys at (3 * j)) across
    corner_there across e o =
        let w = as_it_was f (omega arith) in
        record {
          first = rw (w (3 * j) (omega arith)) (λ m. (pre.1 (3 * j) (omega arith) m, d.corner j l m));
          second = w (3 * j + 1) (omega arith) ∙ d.across j l ∙ sym e;
          third = rw (w (3 * j + 2) (omega arith)) (λ m. (pre.1 (3 * j + 2) (omega arith) m, d.back j l m));
          small = omega (arith, e, f.small);
          known = o;
        }

    pub corner_on : {zs : List ℕ} {k : ℕ} → zs ≡ with_split ys at n (3 * j) → k ≡ j + 1 → TwinsFilled n at xs zs (3 * k)
    corner_on e o = twins_on f (omega arith) refl refl e (omega (arith, o))

  pub middle_there : {ys : List ℕ} {j : ℕ} → TwinsFilled n at xs ys (3 * q + j) → j < q → MiddleTriangle (cells_at ys at (3 * q + j)) (3 * j + 1)
  middle_there {ys} {j} f l =
      let i : 3 * q + j < n = omega (arith, d.four) in
      let m : j + 3 ≤ q = omega (arith, d.four, (filled_three f i).0) in
      let w = as_it_was f i in
      let b : 3 * q + j + 1 ≡ 3 * q + (j + 1) = omega arith in
      let c : 3 * q + j + 2 ≡ 3 * q + (j + 2) = omega arith in
      record {
        first = w (3 * q + j) (omega arith) ∙ d.middle j l;
        second = rw b (w (3 * q + (j + 1)) (omega arith) ∙ d.middle (j + 1) (omega arith) ∙ omega arith);
        third = rw c (w (3 * q + (j + 2)) (omega arith) ∙ d.middle (j + 2) (omega arith) ∙ omega arith);
        small = omega (arith, f.small);
        leaving = omega arith;
      }

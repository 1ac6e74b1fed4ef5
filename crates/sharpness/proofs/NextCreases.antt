-- From one level to the next, `step`: its crease table passes 1 and 15 where the level's does, an old vertex has the creases that last one
-- level more, and an edge's vertex two where its edge does, else none. Assumes nothing.
use Prim.Native.Nat.{ℕ, suc, ◌+◌, ◌-◌, ◌*◌, ◌/◌, ◌≤◌, ◌<◌}
use mathlib.Core.Path.{◌≡◌, refl, sym, ◌∙◌}
use mathlib.Core.Logic.{◌≢◌}
use mathlib.Core.Bool.{Bool, true, false, cond, ◌&&◌}
use mathlib.Core.List.{List}
use native.Mathlib.Decide.{dec_lt}
use native.Mathlib.Omega.{arith}
use lib.Dec.{eqb, ltb}
use borrow.Author.Tests.{ne_eqb, lt-ltb, le-ltb}
use Rattle.laws.specs.Below.{sum}
use Rattle.laws.proofs.Tests.{and_false, same_eqb}
use Rattle.laws.proofs.Sums.{sum_same, sum_add, sum_none}
use Rattle.laws.proofs.Turnings.{turned_back, sum-turned}
use Rattle.halfedges.specs.Cage.{NEXT, PREV, marker, cell, border, above, E}
use Rattle.halfedges.proofs.Triangle.{next_0, next_2, next_prev, round}
use Rattle.tables.specs.Tables.{Tables}
use Rattle.invariance.proofs.Rows.{Row, out, across, home, middle, row_of, sum_rows}
use Rattle.invariance.proofs.Refinable.{H, TWIN, VERT, EDGE, finer, Refinable, next_in, prev_in, length-twins, length_verts, vert_rows, edge_rows}
use Rattle.invariance.proofs.NextTwins.{out_border, home_border, out_on_border, across_inner, home_on_border, middle-inner, next_edges_lem}
use Rattle.creases.specs.Creases.{most_crease, next_creases}
use Rattle.creases.proofs.Table.{past, length-next, next-crease}
use Rattle.points.specs.Internal.Creased.{crease_after, creases_after}
use Rattle.sharpness.specs.Kept.{Creased}
use Rattle.sharpness.proofs.Carried.{ends_counted}

-- from tables c with v vertices and their creases to the next level's n
pub record Step (c : Tables) (v : ℕ) (creases : List ℕ) (n : Tables) (lasting : List ℕ) : Type 0 where
  pub creased : Creased n lasting
  pub old : (k u : ℕ) → u < v → creases_after k n lasting u ≡ creases_after (suc k) c creases u
  pub new : (k h : ℕ) → h < H c → creases_after k n lasting (v + EDGE c h) ≡ cond (crease_after (suc k) c creases h) 2 0

-- the edge that a half is of
half_of : (e : ℕ) (b : Bool) (x y : ℕ) → x < 2 → y < 2 → (2 * e + cond b x y) / 2 ≡ e
half_of e true x y lx ly = omega arith
half_of e false x y lx ly = omega arith

-- above k once it is one less
less : (k n : ℕ) → ltb k (n - 1) ≡ ltb (suc k) n
less k n = by (dec_lt (suc k) n)
  where
    by : Dec (suc k < n) → ltb k (n - 1) ≡ ltb (suc k) n
    by (yes l) = rw (lt-ltb k (n - 1) (omega arith), lt-ltb (suc k) n l)
    by (no l) = rw (le-ltb k (n - 1) (omega (arith, l)), le-ltb (suc k) n (omega (arith, l)))

-- one where x is u and the test holds
abbrev one : ℕ → Bool → ℕ → ℕ
one u b x = cond (b && eqb x u) 1 0

elsewhere : (u : ℕ) (b : Bool) (x : ℕ) → x ≢ u → one u b x ≡ 0
elsewhere u b x n = rw (ne_eqb x u n, and_false b)

module _ {c : Tables} {v : ℕ} (q : Refinable c v) where
  -- the halves of h's edge pass a new test where h passes the old one, and what lies across a triangle does not
  record Halved (new old : ℕ → Bool) : Type 0 where
    out : {h : ℕ} → h < H c → new (3 * h) ≡ old h
    across : {h : ℕ} → h < H c → new (3 * h + 1) ≡ false
    home : {h : ℕ} → h < H c → new (3 * h + 2) ≡ old (PREV h)
    middle : {h : ℕ} → h < H c → new (3 * H c + h) ≡ false

  -- those halves counted at u, where the one out stands at a and the one home at b
  sum_halves :
      {new old : ℕ → Bool} → Halved new old → (at a b : ℕ → ℕ) (u : ℕ) → ((h : ℕ) → h < H c → at (3 * h) ≡ a h) → ((h : ℕ) → h < H c → at (3 * h + 2) ≡ b (PREV h))
      → sum (4 * H c) (λ j. one u (new j) (at j)) ≡ sum (H c) (λ h. one u (old h) (a h)) + sum (H c) (λ h. one u (old h) (b h))
  sum_halves {new} {old} p at a b u first last =
      omega (
        arith,
        sum_rows (H c) term,
        sum_same (H c) (λ h. term (3 * h) + term (3 * h + 1) + term (3 * h + 2)) (λ h. one u (old h) (a h) + one u (old (PREV h)) (b (PREV h)))
            (λ h l. rw (p.out l, p.across l, p.home l, first h l, last h l) (omega arith)),
        sum_add (H c) (λ h. one u (old h) (a h)) (λ h. one u (old (PREV h)) (b (PREV h))),
        sum-turned (H c) PREV NEXT (λ h. one u (old h) (b h)) (turned_back (round q.shaped.whole)),
        sum_none (H c) (λ h. term (3 * H c + h)) (λ h l. rw (p.middle l)),
      )
    where
      term : ℕ → ℕ
      term j = one u (new j) (at j)

  border_halved : Halved (border (finer c v).twin) (border c.twin)
  border_halved =
      record {
        out = λ {h} l. same_eqb (TWIN (finer c v) (3 * h)) marker (TWIN c h) marker (out_on_border q l) (out_border q l);
        across = λ {h} l. ne_eqb (TWIN (finer c v) (3 * h + 1)) marker (across_inner q l);
        home = λ {h} l. same_eqb (TWIN (finer c v) (3 * h + 2)) marker (TWIN c (PREV h)) marker (home_on_border q l) (home_border q l);
        middle = λ {h} l. ne_eqb (TWIN (finer c v) (3 * H c + h)) marker (middle-inner q l);
      }

  module _ {creases : List ℕ} (p : Creased c creases) where
    abbrev lasting : List ℕ
    lasting = next_creases (H c) creases

    out_number : {h : ℕ} → h < H c → cell lasting (EDGE (finer c v) (3 * h)) ≡ cell creases (EDGE c h) - 1
    out_number {h} l = next-crease (H c) creases _ ∙ rw ((edge_rows q).out l, half_of (EDGE c h) (above c.twin h) 0 1 (omega arith) (omega arith))

    home_number : {h : ℕ} → h < H c → cell lasting (EDGE (finer c v) (3 * h + 2)) ≡ cell creases (EDGE c (PREV h)) - 1
    home_number {h} l = next-crease (H c) creases _ ∙ rw ((edge_rows q).home l, half_of (EDGE c (PREV h)) (above c.twin (PREV h)) 1 0 (omega arith) (omega arith))

    none_across : (h : ℕ) → cell lasting (2 * E c.twin + h) ≡ 0
    none_across h = next-crease (H c) creases (2 * E c.twin + h) ∙ rw (past creases ((2 * E c.twin + h) / 2) (omega (arith, p.long)))

    creases_halved : (k : ℕ) → Halved (crease_after k (finer c v) lasting) (crease_after (suc k) c creases)
    creases_halved k =
        record {
          out = λ {h} l. rw (out_number l, less k (cell creases (EDGE c h)), border_halved.out l);
          across = λ {h} l. rw ((edge_rows q).across l, none_across h, border_halved.across l, le-ltb k 0 (omega arith));
          home = λ {h} l. rw (home_number l, less k (cell creases (EDGE c (PREV h))), border_halved.home l);
          middle = λ {h} l. rw ((edge_rows q).middle l, none_across h, border_halved.middle l, le-ltb k 0 (omega arith));
        }

    -- ---- the vertices

    module _ (k u : ℕ) where
      -- how many halves stand at u, which are creases k levels on, if it is an edge's vertex
      abbrev at_edge : ℕ
      at_edge = sum (H c) (λ h. one u (crease_after (suc k) c creases h) (v + EDGE c h)) + sum (H c) (λ h. one u (border c.twin h) (v + EDGE c h))

      parts : creases_after k (finer c v) lasting u ≡ creases_after (suc k) c creases u + at_edge
      unfolding creases_after
      parts =
          rw (length_verts q, q.shaped.vert_long)
          (omega (
            arith,
            sum_halves (creases_halved k) (VERT (finer c v)) (VERT c) (λ h. v + EDGE c h) u (λ h l. (vert_rows q).out l) (λ h l. (vert_rows q).home l),
            sum_halves border_halved (λ j. VERT (finer c v) (NEXT j)) (λ h. v + EDGE c h) (λ h. VERT c (NEXT h)) u
                (λ h l. rw (next_0 h) ((vert_rows q).across l))
                (λ h l. rw (next_2 h, next_prev h) ((vert_rows q).out l)),
          ))

      -- an edge's vertex is no old one
      old_creases : u < v → creases_after k (finer c v) lasting u ≡ creases_after (suc k) c creases u
      old_creases l = omega (arith, parts, nowhere (crease_after (suc k) c creases), nowhere (border c.twin))
        where
          nowhere : (p : ℕ → Bool) → sum (H c) (λ h. one u (p h) (v + EDGE c h)) ≡ 0
          nowhere p = sum_none (H c) _ (λ h lh. elsewhere u (p h) (v + EDGE c h) (omega arith))

    module _ (k h : ℕ) (l : h < H c) where
      not_old_lem : creases_after (suc k) c creases (v + EDGE c h) ≡ 0
      unfolding creases_after
      not_old_lem = rw q.shaped.vert_long (omega (arith, nowhere (crease_after (suc k) c creases) (λ g. g) (λ g lg. lg), nowhere (border c.twin) NEXT (λ g lg. next_in q lg)))
        where
          nowhere : (p : ℕ → Bool) (s : ℕ → ℕ) → ((g : ℕ) → g < H c → s g < H c) → sum (H c) (λ g. one (v + EDGE c h) (p g) (VERT c (s g))) ≡ 0
          nowhere p s below = sum_none (H c) _ (λ g lg. elsewhere (v + EDGE c h) (p g) (VERT c (s g)) (omega (arith, q.ruled.placed.below (s g) (below g lg))))

      by_carriers : at_edge k (v + EDGE c h) ≡ cond (crease_after (suc k) c creases h) 2 0
      by_carriers =
          sym (sum_add (H c) (λ g. one (v + EDGE c h) (crease_after (suc k) c creases g) (v + EDGE c g)) (λ g. one (v + EDGE c h) (border c.twin g) (v + EDGE c g)))
          ∙ sum_same (H c) _ _
          (λ g lg.
          rw (same_eqb (v + EDGE c g) (v + EDGE c h) (EDGE c g) (EDGE c h) (omega arith) (omega arith))
          (spread (eqb (EDGE c g) (EDGE c h)) (crease_after (suc k) c creases g) (border c.twin g)))
          ∙ ends_counted q.ruled (omega (arith, q.small)) l (suc k) creases (λ _. true) (λ _. true) (λ _. refl)
          ∙ twice (crease_after (suc k) c creases h)
        where
          spread : (t a b : Bool) → cond (a && t) 1 0 + cond (b && t) 1 0 ≡ cond t (cond (a && true) 1 0 + cond (b && true) 1 0) 0
          spread true a b = refl
          spread false a b = rw (and_false a, and_false b)

          twice : (b : Bool) → cond (b && true) 1 0 + cond (b && true) 1 0 ≡ cond b 2 0
          twice true = refl
          twice false = refl

      new_creases : creases_after k (finer c v) lasting (v + EDGE c h) ≡ cond (crease_after (suc k) c creases h) 2 0
      new_creases = omega (arith, parts k (v + EDGE c h), not_old_lem, by_carriers)

    -- ---- the table

    any_most : (e : ℕ) → cell creases e ≤ most_crease
    any_most e = by (dec_lt e (E c.twin))
      where
        by : Dec (e < E c.twin) → cell creases e ≤ most_crease
        by (yes l) = p.most e l
        by (no l) = omega (arith, past creases e (omega (arith, l, p.long)))

    -- a border edge's halves carry 0 as it does
    border_half : {k : ℕ} → Row (H c) k → TWIN (finer c v) k ≡ marker → cell lasting (EDGE (finer c v) k) ≡ 0
    border_half (out {h} l) m = omega (arith, out_number l, p.border_none h l (out_on_border q l m))
    border_half (across l) m = absurd (across_inner q l m)
    border_half (home {h} l) m = omega (arith, home_number l, p.border_none (PREV h) (prev_in q l) (home_on_border q l m))
    border_half (middle l) m = absurd (middle-inner q l m)

    pub step : Step c v creases (finer c v) (next_creases (H c) creases)
    step =
        record {
          creased = record {
            long = omega (arith, length-next (H c) creases, p.long, next_edges_lem q);
            most = λ e l. omega (arith, next-crease (H c) creases e, any_most (e / 2));
            border_none = λ j l m. border_half (row_of (rw (length-twins q) at l)) m;
          };
          old = old_creases;
          new = new_creases;
        }

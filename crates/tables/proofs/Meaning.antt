-- What the rules' tests mean: each of the rules 1 and 3 to 6 is given nowhere exactly when its plain record holds
-- (`shaped`, `paired`, `placed`, `used`, `numbered`, and `clean_twins`, .. the other way round). Assumes nothing.
use Prim.Native.Nat.{ℕ, ◌%◌, ◌<◌}
use mathlib.Core.Path.{◌≡◌}
use mathlib.Core.Logic.{◌≢◌, ◌⊎◌, inl, inr}
use mathlib.Core.Bool.{Bool, true, false, not, ◌&&◌, ◌||◌, true≢false}
use mathlib.Core.List.{List}
use native.Mathlib.Decide.{ℕ_discrete}
use native.Mathlib.Omega.{arith}
use lib.Dec.{eqb, leb}
use lib.ListN.{length}
use borrow.Author.Tests.{eq-eqb, ne_eqb, lt-leb, eqb-true, eqb-false, leb-false, not-false}
use Rattle.laws.specs.Below.{any}
use Rattle.laws.proofs.Tests.{or_false, or_false₃, and_false, any_false, false_any, true_any, any_true}
use Rattle.halfedges.specs.Cage.{NEXT, marker, cell, border, E}
use Rattle.halfedges.proofs.Checks.{Clean}
use Rattle.tables.specs.Tables.{Tables, leaves}
use Rattle.tables.specs.Rules.{misshapen, bad_twin, bad_vertex, unused, stranger, bad_edge}
use Rattle.tables.specs.Ruled.{Shaped, Paired, Placed, Used, Numbered}

-- ---- 3

module _ (twin : List ℕ) where
  twin_facts : (h : ℕ) → bad_twin twin h ≡ false → cell twin h ≢ marker → (cell twin h < length twin) × (cell twin h ≢ h) × (cell twin (cell twin h) ≡ h)
  unfolding bad_twin
  twin_facts h e n =
      let t = cell twin h in
      let f = or_false₃ (leb (length twin) t) (eqb t h) (not (eqb (cell twin t) h)) (rw (ne_eqb t marker n) at e) in
      (leb-false (length twin) t f.0, eqb-false t h f.1, eqb-true (cell twin t) h (not-false _ f.2))

  pub paired : Clean (length twin) (bad_twin twin) → Paired twin
  paired f =
      record {
        below = λ h l n. (twin_facts h (f h l) n).0;
        other = λ h l n. (twin_facts h (f h l) n).1;
        back = λ h l n. (twin_facts h (f h l) n).2;
      }

  pub clean_twins : Paired twin → Clean (length twin) (bad_twin twin)
  unfolding bad_twin
  clean_twins p h l = by (ℕ_discrete (cell twin h) marker)
    where
      by : Dec (cell twin h ≡ marker) → bad_twin twin h ≡ false
      by (yes m) = rw (eq-eqb (cell twin h) marker m)
      by (no n) =
          rw (ne_eqb (cell twin h) marker n, lt-leb (length twin) (cell twin h) (p.below h l n), ne_eqb (cell twin h) h (p.other h l n), eq-eqb (cell twin (cell twin h)) h (p.back h l n))

-- ---- 4

-- the clause of rules 4 and 6 that speaks only where there is a twin
clause : (twin : List ℕ) (h : ℕ) (b : Bool) → not (border twin h) && not b ≡ false → cell twin h ≢ marker → b ≡ true
clause twin h b e n = not-false b (rw (ne_eqb (cell twin h) marker n) at e)

no_clause_lem : (twin : List ℕ) (h : ℕ) (b : Bool) → (cell twin h ≢ marker → b ≡ true) → not (border twin h) && not b ≡ false
no_clause_lem twin h b f = by (ℕ_discrete (cell twin h) marker)
  where
    by : Dec (cell twin h ≡ marker) → not (border twin h) && not b ≡ false
    by (yes m) = rw (eq-eqb (cell twin h) marker m)
    by (no n) = rw (ne_eqb (cell twin h) marker n, f n)

module _ (twin vert : List ℕ) (v : ℕ) where
  vertex_tests : (h : ℕ) → bad_vertex twin vert v h ≡ false → (leb v (cell vert h) ≡ false) × (eqb (cell vert h) (cell vert (NEXT h)) ≡ false) × (not (border twin h) && not (eqb (cell vert (cell twin h)) (cell vert (NEXT h))) ≡ false)
  unfolding bad_vertex
  vertex_tests h e = or_false₃ _ _ _ e

  pub placed : Clean (length twin) (bad_vertex twin vert v) → Placed twin vert v
  placed f =
      record {
        below = λ h l. leb-false v (cell vert h) (vertex_tests h (f h l)).0;
        ends = λ h l. eqb-false (cell vert h) (cell vert (NEXT h)) (vertex_tests h (f h l)).1;
        twin_ends = λ h l n. eqb-true _ _ (clause twin h _ (vertex_tests h (f h l)).2 n);
      }

  pub clean_vertices : Placed twin vert v → Clean (length twin) (bad_vertex twin vert v)
  unfolding bad_vertex
  clean_vertices p h l =
      rw (lt-leb v (cell vert h) (p.below h l), ne_eqb (cell vert h) (cell vert (NEXT h)) (p.ends h l))
      (no_clause_lem twin h _ (λ n. eq-eqb _ _ (p.twin_ends h l n)))

-- ---- 5

module _ (vert : List ℕ) (v : ℕ) where
  pub used : Clean v (unused vert) → Used vert v
  unfolding unused
  used f = record { corner = λ u l. on u (any_true (leaves vert u) (length vert) (not-false _ (f u l))) }
    where
      on : (u : ℕ) → (h : ℕ) × (h < length vert) × (leaves vert u h ≡ true) → (h : ℕ) × (h < length vert) × (cell vert h ≡ u)
      on u m = (m.0, m.1, eqb-true _ _ m.2)

  pub clean_uses : Used vert v → Clean v (unused vert)
  unfolding unused
  clean_uses p u l = let c = p.corner u l in rw (true_any (leaves vert u) (length vert) c.0 c.1 (eq-eqb _ _ c.2))

-- ---- 6

-- who carries h's edge and is no stranger
pub known : (twin edge : List ℕ) (g h : ℕ) → cell edge g ≡ cell edge h → stranger twin edge h g ≡ false → (g ≡ h) ⊎ (g ≡ cell twin h)
unfolding stranger
known twin edge g h c e = by (ℕ_discrete g h) (ℕ_discrete g (cell twin h))
  where
    by : Dec (g ≡ h) → Dec (g ≡ cell twin h) → (g ≡ h) ⊎ (g ≡ cell twin h)
    by (yes q) d = inl q
    by (no q) (yes t) = inr t
    by (no q) (no t) = absurd (true≢false (rw (eq-eqb _ _ c, ne_eqb g h q, ne_eqb g (cell twin h) t) at e))

module _ (twin edge : List ℕ) (same : length edge ≡ length twin) where
  edge_tests : (h : ℕ) → bad_edge twin edge (E twin) h ≡ false → (leb (E twin) (cell edge h) ≡ false) × (not (border twin h) && not (eqb (cell edge (cell twin h)) (cell edge h)) ≡ false) × (any (length edge) (stranger twin edge h) ≡ false)
  unfolding bad_edge
  edge_tests h e = or_false₃ _ _ _ e

  pub numbered : Clean (length twin) (bad_edge twin edge (E twin)) → Numbered twin edge
  numbered f =
      record {
        below = λ h l. leb-false (E twin) (cell edge h) (edge_tests h (f h l)).0;
        twin_same = λ h l n. eqb-true _ _ (clause twin h _ (edge_tests h (f h l)).1 n);
        own = λ g h lg lh c. known twin edge g h c (any_false (stranger twin edge h) (length edge) (edge_tests h (f h lh)).2 g (rw same lg));
      }

  no_stranger : Numbered twin edge → (g h : ℕ) → g < length twin → h < length twin → stranger twin edge h g ≡ false
  unfolding stranger
  no_stranger p g h lg lh = by (ℕ_discrete (cell edge g) (cell edge h))
    where
      own : eqb (cell edge g) (cell edge h) ≡ true → (g ≡ h) ⊎ (g ≡ cell twin h) → stranger twin edge h g ≡ false
      own c (inl q) = rw (c, eq-eqb g h q)
      own c (inr q) = rw (c, eq-eqb g (cell twin h) q) (and_false (not (eqb g h)))

      by : Dec (cell edge g ≡ cell edge h) → stranger twin edge h g ≡ false
      by (no c) = rw (ne_eqb _ _ c)
      by (yes c) = own (eq-eqb _ _ c) (p.own g h lg lh c)

  pub clean_edges : Numbered twin edge → Clean (length twin) (bad_edge twin edge (E twin))
  unfolding bad_edge
  clean_edges p h l =
      rw (lt-leb (E twin) (cell edge h) (p.below h l), no_clause_lem twin h _ (λ n. eq-eqb _ _ (p.twin_same h l n)))
      (false_any (stranger twin edge h) (length edge) (λ g lg. no_stranger p g h (rw same at lg) l))

-- ---- 1

pub shaped : (c : Tables) → misshapen c ≡ false → Shaped c
unfolding misshapen
shaped c e =
    let h = length c.twin in
    let f = or_false₃ (eqb h 0 || not (eqb (h % 3) 0)) (not (eqb (length c.vert) h)) (not (eqb (length c.edge) h)) e in
    let g = or_false (eqb h 0) (not (eqb (h % 3) 0)) f.0 in
    let z = eqb-false h 0 g.0 in
    record {
      some = omega (arith, z);
      whole = eqb-true (h % 3) 0 (not-false _ g.1);
      vert_long = eqb-true _ _ (not-false _ f.1);
      edge_long = eqb-true _ _ (not-false _ f.2);
    }

pub well_shaped : (c : Tables) → Shaped c → misshapen c ≡ false
unfolding misshapen
well_shaped c s =
    rw (ne_eqb (length c.twin) 0 (λ e. omega (arith, s.some)), eq-eqb _ _ s.whole, eq-eqb _ _ s.vert_long, eq-eqb _ _ s.edge_long)

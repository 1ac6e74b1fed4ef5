-- Rules 3, 4, 5 and 6 where they are broken: which clause is named, by the tests that lead to it, and that it holds of the cage in plain
-- words (`twin_broken`, `vertex_broken`, `use-broken`, `edge_broken`). Assumes nothing.
use Prim.Native.Nat.{ℕ, ◌≤◌, ◌<◌}
use mathlib.Core.Path.{◌≡◌, sym, subst, ◌∙◌}
use mathlib.Core.Logic.{◌≢◌}
use mathlib.Core.Bool.{true, not, true≢false}
use mathlib.Core.List.{List}
use native.Mathlib.Decide.{ℕ_discrete}
use lib.Dec.{eqb, leb}
use lib.ListN.{length}
use borrow.Author.Tests.{eq-eqb, ne_eqb, le-leb, lt-leb, leb-true, leb-false, eqb-true, eqb-false, not-true}
use Rattle.laws.specs.Below.{any}
use Rattle.laws.proofs.Tests.{and_true, by-test, any_false}
use Rattle.laws.proofs.Lowest.{below_lowest, lowest_of_some}
use Rattle.halfedges.specs.Cage.{NEXT, marker, cell, E}
use Rattle.tables.specs.Tables.{leaves}
use Rattle.tables.specs.Rules.{bad_twin, bad_vertex, unused, stranger, bad_edge}
use Rattle.tables.proofs.Meaning.{known}
use Rattle.tables.proofs.RuleTests.{twin_none, twin_back, vertex_none, vertex_twin}
use Rattle.clauses.specs.Clauses.{clause, twin_clause, vertex_clause, unused_clause, lowest_stranger, edge_clause}
use Rattle.clauses.specs.Explained.{TwinBroken, VertexBroken, UseBroken, EdgeBroken}

-- ---- 3

module _ (twin : List ℕ) (h : ℕ) (b : bad_twin twin h ≡ true) where
  pub has_twin : cell twin h ≢ marker
  has_twin m = true≢false (sym b ∙ sym (twin_none twin h m))

  pub twin_past_lem : length twin ≤ cell twin h → clause 1 (cell twin h) (length twin) 0 ≡ twin_clause twin h
  unfolding twin_clause
  twin_past_lem p = rw (ne_eqb (cell twin h) marker has_twin, le-leb (length twin) (cell twin h) p)

  module _ (l : cell twin h < length twin) where
    pub twin_itself_lem : cell twin h ≡ h → clause 2 (cell twin h) 0 0 ≡ twin_clause twin h
    unfolding twin_clause
    twin_itself_lem e = rw (ne_eqb (cell twin h) marker has_twin, lt-leb (length twin) (cell twin h) l, eq-eqb (cell twin h) h e)

    module _ (o : cell twin h ≢ h) where
      lost : cell twin (cell twin h) ≢ h
      lost = eqb-false _ _ (not-true _ (twin_back twin h has_twin l o ∙ b))

      pub twin_lost : clause 3 (cell twin h) (cell twin (cell twin h)) 0 ≡ twin_clause twin h
      unfolding twin_clause
      twin_lost = rw (ne_eqb (cell twin h) marker has_twin, lt-leb (length twin) (cell twin h) l, ne_eqb (cell twin h) h o, ne_eqb (cell twin (cell twin h)) h lost)

  pub twin_broken : TwinBroken twin h (twin_clause twin h)
  twin_broken = by-test (leb (length twin) (cell twin h)) past (λ f. inside (leb-false _ _ f) (ℕ_discrete (cell twin h) h))
    where
      past : leb (length twin) (cell twin h) ≡ true → TwinBroken twin h (twin_clause twin h)
      past t = let p = leb-true _ _ t in subst (TwinBroken twin h) (twin_past_lem p) (TwinBroken.past has_twin p)

      inside : cell twin h < length twin → Dec (cell twin h ≡ h) → TwinBroken twin h (twin_clause twin h)
      inside l (yes e) = subst (TwinBroken twin h) (twin_itself_lem l e) (TwinBroken.itself has_twin l e)
      inside l (no o) = subst (TwinBroken twin h) (twin_lost l o) (TwinBroken.not_returned has_twin l o (lost l o))

-- ---- 4

module _ (twin vert : List ℕ) (v h : ℕ) where
  pub vertex_past_lem : v ≤ cell vert h → clause 1 (cell vert h) v 0 ≡ vertex_clause twin vert v h
  unfolding vertex_clause
  vertex_past_lem p = rw (le-leb v (cell vert h) p)

  module _ (l : cell vert h < v) where
    pub vertex_alike : cell vert h ≡ cell vert (NEXT h) → clause 2 (cell vert h) (NEXT h) 0 ≡ vertex_clause twin vert v h
    unfolding vertex_clause
    vertex_alike e = rw (lt-leb v (cell vert h) l, eq-eqb (cell vert h) (cell vert (NEXT h)) e)

    module _ (b : bad_vertex twin vert v h ≡ true) (o : cell vert h ≢ cell vert (NEXT h)) where
      pub end_has_twin : cell twin h ≢ marker
      end_has_twin m = true≢false (sym b ∙ sym (vertex_none twin vert v h l o m))

      differ : cell vert (cell twin h) ≢ cell vert (NEXT h)
      differ = eqb-false _ _ (not-true _ (vertex_twin twin vert v h l o end_has_twin ∙ b))

      pub vertex_differ : clause 3 (cell twin h) (cell vert (cell twin h)) (cell vert (NEXT h)) ≡ vertex_clause twin vert v h
      unfolding vertex_clause
      vertex_differ = rw (lt-leb v (cell vert h) l, ne_eqb (cell vert h) (cell vert (NEXT h)) o, ne_eqb (cell twin h) marker end_has_twin, ne_eqb (cell vert (cell twin h)) (cell vert (NEXT h)) differ)

  pub vertex_broken : bad_vertex twin vert v h ≡ true → VertexBroken twin vert v h (vertex_clause twin vert v h)
  vertex_broken b = by-test (leb v (cell vert h)) past (λ f. inside (leb-false _ _ f) (ℕ_discrete (cell vert h) (cell vert (NEXT h))))
    where
      past : leb v (cell vert h) ≡ true → VertexBroken twin vert v h (vertex_clause twin vert v h)
      past t = let p = leb-true _ _ t in subst (VertexBroken twin vert v h) (vertex_past_lem p) (VertexBroken.past p)

      inside : cell vert h < v → Dec (cell vert h ≡ cell vert (NEXT h)) → VertexBroken twin vert v h (vertex_clause twin vert v h)
      inside l (yes e) = subst (VertexBroken twin vert v h) (vertex_alike l e) (VertexBroken.alike l e)
      inside l (no o) = subst (VertexBroken twin vert v h) (vertex_differ l b o) (VertexBroken.differ l o (end_has_twin l b o) (differ l b o))

-- ---- 5

pub use-broken : (vert : List ℕ) (u : ℕ) → unused vert u ≡ true → UseBroken vert u (unused_clause u)
unfolding unused
use-broken vert u e = UseBroken.unused (λ h l. eqb-false _ _ (any_false (leaves vert u) (length vert) (not-true _ e) h l))

-- ---- 6

module _ (twin edge : List ℕ) (h : ℕ) where
  strange : (g : ℕ) → stranger twin edge h g ≡ true → (cell edge g ≡ cell edge h) × (g ≢ h) × (g ≢ cell twin h)
  unfolding stranger
  strange g e =
      let a = and_true _ (not (eqb g (cell twin h))) e in
      let b = and_true _ (not (eqb g h)) a.0 in
      (eqb-true _ _ b.0, eqb-false _ _ (not-true _ b.1), eqb-false _ _ (not-true _ a.1))

  pub edge_past_lem : E twin ≤ cell edge h → clause 1 (cell edge h) (E twin) 0 ≡ edge_clause twin edge h
  unfolding edge_clause
  edge_past_lem p = rw (le-leb (E twin) (cell edge h) p)

  -- h has no twin, or one that carries its edge
  pub data Alike : Type 0 where
    alone : cell twin h ≡ marker → Alike
    paired : cell twin h ≢ marker → cell edge (cell twin h) ≡ cell edge h → Alike

  module _ (l : cell edge h < E twin) where
    pub edge_differs_lem : cell twin h ≢ marker → cell edge (cell twin h) ≢ cell edge h → clause 2 (cell twin h) (cell edge h) (cell edge (cell twin h)) ≡ edge_clause twin edge h
    unfolding edge_clause
    edge_differs_lem n d = rw (lt-leb (E twin) (cell edge h) l, ne_eqb (cell twin h) marker n, ne_eqb (cell edge (cell twin h)) (cell edge h) d)

    module _ (b : bad_edge twin edge (E twin) h ≡ true) where
      is_shared : Alike → any (length edge) (stranger twin edge h) ≡ true
      unfolding bad_edge
      is_shared (alone m) = rw (lt-leb (E twin) (cell edge h) l, eq-eqb (cell twin h) marker m) at b
      is_shared (paired n s) = rw (lt-leb (E twin) (cell edge h) l, ne_eqb (cell twin h) marker n, eq-eqb (cell edge (cell twin h)) (cell edge h) s) at b

      pub stranger_below : Alike → lowest_stranger twin edge h < length edge
      stranger_below a = (lowest_of_some (length edge) (stranger twin edge h) (is_shared a)).0

      pub edge_shared_lem : Alike → clause 3 (cell edge h) (lowest_stranger twin edge h) 0 ≡ edge_clause twin edge h
      unfolding edge_clause
      edge_shared_lem (alone m) = rw (lt-leb (E twin) (cell edge h) l, eq-eqb (cell twin h) marker m, is_shared (alone m))
      edge_shared_lem (paired n s) = rw (lt-leb (E twin) (cell edge h) l, ne_eqb (cell twin h) marker n, eq-eqb (cell edge (cell twin h)) (cell edge h) s, is_shared (paired n s))

  pub edge_broken : bad_edge twin edge (E twin) h ≡ true → EdgeBroken twin edge h (edge_clause twin edge h)
  edge_broken b = by-test (leb (E twin) (cell edge h)) past (λ f. inside (leb-false _ _ f) (ℕ_discrete (cell twin h) marker) (ℕ_discrete (cell edge (cell twin h)) (cell edge h)))
    where
      past : leb (E twin) (cell edge h) ≡ true → EdgeBroken twin edge h (edge_clause twin edge h)
      past t = let p = leb-true _ _ t in subst (EdgeBroken twin edge h) (edge_past_lem p) (EdgeBroken.past p)

      shared : cell edge h < E twin → Alike → (cell twin h ≢ marker → cell edge (cell twin h) ≡ cell edge h) → EdgeBroken twin edge h (edge_clause twin edge h)
      shared l a same =
          let g = lowest_stranger twin edge h in
          let m = lowest_of_some (length edge) (stranger twin edge h) (is_shared l b a) in
          let s = strange g m.1 in
          subst (EdgeBroken twin edge h) (edge_shared_lem l b a)
          (EdgeBroken.shared g l same m.0 s.0 s.1 s.2 (λ k q e. known twin edge k h e (below_lowest (length edge) (stranger twin edge h) k q)))

      inside : cell edge h < E twin → Dec (cell twin h ≡ marker) → Dec (cell edge (cell twin h) ≡ cell edge h) → EdgeBroken twin edge h (edge_clause twin edge h)
      inside l (yes m) d = shared l (alone m) (λ n. absurd (n m))
      inside l (no n) (yes s) = shared l (paired n s) (λ _. s)
      inside l (no n) (no d) = subst (EdgeBroken twin edge h) (edge_differs_lem l n d) (EdgeBroken.differs l n d)

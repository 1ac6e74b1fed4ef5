-- Every verdict of a check of the tables is explained: `explained`. A refusal from 3 to 7 gets clause 1, 2 or 3 (`clause_named`), any other
-- answer none (`no_clause_lem`). Assumes nothing.
use Prim.Native.Nat.{ℕ, zero, suc, ◌≤◌, ◌<◌}
use mathlib.Core.Path.{◌≡◌, refl, subst}
use mathlib.Core.Logic.{◌⊎◌, inl, inr}
use native.Mathlib.Omega.{arith}
use Rattle.halfedges.specs.Refusals.{Verdict}
use Rattle.tables.specs.Tables.{Tables}
use Rattle.tables.specs.Internal.Walks.{Walkable}
use Rattle.tables.specs.Internal.Relied.{ForPlaces}
use Rattle.clauses.specs.Clauses.{Clause, no_clause, twin_clause, vertex_clause, unused_clause, edge_clause, fan_clause, clause_at}
use Rattle.clauses.specs.Explained.{TwinBroken, VertexBroken, UseBroken, EdgeBroken, FanBroken, Explained}
use Rattle.clauses.specs.Internal.Reached.{Reached}
use Rattle.clauses.proofs.Broken.{twin_broken, vertex_broken, use-broken, edge_broken}
use Rattle.clauses.proofs.Apart.{fan_broken}

-- a number without clauses
abbrev pub Plain : ℕ → Type 0
Plain n = (n < 3) ⊎ (7 < n)

pub no_clause_lem : (c : Tables) (v : ℕ) (w : Verdict) → Plain w.number → clause_at c v w ≡ no_clause
unfolding clause_at
no_clause_lem c v w p = by w.number p
  where
    by : (n : ℕ) → Plain n → clause_at c v (record { number = n; place = w.place }) ≡ no_clause
    by zero p = refl
    by (suc zero) p = refl
    by (suc (suc zero)) p = refl
    by (suc (suc (suc n))) (inl l) = absurd (omega arith)
    by (suc (suc (suc zero))) (inr l) = absurd (omega arith)
    by (suc (suc (suc (suc zero)))) (inr l) = absurd (omega arith)
    by (suc (suc (suc (suc (suc zero))))) (inr l) = absurd (omega arith)
    by (suc (suc (suc (suc (suc (suc zero)))))) (inr l) = absurd (omega arith)
    by (suc (suc (suc (suc (suc (suc (suc zero))))))) (inr l) = absurd (omega arith)
    by (suc (suc (suc (suc (suc (suc (suc (suc n)))))))) (inr l) = refl

-- the clause of each number that has clauses
module _ (c : Tables) (v : ℕ) (w : Verdict) where
  pub at_twin : w.number ≡ 3 → twin_clause c.twin w.place ≡ clause_at c v w
  unfolding clause_at
  at_twin e = rw e

  pub at_vertex : w.number ≡ 4 → vertex_clause c.twin c.vert v w.place ≡ clause_at c v w
  unfolding clause_at
  at_vertex e = rw e

  pub at_unused : w.number ≡ 5 → unused_clause w.place ≡ clause_at c v w
  unfolding clause_at
  at_unused e = rw e

  pub at_edge : w.number ≡ 6 → edge_clause c.twin c.edge w.place ≡ clause_at c v w
  unfolding clause_at
  at_edge e = rw e

  pub at_fan : w.number ≡ 7 → fan_clause c.twin c.vert w.place ≡ clause_at c v w
  unfolding clause_at
  at_fan e = rw e

-- what a walk relies on
pub walkable : {c : Tables} {v : ℕ} → ForPlaces c v → Walkable c.twin
walkable p = record { paired = p.paired; whole = p.shaped.whole; few = p.few }

module _ (c : Tables) (v : ℕ) (w : Verdict) (r : Reached c v w) where
  pub explained : Explained c v w (clause_at c v w)
  explained = by w.number refl
    where
      is : {n : ℕ} → w.number ≡ n → w ≡ record { number = n; place = w.place }
      is e = λ i. record { number = e i; place = w.place }

      plain : Plain w.number → Explained c v w (clause_at c v w)
      plain p = Explained.none p (no_clause_lem c v w p)

      by : (n : ℕ) → w.number ≡ n → Explained c v w (clause_at c v w)
      by zero e = plain (inl (omega (arith, e)))
      by (suc zero) e = plain (inl (omega (arith, e)))
      by (suc (suc zero)) e = plain (inl (omega (arith, e)))
      by (suc (suc (suc zero))) e =
          Explained.twin_at _ (is e) (subst (TwinBroken c.twin w.place) (at_twin c v w e) (twin_broken _ _ (r.twin_at e).1.broken))
      by (suc (suc (suc (suc zero)))) e =
          Explained.vertex_at _ (is e) (subst (VertexBroken c.twin c.vert v w.place) (at_vertex c v w e) (vertex_broken _ _ _ _ (r.vertex_at e).1.broken))
      by (suc (suc (suc (suc (suc zero))))) e =
          Explained.unused_at _ (is e) (subst (UseBroken c.vert w.place) (at_unused c v w e) (use-broken _ _ (r.unused_at e).1.broken))
      by (suc (suc (suc (suc (suc (suc zero)))))) e =
          Explained.edge_at _ (is e) (subst (EdgeBroken c.twin c.edge w.place) (at_edge c v w e) (edge_broken _ _ _ (r.edge_at e).1.broken))
      by (suc (suc (suc (suc (suc (suc (suc zero))))))) e =
          let f = r.fan_at e in
          Explained.fan_at _ (is e)
          (subst (FanBroken c.twin c.vert w.place) (at_fan c v w e) (fan_broken _ _ _ f.1.broken (walkable f.0) f.0.shaped.vert_long))
      by (suc (suc (suc (suc (suc (suc (suc (suc n)))))))) e = plain (inr (omega (arith, e)))

-- clause 1, 2 or 3
abbrev pub Named : Clause → Type 0
Named k = (1 ≤ k.number) × (k.number ≤ 3)

pub clause_named : {c : Tables} {v : ℕ} {w : Verdict} {k : Clause} → 3 ≤ w.number → w.number ≤ 7 → Explained c v w k → Named k
clause_named a b (Explained.twin_at h e (TwinBroken.past x y)) = (omega arith, omega arith)
clause_named a b (Explained.twin_at h e (TwinBroken.itself x y d)) = (omega arith, omega arith)
clause_named a b (Explained.twin_at h e (TwinBroken.not_returned x y d f)) = (omega arith, omega arith)
clause_named a b (Explained.vertex_at h e (VertexBroken.past x)) = (omega arith, omega arith)
clause_named a b (Explained.vertex_at h e (VertexBroken.alike x y)) = (omega arith, omega arith)
clause_named a b (Explained.vertex_at h e (VertexBroken.differ x y d f)) = (omega arith, omega arith)
clause_named a b (Explained.unused_at u e (UseBroken.unused f)) = (omega arith, omega arith)
clause_named a b (Explained.edge_at h e (EdgeBroken.past x)) = (omega arith, omega arith)
clause_named a b (Explained.edge_at h e (EdgeBroken.differs x y d)) = (omega arith, omega arith)
clause_named a b (Explained.edge_at h e (EdgeBroken.shared g x y d f i j k)) = (omega arith, omega arith)
clause_named a b (Explained.fan_at u e (FanBroken.apart g h x y d f i j k)) = (omega arith, omega arith)
clause_named a b (Explained.none (inl l) e) = absurd (omega arith)
clause_named a b (Explained.none (inr l) e) = absurd (omega arith)

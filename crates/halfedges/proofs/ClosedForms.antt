-- The counts of a level and the room up to it, without the levels between: the paper's equations 4 to 6, and sums from level 0, give what the recurrences give, at every depth
-- (`closed_forms`), and every division in them is exact (`exact_divisions`). Assumes nothing.
use Prim.Native.Nat.{ℕ, zero, suc, ◌+◌, ◌*◌, ◌-◌, ◌/◌, ◌%◌, ◌^◌, ◌≤◌, ◌<◌}
use mathlib.Core.Path.{◌≡◌, refl, sym, ap, ◌∙◌, subst}
use native.Mathlib.Nat.{pow-suc, mul_assoc, mul_comm, add-mul, mul-div_cancel_left, mul-mod_right}
use native.Mathlib.Omega.{arith}
use Rattle.halfedges.specs.declared.table.HalfedgeTable.{HalfedgeTable}
use Rattle.halfedges.specs.Counts.{counts_at, Hs, Es, Vs, room_h, room_v, room_e}

-- equations 4 to 6, with p for 2^k
abbrev pub level_by : HalfedgeTable → ℕ → HalfedgeTable
level_by t p =
    record {
      halfedges = p * p * t.halfedges;
      edges = p * t.edges + (p * p - p) / 2 * t.halfedges;
      vertices = t.vertices + (p - 1) * t.edges + (p * p + 2 - 3 * p) / 2 * t.halfedges / 3;
    }

-- the sums of H, of V and of E, from level 0
abbrev pub room_h_by : HalfedgeTable → ℕ → ℕ
room_h_by t p = (4 * (p * p) - 1) * t.halfedges / 3

abbrev pub room_v_by : HalfedgeTable → ℕ → ℕ → ℕ
room_v_by t k p = (k + 1) * t.vertices + (2 * p - (k + 2)) * t.edges + (2 * (p * p) + 3 * k + 7 - 9 * p) * t.halfedges / 9

abbrev pub room_e_by : HalfedgeTable → ℕ → ℕ
room_e_by t p = (2 * p - 1) * t.edges + (2 * (p * p) + 1 - 3 * p) / 3 * t.halfedges

-- how often H is in E and in V of level k, and in the sums of H, of V and of E up to it: whole numbers
pub record Factors (k p : ℕ) : Type 0 where
  pub in_e : ℕ
  pub in_v : ℕ
  pub in_hs : ℕ
  pub in_vs : ℕ
  pub in_es : ℕ
  pub twice : 2 * in_e + p ≡ p * p
  pub sixfold : 6 * in_v + 3 * p ≡ p * p + 2
  pub threefold : 3 * in_hs + 1 ≡ 4 * (p * p)
  pub ninefold : 9 * in_vs + 9 * p ≡ 2 * (p * p) + 3 * k + 7
  pub thirds : 3 * in_es + 3 * p ≡ 2 * (p * p) + 1
  pub positive : 1 ≤ p
  pub enough : k + 2 ≤ 2 * p

power_doubled : (k : ℕ) → 2 * 2 ^ k ≡ 2 ^ suc k
power_doubled k = mul_comm 2 (2 ^ k) ∙ sym (pow-suc 2 k)

square_doubled : (p : ℕ) → 2 * p * (2 * p) ≡ 4 * (p * p)
square_doubled p = omega (arith, mul_assoc 2 p (2 * p), mul_comm p (2 * p), mul_assoc 2 p p)

abbrev factors_first : Factors 0 1
factors_first =
    record {
      in_e = 0;
      in_v = 0;
      in_hs = 1;
      in_vs = 0;
      in_es = 0;
      twice = refl;
      sixfold = refl;
      threefold = refl;
      ninefold = refl;
      thirds = refl;
      positive = omega arith;
      enough = omega arith;
    }

abbrev factors_next : (k p : ℕ) → Factors k p → Factors (suc k) (2 * p)
factors_next k p f =
    let q = square_doubled p in
    record {
      in_e = 2 * f.in_e + p * p;
      in_v = f.in_v + f.in_e;
      in_hs = f.in_hs + 4 * (p * p);
      in_vs = f.in_vs + (f.in_v + f.in_e);
      in_es = f.in_es + (2 * f.in_e + p * p);
      twice = omega (arith, q, f.twice);
      sixfold = omega (arith, q, f.sixfold, f.twice);
      threefold = omega (arith, q, f.threefold);
      ninefold = omega (arith, q, f.ninefold, f.sixfold, f.twice);
      thirds = omega (arith, q, f.thirds, f.twice);
      positive = omega (arith, f.positive);
      enough = omega (arith, f.positive, f.enough);
    }

pub factors : (k : ℕ) → Factors k (2 ^ k)
factors zero = factors_first
factors (suc k) = subst (Factors (suc k)) (power_doubled k) (factors_next k (2 ^ k) (factors k))

-- the recurrences' counts and sums by these factors
record Counted (t : HalfedgeTable) (k p : ℕ) : Type 0 where
  by : Factors k p
  halfedges : Hs t k ≡ p * p * t.halfedges
  edges : Es t k ≡ p * t.edges + by.in_e * t.halfedges
  vertices : Vs t k + t.edges ≡ t.vertices + p * t.edges + by.in_v * t.halfedges
  halfedge_room : room_h t k ≡ by.in_hs * t.halfedges
  vertex_room : room_v t k + (k + 2) * t.edges ≡ (k + 1) * t.vertices + 2 * p * t.edges + by.in_vs * t.halfedges
  edge_room : room_e t k + t.edges ≡ 2 * p * t.edges + by.in_es * t.halfedges

counted_next : (t : HalfedgeTable) (k p : ℕ) → Counted t k p → Counted t (suc k) (2 * p)
unfolding counts_at
counted_next t k p c =
    let h = t.halfedges in
    let e = t.edges in
    let f = c.by in
    let q : 2 * p * (2 * p) * h ≡ 4 * (p * p * h) = ap (λ n. n * h) (square_doubled p) ∙ mul_assoc 4 (p * p) h in
    record {
      by = factors_next k p f;
      halfedges = omega (arith, q, c.halfedges);
      edges = omega (arith, mul_assoc 2 p e, add-mul (2 * f.in_e) (p * p) h, mul_assoc 2 f.in_e h, c.edges, c.halfedges);
      vertices = omega (arith, mul_assoc 2 p e, add-mul f.in_v f.in_e h, c.vertices, c.edges);
      halfedge_room = omega (arith, add-mul f.in_hs (4 * (p * p)) h, mul_assoc 4 (p * p) h, c.halfedge_room, c.halfedges);
      vertex_room =
          omega (arith, mul_assoc 2 p e, mul_assoc 2 (2 * p) e, add-mul f.in_vs (f.in_v + f.in_e) h, add-mul f.in_v f.in_e h, add-mul 1 (k + 2) e, add-mul 1 (k + 1) t.vertices, c.vertex_room, c.vertices, c.edges);
      edge_room = omega (arith, mul_assoc 2 p e, mul_assoc 2 (2 * p) e, add-mul f.in_es (2 * f.in_e + p * p) h, add-mul (2 * f.in_e) (p * p) h, mul_assoc 2 f.in_e h, c.edge_room, c.edges, c.halfedges);
    }

counted_at : (t : HalfedgeTable) (k : ℕ) → Counted t k (2 ^ k)
unfolding counts_at
counted_at t zero =
    record {
      by = factors_first;
      halfedges = omega arith;
      edges = omega arith;
      vertices = omega arith;
      halfedge_room = omega arith;
      vertex_room = omega arith;
      edge_room = omega arith;
    }
counted_at t (suc k) = subst (Counted t (suc k)) (power_doubled k) (counted_next t k (2 ^ k) (counted_at t k))

-- what is divided leaves nothing over
pub record Exact (t : HalfedgeTable) (k p : ℕ) : Type 0 where
  pub edges_half : (p * p - p) % 2 ≡ 0
  pub vertices_half : (p * p + 2 - 3 * p) % 2 ≡ 0
  pub vertices_third : (p * p + 2 - 3 * p) / 2 * t.halfedges % 3 ≡ 0
  pub halfedge_room_third : (4 * (p * p) - 1) * t.halfedges % 3 ≡ 0
  pub vertex_room_ninth : (2 * (p * p) + 3 * k + 7 - 9 * p) * t.halfedges % 9 ≡ 0
  pub edge_room_third : (2 * (p * p) + 1 - 3 * p) % 3 ≡ 0

-- the level and the room
pub record Closed (t : HalfedgeTable) (k p : ℕ) : Type 0 where
  pub level : level_by t p ≡ counts_at t k
  pub halfedge_room : room_h_by t p ≡ room_h t k
  pub vertex_room : room_v_by t k p ≡ room_v t k
  pub edge_room : room_e_by t p ≡ room_e t k

-- a part of a multiple leaves nothing over, and is what was multiplied
nothing_over : (d n m : ℕ) → d * n * m % d ≡ 0
nothing_over d n m = rw (mul_assoc d n m) (mul-mod_right d (n * m))

part_of : (d n m : ℕ) → 0 < d → d * n * m / d ≡ n * m
part_of d n m l = rw (mul_assoc d n m) (mul-div_cancel_left (n * m) l)

-- a multiple in two parts
in_parts : {n : ℕ} (a b m : ℕ) → n ≡ a + b → n * m ≡ a * m + b * m
in_parts a b m e = ap (λ n. n * m) e ∙ add-mul a b m

-- counts with the same H, E and V
same_counts : {h e v : ℕ} (t : HalfedgeTable) → h ≡ t.halfedges → e ≡ t.edges → v ≡ t.vertices → record { halfedges = h; edges = e; vertices = v } ≡ t
same_counts t h e v = rw (h, e, v)

module _ (k p : ℕ) (f : Factors k p) where
  edges_half : (p * p - p) / 2 ≡ f.in_e
  edges_half = omega (arith, f.twice)

  vertices_half : (p * p + 2 - 3 * p) / 2 ≡ 3 * f.in_v
  vertices_half = omega (arith, f.sixfold)

  halfedge_room_factor : 4 * (p * p) - 1 ≡ 3 * f.in_hs
  halfedge_room_factor = omega (arith, f.threefold)

  vertex_room_factor : 2 * (p * p) + 3 * k + 7 - 9 * p ≡ 9 * f.in_vs
  vertex_room_factor = omega (arith, f.ninefold)

  edge_room_factor : 2 * (p * p) + 1 - 3 * p ≡ 3 * f.in_es
  edge_room_factor = omega (arith, f.thirds)

  exact : (t : HalfedgeTable) → Exact t k p
  exact t =
      record {
        edges_half = omega (arith, f.twice);
        vertices_half = omega (arith, f.sixfold);
        vertices_third = rw vertices_half (nothing_over 3 f.in_v t.halfedges);
        halfedge_room_third = rw halfedge_room_factor (nothing_over 3 f.in_hs t.halfedges);
        vertex_room_ninth = rw vertex_room_factor (nothing_over 9 f.in_vs t.halfedges);
        edge_room_third = rw edge_room_factor (mul-mod_right 3 f.in_es);
      }

module _ (t : HalfedgeTable) (k p : ℕ) (c : Counted t k p) where
  edges_closed : p * t.edges + (p * p - p) / 2 * t.halfedges ≡ Es t k
  edges_closed = rw (edges_half k p c.by) (sym c.edges)

  vertices_closed : t.vertices + (p - 1) * t.edges + (p * p + 2 - 3 * p) / 2 * t.halfedges / 3 ≡ Vs t k
  vertices_closed =
      rw (vertices_half k p c.by, part_of 3 c.by.in_v t.halfedges (omega arith))
      (omega (arith, in_parts {n = p} (p - 1) 1 t.edges (omega (arith, c.by.positive)), c.vertices))

  halfedge_room_closed : room_h_by t p ≡ room_h t k
  halfedge_room_closed = rw (halfedge_room_factor k p c.by, part_of 3 c.by.in_hs t.halfedges (omega arith)) (sym c.halfedge_room)

  vertex_room_closed : room_v_by t k p ≡ room_v t k
  vertex_room_closed =
      rw (vertex_room_factor k p c.by, part_of 9 c.by.in_vs t.halfedges (omega arith))
      (omega (arith, in_parts {n = 2 * p} (2 * p - (k + 2)) (k + 2) t.edges (omega (arith, c.by.enough)), c.vertex_room))

  edge_room_closed : room_e_by t p ≡ room_e t k
  edge_room_closed =
      rw (edge_room_factor k p c.by, mul-div_cancel_left c.by.in_es (let z : 0 < 3 = omega arith in z))
      (omega (arith, in_parts {n = 2 * p} (2 * p - 1) 1 t.edges (omega (arith, c.by.positive)), c.edge_room))

  closed : Closed t k p
  closed =
      record {
        level = same_counts (counts_at t k) (sym c.halfedges) edges_closed vertices_closed;
        halfedge_room = halfedge_room_closed;
        vertex_room = vertex_room_closed;
        edge_room = edge_room_closed;
      }

pub exact_divisions : (t : HalfedgeTable) (k : ℕ) → Exact t k (2 ^ k)
exact_divisions t k = exact k (2 ^ k) (factors k) t

-- one law for every depth
pub closed_forms : (t : HalfedgeTable) (k : ℕ) → Closed t k (2 ^ k)
closed_forms t k = closed t k (2 ^ k) (counted_at t k)

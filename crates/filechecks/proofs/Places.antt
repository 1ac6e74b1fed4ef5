-- Where the payloads stand, as the code has it. Assumes nothing.
--     twins_at, verts_at, edges_at the tables
--     creases_at_lem                   the creases, of which form 1 has none (`no_creases_lem`)
--     plain_points, creased_points the points, in form 1 and in form 2
--     plain_weight, creased_weight the weight
use Prim.Native.Nat.{ℕ, ◌+◌, ◌*◌}
use mathlib.Core.Path.{◌≡◌, refl, ap, ◌∙◌}
use mathlib.Core.List.{List, []}
use native.Mathlib.Omega.{arith}
use lib.ListN.{get_or}
use Rattle.laws.specs.Below.{tabulate}
use Rattle.halfedges.specs.Cage.{E}
use Rattle.points.specs.declared.weights.Weight.TheVariants.{Short}
use Rattle.points.specs.Weights.{weight_of}
use Rattle.cagefile.specs.declared.fields.Form.TheVariants.{One, Two}
use Rattle.cagefile.specs.Fields.{table_heads, later_heads}
use Rattle.cagefile.specs.Numbers.{u16_at, u32_at, as_twin, signed}
use Rattle.filechecks.specs.Contents.{HIn, VIn, EIn, form_of, twins_in, verts_in, edges_in, heads_in, payload_at, payload, creases_read, points_in, weight_in}

module _ (f : List ℕ) (h : ℕ) (p : h ≡ HIn f) where
  pub twins_at : tabulate h (λ k. as_twin (u16_at f (12 + 2 * k))) ≡ twins_in f
  unfolding twins_in table_heads payload_at
  twins_at = rw p

  pub verts_at : tabulate h (λ k. u16_at f (12 + 2 * h + 3 + 2 * k)) ≡ verts_in f
  unfolding verts_in table_heads payload_at
  verts_at = rw p

  pub edges_at : tabulate h (λ k. u16_at f (12 + 2 * h + 3 + 2 * h + 3 + 2 * k)) ≡ edges_in f
  unfolding edges_in table_heads payload_at
  edges_at = rw p

pub creases_at_lem : (f : List ℕ) (h e : ℕ) → h ≡ HIn f → e ≡ EIn f → tabulate e (λ k. get_or f (18 + 6 * h + 3 + k) 0) ≡ creases_read f
unfolding creases_read table_heads payload_at
creases_at_lem f h e p q =
    let at : 18 + 6 * HIn f + 3 ≡ 12 + 2 * HIn f + 3 + 2 * HIn f + 3 + 2 * HIn f + 3 = omega arith in
    rw (p, q) (ap (λ a. tabulate (EIn f) (λ k. get_or f (a + k) 0)) at)

module _ (f : List ℕ) (h v : ℕ) (p : h ≡ HIn f) (q : v ≡ VIn f) where
  module _ (one : form_of f ≡ One) where
    pub no_creases_lem : creases_read f ≡ []
    unfolding creases_read
    no_creases_lem = rw one

    pub plain_points : tabulate (3 * v) (λ i. signed (u32_at f (18 + 6 * h + 3 + 4 * i))) ≡ points_in f
    unfolding points_in heads_in table_heads later_heads payload_at
    plain_points =
        let at : 18 + 6 * HIn f + 3 ≡ 12 + 2 * HIn f + 3 + 2 * HIn f + 3 + 2 * HIn f + 3 = omega arith in
        rw (one, p, q) (ap (λ a. tabulate (3 * VIn f) (λ i. signed (u32_at f (a + 4 * i)))) at)

    pub plain_weight : Short ≡ weight_in f
    unfolding weight_in
    plain_weight = rw one

  module _ (two : form_of f ≡ Two) (e : ℕ) (r : e ≡ EIn f) where
    edges : e ≡ E (twins_in f)
    edges = r ∙ rw two

    pub creased_points : tabulate (3 * v) (λ i. signed (u32_at f (18 + 6 * h + 3 + e + 3 + 4 * i))) ≡ points_in f
    unfolding points_in heads_in table_heads later_heads payload_at
    creased_points =
        let at : 18 + 6 * HIn f + 3 + E (twins_in f) + 3 ≡ 12 + 2 * HIn f + 3 + 2 * HIn f + 3 + 2 * HIn f + 3 + E (twins_in f) + 3 = omega arith in
        rw (two, p, q, edges) (ap (λ a. tabulate (3 * VIn f) (λ i. signed (u32_at f (a + 4 * i)))) at)

    -- where the byte of the weight stands
    abbrev pub weight_at : ℕ
    weight_at = 18 + 6 * h + 3 + e + 3 + 4 * (3 * v) + 3

    weight_there : payload f 5 ≡ weight_at
    unfolding heads_in table_heads later_heads payload_at
    weight_there = rw (two, p, q, edges) (omega arith)

    pub creased_weight : weight_of (get_or f weight_at 0) ≡ weight_in f
    unfolding weight_in
    creased_weight = rw (two, weight_there) refl

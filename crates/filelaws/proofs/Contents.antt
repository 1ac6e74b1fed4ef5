-- What stands in a file, counted and read byte by byte. Assumes nothing.
--     heads-counted, vertices-counted        its fields and V, by the tables that were read
--     bytes_read                             a payload of one byte a number
--     weight_read, weight_put, weight_small  the byte of a weight
use Prim.Native.Nat.{ℕ, zero, suc, ◌+◌, ◌≤◌}
use mathlib.Core.Path.{◌≡◌, refl, sym, ◌∙◌}
use mathlib.Core.List.{List}
use native.Mathlib.Omega.{arith}
use lib.ListN.{length, get_or, take, drop}
use lib.Seq.{length-take-le, get_or-take, get_or-drop}
use Rattle.laws.specs.Below.{tabulate}
use Rattle.laws.proofs.Tabulate.{tabulate_ext, tabulate-cells}
use Rattle.halfedges.specs.Cage.{E}
use Rattle.points.specs.declared.weights.Weight.{Weight}
use Rattle.points.specs.declared.weights.Weight.TheVariants.{Short, Paper}
use Rattle.points.specs.Weights.{weight_of, weight_number}
use Rattle.points.specs.Operations.{vertices}
use Rattle.cagefile.specs.declared.fields.Form.{Form}
use Rattle.cagefile.specs.declared.fields.Form.TheVariants.{One, Two}
use Rattle.cagefile.specs.Fields.{later_heads, heads}
use Rattle.filechecks.specs.Contents.{HIn, VIn, edges_for, form_of, twins_in, heads_in, points_in}
use Rattle.filechecks.proofs.Lengths.{points_length}

module _ (f : List ℕ) where
  -- form 1 counts no edges
  pub heads-counted : heads_in f ≡ heads (form_of f) (HIn f) (E (twins_in f)) (VIn f)
  unfolding heads_in later_heads
  heads-counted = by (form_of f)
    where
      by : (form : Form) → heads form (HIn f) (edges_for form (twins_in f)) (VIn f) ≡ heads form (HIn f) (E (twins_in f)) (VIn f)
      by One = refl
      by Two = refl

  pub vertices-counted : vertices (points_in f) ≡ VIn f
  vertices-counted = omega (arith, points_length f)

  pub bytes_read : (at n : ℕ) → n ≤ length (drop at f) → tabulate n (λ e. get_or f (at + e) 0) ≡ take n (drop at f)
  bytes_read at n l =
      tabulate_ext n _ _ (λ e e<. sym (get_or-take n (drop at f) e 0 e< ∙ get_or-drop at f e 0))
      ∙ tabulate-cells n (take n (drop at f)) 0 (length-take-le n (drop at f) l)

pub weight_read : (w : Weight) → weight_of (weight_number w) ≡ w
weight_read Short = refl
weight_read Paper = refl

pub weight_put : (n : ℕ) → n ≤ 1 → weight_number (weight_of n) ≡ n
weight_put zero l = refl
weight_put (suc n) l = omega arith

pub weight_small : (w : Weight) → weight_number w ≤ 1
weight_small Short = omega arith
weight_small Paper = omega arith

-- The promise of reading determines its result: two told alike are the same (`reported-alike`). Assumes nothing.
use Rattle.std.specs.Prelude.{Result}
use mathlib.Core.Path.{◌≡◌, refl, ap}
use native.Mathlib.Omega.{arith}
use lib.ListN.{get_or}
use Rattle.halfedges.specs.declared.refusal.Refusal.{Refusal}
use Rattle.halfedges.proofs.Told.{answered-alike}
use Rattle.points.specs.declared.weights.Weight.{Weight}
use Rattle.points.specs.declared.weights.Weight.TheVariants.{Short, Paper}
use Rattle.points.specs.Weights.{weight_number}
use Rattle.cagefile.specs.declared.fields.Form.{Form}
use Rattle.cagefile.specs.declared.fields.Form.TheVariants.{One, Two}
use Rattle.cagefile.specs.Fields.{number}
use Rattle.reading.specs.declared.Reading.{Reading}
use Rattle.reading.specs.Reading.{numbers, reported}

-- a form has its number alone, and a weight
form-alike : (a b : Form) → number a ≡ number b → a ≡ b
form-alike One One e = refl
form-alike One Two e = absurd (omega arith)
form-alike Two One e = absurd (omega arith)
form-alike Two Two e = refl

pub weight-alike : (a b : Weight) → weight_number a ≡ weight_number b → a ≡ b
weight-alike Short Short e = refl
weight-alike Short Paper e = absurd (omega arith)
weight-alike Paper Short e = absurd (omega arith)
weight-alike Paper Paper e = refl

numbers-alike : (a b : Reading) → numbers a ≡ numbers b → a ≡ b
numbers-alike a b e =
    λ i. record {
      form = form-alike a.form b.form (ap (λ l. get_or l 0 0) e) i;
      halfedges = get_or (e i) 1 0;
      vertices = get_or (e i) 2 0;
      edges = get_or (e i) 3 0;
      weight = weight-alike a.weight b.weight (ap (λ l. get_or l 4 0) e) i;
    }

pub reported-alike : (a b : Result Reading Refusal) → reported a ≡ reported b → a ≡ b
reported-alike = answered-alike numbers _ numbers-alike

-- What the functions that check a file hand on: no promise cites these.
use Rattle.std.specs.Prelude.{ℕ, ◌+◌, ◌*◌, ◌≤◌, ◌≡◌, List, [], ◌∷◌, ◌++◌, length, get_or}
use Rattle.cagefile.specs.declared.fields.Form.TheVariants.{Two}
use Rattle.cagefile.specs.Fields.{number, Head, opening}
use Rattle.halfedges.specs.Cage.{most_halfedges, most_vertices}
use Rattle.halfedges.specs.Refusals.{Verdict, DONE, first}
use Rattle.filechecks.specs.Contents.{form_in, HIn, VIn, form_of, heads_in, payload, past}
use Rattle.filechecks.specs.FileChecks.{field_checks, fields_checks}

-- the checks of these fields, whatever comes after them
unfoldable pub front_checks : List ℕ → ℕ → List Head → List Verdict
front_checks f at [] = []
front_checks f at (h ∷ hs) = field_checks f at h ++ front_checks f (past at h) hs

-- the first three fields after the opening are whole, and H and V within the limits
pub record TablesWhole (f : List ℕ) (H v : ℕ) : Type 0 where
  pub halfedges : H ≡ HIn f
  pub few_halfedges : H ≤ most_halfedges
  pub few_vertices : v ≤ most_vertices
  pub whole : 18 + 6 * H ≤ length f

-- what reading asks of a file
pub record Sound (f : List ℕ) : Type 0 where
  pub fields : first (fields_checks f 0 (opening ∷ heads_in f)) ≡ DONE
  pub known : form_in f ≡ number (form_of f)
  pub few_halfedges : HIn f ≤ most_halfedges
  pub few_vertices : VIn f ≤ most_vertices
  pub light : form_of f ≡ Two → get_or f (payload f 5) 0 ≤ 1

-- TWIN as it is built, in front of a table (`in_front_lem`), whatever is told after it (`told_either`), and what its
-- outcome says (`at_done`, `at_refused`). Its checks: what they rely on (`for_vertices`, `for_fans`), and that they are
-- those of VERT (`vertex_told`, `fan_told`). Assumes nothing.
use Prim.Native.Nat.{ℕ, ◌%◌}
use mathlib.Core.Path.{◌≡◌, sym, ap, ◌∙◌}
use mathlib.Core.Bool.{true, false, true≢false}
use mathlib.Core.List.{List}
use lib.ListN.{length, take}
use Rattle.std.specs.Prelude.{Result, Ok, Err, is_ok, OnOk, IfErr, MatchResult}
use Rattle.laws.specs.Parts.{in_front}
use Rattle.laws.proofs.InFront.{taken_in_front}
use Rattle.halfedges.specs.Refusals.{Verdict, VERTEX, FAN, given_at}
use Rattle.tables.specs.Rules.{bad_vertex}
use Rattle.tables.specs.Fans.{not_one_fan}
use Rattle.tables.specs.Ruled.{Paired, Placed, Used}
use Rattle.tables.specs.Internal.Relied.{ForVertices, ForFans}
use Rattle.triangles.specs.Plain.{twin_table}
use Rattle.triangles.proofs.Opposite.{twins_long, twins_paired}
use Rattle.building.specs.Internal.Relied.{Twinned}

-- what holds in any case holds where it is done
pub told_either : {A E P : Type 0} (r : Result A E) → P → OnOk r P
told_either (Ok x) p = p
told_either (Err e) p = tt

-- a clause for `Ok` where the result is one, and two for `Err`
pub at_done : {A E P : Type 0} (r : Result A E) → true ≡ is_ok r → OnOk r P → P
at_done (Ok x) t p = p
at_done (Err e) t p = absurd (true≢false t)

pub at_refused : {A E : Type 0} (Q : A → Type 0) (R P : E → Type 0) (r : Result A E) → false ≡ is_ok r → MatchResult r Q R → IfErr r P → (e : E) × R e × P e
at_refused Q R P (Ok x) t m p = absurd (true≢false (sym t))
at_refused Q R P (Err e) t m p = (e, m, p)

pub in_front_lem : (vert xs : List ℕ) {ys : List ℕ} → ys ≡ in_front (twin_table vert) xs → take (length vert) ys ≡ twin_table vert
in_front_lem vert xs e = taken_in_front (twin_table vert) xs e (sym (twins_long vert))

module _ {twin vert : List ℕ} {v : ℕ} (w : Twinned twin vert v) where
  kept : Paired twin
  kept = rw w.built (twins_paired vert w.undoubled)

  long : length twin ≡ length vert
  long = ap length w.built ∙ twins_long vert

  triangles : length twin % 3 ≡ 0
  triangles = rw long w.whole.whole

  pub for_vertices : ForVertices twin vert
  for_vertices = record { paired = kept; whole = triangles; long = rw long }

  pub for_fans : Placed twin vert v → Used vert v → ForFans twin vert v
  for_fans p u = record { walkable = record { paired = kept; whole = triangles; few = rw long w.whole.few }; placed = p; used = u; long = rw long }

  pub vertex_told : {a : Verdict} → a ≡ given_at (length twin) (bad_vertex twin vert v) VERTEX → a ≡ given_at (length vert) (bad_vertex (twin_table vert) vert v) VERTEX
  vertex_told e = e ∙ rw (long, w.built)

  pub fan_told : {a : Verdict} → a ≡ given_at v (not_one_fan twin vert) FAN → a ≡ given_at v (not_one_fan (twin_table vert) vert) FAN
  fan_told e = e ∙ rw w.built

-- The verdicts of checks that several operations run fit their cells: `short_small`, of room; of 1 to 8 `cage_small`, with creases
-- `creased_small`, and with 14 `refine_checks_small`; `rooms_small` of five tables' room, in refining `lent_small`. Assumes nothing.
use Prim.Native.Nat.{ℕ, ◌*◌, ◌≤◌, ◌<◌}
use mathlib.Core.Path.{refl}
use mathlib.Core.List.{List, [], ◌∷◌, ◌++◌}
use native.Mathlib.Omega.{arith}
use lib.Dec.{ltb}
use lib.IntN.{ℤ}
use lib.ListN.{length}
use Rattle.laws.proofs.Counts.{count_at_most}
use Rattle.halfedges.specs.declared.table.HalfedgeTable.{HalfedgeTable}
use Rattle.halfedges.specs.Cage.{most_halfedges, most_vertices, above, E}
use Rattle.halfedges.specs.Counts.{room_h, room_v, room_e}
use Rattle.halfedges.specs.Refusals.{Verdict, SHAPE, LIMIT, TWIN, VERTEX, UNUSED, EDGE, FAN, POINT, VALENCE, CREASE, ROOM, given_at, short, first}
use Rattle.halfedges.proofs.Questions.{limits_kept}
use Rattle.tables.specs.Tables.{Tables}
use Rattle.tables.specs.Check.{placing, rules_with, rules}
use Rattle.levels.specs.Refining.{short_tables}
use Rattle.creases.specs.Check.{length_check, crease_check, creased_rules}
use Rattle.points.specs.declared.weights.Weight.{Weight}
use Rattle.points.specs.declared.weights.Weight.TheVariants.{Short, Paper}
use Rattle.points.specs.Operations.{vertices, many_corners, valence_checks, checks_with, cage_checks, creased_checks, refine_checks, short_lent}
use Rattle.answers.proofs.Small.{Small, given_small, given_at_small, first_small, guarded_small, joined_small}

-- a lent table that is short
pub short_small : (table needed lent : ℕ) → table < 8 → Small (short table needed lent)
unfolding short
short_small table needed lent l = given_small (ltb lent needed) (ROOM table) (omega arith, omega arith)

-- 14, where there are no more vertices than a cage has
valence_small : (w : Weight) (twin vert : List ℕ) (v : ℕ) → v ≤ most_vertices → Small (first (valence_checks w twin vert v))
unfolding first
valence_small Short twin vert v l = (omega arith, omega arith)
valence_small Paper twin vert v l =
    first_small (given_at v (many_corners twin vert) VALENCE ∷ []) (given_at_small v (many_corners twin vert) VALENCE (λ u m. (omega arith, omega arith)), tt)

module _ (c : Tables) (v : ℕ) (few : length c.twin ≤ most_halfedges) (room : v ≤ most_vertices) where
  -- rules 3 to 7, with more between them
  with_small : (after3 after6 : List Verdict) → Small (first after3) → Small (first after6) → Small (first (rules_with after3 after6 c v))
  with_small after3 after6 s n =
      joined_small (given_at (length c.twin) _ TWIN ∷ []) _ (first_small _ (given_at_small _ _ TWIN (λ h m. (omega arith, omega arith)), tt))
      (λ _. joined_small after3 _ s
      (λ _. joined_small (placing c v) _
      (first_small _ (
        given_at_small _ _ VERTEX (λ h m. (omega arith, omega arith)),
        (given_at_small _ _ UNUSED (λ u m. (omega arith, omega arith)), (given_at_small _ _ EDGE (λ h m. (omega arith, omega arith)), tt)),
      ))
      (λ _. joined_small after6 _ n (λ _. first_small _ (given_at_small _ _ FAN (λ u m. (omega arith, omega arith)), tt)))))

  rules_small : Small (first (rules c v))
  unfolding rules first
  rules_small = with_small [] [] (omega arith, omega arith) (omega arith, omega arith)

  creased_rules_small : (creases : List ℕ) → Small (first (creased_rules c creases v))
  unfolding creased_rules E
  creased_rules_small creases =
      with_small (length_check c creases) (crease_check c creases)
      (first_small _ (given_small _ SHAPE (omega arith, omega arith), tt))
      (first_small _ (given_at_small _ _ CREASE (λ e m. (omega arith, omega (arith, few, count_at_most (length c.twin) (above c.twin)))), tt))

-- the first of 1 and 2, what is handed over, and 8
checks_small : (three more : List Verdict) (c : Tables) (points : List ℤ) (depth : ℕ) → (length c.twin ≤ most_halfedges → vertices points ≤ most_vertices → Small (first three) × Small (first more)) → Small (first (checks_with three more c points depth))
checks_small three more c points depth small =
    guarded_small _ SHAPE _ refl (omega arith, omega arith)
    (λ _. guarded_small _ LIMIT _ refl (omega arith, omega arith)
    (λ l.
    let k = limits_kept (length c.twin) (vertices points) depth l in
    let s = small k.0 k.1 in
    joined_small three _ s.0
    (λ _. joined_small more _ s.1
    (λ _. first_small _ (given_at_small _ _ POINT (λ i m. (omega arith, omega arith)), tt)))))

pub cage_small : (c : Tables) (points : List ℤ) (depth : ℕ) → Small (first (cage_checks c points depth))
unfolding cage_checks first
cage_small c points depth = checks_small (rules c (vertices points)) [] c points depth (λ few room. (rules_small c _ few room, (omega arith, omega arith)))

module _ (c : Tables) (creases : List ℕ) (points : List ℤ) (depth : ℕ) where
  pub creased_small : Small (first (creased_checks c creases points depth))
  unfolding creased_checks first
  creased_small = checks_small (creased_rules c creases (vertices points)) [] c points depth (λ few room. (creased_rules_small c _ few room creases, (omega arith, omega arith)))

pub refine_checks_small : (w : Weight) (c : Tables) (creases : List ℕ) (points : List ℤ) (depth : ℕ) → Small (first (refine_checks w c creases points depth))
unfolding refine_checks
refine_checks_small w c creases points depth =
    checks_small (creased_rules c creases (vertices points)) (valence_checks w c.twin c.vert (vertices points)) c points depth
    (λ few room. (creased_rules_small c _ few room creases, valence_small w c.twin c.vert (vertices points) room))

-- three tables' room
tables_small : (needed : ℕ) (x : Tables) → Small (first (short_tables needed x))
unfolding short_tables
tables_small needed x = first_small _ (short_small 1 _ _ (omega arith), (short_small 2 _ _ (omega arith), (short_small 3 _ _ (omega arith), tt)))

-- and that of points and creases
pub rooms_small : (needed coordinates numbers : ℕ) (x : Tables) (xp : List ℤ) (xc : List ℕ) → Small (first (short_tables needed x ++ (short 4 coordinates (length xp) ∷ short 7 numbers (length xc) ∷ [])))
rooms_small needed coordinates numbers x xp xc =
    joined_small (short_tables needed x) _ (tables_small needed x)
    (λ _. first_small _ (short_small 4 coordinates _ (omega arith), (short_small 7 numbers _ (omega arith), tt)))

pub lent_small : (t : HalfedgeTable) (depth : ℕ) (x : Tables) (xp : List ℤ) (xc : List ℕ) → Small (first (short_lent t depth x xp xc))
unfolding short_lent
lent_small t depth x xp xc = rooms_small (room_h t depth) (3 * room_v t depth) (room_e t depth) x xp xc
